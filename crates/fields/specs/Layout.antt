-- "The register and its cards": the bytes of a card as numbers. A byte past the end reads 0, so that every list of bytes
-- has fields; a register hands each card its own 24.
-- Assumes nothing.
use Rattle.std.specs.Prelude.{ℕ, List}
use Rattle.buffer.specs.Numbers.{byte_at, two_at, four_at}
use Rattle.fields.specs.declared.Fields.{Fields}

-- 0: kind. 1: state. 2: ground. 3: containment. 4 to 7: CAS number. 8 to 11: pounds. 12 to 15: dike or floor area.
-- 16, 17: wall. 18, 19: temperature, or in state 5 concentration (document 02, A3), still unsigned. 20 to 23: card number.
unfoldable pub fields_of : List ℕ → Fields
fields_of bytes =
    record {
      kind = byte_at bytes 0;
      state = byte_at bytes 1;
      topography = byte_at bytes 2;
      containment = byte_at bytes 3;
      cas = four_at bytes 4;
      pounds = four_at bytes 8;
      area = four_at bytes 12;
      wall = two_at bytes 16;
      heat = two_at bytes 18;
      number = four_at bytes 20;
    }
