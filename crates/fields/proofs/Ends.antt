-- Fields that are each read at their place are the fields of the card.
-- Assumes nothing.
use Prim.Native.Nat.{ℕ}
use mathlib.Core.Path.{◌≡◌}
use mathlib.Core.List.{List}
use Rattle.buffer.specs.Numbers.{byte_at, two_at, four_at}
use Rattle.fields.specs.Layout.{fields_of}
use Rattle.fields.specs.declared.Fields.{Fields}

pub fields_is : (card : List ℕ) (f : Fields)
    → f.kind ≡ byte_at card 0 → f.state ≡ byte_at card 1 → f.topography ≡ byte_at card 2 → f.containment ≡ byte_at card 3
    → f.cas ≡ four_at card 4 → f.pounds ≡ four_at card 8 → f.area ≡ four_at card 12
    → f.wall ≡ two_at card 16 → f.heat ≡ two_at card 18 → f.number ≡ four_at card 20 → f ≡ fields_of card
unfolding fields_of
fields_is card f kind state topography containment cas pounds area wall heat number = λ i.
    record {
      kind = kind i;
      state = state i;
      topography = topography i;
      containment = containment i;
      cas = cas i;
      pounds = pounds i;
      area = area i;
      wall = wall i;
      heat = heat i;
      number = number i;
    }
