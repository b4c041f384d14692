-- `buffer::put_text` meets its contract: so far the front of the word stands in the buffer, between what stood before it and behind it.
-- Assumes nothing.
use Rattle.std.specs.Prelude.{◌≡◌}
use lib.Seq.{paste}
use Rattle.buffer.proofs.put_text.Given as goal

abbrev pub invariant-loop-place : goal.invariant-loop-place
invariant-loop-place l = record {
  same : l.out.bytes.ghost_name ≡ l.initial.out.bytes.ghost_name;
  kept : l.out.at ≡ l.initial.out.at;
  bytes : l.out.bytes.now ≡ paste l.initial.out.bytes.now l.out.at l.text l.place;
}
