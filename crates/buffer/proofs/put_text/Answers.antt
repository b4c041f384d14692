-- `buffer::put_text` meets its contract: one byte more of the word stands in the buffer, and at the end the whole word.
-- Assumes nothing.
use Rattle.std.proofs.Common.{arith}
use Rattle.std.proofs.lemmas.Grind.{common_steps}
use Rattle.std.proofs.lemmas.List.Edits.{sets-eq, paste_more, paste_all, length-paste}
use Rattle.buffer.proofs.put_text.Goals as goal

pub loop-place-preserved : goal.loop-place-preserved
loop-place-preserved c = grind (arith, common_steps, paste_more)

pub returns : goal.returns
returns c = record {
  same = grind (arith, common_steps);
  long = grind (arith, common_steps, length-paste);
  wrote = record { place = grind arith; bytes = grind (arith, common_steps, sets-eq, paste_all) };
}
