-- `decimal::put_digits` meets its contract: the digits, between what stood before them and behind them.
-- Assumes nothing.
use Rattle.std.specs.Prelude.{refl}
use Rattle.std.proofs.Common.{arith}
use Rattle.std.proofs.lemmas.Grind.{common_steps}
use Rattle.std.proofs.lemmas.List.Edits.{sets-eq}
use Rattle.decimal.proofs.DigitLaws.{length_in}
use Rattle.decimal.proofs.put_digits.Goals as goal

pub returns-clause-wrote : goal.returns-clause-wrote
returns-clause-wrote g c = record {
  same = refl;
  long = grind (arith, common_steps, length_in);
  wrote = record { place = grind (arith, common_steps, length_in); bytes = grind (arith, common_steps, sets-eq, length_in) };
}
