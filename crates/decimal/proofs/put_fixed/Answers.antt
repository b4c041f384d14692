-- `decimal::put_fixed` meets its contract: the power of ten is not 0.
-- Assumes nothing.
use Rattle.std.proofs.Common.{arith}
use Rattle.std.proofs.Math.Nat.{one-le-pow}
use Rattle.decimal.proofs.Turns.{dotted}
use Rattle.decimal.proofs.put_fixed.Goals as goal

pub nonzero_div-n : goal.nonzero_div-n
nonzero_div-n c = grind (arith, one-le-pow)

pub nonzero_rem-n : goal.nonzero_rem-n
nonzero_rem-n c = grind (arith, one-le-pow)

pub returns-clause-wrote : goal.returns-clause-wrote
returns-clause-wrote c =
    dotted c.args.places _ _ _ _ c.pow-whole.ensures (grind arith) c.put_number.ensures.wrote c.put_byte.ensures c.put_digits.ensures.wrote (grind arith)
