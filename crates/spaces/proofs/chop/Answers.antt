use Rattle.std.proofs.Common.{rules}
use Rattle.spaces.proofs.Ends.{chop_to}
use Rattle.spaces.proofs.chop.Goals as goal

pub returns : goal.returns
returns c = chop_to _ _ (search rules) (search rules) (search rules)
