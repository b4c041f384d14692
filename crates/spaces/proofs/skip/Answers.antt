use Rattle.std.proofs.Common.{rules}
use Rattle.spaces.proofs.Ends.{skip_from}
use Rattle.spaces.proofs.skip.Goals as goal

pub returns : goal.returns
returns c = skip_from _ _ (search rules) (search rules)
