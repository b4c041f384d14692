use Rattle.std.proofs.Common.{rules}
use Rattle.spaces.specs.Spaces.{bare}
use Rattle.spaces.proofs.trimmed.Goals as goal

pub returns : goal.returns
unfolding bare
returns c = search rules
