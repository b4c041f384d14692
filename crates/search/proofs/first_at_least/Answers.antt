use Rattle.std.proofs.Common.{rules, sym}
use Rattle.search.specs.Laws.{first_unique}
use Rattle.search.proofs.first_at_least.Goals as goal

pub returns : goal.returns
returns c = sym (first_unique _ _ _ (search rules) (search rules) (search rules))
