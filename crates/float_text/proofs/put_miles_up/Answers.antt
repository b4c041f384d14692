-- `float_text::put_miles_up` meets its contract. Assumes nothing.
use Rattle.std.proofs.Common.{rules}
use Rattle.float_text.proofs.Ends.{ends}
use Rattle.float_text.proofs.put_miles_up.Goals as goal

pub returns : goal.returns
returns c = search (ends, rules)
