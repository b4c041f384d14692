-- `float_text::up` meets its contract. Assumes nothing.
use Rattle.std.proofs.Common.{rules}
use Rattle.float_text.proofs.Ends.{ends}
use Rattle.float_text.proofs.up.Goals as goal

pub truncating_f64_to_u64-whole-requires : goal.truncating_f64_to_u64-whole-requires
truncating_f64_to_u64-whole-requires c = search (ends, rules)

pub overflow_add-result : goal.overflow_add-result
overflow_add-result c = search (ends, rules)

pub returns-then-nearest_u64_to_f64-x : goal.returns-then-nearest_u64_to_f64-x
returns-then-nearest_u64_to_f64-x c = search (ends, rules)

pub returns : goal.returns
returns c = search (ends, rules)
