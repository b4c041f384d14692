use Rattle.std.proofs.Common.{rules}
use Rattle.decimal.proofs.Laws.{digits_counted}
use Rattle.decimal.proofs.digit_count.Goals as goal

pub returns : goal.returns
returns c = search (digits_counted, rules)
