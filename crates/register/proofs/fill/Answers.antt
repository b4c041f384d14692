-- `register::fill` meets its contract: a refused header leaves the buffer as it was, and a good one says that there is room for
-- the calls behind it.
-- Assumes nothing.
use Rattle.cards.proofs.Laws.{header_refused, header_kept, header_good, header_filled, good}
use borrow.Author.Rules.{rules}
use Rattle.register.proofs.fill.Goals as goal

pub returns-in_err-header_of : goal.returns-in_err-header_of
returns-in_err-header_of c = let q = c.in_err-header_of.was {u = tt} in search (q, header_refused, header_kept, rules)

pub cards_of-requires : goal.cards_of-requires
cards_of-requires c = let q = c.in_ok-header_of.was {u = tt} in search (q, good, rules)

pub answer_all-requires : goal.answer_all-requires
answer_all-requires c = let q = c.in_ok-header_of.was {u = tt} in search (q, good, rules)

pub returns : goal.returns
returns c = let q = c.in_ok-header_of.was {u = tt} in search (q, header_good, header_filled, rules)
