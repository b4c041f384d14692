-- `register::outcome_of` meets its contract: the refusal of the header, or what the walk that writes nothing gives.
-- Assumes nothing.
use Rattle.cards.proofs.Laws.{header_refused, header_good, good}
use borrow.Author.Rules.{rules}
use Rattle.register.proofs.outcome_of.Goals as goal

pub returns-in_err-header_of : goal.returns-in_err-header_of
returns-in_err-header_of c = let q = c.in_err-header_of.was {u = tt} in search (q, header_refused, rules)

pub cards_of-requires : goal.cards_of-requires
cards_of-requires c = let q = c.in_ok-header_of.was {u = tt} in search (q, good, rules)

pub ask-requires : goal.ask-requires
ask-requires c = let q = c.in_ok-header_of.was {u = tt} in search (q, good, rules)

pub returns : goal.returns
returns c = let q = c.in_ok-header_of.was {u = tt} in search (q, header_good, rules)
