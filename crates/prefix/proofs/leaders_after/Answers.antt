-- `prefix::leaders_after` meets its contract: the refusal of the header, or the leaders after as many of the first k cards as there are.
-- Assumes nothing.
use Rattle.cards.proofs.Laws.{good}
use Rattle.prefix.proofs.Ends.{header_told, fewer_cards, kept}
use borrow.Author.Rules.{rules}
use Rattle.prefix.proofs.leaders_after.Goals as goal

pub returns-in_err-header_of : goal.returns-in_err-header_of
returns-in_err-header_of c = let q = c.in_err-header_of.was {u = tt} in record {
  value = search (header_told, q, rules);
  keeps = search (header_told, kept, q, rules);
}

pub cards_of-cards-requires : goal.cards_of-cards-requires
cards_of-cards-requires c = let q = c.in_ok-header_of.was {u = tt} in search (good, q, rules)

pub leaders_at-requires : goal.leaders_at-requires
leaders_at-requires c = let q = c.in_ok-header_of.was {u = tt} in search (good, q, rules)

pub returns : goal.returns
returns c =
    let q = c.in_ok-header_of.was {u = tt} in
    let z = fewer_cards _ c.args.k _ c.header_of.ensures.value _ _ q _ c.cards_of-cards.ensures _ c.stored_of.ensures _ (search rules) c.leaders_at.ensures in record {
      value = z;
      keeps = kept _ _ _ z;
    }
