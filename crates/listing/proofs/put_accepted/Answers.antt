-- `listing::put_accepted` meets its contract: an accepted register has as many cards as its header says, its walk stops at no card, and
-- its cards' lines stand before its leaders'.
-- Assumes nothing.
use Rattle.listing.proofs.Laws.{accepted_whole, accepted_count}
use Rattle.listing.proofs.Ends.{accepted_lines, never_stopped, lines_room, behind_cards, leaders_within}
use Rattle.std.proofs.Common.{rules}
use Rattle.buffer.proofs.Laws.{lent}
use Rattle.listing.proofs.put_accepted.Goals as goal

pub cards_of-cards-requires : goal.cards_of-cards-requires
cards_of-cards-requires c = search (accepted_whole, rules)

pub through-requires : goal.through-requires
through-requires c = search (lines_room, accepted_count, rules)

pub returns-in_default : goal.returns-in_default
returns-in_default c = search (never_stopped, rules)

pub put_leaders-requires : goal.put_leaders-requires
put_leaders-requires c = search (behind_cards, accepted_count, rules)

pub returns-clause-wrote : goal.returns-clause-wrote
returns-clause-wrote c =
    accepted_lines _ c.requires _ c.cards_of-cards.ensures _ c.through.ensures.value c.in-Ok.running c.in-Ok.behind (search rules) c.through.ensures.out_after
    (lent c.put_leaders.ensures.wrote (search rules))

pub returns-clause-upper_bound : goal.returns-clause-upper_bound
returns-clause-upper_bound c = search (leaders_within, accepted_count, rules)
