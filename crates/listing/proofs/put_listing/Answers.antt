-- `listing::put_listing` meets its contract: the listing of an accepted register, or the line of a refusal.
-- Assumes nothing.
use Rattle.std.proofs.Common.{rules}
use Rattle.buffer.proofs.Laws.{lent}
use Rattle.listing.proofs.Ends.{sent_back_line, accepted_is}
use Rattle.listing.proofs.put_listing.Goals as goal

pub put_accepted-requires : goal.put_accepted-requires
put_accepted-requires c = search (accepted_is, rules)

pub returns-in-Err-clause-wrote : goal.returns-in-Err-clause-wrote
returns-in-Err-clause-wrote c =
    let line = c.put_refused.ensures.wrote in
    sent_back_line _ _ c.in-Err.field-0 _ c.outcome_of.ensures (search rules) c.from.ensures (lent line (search rules))
