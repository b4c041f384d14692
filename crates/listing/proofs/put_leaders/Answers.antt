-- `listing::put_leaders` meets its contract: the line of T, then the line of F.
-- Assumes nothing.
use Rattle.listing.proofs.Ends.{leaders_line}
use Rattle.listing.proofs.put_leaders.Goals as goal

pub returns-clause-wrote : goal.returns-clause-wrote
returns-clause-wrote c = leaders_line _ c.put_leader.ensures.wrote c.put_leader-2.ensures.wrote
