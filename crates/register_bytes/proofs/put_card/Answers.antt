-- `register_bytes::put_card` meets its contract: its three parts.
-- Assumes nothing.
use Rattle.std.proofs.Common.{rules}
use Rattle.register_bytes.proofs.Ends.{card_end}
use Rattle.register_bytes.proofs.put_card.Goals as goal

pub returns-clause-wrote : goal.returns-clause-wrote
returns-clause-wrote c = search (card_end, rules)
