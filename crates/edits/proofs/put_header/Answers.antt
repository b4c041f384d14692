-- `edits::put_header` meets its contract: the parts of a header, one behind the other.
-- Assumes nothing.
use Rattle.edits.proofs.Ends.{header_end}
use Rattle.edits.proofs.put_header.Goals as goal

pub returns-clause-wrote : goal.returns-clause-wrote
returns-clause-wrote c = header_end c.args.count c.size_of.result c.args.distances c.size_of.ensures c.put_four.ensures.wrote c.put_byte.ensures c.put_two.ensures.wrote c.put_two-2.ensures.wrote c.put_two-3.ensures.wrote
