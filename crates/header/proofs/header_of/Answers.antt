-- `header::header_of` meets its contract: a header that passes every check says what the two lengths are.
-- Assumes nothing.
use borrow.Author.Rules.{rules}
use Rattle.header.proofs.Ends.{header_fits}
use Rattle.header.proofs.header_of.Goals as goal

pub returns-clause-header_fits : goal.returns-clause-header_fits
returns-clause-header_fits c = header_fits c.args.register.now c.args.room c.two-count.result c.bad_version.result c.bad_count.result (search rules) (search rules) (search rules) (search rules) (search rules) (search rules)
