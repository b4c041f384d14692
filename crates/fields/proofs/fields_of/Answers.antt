-- `fields::fields_of` meets its contract: each field is read at its place.
-- Assumes nothing.
use Rattle.fields.proofs.Ends.{fields_is}
use borrow.Author.Rules.{rules}
use Rattle.fields.proofs.fields_of.Goals as goal

pub returns : goal.returns
returns c = search (fields_is, rules)
