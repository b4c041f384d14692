-- `likely_listing::put_question` meets its contract: the distance of every answer is a number. Assumes nothing.
use borrow.Author.Rules.{rules}
use Rattle.likely_laws.specs.Numbers.{answer_number}
use Rattle.likely_listing.proofs.put_question.Goals as goal

pub put_answer-requires : goal.put_answer-requires
put_answer-requires c = (search rules, rw c.likely_of-answer.ensures (answer_number _ _ _))
