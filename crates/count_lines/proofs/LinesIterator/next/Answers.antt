-- The iterator gives the first line of what is left, and keeps what stands behind its line feed.
-- Assumes nothing.
use Rattle.std.specs.Prelude.{ℕ, ◌<◌, ◌≡◌, List, ◌∷◌, length}
use Rattle.std.proofs.Common.{arith, ap}
use Rattle.std.proofs.lemmas.Grind.{common_steps}
use Rattle.count_lines.specs.Left.{lines_left}
use Rattle.count_lines.specs.Laws.{first_line}
use Rattle.count_lines.proofs.LinesIterator.next.Goals as goal

fewer : (left : List (List ℕ)) (line : List ℕ) (others : List (List ℕ)) → left ≡ line ∷ others → length others < length left
fewer left line others e = let size : length left ≡ length (line ∷ others) = ap length e in omega (arith, size)

pub returns-clause-steps : goal.returns-clause-steps
returns-clause-steps c = grind (arith, common_steps, first_line)

pub returns-clause-goes : goal.returns-clause-goes
returns-clause-goes c = grind (arith, common_steps, fewer (lines_left c.args.self.now) _ _ (returns-clause-steps c))
