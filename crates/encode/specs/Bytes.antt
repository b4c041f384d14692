-- The bytes of an answer, as they stand in the answer buffer.
-- Assumes nothing.
use Rattle.std.specs.Prelude.{ℕ, ◌+◌, ◌≡◌, Bool, List, ◌∷◌, ◌++◌, eqb}
use Rattle.buffer.specs.Numbers.{byte_at, two_at, four_at, eight_at, two_bytes, four_bytes, eight_bytes}
use Rattle.card.specs.declared.Answer.{Answer}

-- "Sixteen bytes a card: card number 4, route 1, table 1, rate 8, distance 2."
unfoldable pub answer_bytes : Answer → List ℕ
answer_bytes a =
    four_bytes a.number ++ (a.route ∷ a.table ∷ (eight_bytes a.rate.0 ++ two_bytes a.distance.0))

-- a reader of sixteen bytes from `at` on finds this answer
pub record AnswerAt (bytes : List ℕ) (at : ℕ) (a : Answer) : Type 0 where
  pub number : four_at bytes at ≡ a.number
  pub route : byte_at bytes (at + 4) ≡ a.route
  pub table : byte_at bytes (at + 5) ≡ a.table
  pub rate : eight_at bytes (at + 6) ≡ a.rate.0
  pub distance : two_at bytes (at + 14) ≡ a.distance.0

-- Document 02, A7: "a stored answer is told as old exactly when it has 13" as its table number, which is byte 5 of its sixteen. Old, a word of
-- that paper, is an answer that was read off Table 13.
abbrev pub is_old : List ℕ → Bool
is_old answer = eqb (byte_at answer 5) 13
