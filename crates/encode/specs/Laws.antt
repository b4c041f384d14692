-- What callers use of the bytes of an answer: there are sixteen, and a reader of the buffer finds what was answered.
-- Assumes nothing.
use Rattle.std.specs.Prelude.{ℕ, ◌+◌, ◌^◌, ◌≤◌, ◌<◌, ◌≡◌, refl, List, [], ◌∷◌, ◌++◌, length, get_or}
use Rattle.std.proofs.Common.{arith, add-zero, sym, ap, ◌∙◌}
use Rattle.std.proofs.lemmas.List.Edits.{sets}
use Rattle.buffer.specs.Numbers.{four_at, two_bytes, four_bytes, eight_bytes}
use Rattle.buffer.proofs.Laws.{stands, two_in, four_in, eight_in, read_two, read_four, read_eight}
use Rattle.seasons.specs.Seasons.{whole_year}
use Rattle.card.specs.declared.Class.TheVariants as class
use Rattle.card.specs.declared.Answer.{Answer}
use Rattle.encode.specs.Bytes.{answer_bytes, AnswerAt}

-- "Sixteen bytes a card"
pub length_answer : (a : Answer) → length (answer_bytes a) ≡ 16
unfolding two_bytes four_bytes eight_bytes answer_bytes
length_answer a = refl

-- the answer can be read off the buffer, whatever the buffer held before
pub answer_read : (a : Answer) (b : List ℕ) (at : ℕ) → at + 16 ≤ length b
    → a.number < 2 ^ 32 → a.rate.0 < 2 ^ 64 → a.distance.0 < 2 ^ 16
    → AnswerAt (sets b at (answer_bytes a)) at a
unfolding two_bytes four_bytes eight_bytes answer_bytes
answer_read a b at fits hn hr hd =
    let s = answer_bytes a in
    let bytes = sets b at s in
    let same : (j : ℕ) → j < length s → get_or bytes (at + j) 0 ≡ get_or s j 0 = λ j h. stands s b at j fits h in
    let behind = a.route ∷ a.table ∷ (eight_bytes a.rate.0 ++ two_bytes a.distance.0) in
    record {
      number =
          ap (λ (i : ℕ). four_at bytes i) (sym (add-zero at))
          ∙ four_in s bytes at same 0 (omega arith) ∙ read_four a.number behind hn;
      route = same 4 (omega arith);
      table = same 5 (omega arith);
      rate = eight_in s bytes at same 6 (omega arith) ∙ read_eight a.rate.0 (two_bytes a.distance.0) hr;
      distance = two_in s bytes at same 14 (omega arith) ∙ read_two a.distance.0 [] hd;
    }

-- ---- card 12 of the listing that document 01 prints: route 2, table 8, 10.220 pounds per minute, 1.80 miles

pub printed :
    answer_bytes
    (record {
      number = 12;
      class = class.Toxic;
      route = 2;
      table = 8;
      rate = record { 0 = 10_220 };
      distance = record { 0 = 180 };
      season = whole_year;
    })
    ≡ 0 ∷ 0 ∷ 0 ∷ 12 ∷ 2 ∷ 8 ∷ 0 ∷ 0 ∷ 0 ∷ 0 ∷ 0 ∷ 0 ∷ 39 ∷ 236 ∷ 0 ∷ 180 ∷ []
unfolding two_bytes four_bytes eight_bytes answer_bytes
printed = refl
