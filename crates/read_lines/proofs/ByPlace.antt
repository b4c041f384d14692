-- The second walk over a text by the places in it.
-- Assumes nothing.
use Rattle.std.specs.Prelude.{Option, Some, None, Result, Ok, Err}
use Prim.Native.Nat.{ℕ, suc, ◌+◌, ◌-◌, ◌*◌, ◌≤◌, ◌<◌}
use Rattle.std.proofs.Common.{arith, add-one, ap, ◌∙◌, ⊎_elim}
use Rattle.std.specs.Prelude.{◌≡◌, refl, List, [], ◌∷◌, length, take, drop}
use Rattle.std.proofs.Math.Path.{sym}
use Rattle.std.proofs.lemmas.List.Edits.{sets}
use Rattle.search.specs.Laws.{clash, lt_or_ge}
use Rattle.buffer.proofs.Laws.{sets_append}
use Rattle.pieces.specs.Pieces.{before}
use Rattle.fields.specs.declared.Fields.{Fields}
use Rattle.comma.specs.Line.{line_of}
use Rattle.comma.proofs.CardLaws.{card_length}
use Rattle.comma.specs.Text.{Cards, cards, bad, joined, cards_in, card_bytes, bytes_of}
use Rattle.count_lines.specs.Count.{count_from}
use Rattle.count_lines.proofs.ByPlace.{rest, line_good, line_bad, none_left, count_start, count_turn}
use Rattle.read_lines.specs.Walk.{laid_from}

pub lay_start : (text out : List ℕ) → laid_from 7 (cards_in text) out ≡ laid_from (7 + 24 * 0) (rest (0 + 1) text 0) out
unfolding cards_in
lay_start text out = refl

pub lay_counted : (text : List ℕ) {count : ℕ} → count_from 0 (cards_in text) ≡ Ok count → Ok count ≡ count_from 0 (rest (0 + 1) text 0)
lay_counted text e = sym e ∙ count_start text

-- one card more
laid_on : (out whole : List ℕ) (place count : ℕ) (f : Fields) (c : Cards) → Ok count ≡ count_from place (joined f c)
    → whole ≡ laid_from (7 + 24 * place) (joined f c) out → whole ≡ laid_from (7 + 24 * (place + 1)) c (sets out (7 + 24 * place) (card_bytes f))
unfolding bytes_of
laid_on out whole place count f (cards xs) g e =
    let next : 7 + 24 * place + 24 ≡ 7 + 24 * (place + 1) = omega arith in
    e ∙ sym (sets_append (card_bytes f) (bytes_of xs) out (7 + 24 * place))
    ∙ ap (λ (k : ℕ). sets (sets out (7 + 24 * place) (card_bytes f)) (7 + 24 * place + k) (bytes_of xs)) (card_length f)
    ∙ ap (λ (k : ℕ). sets (sets out (7 + 24 * place) (card_bytes f)) k (bytes_of xs)) next
laid_on out whole place count f (bad k) g e = clash (cc)

module _ (count place : ℕ) (text : List ℕ) (at : ℕ) (counted : Ok count ≡ count_from place (rest (place + 1) text at)) where
  -- as long as not every card is laid, there is a line
  pub lay_there : place < count → at < length text
  lay_there h = ⊎_elim (λ (there : at < length text). there) (λ (past : length text ≤ at). absurd (behind past)) (lt_or_ge at (length text))
    where
      behind : length text ≤ at → ⊥
      behind past =
          let all : Ok count ≡ Ok (place + 0) = counted ∙ ap (count_from place) (none_left (place + 1) text at past) in
          let same : count ≡ place + 0 = cc in omega (arith, same)

  module _ (end : ℕ) (more : place < count) (e : end ≡ at + length (before 10 (drop at text))) (x : Option Fields)
      (f : x ≡ line_of (take (end - at) (drop at text))) where
    pub lay_next : (c : Fields) → x ≡ Some c → Ok count ≡ count_from (place + 1) (rest (place + 1 + 1) text (end + 1))
    lay_next c q = count_turn (Ok count) place text at counted end (lay_there more) e x f c q

    pub lay_turn : (whole out after : List ℕ) (c : Fields) → x ≡ Some c → whole ≡ laid_from (7 + 24 * place) (rest (place + 1) text at) out
        → after ≡ sets out (7 + 24 * place) (card_bytes c) → whole ≡ laid_from (7 + 24 * (place + 1)) (rest (place + 1 + 1) text (end + 1)) after
    lay_turn whole out after c q w a =
        let good = line_good text at end (lay_there more) e (place + 1) x f c q in
        laid_on out whole place count c (rest (suc (place + 1)) text (end + 1))
        (counted ∙ ap (count_from place) good) (w ∙ ap (λ (r : Cards). laid_from (7 + 24 * place) r out) good)
        ∙ ap (laid_from (7 + 24 * (place + 1)) (rest (suc (place + 1)) text (end + 1))) (sym a)
        ∙ ap (λ (k : ℕ). laid_from (7 + 24 * (place + 1)) (rest k text (end + 1)) after) (sym (add-one (place + 1)))

    -- a line that is not well formed cannot be met here
    pub lay_bad : x ≡ None → (whole out : List ℕ) → out ≡ whole
    lay_bad q whole out =
        let never : Ok count ≡ Err (place + 1) =
        counted ∙ ap (count_from place) (line_bad text at end (lay_there more) e (place + 1) x f q) in
        clash (cc)

  -- and then none is left
  laid_all : (c : Cards) (whole out : List ℕ) → count ≤ place → Ok count ≡ count_from place c → whole ≡ laid_from (7 + 24 * place) c out → out ≡ whole
  unfolding bytes_of
  laid_all (cards []) whole out h g w = sym w
  laid_all (cards (f ∷ xs)) whole out h g w = let same : count ≡ place + suc (length xs) = cc in absurd (omega (arith, same))
  laid_all (bad k) whole out h g w = clash (cc)

  pub lay_end : (whole out : List ℕ) → count ≤ place → whole ≡ laid_from (7 + 24 * place) (rest (place + 1) text at) out → out ≡ whole
  lay_end whole out h w = laid_all (rest (place + 1) text at) whole out h counted w

-- what the second walk asks of the first
pub counted_good : (text : List ℕ) (l : Result ℕ ℕ) (n : ℕ) → l ≡ count_from 0 (cards_in text) → l ≡ Ok n → count_from 0 (cards_in text) ≡ Ok n
counted_good text l n e q = sym e ∙ q
