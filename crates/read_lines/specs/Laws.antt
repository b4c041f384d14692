-- The second walk comes to what a text is.
-- Assumes nothing.
use Rattle.std.specs.Prelude.{Option, Some, None, Ok, Err}
use Prim.Native.Nat.{ℕ, suc, ◌+◌, ◌*◌, ◌≤◌}
use Rattle.std.proofs.Common.{arith, add-one, ap, ◌∙◌}
use Rattle.std.specs.Prelude.{◌≡◌, List, [], ◌∷◌, length}
use Rattle.std.proofs.Math.Path.{sym}
use Rattle.std.proofs.lemmas.List.Edits.{sets}
use Rattle.search.specs.Laws.{clash}
use Rattle.buffer.specs.declared.Writer.{Writer}
use Rattle.buffer.specs.Puts.{Puts}
use Rattle.buffer.proofs.Laws.{sets_append}
use Rattle.fields.specs.declared.Fields.{Fields}
use Rattle.comma.specs.Line.{line_of}
use Rattle.comma.proofs.CardLaws.{card_length}
use Rattle.comma.specs.Text.{lines_of, Cards, cards, bad, joined, cards_from, cards_in, card_bytes, bytes_of}
use Rattle.count_lines.specs.Count.{count_from}
use Rattle.count_lines.specs.Laws.{line_good, line_bad, none_left, count_start, count_turn}
use Rattle.read_lines.specs.Walk.{laid_from}

pub lay_start : (text out : List ℕ) (left : List (List ℕ)) → left ≡ lines_of text → laid_from 7 (cards_in text) out ≡ laid_from (7 + 24 * 0) (cards_from (0 + 1) left) out
unfolding cards_in
lay_start text out left e = ap (λ (ls : List (List ℕ)). laid_from 7 (cards_from 1 ls) out) (sym e)

pub lay_counted : (text : List ℕ) {count : ℕ} (left : List (List ℕ)) → left ≡ lines_of text → count_from 0 (cards_in text) ≡ Ok count → Ok count ≡ count_from 0 (cards_from (0 + 1) left)
lay_counted text left e c = sym c ∙ count_start text left e

-- one card more
laid_on : (out whole : List ℕ) (place count : ℕ) (f : Fields) (c : Cards) → Ok count ≡ count_from place (joined f c)
    → whole ≡ laid_from (7 + 24 * place) (joined f c) out → whole ≡ laid_from (7 + 24 * (place + 1)) c (sets out (7 + 24 * place) (card_bytes f))
unfolding bytes_of
laid_on out whole place count f (cards xs) g e =
    let next : 7 + 24 * place + 24 ≡ 7 + 24 * (place + 1) = omega arith in
    e ∙ sym (sets_append (card_bytes f) (bytes_of xs) out (7 + 24 * place))
    ∙ ap (λ (k : ℕ). sets (sets out (7 + 24 * place) (card_bytes f)) (7 + 24 * place + k) (bytes_of xs)) (card_length f)
    ∙ ap (λ (k : ℕ). sets (sets out (7 + 24 * place) (card_bytes f)) k (bytes_of xs)) next
laid_on out whole place count f (bad k) g e = clash (cc)

module _ (count place : ℕ) (left : List (List ℕ)) (counted : Ok count ≡ count_from place (cards_from (place + 1) left)) where
  module _ (line : List ℕ) (others : List (List ℕ)) (e : left ≡ line ∷ others) (x : Option Fields) (f : x ≡ line_of line) where
    pub lay_next : (c : Fields) → x ≡ Some c → Ok count ≡ count_from (place + 1) (cards_from (place + 1 + 1) others)
    lay_next c q = count_turn (Ok count) place left counted line others e x f c q

    pub lay_turn : (whole after : List ℕ) (c : Fields) {behind next : Writer} → x ≡ Some c → Puts behind next (card_bytes c)
        → after ≡ next.bytes.now → behind.at ≡ 7 + 24 * place → whole ≡ laid_from (7 + 24 * place) (cards_from (place + 1) left) behind.bytes.now
        → whole ≡ laid_from (7 + 24 * (place + 1)) (cards_from (place + 1 + 1) others) after
    lay_turn whole after c {behind} {next} q put a there w =
        let good = line_good (place + 1) left line others e x f c q in
        let out = behind.bytes.now in
        let laid : after ≡ sets out (7 + 24 * place) (card_bytes c) =
        a ∙ put.wrote.bytes ∙ ap (λ (k : ℕ). sets out k (card_bytes c)) there in
        laid_on out whole place count c (cards_from (suc (place + 1)) others)
        (counted ∙ ap (count_from place) good) (w ∙ ap (λ (r : Cards). laid_from (7 + 24 * place) r out) good)
        ∙ ap (laid_from (7 + 24 * (place + 1)) (cards_from (suc (place + 1)) others)) (sym laid)
        ∙ ap (λ (k : ℕ). laid_from (7 + 24 * (place + 1)) (cards_from k others) after) (sym (add-one (place + 1)))

    -- a line that is not well formed cannot be met here
    pub lay_bad : x ≡ None → (whole out : List ℕ) → out ≡ whole
    lay_bad q whole out =
        let never : Ok count ≡ Err (place + 1) =
        counted ∙ ap (count_from place) (line_bad (place + 1) left line others e x f q) in
        clash (cc)

  -- and then none is left
  laid_all : (c : Cards) (whole out : List ℕ) → count ≤ place → Ok count ≡ count_from place c → whole ≡ laid_from (7 + 24 * place) c out → out ≡ whole
  unfolding bytes_of
  laid_all (cards []) whole out h g w = sym w
  laid_all (cards (f ∷ xs)) whole out h g w = let same : count ≡ place + suc (length xs) = cc in absurd (omega (arith, same))
  laid_all (bad k) whole out h g w = clash (cc)

  pub lay_end : (whole out : List ℕ) → count ≤ place → whole ≡ laid_from (7 + 24 * place) (cards_from (place + 1) left) out → out ≡ whole
  lay_end whole out h w = laid_all (cards_from (place + 1) left) whole out h counted w

  -- nor is one where the lines have ended
  pub lay_none : (whole out : List ℕ) → left ≡ [] → whole ≡ laid_from (7 + 24 * place) (cards_from (place + 1) left) out → out ≡ whole
  unfolding bytes_of
  lay_none whole out e w = sym (w ∙ ap (λ (c : Cards). laid_from (7 + 24 * place) c out) (none_left (place + 1) left e))
