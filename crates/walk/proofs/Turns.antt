-- The walk: its start, one turn and its ends. At every card what is left of the walk, from the running
-- values, comes to the whole walk, and so does what is left to write; each law carries that on.
-- Assumes nothing.
use Rattle.std.specs.Prelude.{Result, Ok, Err}
use Rattle.refusals.specs.declared.SentBack.{SentBack}
use Prim.Native.Nat.{ℕ, suc, ◌+◌, ◌*◌, ◌≤◌, ◌<◌}
use native.Mathlib.Omega.{arith}
use native.Mathlib.Nat.{mul-suc, mul-le-mul_left}
use native.Mathlib.Numerals.{add-one}
use mathlib.Core.Path.{◌≡◌, ◌∙◌, ap, ap₂, sym}
use mathlib.Core.List.{List, [], ◌∷◌, ◌++◌}
use lib.ListN.{length, drop, get_or}
use lib.Seq.{sets}
use Rattle.std.proofs.Common.{drop-cons}
use Rattle.std.proofs.lemmas.List.{drop_all}
use Rattle.buffer.specs.Wrote.{Wrote}
use Rattle.buffer.proofs.Laws.{sets_append}
use Rattle.card.specs.declared.Answer.{Answer}
use Rattle.running.specs.declared.Running.{Running}
use Rattle.running.specs.Running.{step_of}
use Rattle.tally.proofs.Turns as tally
use Rattle.walk.specs.Walk.{walk_from, write_on, text_from}

-- what the lent buffer holds is what the writer's does at the end of the walk
pub held_after : (written : List ℕ) {held after : List ℕ} → held ≡ written → written ≡ after → held ≡ after
held_after written e q = e ∙ q

module _ (cards : List (List ℕ)) (told : Answer → List ℕ) (most : ℕ) where
  -- what the walk keeps: how many bytes are written
  abbrev after : ℕ → Answer → ℕ
  after n a = n + length (told a)

  -- what is left of the walk from a card, running values and a position on
  abbrev pub Left : ℕ → Running → ℕ → Result (Running × ℕ) (SentBack ℕ)
  Left i s at = walk_from told s at (drop i cards)

  -- and what is left to write
  abbrev pub Unwritten : ℕ → Running → List ℕ
  Unwritten i s = text_from told s (drop i cards)

  -- so many bytes a card at most: there is room for the next
  pub room : (at i : ℕ) (out out₀ : List ℕ) → i < length cards → at ≤ most * i → length out ≡ length out₀ → most * length cards ≤ length out₀ → at + most ≤ length out
  room at i out out₀ h k l m = omega (arith, mul-suc (most) i, mul-le-mul_left (most) h)

  module _ (i : ℕ) (s : Running) (h : i < length cards) (item : List ℕ) (there : item ≡ get_or cards i []) (x : Result (Running × Answer) (SentBack ℕ)) (e : x ≡ step_of s item) where
    more : drop i cards ≡ item ∷ drop (i + 1) cards
    more = rw (add-one i) (drop-cons cards i [] h ∙ ap (λ (card : List ℕ). card ∷ drop (suc i) cards) (sym there))

    -- what the walk writes of the card and behind it
    abbrev Written : Running → Answer → List ℕ
    Written t a = told a ++ Unwritten (i + 1) t

    unwritten_is : (y : Result (Running × Answer) (SentBack ℕ)) → x ≡ y → Unwritten i s ≡ write_on y Written
    unfolding text_from
    unwritten_is y q = ap (text_from told s) more ∙ ap (λ z. write_on z Written) (sym e ∙ q)

    -- a card that is answered: the walk goes on from the next place
    module _ (t : Running) (a : Answer) (q : x ≡ Ok (t, a)) where
      pub turn_place : (from : ℕ) → s.place ≡ from + i → t.place ≡ from + (i + 1)
      turn_place from k = tally.turn_place cards after i s 0 h item there x e t a from q k

      pub turn_at : (at n : ℕ) → at ≤ most * i → n ≤ at + most → n ≤ most * (i + 1)
      turn_at at n k m = rw (add-one i) (omega (arith, mul-suc (most) i))

      pub turn_left : {out after : List ℕ} {at n : ℕ} (whole : Result (Running × ℕ) (SentBack ℕ)) → Wrote out after at n (told a) → Left i s at ≡ whole → Left (i + 1) t n ≡ whole
      turn_left {at = at} {n} whole p k = tally.turn_left cards after i s at h item there x e t a n whole q p.place k

      pub turn_written : {out after : List ℕ} {at n : ℕ} (whole : List ℕ) → Wrote out after at n (told a) → sets out at (Unwritten i s) ≡ whole → sets after n (Unwritten (i + 1) t) ≡ whole
      turn_written {out} {after} {at} {n} whole p k =
          ap₂ (λ b m. sets b m (Unwritten (i + 1) t)) p.bytes p.place
          ∙ (sets_append (told a) (Unwritten (i + 1) t) out at
          ∙ (ap (sets out at) (sym (unwritten_is (Ok (t, a)) q)) ∙ k))

    -- a card that is refused: the walk ends there, and nothing more is written
    module _ (sent : SentBack ℕ) (q : x ≡ Err sent) where
      pub refused_left : (at : ℕ) (from : Running) → Left i s at ≡ Left 0 from 0 → Err sent ≡ walk_from told from 0 cards
      refused_left at from k = tally.refused_left cards after i s at h item there x e sent (walk_from told from 0 cards) q k

      pub refused_written : (out before : List ℕ) (at : ℕ) (from : Running) → sets out at (Unwritten i s) ≡ sets before 0 (Unwritten 0 from) → out ≡ sets before 0 (text_from told from cards)
      refused_written out before at from k = ap (sets out at) (sym (unwritten_is (Err sent) q)) ∙ k

  -- no card is left
  module _ (i : ℕ) (h : length cards ≤ i) where
    none : drop i cards ≡ []
    none = drop_all i cards h

    pub end_left : (s from : Running) (at : ℕ) → Left i s at ≡ Left 0 from 0 → Ok (s, at) ≡ walk_from told from 0 cards
    end_left s from at k = tally.end_left cards after i h s at (walk_from told from 0 cards) k

    pub end_written : (s from : Running) (out before : List ℕ) (at : ℕ) → sets out at (Unwritten i s) ≡ sets before 0 (Unwritten 0 from) → out ≡ sets before 0 (text_from told from cards)
    unfolding text_from
    end_written s from out before at k = ap (λ rest. sets out at (text_from told s rest)) (sym none) ∙ k

    pub end_within : (at : ℕ) → i ≤ length cards → at ≤ most * i → at ≤ most * length cards
    end_within at l k = omega (arith, mul-le-mul_left (most) l)
