-- The walk that keeps a value: one turn and its ends. At every card what is left of the walk comes to the whole walk.
-- Assumes nothing.
use Rattle.std.specs.Prelude.{ℕ, suc, ◌+◌, ◌≤◌, ◌<◌, ◌≡◌, List, [], ◌∷◌, length, drop, get_or, Result, Ok, Err}
use Rattle.std.proofs.Common.{arith, ◌∙◌, sym, ap, drop-cons}
use Rattle.std.proofs.lemmas.List.{drop_all}
use native.Mathlib.Numerals.{add-one}
use Rattle.refusals.specs.declared.SentBack.{SentBack}
use Rattle.card.specs.declared.Answer.{Answer}
use Rattle.running.specs.declared.Running.{Running}
use Rattle.running.specs.Running.{step_of}
use Rattle.running.proofs.Laws.{on_place}
use Rattle.tally.specs.Tally.{go_on, kept_from}

module _ {K : Type 0} (cards : List (List ℕ)) (after : K → Answer → K) where
  -- what is left of the walk from a card, running values and a kept value on
  abbrev pub Left : ℕ → Running → K → Result (Running × K) (SentBack ℕ)
  Left i s k = kept_from after s k (drop i cards)

  module _ (i : ℕ) (s : Running) (k : K) (h : i < length cards) (card : List ℕ) (there : card ≡ get_or cards i []) (x : Result (Running × Answer) (SentBack ℕ)) (e : x ≡ step_of s card) where
    abbrev Onward : Running → Answer → Result (Running × K) (SentBack ℕ)
    Onward t a = Left (i + 1) t (after k a)

    left_is : (y : Result (Running × Answer) (SentBack ℕ)) → x ≡ y → Left i s k ≡ go_on y Onward
    unfolding kept_from
    left_is y q =
        let more : drop i cards ≡ get_or cards i [] ∷ drop (i + 1) cards = rw (add-one i) (drop-cons cards i [] h) in
        ap (kept_from after s k) more ∙ ap (λ z. go_on z Onward) (ap (step_of s) (sym there) ∙ (sym e ∙ q))

    pub turn_place : (t : Running) (a : Answer) (from : ℕ) → x ≡ Ok (t, a) → s.place ≡ from + i → t.place ≡ from + (i + 1)
    turn_place t a from q p =
        let z : t.place ≡ suc s.place = on_place s t a card (sym e ∙ q) in
        omega (arith, z, p)

    pub turn_left : (t : Running) (a : Answer) (l : K) (whole : Result (Running × K) (SentBack ℕ)) → x ≡ Ok (t, a) → l ≡ after k a → Left i s k ≡ whole → Left (i + 1) t l ≡ whole
    turn_left t a l whole q p w = ap (Left (i + 1) t) p ∙ (sym (left_is (Ok (t, a)) q) ∙ w)

    pub refused_left : (sent : SentBack ℕ) (whole : Result (Running × K) (SentBack ℕ)) → x ≡ Err sent → Left i s k ≡ whole → Err sent ≡ whole
    refused_left sent whole q w = sym (left_is (Err sent) q) ∙ w

  -- no card is left
  pub end_left : (i : ℕ) → length cards ≤ i → (s : Running) (k : K) (whole : Result (Running × K) (SentBack ℕ)) → Left i s k ≡ whole → Ok (s, k) ≡ whole
  unfolding kept_from
  end_left i h s k whole w = ap (kept_from after s k) (sym (drop_all i cards h)) ∙ w
