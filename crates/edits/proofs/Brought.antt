-- The cards as an edit leaves them, of cards that pass: those of lower numbers pass as they did, and those of higher numbers pass after any
-- lower number. So only the card that is brought can be sent back.
-- Assumes nothing.
use Rattle.std.specs.Prelude.{ℕ, ◌-◌, ◌<◌, ◌≤◌, ◌≡◌, refl, Bool, true, false, List, [], ◌∷◌, ◌++◌, ltb, length, Ok, Err}
use Rattle.std.proofs.Common.{arith, zero-le, ◌∙◌, ap, ap₂, ltb-true, ltb-false}
use Rattle.std.proofs.lemmas.Bool.Decides.{nat_tests}
use Rattle.refusals.specs.declared.Refusal.{Refusal}
use Rattle.card.specs.declared.Answer.{Answer}
use Rattle.card.specs.Answers.{answer_of}
use Rattle.running.specs.declared.Running.{Running}
use Rattle.running.specs.Running.{before_cards, after_card, running_after}
use Rattle.running.proofs.Laws.{running_place}
use Rattle.cards.specs.Register.{answers, sent_back, cards_from}
use Rattle.cards.proofs.Cut.{in_front, front_answers, front_sent_back, cut_answered}
use Rattle.cards.proofs.Laws.{cards_count}
use Rattle.edits.specs.Edits.{card_number, keep_if, below, above}
use Rattle.edits.proofs.Cut.{below_none, above_all}
use Rattle.edits.proofs.Rising.{Passes, passed_all, passed_one, checks, answered_number, answered_any, rising}

-- ---- around a number

module _ (n : ℕ) where
  -- a card above the number is answered the same after any that is not above it, and so are those behind it
  first_any : {last other : ℕ} {card : List ℕ} {rest : List (List ℕ)} {xs : List Answer} → n < card_number card → other ≤ n → Passes last (card ∷ rest) xs → Passes other (card ∷ rest) xs
  first_any {last} {other} {card} l h (passed_one e p) = passed_one (answered_any card last e other (omega (arith, l, h))) p

  pub lower_pass : {last : ℕ} {cards : List (List ℕ)} {xs : List Answer} → Passes last cards xs → (ys : List Answer) × Passes last (below n cards) ys
  unfolding below
  lower_pass passed_all = ([], passed_all)
  lower_pass (passed_one {last} {card} {rest} {a} e p) = go (ltb (card_number card) n) refl (lower_pass p)
    where
      go : (b : Bool) → ltb (card_number card) n ≡ b → (ys : List Answer) × Passes a.number (below n rest) ys → (ys : List Answer) × Passes last (keep_if b card (below n rest)) ys
      go true q ih = (a ∷ ih.0, passed_one e ih.1)
      go false q ih =
          let l = ltb-false (card_number card) n q in
          let none = below_none n (omega (arith, answered_number card last e)) (rising p) in
          ([], rw none passed_all)

  pub higher_pass : {last : ℕ} {cards : List (List ℕ)} {xs : List Answer} → Passes last cards xs → (other : ℕ) → other ≤ n → (ys : List Answer) × Passes other (above n cards) ys
  unfolding above
  higher_pass passed_all other h = ([], passed_all)
  higher_pass (passed_one {last} {card} {rest} {a} {xs} e p) other h = go (ltb n (card_number card)) refl (higher_pass p other h)
    where
      go : (b : Bool) → ltb n (card_number card) ≡ b → (ys : List Answer) × Passes other (above n rest) ys → (ys : List Answer) × Passes other (keep_if b card (above n rest)) ys
      go true q ih =
          let l = ltb-true n (card_number card) q in
          let all = above_all n (omega (arith, answered_number card last e)) (rising p) in
          (a ∷ xs, rw all (first_any l h (passed_one e p)))
      go false q ih = ih

  -- the cards above the number, where they pass after some number, pass with the same answers after any that is not above it
  pub above_any : (cards : List (List ℕ)) {last : ℕ} {xs : List Answer} → Passes last (above n cards) xs → {other : ℕ} → other ≤ n → Passes other (above n cards) xs
  unfolding above
  above_any [] passed_all h = passed_all
  above_any (card ∷ rest) {last} {xs} p {other} h = go (ltb n (card_number card)) refl (λ q. above_any rest q h) p
    where
      go : (b : Bool) → ltb n (card_number card) ≡ b → (Passes last (above n rest) xs → Passes other (above n rest) xs) → Passes last (keep_if b card (above n rest)) xs → Passes other (keep_if b card (above n rest)) xs
      go true e ih q = first_any (ltb-true n (card_number card) e) h q
      go false e ih q = ih q

-- the number of the last of some cards that stand behind a number
unfoldable pub last_from : ℕ → List (List ℕ) → ℕ
last_from last [] = last
last_from last (card ∷ rest) = last_from (card_number card) rest

-- the last of the lower ones is lower, or there is none
pub last_below : (n last : ℕ) (cards : List (List ℕ)) → last ≤ n - 1 → last_from last (below n cards) ≤ n - 1
unfolding last_from below
last_below n last [] h = h
last_below n last (card ∷ rest) h = grind (arith, nat_tests, last_below n last rest, last_below n (card_number card) rest)

-- where the cards pass, the running values behind them have it
pub last_after : (s : Running) {cards : List (List ℕ)} {xs : List Answer} → Passes s.last cards xs → (running_after s xs).last ≡ last_from s.last cards
unfolding last_from running_after
last_after s passed_all = refl
last_after s (passed_one {card = card} {rest = rest} {a = a} e p) = last_after (after_card s a) p ∙ ap (λ k. last_from k rest) (answered_number card s.last e)

-- ---- the cards as they would then be

module _ (n : ℕ) {cards : List (List ℕ)} {xs : List Answer} (p : Passes 0 cards xs) where
  abbrev last : ℕ
  last = last_from 0 (below n cards)

  abbrev place : ℕ
  place = length (below n cards)

  abbrev lower : List Answer
  lower = (lower_pass n p).0

  -- the lower ones pass, in front of whatever the others come to
  lower_first : (others : List (List ℕ)) → cards_from 0 0 (below n cards ++ others) ≡ in_front lower (cards_from place last others)
  lower_first others =
      let e = checks 0 (lower_pass n p).1 in
      let i : (running_after before_cards lower).place ≡ place = omega (arith, running_place before_cards lower, cards_count 0 0 (below n cards) lower e) in
      cut_answered before_cards (below n cards) others lower e
      ∙ ap₂ (λ k l. in_front lower (cards_from k l others)) i (last_after before_cards (lower_pass n p).1)

  -- where none is brought, all pass
  pub none_brought : (ys : List Answer) × (cards_from 0 0 (below n cards ++ above n cards) ≡ answers ys)
  none_brought =
      let higher = higher_pass n p last (omega (arith, last_below n 0 cards zero-le)) in
      (lower ++ higher.0, lower_first (above n cards) ∙ (ap (in_front lower) (checks place higher.1) ∙ front_answers lower higher.0))

  -- where a card of the number is, it decides
  module _ (card : List ℕ) where
    pub brought_passes : card_number card ≡ n → (a : Answer) → answer_of card last ≡ Ok a → (ys : List Answer) × (cards_from 0 0 (below n cards ++ (card ∷ above n cards)) ≡ answers ys)
    brought_passes k a e =
        let higher = higher_pass n p a.number (omega (arith, answered_number card last e, k)) in
        (lower ++ (a ∷ higher.0), lower_first (card ∷ above n cards) ∙ (ap (in_front lower) (checks place (passed_one e higher.1)) ∙ front_answers lower (a ∷ higher.0)))

    pub brought_sent : (r : Refusal) → answer_of card last ≡ Err r → cards_from 0 0 (below n cards ++ (card ∷ above n cards)) ≡ sent_back r place
    unfolding cards_from
    brought_sent r e = lower_first (card ∷ above n cards) ∙ (ap (in_front lower) (rw e refl) ∙ front_sent_back lower r place)
