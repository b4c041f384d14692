-- The walk that writes lines comes to the lines of the cards and the leaders, and the outcome of a register to its text.
-- Assumes nothing.
use Rattle.std.specs.Prelude.{ℕ, ◌≤◌, ◌≡◌, refl, List, [], ◌∷◌, ◌++◌, length, Result, Ok, Err}
use Rattle.refusals.specs.declared.SentBack.{SentBack}
use Rattle.std.proofs.Common.{arith, ◌∙◌, ap₂, sym, subst}
use Rattle.std.proofs.Math.Path.{ap}
use Rattle.search.specs.Laws.{clash}
use Rattle.refusals.specs.declared.Refusal.{Refusal}
use Rattle.refusals.specs.Numbers.{number_of}
use Rattle.card.specs.declared.Answer.{Answer}
use Rattle.header.specs.Header.{count_of, cards_in, stored_in, enough, header_of, Whole, Fitting}
use Rattle.header.proofs.Chunks.{cards_counted}
use Rattle.farthest.specs.declared.Leaders.{Leaders}
use Rattle.running.specs.declared.Running.{Running}
use Rattle.running.specs.Running.{before_cards}
use Rattle.walk.specs.Walk.{texts_of, walk_from, text_from}
use Rattle.cards.specs.Register.{Cards, answers, sent_back, cards_from, cards_of, result_of, after_header, outcome_of}
use Rattle.cards.proofs.Laws.{settled_is, accepted_header, accepted_fits}
use Rattle.cards.proofs.Walked.{Passed, passed_leaders, stopped}
use Rattle.lines.specs.Lines.{card_line}
use Rattle.closing.specs.Closing.{refused_line}
use Rattle.listing.specs.Laws.{IsAccepted}
use Rattle.listing.specs.Listing.{card_lines, leader_lines, listing_of, listed_after}

-- what the walk writes are the lines of the cards
texts_lines : (xs : List Answer) → texts_of card_line xs ≡ card_lines xs
unfolding texts_of card_lines
texts_lines [] = refl
texts_lines (a ∷ xs) = ap (λ text. card_line a ++ text) (texts_lines xs)

refused_text : (c : Cards) {sent : SentBack ℕ} → result_of c ≡ Err sent → refused_line (number_of sent.refusal) sent.place ≡ listing_of c
refused_text (answers xs) e = let z : ◌≡◌ {A = ℕ} 0 1 = cc in clash z
refused_text (sent_back r place) e = cc

-- cards of which a register is accepted are all answered
all_answered : (c : Cards) → IsAccepted (result_of c) → (xs : List Answer) × (c ≡ answers xs)
all_answered (answers xs) a = (xs, refl)
all_answered (sent_back r place) a = absurd a

answers_are : {xs ys : List Answer} → answers xs ≡ answers ys → xs ≡ ys
answers_are e = cc

-- an accepted register: what the walk over its cards writes and ends with
module _ (bytes : List ℕ) (accepted : IsAccepted (outcome_of bytes enough)) where
  leaders : (l : Leaders) × (outcome_of bytes enough ≡ Ok l)
  leaders = go (outcome_of bytes enough) refl accepted
    where
      go : (x : Result Leaders (SentBack ℕ)) → outcome_of bytes enough ≡ x → IsAccepted x → (l : Leaders) × (outcome_of bytes enough ≡ Ok l)
      go (Ok l) q a = (l, q)
      go (Err sent) q a = absurd a

  good : (n : ℕ) × (header_of bytes enough ≡ Ok n)
  good = accepted_header bytes enough leaders.0 leaders.1

  fits : Fitting bytes enough (count_of bytes)
  fits = accepted_fits bytes enough leaders.0 leaders.1

  pub accepted_whole : Whole bytes
  accepted_whole = fits.whole

  -- its cards are all answered, and no wrong distance is stored
  told : (xs : List Answer) × (cards_of bytes ≡ answers xs)
  unfolding outcome_of
  told = all_answered (cards_of bytes) (subst IsAccepted (ap (λ h. after_header h bytes) good.1) accepted)

  module _ (cards : List (List ℕ)) (c : cards ≡ cards_in bytes) where
    pub accepted_count : length cards ≤ 2_000
    accepted_count = omega (arith, fits.cards, cards_counted bytes, ap length c)

    answered : cards_from 0 0 cards ≡ answers told.0
    unfolding cards_of
    answered = ap (cards_from 0 0) c ∙ (settled_is (stored_in bytes) (cards_from 0 0 (cards_in bytes)) told.1).0

    -- it prints its cards and then its leaders
    pub accepted_text : (t : Running) (size : ℕ) → Passed card_line before_cards cards t size → text_from card_line before_cards cards ++ leader_lines t.leaders ≡ listed_after (header_of bytes enough) bytes
    accepted_text t size p =
        ap₂ (λ text l. text ++ leader_lines l) (p.text ∙ texts_lines p.list) (passed_leaders card_line cards t size p)
        ∙ (ap (λ xs. listing_of (answers xs)) (answers_are (sym p.answered ∙ answered))
        ∙ (ap listing_of (sym told.1) ∙ ap (λ h. listed_after h bytes) (sym good.1)))

    -- its walk stops at no card
    pub accepted_walk : {A : Type 0} (sent : SentBack ℕ) → walk_from card_line before_cards 0 cards ≡ Err sent → A
    accepted_walk sent e =
        let q : sent_back sent.refusal sent.place ≡ answers told.0 = sym (stopped card_line before_cards cards sent e) ∙ answered in
        let z : ◌≡◌ {A = ℕ} 0 1 = cc in
        clash z

module _ (bytes : List ℕ) where
  -- a register that is sent back prints why
  pub sent_back_text : {sent : SentBack ℕ} → outcome_of bytes enough ≡ Err sent → refused_line (number_of sent.refusal) sent.place ≡ listed_after (header_of bytes enough) bytes
  unfolding outcome_of
  sent_back_text {sent} q = go (header_of bytes enough) q
    where
      go : (h : Result ℕ Refusal) → after_header h bytes ≡ Err sent → refused_line (number_of sent.refusal) sent.place ≡ listed_after h bytes
      go (Ok n) p = refused_text (cards_of bytes) p
      go (Err s) p = cc
