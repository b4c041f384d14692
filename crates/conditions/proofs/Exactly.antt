-- Demand 1, proved: a call gives exactly the first refusal whose condition holds, and accepts exactly when none does.
-- Assumes nothing.
use Rattle.std.specs.Prelude.{Bool, true, false, Result, Ok, Err}
use Rattle.refusals.specs.declared.SentBack.{SentBack}
use Rattle.refusals.specs.Numbers.{refused_at}
use Prim.Native.Nat.{ℕ, zero, suc, ◌+◌, ◌≤◌, ◌<◌}
use Rattle.std.proofs.Common.{le_refl, ◌∙◌, sym, subst, inl, inr, ⊎_elim, drop-cons}
use native.Mathlib.Omega.{arith}
use Rattle.std.proofs.lemmas.Bool.{cases_eq, cases_lt}
use Rattle.std.proofs.lemmas.Bool.Decides.{nat_tests}
use Rattle.std.specs.Prelude.{◌≡◌, ◌⊎◌, eqb, ltb, [], length, drop}
use Rattle.std.proofs.Math.Path.{refl, ap}
use mathlib.Core.List.{List}
use Rattle.std.proofs.lemmas.List.{drop_all}
use Rattle.refusals.specs.declared.Refusal.TheVariants as refusal
use Rattle.refusals.specs.declared.Refusal.{Refusal}
use Rattle.card.specs.declared.Answer.{Answer}
use Rattle.card.specs.Number.{answer_number}
use Rattle.card.specs.Answers.{answer_of}
use Rattle.farthest.specs.declared.Leaders.{Leaders}
use Rattle.header.specs.Header.{header_of, count_of, cards_in, stored_in}
use Rattle.header.proofs.Chunks.{cards_counted}
use Rattle.cards.specs.Register.{Cards, answers, sent_back, joined, then, cards_from, unless_wrong, settled, cards_of, result_of, after_header, outcome_of}
use Rattle.ordering.specs.Claim.{card_at}
use Rattle.conditions.specs.Conditions.{only, of_register, number_before, card_lines, wrong_distance, at_last, conditions_at}
use Rattle.conditions.specs.First.{Verdict, passed, refused, first_of, after, first_append, first_here, first_elsewhere}
use Rattle.conditions.proofs.Cards.{verdict_of, card_verdict}
use Rattle.conditions.proofs.Afresh.{refused_hides, wrong_is}
use Rattle.conditions.specs.Claim.{RefusedExactly}
use Rattle.conditions.proofs.Tables.{Passes, Refuses, exactly_by}

-- ---- the cards in turn

module _ (bytes : List ℕ) where
  -- what the card at a place comes to
  abbrev at : ℕ → Verdict
  at place = first_of (card_lines bytes place)

  -- what so many cards from a place on come to
  abbrev Walked : Cards → ℕ → ℕ → Type 0
  Walked (answers xs) from n = (p : ℕ) → from ≤ p → p < from + n → at p ≡ passed
  Walked (sent_back r q) from n = (from ≤ q) × (q < from + n) × (at q ≡ refused r) × ((p : ℕ) → from ≤ p → p < q → at p ≡ passed)

  -- a card that passes in front of others
  in_front_lem : (from : ℕ) → at from ≡ passed → (p : ℕ) → (suc from ≤ p → at p ≡ passed) → from ≤ p → at p ≡ passed
  in_front_lem from here p rest h = grind (arith, cases_eq from p)

  walked_on : (a : Answer) (c : Cards) (from n : ℕ) → at from ≡ passed → Walked c (suc from) n → Walked (joined a c) from (suc n)
  walked_on a (answers xs) from n here rest = λ p l h. in_front_lem from here p (λ m. rest p m (omega arith)) l
  walked_on a (sent_back r q) from n here rest =
      (omega (arith, rest.0), omega (arith, rest.1), rest.2, λ p l h. in_front_lem from here p (λ m. rest.3 p m h) l)

  verdict_at : (from last : ℕ) → last ≡ number_before bytes from → at from ≡ verdict_of (answer_of (card_at bytes from) last)
  verdict_at from last e = grind (arith, card_verdict (card_at bytes from) last)

  -- the cards from a place on
  abbrev left : ℕ → List (List ℕ)
  left place = drop place (cards_in bytes)

  walked : (n from last : ℕ) → from + n ≡ length (cards_in bytes) → last ≡ number_before bytes from → Walked (cards_from from last (left from)) from n
  unfolding cards_from
  walked zero from last e b =
      subst (λ (cs : List (List ℕ)). Walked (cards_from from last cs) from 0) (sym (drop_all from (cards_in bytes) (omega (arith, e))))
      (λ p l h. absurd (omega (arith, l, h)))
  walked (suc n) from last e b =
      subst (λ (cs : List (List ℕ)). Walked (cards_from from last cs) from (suc n)) (sym (drop-cons (cards_in bytes) from [] (omega (arith, e))))
      (go (answer_of (card_at bytes from) last) refl (λ k q. walked n (suc from) k (omega (arith, e)) q))
    where
      go : (x : Result Answer Refusal) → answer_of (card_at bytes from) last ≡ x → ((k : ℕ) → k ≡ number_before bytes (suc from) → Walked (cards_from (suc from) k (left (suc from))) (suc from) n) → Walked (then x from (λ k. cards_from (suc from) k (left (suc from)))) from (suc n)
      go (Ok a) q ih =
          walked_on a (cards_from (suc from) a.number (left (suc from))) from n
          (verdict_at from last b ∙ ap verdict_of q)
          (ih a.number (answer_number (card_at bytes from) last q))
      go (Err r) q ih =
          (le_refl from, omega arith, verdict_at from last b ∙ ap verdict_of q, λ p l h. absurd (omega arith))

-- ---- the whole register

abbrev header_verdict : Result ℕ Refusal → Verdict
header_verdict (Ok n) = passed
header_verdict (Err r) = refused r

header_verdict_lem : (bytes : List ℕ) (room : ℕ) → first_of (of_register bytes room) ≡ header_verdict (header_of bytes room)
unfolding header_of of_register first_of
header_verdict_lem bytes room = grind arith

module _ (bytes : List ℕ) (room : ℕ) where
  -- what the table comes to at a place
  abbrev table : ℕ → Verdict
  table place = first_of (conditions_at bytes room place)

  -- what the last line comes to there
  abbrev late : ℕ → Verdict
  late place = first_of (only (eqb place 0) (at_last bytes))

  late_passes : wrong_distance bytes ≡ false → (place : ℕ) → late place ≡ passed
  unfolding first_of only at_last
  late_passes w place = grind (arith, w)

  late_refuses : wrong_distance bytes ≡ true → late 0 ≡ refused refusal.Count
  unfolding first_of only at_last
  late_refuses w = grind (arith, w)

  -- where 1 to 4 pass, a place comes to what its card does, where there is one, and then to what the last line does
  place_lines : first_of (of_register bytes room) ≡ passed → (place : ℕ) → table place ≡ after (first_of (only (ltb place (count_of bytes)) (card_lines bytes place))) (late place)
  unfolding conditions_at
  place_lines e place = grind (arith, first_append, first_here, first_elsewhere)

  card_there : first_of (of_register bytes room) ≡ passed → (place : ℕ) → place < count_of bytes → table place ≡ after (at bytes place) (late place)
  card_there e place h = grind (arith, nat_tests, place_lines e place, first_here (card_lines bytes place))

  -- where the card passes, to what the last line does alone
  passed_there : first_of (of_register bytes room) ≡ passed → (place : ℕ) → (place < count_of bytes → at bytes place ≡ passed) → table place ≡ late place
  passed_there e place w =
      ⊎_elim
      (λ (h : place < count_of bytes). card_there e place h ∙ ap (λ v. after v (late place)) (w h))
      (λ (h : count_of bytes ≤ place). grind (arith, nat_tests, place_lines e place, first_elsewhere (card_lines bytes place)))
      (cases_lt place (count_of bytes))

  -- 1 to 4 come before every card
  header_first : (r : Refusal) → first_of (of_register bytes room) ≡ refused r → table 0 ≡ refused r
  unfolding conditions_at
  header_first r e = grind (arith, first_append, first_here)

  -- what the call answers, in terms of the table
  abbrev pub Told : Result Leaders (SentBack ℕ) → Type 0
  Told (Ok l) = Passes (conditions_at bytes room)
  Told (Err sent) = Refuses (conditions_at bytes room) sent.refusal sent.place

  abbrev Settled : Cards → Type 0
  Settled c = Told (result_of (settled (stored_in bytes) c))

  cards_told : (c : Cards) → cards_from 0 0 (cards_in bytes) ≡ c → first_of (of_register bytes room) ≡ passed → Walked bytes c 0 (count_of bytes) → Settled c
  cards_told (answers xs) k e w =
      let every : (p : ℕ) → p < count_of bytes → at bytes p ≡ passed = λ p h. w p (omega arith) (omega (arith, h)) in
      let here : (p : ℕ) → table p ≡ late p = λ p. passed_there e p (every p) in
      subst (λ b. Told (result_of (unless_wrong b xs))) (wrong_is bytes k every) (go here (wrong_distance bytes) refl)
    where
      go : ((p : ℕ) → table p ≡ late p) → (b : Bool) → wrong_distance bytes ≡ b → Told (result_of (unless_wrong b xs))
      go here false q = λ p. here p ∙ late_passes q p
      go here true q = (here 0 ∙ late_refuses q, λ p h. absurd (omega (arith, h)))
  cards_told (sent_back r q) k e w =
      let h : q < count_of bytes = omega (arith, w.1) in
      let hidden = refused_hides bytes q r h w.2 in (
        card_there e q h ∙ ap (λ v. after v (late q)) w.2,
        λ p l. passed_there e p (λ m. w.3 p (omega arith) l) ∙ late_passes hidden p,
      )

  header_told : (h : Result ℕ Refusal) → header_of bytes room ≡ h → Told (after_header h bytes)
  unfolding cards_of
  header_told (Ok n) e =
      cards_told (cards_from 0 0 (cards_in bytes)) refl (grind (arith, header_verdict_lem bytes room, e))
      (walked bytes (count_of bytes) 0 0 (omega (arith, cards_counted bytes)) refl)
  header_told (Err r) e =
      (header_first r (grind (arith, header_verdict_lem bytes room, e)), λ p h. absurd (omega arith))

  pub told : Told (outcome_of bytes room)
  unfolding outcome_of
  told = header_told (header_of bytes room) refl

-- it accepts or refuses
ends : (o : Result Leaders (SentBack ℕ)) → ((l : Leaders) × (o ≡ Ok l)) ⊎ ((r : Refusal) × (place : ℕ) × (o ≡ Err (refused_at r place)))
ends (Ok l) = inl (l, refl)
ends (Err sent) = inr (sent.refusal, sent.place, refl)

pub refused_exactly : RefusedExactly
refused_exactly bytes room =
    exactly_by (conditions_at bytes room)
    (λ r place. outcome_of bytes room ≡ Err (refused_at r place))
    ((l : Leaders) × (outcome_of bytes room ≡ Ok l))
    (ends (outcome_of bytes room))
    (λ a. subst (Told bytes room) a.1 (told bytes room))
    (λ r place e. subst (Told bytes room) e (told bytes room))
