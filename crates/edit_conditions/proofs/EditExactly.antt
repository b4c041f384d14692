-- Demand 1 of an edit, proved: it gives exactly the first refusal whose condition holds, and lays the register anew exactly when none does.
-- Assumes nothing.
use Rattle.std.specs.Prelude.{ℕ, suc, ◌<◌, ◌≡◌, refl, Bool, true, false, List, [], ◌∷◌, ◌++◌, map, ◌⊎◌, eqb, length, is_ok, Result, Ok, Err}
use Rattle.std.proofs.Common.{arith, ◌∙◌, sym, ap, subst, inl, inr, eq-eqb, ne_eqb}
use Rattle.refusals.specs.declared.Refusal.{Refusal}
use Rattle.refusals.specs.declared.Refusal.TheVariants as refusal
use Rattle.refusals.specs.declared.SentBack.{SentBack}
use Rattle.refusals.specs.Numbers.{refused_at}
use Rattle.card.specs.declared.Answer.{Answer}
use Rattle.card.specs.Answers.{answer_of}
use Rattle.farthest.specs.declared.Leaders.{Leaders}
use Rattle.header.specs.Header.{cards_in, enough}
use Rattle.cards.specs.Register.{cards_from, outcome_of}
use Rattle.cards.proofs.Laws.{accepted_fits}
use Rattle.seasons.specs.Seasons.{grown, Given}
use Rattle.ordering.proofs.Found.{found}
use Rattle.conditions.specs.Conditions.{Condition, only, of_card, conditions_at}
use Rattle.conditions.specs.First.{passed, refused, first_of, first_append, first_here, first_elsewhere}
use Rattle.conditions.proofs.Cards.{verdict_of, card_verdict}
use Rattle.conditions.proofs.Exactly.{Told as RegisterTold, told as register_told}
use Rattle.conditions.proofs.Tables.{Passes as TablePasses, Refuses, exactly_by}
use Rattle.edits.specs.Edits.{Edit, add, replace, withdraw, card_number, named, takes, brings, below, above, edited, with_number, is_there, bad_presence, bad_capacity, laid, register_with, held, unless_bad, changed, after_old, register_by, length_of, edit_of}
use Rattle.edits.specs.Around.{AllGiven}
use Rattle.edits.proofs.Growing.{grown_count, grown_number}
use Rattle.edits.proofs.Lists.{each_below, cards_given}
use Rattle.edits.proofs.Rising.{Passes, passes}
use Rattle.edits.proofs.Brought.{last_from, none_brought, brought_passes, brought_sent}
use Rattle.edit_conditions.specs.EditConditions.{of_edit, new_place, number_before, last_before, of_brought, edit_lines, edit_at}
use Rattle.edit_conditions.specs.EditClaim.{EditedExactly, OldAccepted}

-- ---- tables

-- what an edit answers, in terms of a table
abbrev pub Told : (ℕ → List Condition) → Result ℕ (SentBack ℕ) → Type 0
Told table (Ok n) = TablePasses table
Told table (Err sent) = Refuses table sent.refusal sent.place

-- it goes by what the table comes to at each place
same_told : (table other : ℕ → List Condition) → ((p : ℕ) → first_of (table p) ≡ first_of (other p)) → (x : Result ℕ (SentBack ℕ)) → Told other x → Told table x
same_told table other same (Ok n) t = λ p. same p ∙ t p
same_told table other same (Err sent) t = (same sent.place ∙ t.0, λ p h. same p ∙ t.1 p h)

-- conditions at one place alone
module _ (cs : List Condition) (place : ℕ) where
  abbrev alone : ℕ → List Condition
  alone p = only (eqb p place) cs

  alone_passes : first_of cs ≡ passed → TablePasses alone
  alone_passes e p = go (eqb p place)
    where
      go : (b : Bool) → first_of (only b cs) ≡ passed
      go true = first_here cs ∙ e
      go false = first_elsewhere cs

  alone_refuses : (r : Refusal) → first_of cs ≡ refused r → Refuses alone r place
  alone_refuses r e = (
    ap (λ b. first_of (only b cs)) (eq-eqb place place refl) ∙ (first_here cs ∙ e),
    λ p h. ap (λ b. first_of (only b cs)) (ne_eqb p place (λ q. omega arith)) ∙ first_elsewhere cs,
  )

-- conditions below others
module _ (front behind : ℕ → List Condition) where
  abbrev further : ℕ → List Condition
  further p = front p ++ behind p

  -- where the others pass, these decide
  behind_told : TablePasses front → (x : Result ℕ (SentBack ℕ)) → Told behind x → Told further x
  behind_told f = same_told further behind (λ p. grind (arith, first_append (front p) (behind p), f p))

  -- where one of the others is the first to hold and none of these before its place, it comes
  front_told : (r : Refusal) (place : ℕ) → Refuses front r place → ((p : ℕ) → p < place → first_of (behind p) ≡ passed) → Refuses further r place
  front_told r place f b = (
    grind (arith, first_append (front place) (behind place), f.0),
    λ p h. grind (arith, first_append (front p) (behind p), f.1 p h, b p h),
  )

-- ---- the new card

-- the last of some cards is the one before the place behind them, and has its number when they have grown too
pub last_is : (xs ys : List (List ℕ)) → AllGiven xs → number_before (map grown (xs ++ ys)) (length xs) ≡ last_from 0 xs
unfolding last_from
last_is [] ys g = refl
last_is (x ∷ []) ys g = grown_number x (g 0 (omega arith))
last_is (x ∷ (y ∷ xs)) ys g = last_is (y ∷ xs) ys (λ i h. g (suc i) (omega (arith, h)))

-- cards are as many when they have grown
pub count_is : (e : Edit) (cards : List (List ℕ)) → length (edited e cards) ≡ length (with_number (named e) (brings e) cards)
unfolding edited
count_is e cards = grown_count (with_number (named e) (brings e) cards)

module _ (n : ℕ) (cards : List (List ℕ)) (given : AllGiven cards) {xs : List Answer} (p : Passes 0 cards xs) where
  abbrev place : ℕ
  place = length (below n cards)

  abbrev last : ℕ
  last = last_from 0 (below n cards)

  none_told : Told (alone [] place) (length_of (register_with (with_number n [] cards)))
  unfolding register_with first_of
  none_told = rw (none_brought n p).1 (alone_passes [] place refl)

  card_told : (card : List ℕ) → card_number card ≡ n
      → Told (alone (of_card card (number_before (map grown (with_number n (card ∷ []) cards)) place)) place) (length_of (register_with (with_number n (card ∷ []) cards)))
  unfolding register_with
  card_told card k = rw (last_is (below n cards) (card ∷ above n cards) (each_below Given n cards given)) (go (answer_of card last) refl)
    where
      go : (x : Result Answer Refusal) → answer_of card last ≡ x → Told (alone (of_card card last) place) (length_of (laid (with_number n (card ∷ []) cards) (cards_from 0 0 (below n cards ++ (card ∷ above n cards)))))
      go (Ok a) e =
          rw (brought_passes n p card k a e).1 (alone_passes (of_card card last) place (sym (card_verdict card last) ∙ ap verdict_of e))
      go (Err r) e =
          rw (brought_sent n p card r e) (alone_refuses (of_card card last) place r (sym (card_verdict card last) ∙ ap verdict_of e))

brought_told : (e : Edit) (cards : List (List ℕ)) → AllGiven cards → {xs : List Answer} → Passes 0 cards xs
    → Told (alone (of_brought e (last_before e cards)) (new_place e cards)) (length_of (register_with (with_number (named e) (brings e) cards)))
unfolding of_brought edited
brought_told (add card) cards g p = card_told (card_number card) cards g p card refl
brought_told (replace card) cards g p = card_told (card_number card) cards g p card refl
brought_told (withdraw n) cards g p = none_told n cards g p

-- ---- an edit of an accepted register

module _ (e : Edit) (cards : List (List ℕ)) (room : ℕ) (given : AllGiven cards) {xs : List Answer} (p : Passes 0 cards xs) where
  -- 19 and 20 stand at place 0
  abbrev first : ℕ → List Condition
  first = alone (of_edit e cards room) 0

  -- the cards as they would then be, before they gain anything
  abbrev new_cards : List (List ℕ)
  new_cards = with_number (named e) (brings e) cards

  -- and the new card at its own
  abbrev new : ℕ → List Condition
  new = alone (of_brought e (last_before e cards)) (new_place e cards)

  first_refuses : (r : Refusal) → first_of (of_edit e cards room) ≡ refused r → Refuses (further first new) r 0
  first_refuses r q = front_told first new r 0 (alone_refuses (of_edit e cards room) 0 r q) (λ i h. absurd (omega (arith, h)))

  lines_told : Told (edit_lines e cards room) (length_of (changed (named e) (takes e) (brings e) cards room))
  unfolding edit_lines of_edit changed first_of
  lines_told =
      go (bad_presence (takes e) (is_there (named e) cards)) (bad_capacity room (length new_cards)) refl (ap (bad_capacity room) (count_is e cards))
    where
      go : (a b : Bool) → bad_presence (takes e) (is_there (named e) cards) ≡ a → bad_capacity room (length (edited e cards)) ≡ b
          → Told (edit_lines e cards room) (length_of (unless_bad a refusal.Presence (unless_bad b refusal.Capacity (register_with new_cards))))
      go true b q s = first_refuses refusal.Presence (grind (arith, q))
      go false true q s = first_refuses refusal.Capacity (grind (arith, q, s))
      go false false q s =
          behind_told first new (alone_passes (of_edit e cards room) 0 (grind (arith, q, s))) (length_of (register_with new_cards)) (brought_told e cards given p)

-- ---- in a buffer

module _ (e : Edit) (buffer : List ℕ) where
  abbrev own : ℕ → List Condition
  own = conditions_at (held buffer) enough

  abbrev lines : ℕ → List Condition
  lines = edit_lines e (cards_in (held buffer)) (length buffer)

  abbrev result : Result ℕ (SentBack ℕ)
  result = length_of (changed (named e) (takes e) (brings e) (cards_in (held buffer)) (length buffer))

  -- the cards of an accepted register pass
  pub old_passes : OldAccepted buffer → (xs : List Answer) × Passes 0 (cards_in (held buffer)) xs
  old_passes o =
      let f = found (held buffer) enough o.1 in
      (f.list, passes 0 0 (cards_in (held buffer)) f.list f.cards)

  -- and are of a version that somebody gives
  pub old_given : OldAccepted buffer → AllGiven (cards_in (held buffer))
  old_given o = cards_given (held buffer) (accepted_fits (held buffer) enough o.0 o.1)

  pub edit_told : Told (edit_at e buffer) (edit_of e buffer)
  unfolding edit_at register_by
  edit_told = go (outcome_of (held buffer) enough) refl (register_told (held buffer) enough)
    where
      go : (o : Result Leaders (SentBack ℕ)) → outcome_of (held buffer) enough ≡ o → RegisterTold (held buffer) enough o
          → Told (further own (λ p. only (is_ok o) (lines p))) (length_of (after_old o (changed (named e) (takes e) (brings e) (cards_in (held buffer)) (length buffer))))
      go (Ok l) q t =
          behind_told own (λ p. only true (lines p)) t result (same_told (λ p. only true (lines p)) lines (λ p. first_here (lines p)) result (lines_told e (cards_in (held buffer)) (length buffer) (old_given (l, q)) (old_passes (l, q)).1))
      go (Err sent) q t = front_told own (λ p. only false (lines p)) sent.refusal sent.place t (λ p h. first_elsewhere (lines p))

ends : (x : Result ℕ (SentBack ℕ)) → ((n : ℕ) × (x ≡ Ok n)) ⊎ ((r : Refusal) × (place : ℕ) × (x ≡ Err (refused_at r place)))
ends (Ok n) = inl (n, refl)
ends (Err sent) = inr (sent.refusal, sent.place, refl)

pub edited_exactly : EditedExactly
edited_exactly e buffer =
    exactly_by (edit_at e buffer)
    (λ r place. edit_of e buffer ≡ Err (refused_at r place))
    ((n : ℕ) × (edit_of e buffer ≡ Ok n))
    (ends (edit_of e buffer))
    (λ a. subst (Told (edit_at e buffer)) a.1 (edit_told e buffer))
    (λ r place q. subst (Told (edit_at e buffer)) q (edit_told e buffer))
