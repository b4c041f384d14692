-- What the table of an edit says in plain words: of 19 and 20, and of 1 and 4.
-- Assumes nothing.
use Rattle.std.specs.Prelude.{ℕ, zero, suc, ◌≤◌, ◌<◌, ◌≡◌, refl, Bool, true, false, not, List, [], ◌∷◌, ◌++◌, map, ◌⊎◌, ltb, eqb, length, get_or, take, min, Err}
use Rattle.std.specs.Bool.{Decides}
use Rattle.std.proofs.Common.{arith, ◌∙◌, sym, ap, ⊎_elim, eqb-true, length-take}
use Rattle.std.proofs.lemmas.List.{get_or-take}
use Rattle.std.proofs.lemmas.Bool.Decides.{nat_tests, Decides-not}
use Rattle.search.specs.Places.{either, every}
use Rattle.search.specs.Laws.{clash}
use Rattle.refusals.specs.declared.Refusal.{Refusal}
use Rattle.refusals.specs.declared.Refusal.TheVariants as refusal
use Rattle.refusals.specs.Numbers.{number_of, refused_at}
use Rattle.header.specs.Header.{bad_length, bad_count, bad_buffer, header_of, count_of, cards_in, enough}
use Rattle.buffer.specs.Numbers.{four_at}
use Rattle.cards.specs.Register.{outcome_of}
use Rattle.conditions.specs.Conditions.{only, of_register, of_card, card_lines, at_last, conditions_at}
use Rattle.conditions.specs.First.{refused, first_of}
use Rattle.edits.specs.Edits.{Edit, add, replace, withdraw, card_number, named, takes, edited, is_there, bad_presence, bad_capacity, held, changed, register_by, edit_of}
use Rattle.edit_conditions.specs.EditConditions.{of_edit, of_brought}
use Rattle.edit_conditions.specs.EditClaim.{brought_numbers, OldAccepted, IsAmong, BadPresence, BadCapacity, LengthPlain, PresencePlain, CapacityPlain, NeverFour}
use Rattle.edit_conditions.proofs.EditExactly.{count_is}
use Rattle.edit_conditions.proofs.Sources.{Lack, never, either_list, where_met, Source, of_old, of_both, of_new, source}

-- ---- 19 and 20

-- a card of a number is among some cards
module _ (n : ℕ) where
  there_says : (cards : List (List ℕ)) → is_there n cards ≡ true → IsAmong n cards
  unfolding is_there
  there_says [] h = clash (cc)
  there_says (card ∷ rest) h = go (eqb (card_number card) n) refl h (there_says rest)
    where
      go : (b : Bool) → eqb (card_number card) n ≡ b → either b (is_there n rest) ≡ true → (is_there n rest ≡ true → IsAmong n rest) → IsAmong n (card ∷ rest)
      go true q k ih = (0, omega arith, eqb-true (card_number card) n q)
      go false q k ih = let a = ih k in (suc a.0, omega (arith, a.1), a.2)

  there_holds : (cards : List (List ℕ)) (i : ℕ) → i < length (map card_number cards) → get_or (map card_number cards) i n ≡ n → is_there n cards ≡ true
  unfolding is_there
  there_holds [] i h q = absurd (omega (arith, h))
  there_holds (card ∷ rest) zero h q = grind (arith, nat_tests, q)
  there_holds (card ∷ rest) (suc i) h q = grind (arith, nat_tests, there_holds rest i (omega (arith, h)) q)

  pub there_is : (cards : List (List ℕ)) → Decides (is_there n cards) (IsAmong n cards)
  there_is cards = (there_says cards, λ a. there_holds cards a.0 a.1 a.2)

presence_is : (e : Edit) (cards : List (List ℕ)) → Decides (bad_presence (takes e) (is_there (named e) cards)) (BadPresence e cards)
presence_is (add card) cards = there_is (card_number card) cards
presence_is (replace card) cards = Decides-not (is_there (card_number card) cards) (there_is (card_number card) cards)
presence_is (withdraw n) cards = Decides-not (is_there n cards) (there_is n cards)

pub capacity_is : (room count : ℕ) → Decides (bad_capacity room count) (BadCapacity room count)
unfolding bad_capacity
capacity_is room count = (λ h. grind (arith, nat_tests, h), λ h. grind (arith, nat_tests, h))

module _ (e : Edit) (buffer : List ℕ) (o : OldAccepted buffer) where
  -- on an accepted register 19 comes where it holds, and 20 where 19 does not
  pub presence_comes : BadPresence e (cards_in (held buffer)) → edit_of e buffer ≡ Err (refused_at refusal.Presence 0)
  unfolding register_by changed
  presence_comes b = grind (arith, o.1, (presence_is e (cards_in (held buffer))).1 b)

  pub capacity_comes : (BadPresence e (cards_in (held buffer)) → ⊥) → BadCapacity (length buffer) (length (edited e (cards_in (held buffer)))) → edit_of e buffer ≡ Err (refused_at refusal.Capacity 0)
  unfolding register_by changed
  capacity_comes none b =
      let absent : bad_presence (takes e) (is_there (named e) (cards_in (held buffer))) ≡ true → ⊥ = λ h. none ((presence_is e (cards_in (held buffer))).0 h) in
      grind (arith, o.1, absent, (capacity_is (length buffer) (length (edited e (cards_in (held buffer))))).1 b, count_is e (cards_in (held buffer)))

-- 19 and 20 come from nowhere else
module _ (e : Edit) (cards : List (List ℕ)) (room : ℕ) where
  presence_only : first_of (of_edit e cards room) ≡ refused refusal.Presence → bad_presence (takes e) (is_there (named e) cards) ≡ true
  unfolding of_edit first_of
  presence_only h = grind (arith, h)

  capacity_only : first_of (of_edit e cards room) ≡ refused refusal.Capacity → (bad_presence (takes e) (is_there (named e) cards) ≡ false) × (bad_capacity room (length (edited e cards)) ≡ true)
  unfolding of_edit first_of
  capacity_only h = grind (arith, h)

-- a card has no number but a card's
pub never_new : (r : Refusal) (e : Edit) (last : ℕ) → every (λ k. not (eqb k (number_of r))) (brought_numbers (add [])) ≡ true → first_of (of_brought e last) ≡ refused r → ⊥
unfolding of_brought of_card
never_new r (add card) last l h = never r (of_card card last) l h
never_new r (replace card) last l h = never r (of_card card last) l h
never_new r (withdraw n) last l h = never r [] refl h

pub presence_plain : PresencePlain
unfolding conditions_at only of_register of_card at_last
presence_plain e buffer place = (
  λ h. go (source e buffer refusal.Presence place h),
  λ t. presence_comes e buffer t.1 t.2 ∙ ap (λ p. Err (refused_at refusal.Presence p)) (sym t.0),
)
  where
    go : Source e buffer refusal.Presence place → (place ≡ 0) × OldAccepted buffer × BadPresence e (cards_in (held buffer))
    go (of_old h) = absurd (never refusal.Presence (conditions_at (held buffer) enough place) refl h)
    go (of_both o p h) =
        (p, o, (presence_is e (cards_in (held buffer))).0 (presence_only e (cards_in (held buffer)) (length buffer) h))
    go (of_new o p h) = absurd (never_new refusal.Presence e _ refl h)

pub capacity_plain : CapacityPlain
unfolding conditions_at only of_register of_card at_last
capacity_plain e buffer place = (
  λ h. go (source e buffer refusal.Capacity place h),
  λ t. capacity_comes e buffer t.1 t.2 t.3 ∙ ap (λ p. Err (refused_at refusal.Capacity p)) (sym t.0),
)
  where
    go : Source e buffer refusal.Capacity place
        → (place ≡ 0) × OldAccepted buffer × (BadPresence e (cards_in (held buffer)) → ⊥) × BadCapacity (length buffer) (length (edited e (cards_in (held buffer))))
    go (of_old h) = absurd (never refusal.Capacity (conditions_at (held buffer) enough place) refl h)
    go (of_both o p h) =
        let c = capacity_only e (cards_in (held buffer)) (length buffer) h in (
          p,
          o,
          λ b. let t = (presence_is e (cards_in (held buffer))).1 b in let f = c.0 in clash (cc),
          (capacity_is (length buffer) (length (edited e (cards_in (held buffer))))).0 c.1,
        )
    go (of_new o p h) = absurd (never_new refusal.Capacity e _ refl h)

-- ---- 1 and 4

-- the length field is read off the buffer as off the register, where that has one
field_held : (buffer : List ℕ) (n : ℕ) → 4 ≤ n → four_at (take n buffer) 0 ≡ four_at buffer 0
field_held buffer n h =
    rw (get_or-take n buffer 0 0 (omega arith), get_or-take n buffer 1 0 (omega arith), get_or-take n buffer 2 0 (omega arith), get_or-take n buffer 3 0 (omega arith))

-- 1 by numbers: the register's length, its own length field, the buffer's and the buffer's length
field_bad : (size own field room : ℕ) → size ≡ min field room → (4 ≤ field → own ≡ field) → Decides (either (ltb size 7) (not (eqb own size))) ((field < 7) ⊎ (room < field))
field_bad size own field room e k = (λ h. grind (arith, nat_tests, e, k, h), λ h. grind (arith, nat_tests, e, k, h))

length_is : (buffer : List ℕ) → Decides (bad_length (held buffer)) ((four_at buffer 0 < 7) ⊎ (length buffer < four_at buffer 0))
unfolding bad_length held
length_is buffer =
    field_bad (length (held buffer)) (four_at (held buffer) 0) (four_at buffer 0) (length buffer) (length-take (four_at buffer 0) buffer) (field_held buffer (four_at buffer 0))

module _ (register : List ℕ) (place : ℕ) where
  -- what is neither a card's nor the last line's is the header's
  header_alone : (r : Refusal) → Lack r (only (ltb place (count_of register)) (card_lines register place) ++ only (eqb place 0) (at_last register))
      → first_of (conditions_at register enough place) ≡ refused r → (place ≡ 0) × (first_of (of_register register enough) ≡ refused r)
  unfolding conditions_at
  header_alone r l h =
      let others = only (ltb place (count_of register)) (card_lines register place) ++ only (eqb place 0) (at_last register) in
      ⊎_elim
      (λ k. let w = where_met (eqb place 0) (of_register register enough) r k in (eqb-true place 0 w.0, w.1))
      (λ k. absurd (never r others l k))
      (either_list (only (eqb place 0) (of_register register enough)) others r h)

  header_length : first_of (of_register register enough) ≡ refused refusal.Length → bad_length register ≡ true
  unfolding of_register first_of
  header_length h = grind (arith, h)

  -- where 32,000 bytes are under 16 × count, the count is above 2,000: 3 holds too
  header_no_four : first_of (of_register register enough) ≡ refused refusal.Buffer → ⊥
  unfolding of_register first_of bad_count bad_buffer
  header_no_four h = grind (arith, nat_tests, h)

length_refuses : (buffer : List ℕ) → bad_length (held buffer) ≡ true → (e : Edit) → edit_of e buffer ≡ Err (refused_at refusal.Length 0)
unfolding outcome_of header_of register_by
length_refuses buffer h e = rw h refl

pub length_plain : LengthPlain
unfolding of_card only at_last of_edit
length_plain e buffer place = (
  λ h. go (source e buffer refusal.Length place h),
  λ t. length_refuses buffer ((length_is buffer).1 t.1) e ∙ ap (λ p. Err (refused_at refusal.Length p)) (sym t.0),
)
  where
    go : Source e buffer refusal.Length place → (place ≡ 0) × ((four_at buffer 0 < 7) ⊎ (length buffer < four_at buffer 0))
    go (of_old h) =
        let w = header_alone (held buffer) place refusal.Length refl h in
        (w.0, (length_is buffer).0 (header_length (held buffer) place w.1))
    go (of_both o p h) = absurd (never refusal.Length (of_edit e _ _) refl h)
    go (of_new o p h) = absurd (never_new refusal.Length e _ refl h)

pub never_four : NeverFour
unfolding of_card only at_last of_edit
never_four e buffer place h = go (source e buffer refusal.Buffer place h)
  where
    go : Source e buffer refusal.Buffer place → ⊥
    go (of_old h) =
        header_no_four (held buffer) place (header_alone (held buffer) place refusal.Buffer refl h).1
    go (of_both o p h) = never refusal.Buffer (of_edit e (cards_in (held buffer)) (length buffer)) refl h
    go (of_new o p h) = never_new refusal.Buffer e _ refl h
