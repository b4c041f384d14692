-- A register that is laid from cards that pass is accepted, has these cards, each as version 3 has it, and stores the distances of their
-- leaders; and a buffer that starts with it holds it.
-- Assumes nothing.
use Rattle.std.specs.Prelude.{ℕ, zero, suc, ◌+◌, ◌*◌, ◌^◌, ◌≤◌, ◌<◌, ◌≡◌, refl, false, List, ◌++◌, map, length, take, drop, Option, Some, None, Ok}
use Rattle.std.specs.List.{concat}
use Rattle.std.specs.Simd.{first_chunks}
use Rattle.std.proofs.Common.{arith, ◌∙◌, sym, ap, ap₂, subst, le-ltb, eq-eqb, take_at, drop_at}
use Rattle.units.specs.declared.Miles.{Miles}
use Rattle.buffer.specs.Numbers.{two_at, four_at, two_bytes, four_bytes}
use Rattle.card.specs.declared.Answer.{Answer}
use Rattle.card.specs.declared.Class.{Class}
use Rattle.card.specs.declared.Class.TheVariants as class
use Rattle.farthest.specs.declared.Leader.{Leader}
use Rattle.farthest.specs.Farthest.{At, farthest_of, leaders_of}
use Rattle.farthest.proofs.Laws.{leads, leaders_toxic, leaders_flammable}
use Rattle.header.specs.declared.Layout.{Layout}
use Rattle.header.specs.Header.{version_of, count_of, stored_at, third_layout, layout_of, laid, layout_in, size_of, cards_in, stored_if, stored_in, enough, bad_length, bad_version, bad_count, bad_buffer, unknown, header_of}
use Rattle.header.specs.InTurn.{Sized}
use Rattle.seasons.specs.Seasons.{grown}
use Rattle.cards.specs.Distances.{distance_in, wrong_for}
use Rattle.cards.specs.Register.{answers, cards_from, unless_wrong, settled, cards_of, result_of, outcome_of}
use Rattle.distances.proofs.Fits.{distance_fits}
use Rattle.edits.specs.Edits.{edit_version, header_bytes, register_of, held}
use Rattle.edits.proofs.Rising.{Passes, passed_all, passed_one, passes}
use Rattle.edits.specs.Around.{AllGiven}
use Rattle.edits.proofs.Growing.{grown_count, grown_sized, grown_from}
use Rattle.edits.proofs.Lists.{bytes_length, chunks_back}

-- ---- distances fit two bytes

answer_fits : {last : ℕ} {cards : List (List ℕ)} {xs : List Answer} → Passes last cards xs → (i : ℕ) (a : Answer) → At xs i a → a.distance.0 < 2 ^ 16
answer_fits passed_all i a w = absurd w
answer_fits (passed_one {last} {card} e p) zero a w = subst (λ (b : Answer). b.distance.0 < 2 ^ 16) (sym w) (distance_fits card last e)
answer_fits (passed_one e p) (suc i) a w = answer_fits p i a w

leader_fits : {last : ℕ} {cards : List (List ℕ)} (c : Class) (xs : List Answer) → Passes last cards xs → distance_in (farthest_of c xs) < 2 ^ 16
leader_fits c xs p = go (farthest_of c xs) refl
  where
    go : (f : Option Leader) → farthest_of c xs ≡ f → distance_in f < 2 ^ 16
    go None q = omega arith
    go (Some lead) q =
        let l = leads c xs lead.number lead.distance q in
        subst (λ (m : Miles). m.0 < 2 ^ 16) l.2.far (answer_fits p l.0 l.1 l.2.stands)

-- ---- the register

module _ (cards : List (List ℕ)) (xs : List Answer) (given : AllGiven cards) (few : length cards ≤ 2_000) (check : cards_from 0 0 cards ≡ answers xs) where
  abbrev register : List ℕ
  register = register_of cards (leaders_of xs)

  toxic : ℕ
  toxic = distance_in (leaders_of xs).toxic

  flammable : ℕ
  flammable = distance_in (leaders_of xs).flammable

  toxic_fits : toxic < 2 ^ 16
  unfolding toxic
  toxic_fits = subst (λ f. distance_in f < 2 ^ 16) (sym (leaders_toxic xs)) (leader_fits class.Toxic xs (passes 0 0 cards xs check))

  flammable_fits : flammable < 2 ^ 16
  unfolding flammable
  flammable_fits = subst (λ f. distance_in f < 2 ^ 16) (sym (leaders_flammable xs)) (leader_fits class.Flammable xs (passes 0 0 cards xs check))

  -- its cards, each as version 3 has it
  abbrev now : List (List ℕ)
  now = map grown cards

  sized : Sized 28 now
  sized = grown_sized cards given

  pub length_is : length register ≡ 11 + 28 * length cards
  unfolding register_of header_bytes four_bytes two_bytes
  length_is = omega (arith, bytes_length 28 now sized, grown_count cards)

  -- what is read off it, from the front
  field_is : four_at register 0 ≡ 11 + 28 * length cards
  unfolding register_of header_bytes four_bytes two_bytes
  field_is = omega (arith, few)

  pub version_is : version_of register ≡ edit_version
  unfolding register_of header_bytes four_bytes two_bytes
  version_is = refl

  count_is : count_of register ≡ length cards
  unfolding register_of header_bytes four_bytes two_bytes
  count_is = omega (arith, few)

  pub size_is : length register ≡ 11 + 28 * count_of register
  size_is = length_is ∙ ap (λ n. 11 + 28 * n) (sym count_is)

  toxic_is : two_at register 7 ≡ toxic
  unfolding register_of header_bytes four_bytes two_bytes toxic
  toxic_is = let h = toxic_fits in omega (arith, h)

  flammable_is : two_at register 9 ≡ flammable
  unfolding register_of header_bytes four_bytes two_bytes flammable
  flammable_is = let h = flammable_fits in omega (arith, h)

  behind : drop 11 register ≡ concat now
  unfolding register_of header_bytes four_bytes two_bytes
  behind = refl

  layout_is : layout_in register ≡ third_layout
  unfolding layout_in layout_of
  layout_is = ap (λ v. laid (layout_of v)) version_is

  -- so its cards are these
  pub cards_are : cards_in register ≡ now
  unfolding cards_in
  cards_are =
      ap (λ (l : Layout). first_chunks l.card (count_of register) (drop l.header register)) layout_is
      ∙ (ap₂ (λ n (b : List ℕ). first_chunks 28 n b) (count_is ∙ sym (grown_count cards)) behind ∙ chunks_back 28 now sized)

  -- and what it stores is right
  right : wrong_for (stored_in register) (leaders_of xs) ≡ false
  unfolding wrong_for stored_in toxic flammable
  right =
      ap (λ (l : Layout). wrong_for (stored_if l.stores (stored_at register)) (leaders_of xs)) layout_is
      ∙ rw (eq-eqb (two_at register 7) (distance_in (leaders_of xs).toxic) toxic_is, eq-eqb (two_at register 9) (distance_in (leaders_of xs).flammable) flammable_is) refl

  whole : bad_length register ≡ false
  unfolding bad_length
  whole =
      rw (le-ltb (length register) 7 (omega (arith, length_is)), eq-eqb (four_at register 0) (length register) (field_is ∙ sym length_is)) refl

  known : bad_version register ≡ false
  unfolding bad_version layout_of
  known = ap (λ v. unknown (layout_of v)) version_is

  counted : bad_count register ≡ false
  unfolding bad_count
  counted =
      let a : count_of register ≤ 2_000 = omega (arith, count_is, few) in
      let b : length register ≡ size_of (layout_in register) (count_of register) = length_is ∙ sym (ap₂ (λ l n. size_of l n) layout_is count_is) in
      rw (le-ltb 2_000 (count_of register) a, eq-eqb (length register) (size_of (layout_in register) (count_of register)) b) refl

  roomy : bad_buffer register enough ≡ false
  unfolding bad_buffer
  roomy = le-ltb enough (16 * count_of register) (omega (arith, count_is, few))

  -- so that it is accepted
  pub accepts : outcome_of register enough ≡ Ok (leaders_of xs)
  unfolding outcome_of header_of cards_of
  accepts =
      rw (whole, known, counted, roomy)
      (ap result_of
      (ap (settled (stored_in register)) (ap (cards_from 0 0) cards_are ∙ (grown_from 0 0 cards given ∙ check))
      ∙ ap (λ b. unless_wrong b xs) right))

  -- a buffer that starts with it holds it
  module _ (rest : List ℕ) where
    pub held_back : held (register ++ rest) ≡ register
    unfolding held register_of header_bytes four_bytes two_bytes
    held_back =
        let z : four_at (register ++ rest) 0 ≡ length register = omega (arith, few, length_is) in
        ap (λ n. take n (register ++ rest)) z ∙ take_at register rest (length register) refl

    pub rest_back : drop (length register) (register ++ rest) ≡ rest
    rest_back = drop_at register rest (length register) refl
