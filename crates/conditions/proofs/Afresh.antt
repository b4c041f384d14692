-- Of cards that are all answered, the distances worked out afresh from the bytes are those of the farthest cards: so the condition of a
-- wrong distance is the test that the call makes.
-- Assumes nothing.
use Rattle.std.specs.Prelude.{ℕ, zero, suc, ◌≤◌, ◌<◌, ◌≡◌, refl, Bool, true, false, not, eqb, List, [], ◌∷◌, map, Option, Some, None}
use Rattle.std.proofs.Common.{arith, zero-le, le_antisymm, not-suc-le-zero, ◌∙◌, sym, ap, subst, ⊎_elim}
use Rattle.std.proofs.lemmas.Bool.{cases_lt}
use Rattle.std.proofs.lemmas.Bool.Decides.{nat_tests}
use Rattle.search.specs.Rising.{both}
use Rattle.search.specs.Places.{either}
use Rattle.search.specs.Laws.{clash}
use Rattle.units.specs.declared.Miles.{Miles}
use Rattle.buffer.specs.Numbers.{byte_at}
use Rattle.refusals.specs.declared.Refusal.{Refusal}
use Rattle.card.specs.declared.Class.{Class}
use Rattle.card.specs.declared.Class.TheVariants as class
use Rattle.card.specs.declared.Answer.{Answer}
use Rattle.farthest.specs.declared.Leader.{Leader}
use Rattle.farthest.specs.Farthest.{Reaches, farthest_of, leaders_of}
use Rattle.farthest.proofs.Laws.{reaches, leads}
use Rattle.header.specs.Header.{count_of, layout_in, stored_at, stored_if, stored_in, cards_in}
use Rattle.cards.specs.Distances.{distance_in, wrong_for}
use Rattle.cards.specs.Register.{answers, cards_from}
use Rattle.ordering.specs.Order.{kind_of}
use Rattle.ordering.specs.Claim.{card_at, farthest_in}
use Rattle.ordering.proofs.Order.{class_is}
use Rattle.ordering.proofs.Ordering.{in_result}
use Rattle.ordering.proofs.Found.{answer_is_cards, card_has_answer}
use Rattle.prefix.specs.Claim.{distance_of}
use Rattle.prefix.proofs.Kept.{same_class, distance_is}
use Rattle.conditions.specs.Conditions.{Condition, condition, any_of, met, card_lines, have_passed, distance_if, farthest_among, wrong_distance}
use Rattle.conditions.specs.First.{passed, refused, first_of}

-- ---- every card has passed

-- a list that passes has no condition that holds, and one that refuses has
pub none_met : (cs : List Condition) → first_of cs ≡ passed → any_of (map met cs) ≡ false
unfolding first_of
none_met [] e = refl
none_met (condition r true ∷ rest) e = clash (cc)
none_met (condition r false ∷ rest) e = none_met rest e

pub some_met : (cs : List Condition) (r : Refusal) → first_of cs ≡ refused r → any_of (map met cs) ≡ true
unfolding first_of
some_met [] r e = clash (cc)
some_met (condition s true ∷ rest) r e = refl
some_met (condition s false ∷ rest) r e = some_met rest r e

pub all_passed : (bytes : List ℕ) (n : ℕ) → ((p : ℕ) → p < n → first_of (card_lines bytes p) ≡ passed) → have_passed bytes n ≡ true
unfolding have_passed
all_passed bytes zero h = refl
all_passed bytes (suc n) h =
    ap (λ b. both (not b) (have_passed bytes n)) (none_met (card_lines bytes n) (h n (omega arith)))
    ∙ all_passed bytes n (λ p l. h p (omega (arith, l)))

-- one that is refused has not
not_all : (bytes : List ℕ) (n p : ℕ) (r : Refusal) → p < n → first_of (card_lines bytes p) ≡ refused r → have_passed bytes n ≡ false
unfolding have_passed
not_all bytes zero p r l e = absurd (not-suc-le-zero l)
not_all bytes (suc n) p r l e =
    ⊎_elim
    (λ (less : p < n). ap (both (not (any_of (map met (card_lines bytes n))))) (not_all bytes n p r less e) ∙ both_none (not (any_of (map met (card_lines bytes n)))))
    (λ (le : n ≤ p).
    let same : p ≡ n = omega arith in
    ap (λ b. both (not b) (have_passed bytes n)) (some_met (card_lines bytes n) r (subst (λ k. first_of (card_lines bytes k) ≡ refused r) same e)))
    (cases_lt p n)
  where
    both_none : (b : Bool) → both b false ≡ false
    both_none true = refl
    both_none false = refl

-- and then no distance counts
pub refused_hides : (bytes : List ℕ) (p : ℕ) (r : Refusal) → p < count_of bytes → first_of (card_lines bytes p) ≡ refused r → wrong_distance bytes ≡ false
unfolding wrong_distance
refused_hides bytes p r l e = grind (arith, not_all bytes (count_of bytes) p r l e)

-- ---- the largest distance of a class

module _ (c : Class) (bytes : List ℕ) where
  -- no card of the class is farther
  at_least : (n i : ℕ) → i < n → byte_at (card_at bytes i) 0 ≡ kind_of c → distance_of (card_at bytes i) ≤ farthest_among c bytes n
  unfolding farthest_among
  at_least zero i l k = absurd (not-suc-le-zero l)
  at_least (suc n) i l k =
      ⊎_elim
      (λ (less : i < n). let z = at_least n i less k in omega (arith, z))
      (λ (le : n ≤ i).
      let same : i ≡ n = omega arith in
      let here : byte_at (card_at bytes n) 0 ≡ kind_of c = ap (λ j. byte_at (card_at bytes j) 0) (sym same) ∙ k in
      let z : distance_if (eqb (byte_at (card_at bytes n) 0) (kind_of c)) (distance_of (card_at bytes n)) ≡ distance_of (card_at bytes n) = grind (arith, nat_tests, here) in
      let w : distance_of (card_at bytes i) ≡ distance_of (card_at bytes n) = ap (λ j. distance_of (card_at bytes j)) same in
      omega (arith, z, w))
      (cases_lt i n)

  -- and a bound of all of them bounds it
  no_more : (m n : ℕ) → ((i : ℕ) → i < n → byte_at (card_at bytes i) 0 ≡ kind_of c → distance_of (card_at bytes i) ≤ m) → farthest_among c bytes n ≤ m
  unfolding farthest_among
  no_more m zero h = zero-le
  no_more m (suc n) h =
      let rest = no_more m n (λ i l. h i (omega (arith, l))) in
      let here = go (eqb (byte_at (card_at bytes n) 0) (kind_of c)) refl in
      omega (arith, rest, here)
    where
      go : (b : Bool) → eqb (byte_at (card_at bytes n) 0) (kind_of c) ≡ b → distance_if b (distance_of (card_at bytes n)) ≤ m
      go true q = h n (omega arith) (grind (arith, nat_tests, q))
      go false q = zero-le

  module _ {xs : List Answer} (e : cards_from 0 0 (cards_in bytes) ≡ answers xs) where
    reached : (f : Option Leader) (n : ℕ) → Reaches f n → n ≤ distance_in f
    reached None n r = absurd r
    reached (Some lead) n r = r

    -- it is the distance of the farthest card
    farthest_is : farthest_among c bytes (count_of bytes) ≡ distance_in (farthest_of c xs)
    farthest_is = le_antisymm (no_more (distance_in (farthest_of c xs)) (count_of bytes) below) (go (farthest_of c xs) refl)
      where
        below : (i : ℕ) → i < count_of bytes → byte_at (card_at bytes i) 0 ≡ kind_of c → distance_of (card_at bytes i) ≤ distance_in (farthest_of c xs)
        below i l k =
            let x = card_has_answer bytes e i l in
            let same = same_class x.0.class c (sym (class_is (card_at bytes i) x.2 x.3) ∙ k) in
            subst (λ n. n ≤ distance_in (farthest_of c xs)) (sym (distance_is (card_at bytes i) x.2 x.3))
            (reached (farthest_of c xs) x.0.distance.0 (reaches c xs i x.0 x.1 same))

        go : (f : Option Leader) → farthest_of c xs ≡ f → distance_in f ≤ farthest_among c bytes (count_of bytes)
        go None q = zero-le
        go (Some f) q =
            let lead = leads c xs f.number f.distance q in
            let x = answer_is_cards bytes e lead.0 lead.1 lead.2.stands in
            let far : distance_of (card_at bytes lead.0) ≡ f.distance.0 = distance_is (card_at bytes lead.0) x.1 x.2 ∙ ap (λ (m : Miles). m.0) lead.2.far in
            let z = at_least (count_of bytes) lead.0 x.0 (class_is (card_at bytes lead.0) x.1 x.2 ∙ ap kind_of lead.2.of_class) in
            omega (arith, far, z)

    pub afresh : farthest_among c bytes (count_of bytes) ≡ distance_in (farthest_in c (leaders_of xs))
    afresh = farthest_is ∙ ap distance_in (in_result c xs refl)

-- ---- the condition is the call's test

pub wrong_is : (bytes : List ℕ) {xs : List Answer} → cards_from 0 0 (cards_in bytes) ≡ answers xs
    → ((p : ℕ) → p < count_of bytes → first_of (card_lines bytes p) ≡ passed)
    → wrong_distance bytes ≡ wrong_for (stored_in bytes) (leaders_of xs)
unfolding wrong_distance wrong_for stored_in
wrong_is bytes {xs} e h =
    rw (all_passed bytes (count_of bytes) h, afresh class.Toxic bytes e, afresh class.Flammable bytes e) (go (layout_in bytes).stores)
  where
    go : (b : Bool)
        → both b (either (not (eqb (stored_at bytes).toxic (distance_in (leaders_of xs).toxic))) (not (eqb (stored_at bytes).flammable (distance_in (leaders_of xs).flammable))))
        ≡ wrong_for (stored_if b (stored_at bytes)) (leaders_of xs)
    go true = refl
    go false = refl
