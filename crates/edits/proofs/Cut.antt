-- The cards around a number: what the code finds are the cards below it and those above it, and the number is there where these are
-- not all.
-- Assumes nothing.
use Rattle.std.specs.Prelude.{ℕ, suc, ◌+◌, ◌≤◌, ◌<◌, ◌≡◌, refl, Bool, true, false, List, [], ◌∷◌, ◌++◌, map, length, take, drop, get_or, ltb, eqb}
use Rattle.std.proofs.Common.{arith, ◌∙◌, sym, ap, ap₂, ltb-true, ltb-false, eqb-true, lt-ltb, le-ltb, take-append-drop}
use Rattle.std.proofs.lemmas.Bool.{eqb-false, ne_eqb}
use Rattle.std.proofs.lemmas.List.{get_or-map, length-map}
use Rattle.search.specs.Rising.{first_at_least}
use Rattle.std.proofs.lemmas.Bool.Decides.{nat_tests}
use Rattle.search.specs.Places.{either}
use Rattle.edits.specs.Edits.{card_number, keep_if, below, above, is_there}
use Rattle.search.specs.Laws.{first_on, first_here, first_unique, first_within}
use Rattle.edits.specs.Around.{AllPass, place_of, one_if, named_in}
use Rattle.edits.proofs.Rising.{Rising, no_more, higher, passes, rising}

-- the one place with lower numbers before it, and itself not lower or the end
pub place_unique : (n : ℕ) (cards : List (List ℕ)) (i : ℕ) → i ≤ length cards → ((k : ℕ) → k < i → card_number (get_or cards k []) < n)
    → (i < length cards → n ≤ card_number (get_or cards i [])) → i ≡ place_of n cards
place_unique n cards i h before here =
    sym (first_unique (map card_number cards) n i (omega (arith, h, length-map cards card_number)) lower reached)
  where
    lower : (k : ℕ) → k < i → get_or (map card_number cards) k 0 < n
    lower k l = let z = get_or-map card_number cards k [] 0 (omega (arith, l, h)) in let w = before k l in omega (arith, z, w)

    reached : i < length (map card_number cards) → n ≤ get_or (map card_number cards) i 0
    reached l =
        let m : i < length cards = omega (arith, l, length-map cards card_number) in
        let z = get_or-map card_number cards i [] 0 m in
        let w = here m in omega (arith, z, w)

-- a card of the number stands in front, one of another, or none
module _ (n : ℕ) (cards : List (List ℕ)) where
  pub named_empty : length cards ≡ 0 → 0 ≡ named_in n cards
  unfolding named_in
  named_empty h = go cards h
    where
      go : (cs : List (List ℕ)) → length cs ≡ 0 → 0 ≡ named_in n cs
      go [] e = refl
      go (first ∷ rest) e = absurd (omega (arith, e))

  first_is : 0 < length cards → {card : List ℕ} → card ≡ get_or cards 0 [] → named_in n cards ≡ one_if (eqb (card_number card) n)
  unfolding named_in
  first_is h {card} e = go cards h e
    where
      go : (cs : List (List ℕ)) → 0 < length cs → card ≡ get_or cs 0 [] → named_in n cs ≡ one_if (eqb (card_number card) n)
      go [] l q = absurd (omega (arith, l))
      go (first ∷ rest) l q = ap (λ (c : List ℕ). one_if (eqb (card_number c) n)) (sym q)

  pub named_one : {card : List ℕ} → card ≡ get_or cards 0 [] → 0 < length cards → card_number card ≡ n → 1 ≡ named_in n cards
  named_one {card} e h q = let same : eqb (card_number card) n ≡ true = grind (arith, nat_tests, q) in sym (first_is h e ∙ ap one_if same)

  pub named_other : {card : List ℕ} → card ≡ get_or cards 0 [] → 0 < length cards → (card_number card ≡ n → ⊥) → 0 ≡ named_in n cards
  named_other {card} e h q = sym (first_is h e ∙ ap one_if (ne_eqb (card_number card) n q))

-- behind a number that is not below it, no card is
pub below_none : {last : ℕ} {cards : List (List ℕ)} (n : ℕ) → n ≤ suc last → Rising last cards → below n cards ≡ []
unfolding below
below_none n h no_more = refl
below_none n h (higher {last} {card} {rest} l r) =
    ap (λ b. keep_if b card (below n rest)) (le-ltb (card_number card) n (omega arith)) ∙ below_none n (omega arith) r

-- every card is above it
pub above_all : {last : ℕ} {cards : List (List ℕ)} (n : ℕ) → n ≤ last → Rising last cards → above n cards ≡ cards
unfolding above
above_all n h no_more = refl
above_all n h (higher {last} {card} {rest} l r) =
    ap₂ (λ b (cs : List (List ℕ)). keep_if b card cs) (lt-ltb n (card_number card) (omega arith)) (above_all n (omega arith) r)

-- the cards behind the one that is named, or all of them
abbrev behind : ℕ → List (List ℕ) → List (List ℕ)
behind n cards = drop (named_in n cards) cards

-- the cards of a list with rising numbers, cut at the place
record Cut (n : ℕ) (cards : List (List ℕ)) : Type 0 where
  low : take (place_of n cards) cards ≡ below n cards
  high : behind n (drop (place_of n cards) cards) ≡ above n cards

module _ (n : ℕ) (card : List ℕ) (rest : List (List ℕ)) where
  cut_lower : card_number card < n → Cut n rest → Cut n (card ∷ rest)
  unfolding below above
  cut_lower h s =
      let t = lt-ltb (card_number card) n h in
      let f = le-ltb n (card_number card) (omega arith) in
      let u : place_of n (card ∷ rest) ≡ suc (place_of n rest) = first_on n (card_number card) (map card_number rest) h in
      record {
        low = ap (λ i. take i (card ∷ rest)) u ∙ (ap (λ (cs : List (List ℕ)). card ∷ cs) s.low ∙ sym (ap (λ b. keep_if b card (below n rest)) t));
        high = ap (λ i. behind n (drop i (card ∷ rest))) u ∙ (s.high ∙ sym (ap (λ b. keep_if b card (above n rest)) f));
      }

  cut_here : n ≤ card_number card → Rising (card_number card) rest → Cut n (card ∷ rest)
  unfolding below above named_in
  cut_here h r =
      let t = le-ltb (card_number card) n h in
      let u : place_of n (card ∷ rest) ≡ 0 = first_here n (card_number card) (map card_number rest) h in
      record {
        low = ap (λ i. take i (card ∷ rest)) u ∙ sym (ap (λ b. keep_if b card (below n rest)) t ∙ below_none n (omega (arith, h)) r);
        high = ap (λ i. behind n (drop i (card ∷ rest))) u ∙ kept (eqb (card_number card) n) refl;
      }
    where
      kept : (b : Bool) → eqb (card_number card) n ≡ b → drop (one_if b) (card ∷ rest) ≡ keep_if (ltb n (card_number card)) card (above n rest)
      kept true e =
          let same = eqb-true (card_number card) n e in
          sym (ap (λ b. keep_if b card (above n rest)) (le-ltb n (card_number card) (omega (arith, same))) ∙ above_all n (omega (arith, h)) r)
      kept false e =
          let other = eqb-false (card_number card) n e in
          sym (ap₂ (λ b (cs : List (List ℕ)). keep_if b card cs) (lt-ltb n (card_number card) (higher_than other)) (above_all n (omega (arith, h)) r))
        where
          higher_than : (card_number card ≡ n → ⊥) → n < card_number card
          higher_than x = omega (arith, h)

cut : {last : ℕ} {cards : List (List ℕ)} (n : ℕ) → Rising last cards → Cut n cards
unfolding below above named_in first_at_least
cut n no_more = record { low = refl; high = refl }
cut n (higher {last} {card} {rest} l r) = go (ltb (card_number card) n) refl (cut n r)
  where
    go : (b : Bool) → ltb (card_number card) n ≡ b → Cut n rest → Cut n (card ∷ rest)
    go true e s = cut_lower n card rest (ltb-true (card_number card) n e) s
    go false e s = cut_here n card rest (ltb-false (card_number card) n e) r

module _ (n : ℕ) (cards : List (List ℕ)) (p : AllPass cards) where
  cut_of : Cut n cards
  cut_of = cut n (rising (passes 0 0 cards p.0 p.1))

  pub low_is : (place : ℕ) → place ≡ place_of n cards → take place cards ≡ below n cards
  unfolding cut_of
  low_is place e = ap (λ i. take i cards) e ∙ cut_of.low

  pub high_is : (place named : ℕ) → place ≡ place_of n cards → named ≡ named_in n (drop place cards) → drop named (drop place cards) ≡ above n cards
  unfolding cut_of
  high_is place named e f = ap (λ k. drop k (drop place cards)) f ∙ (ap (λ i. behind n (drop i cards)) e ∙ cut_of.high)

-- the parts are all cards, whether their numbers rise or not
pub place_within : (n : ℕ) (cards : List (List ℕ)) (place : ℕ) → place ≡ place_of n cards → place ≤ length cards
place_within n cards place e = omega (arith, e, first_within n (map card_number cards), length-map cards card_number)

pub named_within : (n : ℕ) (cards : List (List ℕ)) (named : ℕ) → named ≡ named_in n cards → named ≤ length cards
unfolding named_in
named_within n [] named e = omega (arith, e)
named_within n (card ∷ rest) named e = go (eqb (card_number card) n) e
  where
    go : (b : Bool) → named ≡ one_if b → named ≤ suc (length rest)
    go true q = omega (arith, q)
    go false q = omega (arith, q)

pub all_parts : (cards : List (List ℕ)) (place named : ℕ) → take place cards ++ (take named (drop place cards) ++ drop named (drop place cards)) ≡ cards
all_parts cards place named = ap (λ (rest : List (List ℕ)). take place cards ++ rest) (take-append-drop named (drop place cards)) ∙ take-append-drop place cards

-- the number is there where the cards below it and those above it are not all
pub there_is : (n : ℕ) (cards : List (List ℕ)) → (ltb (length (below n cards) + length (above n cards)) (length cards) ≡ is_there n cards) × (length (below n cards) + length (above n cards) ≤ length cards)
unfolding below above is_there
there_is n [] = (refl, omega arith)
there_is n (card ∷ rest) =
    go (ltb (card_number card) n) (ltb n (card_number card)) (eqb (card_number card) n) refl refl refl (there_is n rest)
  where
    go : (a b c : Bool) → ltb (card_number card) n ≡ a → ltb n (card_number card) ≡ b → eqb (card_number card) n ≡ c
        → (ltb (length (below n rest) + length (above n rest)) (length rest) ≡ is_there n rest) × (length (below n rest) + length (above n rest) ≤ length rest)
        → (ltb (length (keep_if a card (below n rest)) + length (keep_if b card (above n rest))) (suc (length rest)) ≡ either c (is_there n rest)) × (length (keep_if a card (below n rest)) + length (keep_if b card (above n rest)) ≤ suc (length rest))
    go true true c p q r s = absurd (grind (arith, nat_tests, p, q))
    go true false true p q r s = absurd (grind (arith, nat_tests, p, q, r))
    go true false false p q r s = (grind (arith, nat_tests, s.0), omega (arith, s.1))
    go false true true p q r s = absurd (grind (arith, nat_tests, p, q, r))
    go false true false p q r s = (grind (arith, nat_tests, s.0), omega (arith, s.1))
    go false false true p q r s = (lt-ltb _ _ (omega (arith, s.1)), omega (arith, s.1))
    go false false false p q r s = absurd (grind (arith, nat_tests, p, q, r))
