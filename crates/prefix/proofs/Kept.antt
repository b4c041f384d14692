-- The definition of the leaders after the first k cards says what the paper's words say (`Claim.antt`).
-- Assumes nothing.
use Rattle.std.specs.Prelude.{ℕ, zero, suc, ◌≤◌, ◌<◌, ◌≡◌, refl, List, [], ◌∷◌, length, take, Option, Some, Result, Ok, Err}
use Rattle.refusals.specs.declared.SentBack.{SentBack}
use Rattle.farthest.specs.Farthest.{leader}
use Rattle.refusals.specs.Numbers.{refused_at}
use Rattle.std.proofs.Common.{zero-le, suc-le-suc, le_of_suc-le-suc, not-suc-le-zero, arith, ◌∙◌, sym, ap, subst, take_all}
use Rattle.units.specs.declared.Miles.{Miles}
use Rattle.buffer.specs.Numbers.{four_at}
use Rattle.fields.specs.Layout.{fields_of}
use Rattle.refusals.specs.declared.Refusal.{Refusal}
use Rattle.card.specs.declared.Class.{Class}
use Rattle.card.specs.declared.Answer.{Answer}
use Rattle.card.specs.Answers.{answer_of}
use Rattle.ordering.specs.Order.{kind_of}
use Rattle.ordering.proofs.Order.{answer_first, class_is}
use Rattle.card.specs.Number.{answer_number}
use Rattle.farthest.specs.declared.Leaders.{Leaders}
use Rattle.farthest.specs.Farthest.{At, Reaches, farthest_of, leaders_of}
use Rattle.farthest.proofs.Laws.{reaches, leads, none_only, none_if}
use Rattle.header.specs.declared.Stored.{Stored}
use Rattle.header.specs.Header.{enough, header_of, count_of, stored_in, cards_in}
use Rattle.header.proofs.Chunks.{cards_counted}
use Rattle.cards.specs.Register.{Cards, answers, sent_back, cards_from, settled, cards_of, result_of, after_header, outcome_of}
use Rattle.cards.proofs.Laws.{cards_count, settled_is}
use Rattle.ordering.specs.Claim.{card_at}
use Rattle.ordering.proofs.Ordering.{in_result}
use Rattle.ordering.proofs.Found.{found, found_cards, from_card, to_card}
use Rattle.prefix.specs.Prefix.{result_after, result_behind, prefix_of}
use Rattle.prefix.specs.Claim.{distance_in, distance_of, Among, LeaderOfFirst, FarthestOfFirst, Keeps}

-- ---- the first k of a list

at_first : (xs : List Answer) (k i : ℕ) (a : Answer) → i < k → At xs i a → At (take k xs) i a
at_first [] k i a h w = absurd w
at_first (x ∷ xs) zero i a h w = absurd (not-suc-le-zero h)
at_first (x ∷ xs) (suc k) zero a h w = w
at_first (x ∷ xs) (suc k) (suc i) a h w = at_first xs k i a (le_of_suc-le-suc h) w

first_at : (xs : List Answer) (k i : ℕ) (a : Answer) → At (take k xs) i a → (i < k) × At xs i a
first_at xs zero i a w = absurd w
first_at [] (suc k) i a w = absurd w
first_at (x ∷ xs) (suc k) zero a w = (suc-le-suc zero-le, w)
first_at (x ∷ xs) (suc k) (suc i) a w = let r = first_at xs k i a w in (suc-le-suc r.0, r.1)

-- ---- one card

pub same_class : (c d : Class) → kind_of c ≡ kind_of d → c ≡ d
same_class c d e = grind arith

pub distance_is : (card : List ℕ) (last : ℕ) {a : Answer} → answer_of card last ≡ Ok a → distance_of card ≡ a.distance.0
unfolding distance_of
distance_is card last e = ap distance_in (answer_first card last e)

number_is : (card : List ℕ) (last : ℕ) {a : Answer} → answer_of card last ≡ Ok a → four_at card 20 ≡ a.number
unfolding fields_of
number_is card last e = sym (answer_number card last e)

-- ---- the first k cards of an accepted register

module _ (c : Class) (bytes : List ℕ) (k : ℕ) {l : Leaders} (e : outcome_of bytes enough ≡ Ok l) where
  abbrev First : List Answer
  First = take k (found bytes enough e).list

  -- an answer among the first k is that of a card among them, and of its class
  record Card (i : ℕ) (a : Answer) : Type 0 where
    among : Among c bytes k i
    last : ℕ
    answer : answer_of (card_at bytes i) last ≡ Ok a

  to_place : (i : ℕ) (a : Answer) → At First i a → a.class ≡ c → Card i a
  to_place i a w same =
      let r = first_at (found bytes enough e).list k i a w in
      let x = from_card bytes enough e i a r.1 in
      record {
        among = record { early = r.0; there = x.0; kind = class_is (card_at bytes i) x.1 x.2 ∙ ap kind_of same };
        last = x.1;
        answer = x.2;
      }

  -- and the other way round
  record Answers (i : ℕ) : Type 0 where
    answer : Answer
    stands : At First i answer
    of_class : answer.class ≡ c
    far : distance_of (card_at bytes i) ≡ answer.distance.0

  to_answer : (i : ℕ) → Among c bytes k i → Answers i
  to_answer i m =
      let x = to_card bytes enough e i m.there in
      record {
        answer = x.0;
        stands = at_first (found bytes enough e).list k i x.0 m.early x.1;
        of_class = same_class x.0.class c (sym (class_is (card_at bytes i) x.2 x.3) ∙ m.kind);
        far = distance_is (card_at bytes i) x.2 x.3;
      }

  first_leader : (n : ℕ) (d : Miles) → farthest_of c First ≡ Some (leader n d) → LeaderOfFirst c bytes k n d
  first_leader n d q =
      let f = leads c First n d q in
      let p = to_place f.0 f.1 f.2.stands f.2.of_class in
      record {
        place = f.0;
        among = p.among;
        numbered = number_is (card_at bytes f.0) p.last p.answer ∙ f.2.numbered;
        far = distance_is (card_at bytes f.0) p.last p.answer ∙ ap (λ (m : Miles). m.0) f.2.far;
        earlier = λ j h m.
            let x = to_answer j m in
            subst (λ i. i < d.0) (sym x.far) (f.2.first j x.answer h x.stands x.of_class);
      }

  -- document 01's farthest of the first k cards
  pub first_farthest : FarthestOfFirst c bytes k (farthest_of c First)
  first_farthest =
      record {
        none = ((λ q i m. let x = to_answer i m in none_only c First q i x.answer x.stands x.of_class), (λ empty. none_if c First (λ i a w same. empty i (to_place i a w same).among)));
        largest = λ i m.
            let x = to_answer i m in
            subst (Reaches (farthest_of c First)) (sym x.far) (reaches c First i x.answer x.stands x.of_class);
        leads = first_leader;
      }

-- ---- the call

-- of an accepted register the definition takes the leaders of the first k answers
pub accepted_first : (bytes : List ℕ) (k : ℕ) {l : Leaders} (e : outcome_of bytes enough ≡ Ok l) → prefix_of bytes k ≡ Ok (leaders_of (take k (found bytes enough e).list))
unfolding prefix_of outcome_of
accepted_first bytes k e = grind (arith, found_cards bytes (found bytes enough e), e)

-- one that is sent back gives its refusal
pub refused_first : (bytes : List ℕ) (k : ℕ) (r : Refusal) (place : ℕ) → outcome_of bytes enough ≡ Err (refused_at r place) → prefix_of bytes k ≡ Err (refused_at r place)
unfolding prefix_of outcome_of
refused_first bytes k r place e = grind (arith, e)

-- the definition keeps the paper's words
pub keeps : (bytes : List ℕ) (k : ℕ) → Keeps bytes k (prefix_of bytes k)
keeps bytes k = go (outcome_of bytes enough) refl
  where
    go : (x : Result Leaders (SentBack ℕ)) → outcome_of bytes enough ≡ x → Keeps bytes k (prefix_of bytes k)
    go (Ok l) e =
        subst (Keeps bytes k) (sym (accepted_first bytes k e))
        ((l, e), λ c. subst (FarthestOfFirst c bytes k) (in_result c (take k (found bytes enough e).list) refl) (first_farthest c bytes k e))
    go (Err sent) e = subst (Keeps bytes k) (sym (refused_first bytes k sent.refusal sent.place e)) e

-- ---- the two ends

-- beyond the count the leaders are those of the whole register
pub all_cards : (s : Option Stored) (cards : List (List ℕ)) (k : ℕ) → length cards ≤ k → result_after k (settled s (cards_from 0 0 cards)) ≡ result_of (settled s (cards_from 0 0 cards))
all_cards s cards k h = go (settled s (cards_from 0 0 cards)) refl
  where
    go : (c : Cards) → settled s (cards_from 0 0 cards) ≡ c → result_after k c ≡ result_of c
    go (answers xs) e =
        ap (λ (ys : List Answer). Ok (leaders_of ys)) (take_all k xs (omega (arith, cards_count 0 0 cards xs (settled_is s (cards_from 0 0 cards) e).0)))
    go (sent_back r p) e = refl

pub beyond_count : (bytes : List ℕ) (k : ℕ) → count_of bytes ≤ k → prefix_of bytes k ≡ outcome_of bytes enough
unfolding prefix_of outcome_of cards_of
beyond_count bytes k h = go (header_of bytes enough)
  where
    go : (x : Result ℕ Refusal) → result_behind k x bytes ≡ after_header x bytes
    go (Ok n) = all_cards (stored_in bytes) (cards_in bytes) k (omega (arith, cards_counted bytes))
    go (Err r) = refl
