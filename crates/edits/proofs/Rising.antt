-- Cards that pass: each is answered after the number of the one before it, so that the numbers rise.
-- Assumes nothing.
use Rattle.std.specs.Prelude.{ℕ, suc, ◌<◌, ◌≡◌, refl, List, [], ◌∷◌, Result, Ok, Err}
use Rattle.std.proofs.Common.{arith, ap, subst}
use Rattle.std.proofs.lemmas.Bool.Decides.{nat_tests}
use Rattle.search.specs.Laws.{clash}
use Rattle.refusals.specs.declared.Refusal.{Refusal}
use Rattle.fields.specs.Layout.{fields_of}
use Rattle.meaning.specs.Reading.{bad_number, meaning_of}
use Rattle.card.specs.declared.Answer.{Answer}
use Rattle.card.specs.Stock.{stock_of}
use Rattle.card.specs.Answers.{answer_of}
use Rattle.card.specs.Number.{answer_number}
use Rattle.cards.specs.Register.{answers, joined, then, cards_from}
use Rattle.cards.proofs.Laws.{joined_is}
use Rattle.edits.specs.Edits.{card_number}

-- every card passes after the one before it
pub data Passes : ℕ → List (List ℕ) → List Answer → Type 0 where
  passed_all : {last : ℕ} → Passes last [] []
  passed_one : {last : ℕ} {card : List ℕ} {rest : List (List ℕ)} {a : Answer} {xs : List Answer}
      → answer_of card last ≡ Ok a → Passes a.number rest xs → Passes last (card ∷ rest) (a ∷ xs)

pub passes : (place last : ℕ) (cards : List (List ℕ)) (xs : List Answer) → cards_from place last cards ≡ answers xs → Passes last cards xs
unfolding cards_from
passes place last [] [] e = passed_all
passes place last [] (x ∷ xs) e = clash (cc)
passes place last (card ∷ rest) xs e = go (answer_of card last) refl (λ k ys. passes (suc place) k rest ys) e
  where
    go : (x : Result Answer Refusal) → answer_of card last ≡ x → ((k : ℕ) (ys : List Answer) → cards_from (suc place) k rest ≡ answers ys → Passes k rest ys)
        → then x place (λ k. cards_from (suc place) k rest) ≡ answers xs → Passes last (card ∷ rest) xs
    go (Ok a) p ih q =
        let j = joined_is a (cards_from (suc place) a.number rest) q in
        subst (Passes last (card ∷ rest)) j.2 (passed_one p (ih a.number j.0 j.1))
    go (Err r) p ih q = clash (cc)

pub checks : {last : ℕ} {cards : List (List ℕ)} {xs : List Answer} (place : ℕ) → Passes last cards xs → cards_from place last cards ≡ answers xs
unfolding cards_from
checks place passed_all = refl
checks place (passed_one {rest = rest} {a = a} e p) = rw e (ap (joined a) (checks (suc place) p))

-- ---- numbers

module _ (card : List ℕ) (last : ℕ) {a : Answer} (e : answer_of card last ≡ Ok a) where
  -- an answer has its card's number
  pub answered_number : a.number ≡ card_number card
  unfolding fields_of
  answered_number = answer_number card last e

  -- 5 let it pass, so it is above the last one
  pub answered_above : last < card_number card
  unfolding answer_of stock_of meaning_of bad_number fields_of
  answered_above = grind (arith, nat_tests, e)

  -- and the answer is the same after any lower number
  pub answered_any : (other : ℕ) → other < card_number card → answer_of card other ≡ Ok a
  unfolding answer_of stock_of meaning_of bad_number fields_of
  answered_any other h = grind (arith, nat_tests, e, h)

-- "rising strictly", after a number
pub data Rising : ℕ → List (List ℕ) → Type 0 where
  no_more : {last : ℕ} → Rising last []
  higher : {last : ℕ} {card : List ℕ} {rest : List (List ℕ)} → last < card_number card → Rising (card_number card) rest → Rising last (card ∷ rest)

pub rising : {last : ℕ} {cards : List (List ℕ)} {xs : List Answer} → Passes last cards xs → Rising last cards
rising passed_all = no_more
rising (passed_one {last} {card} {rest} {a} e p) =
    higher (answered_above card last e) (subst (λ n. Rising n rest) (answered_number card last e) (rising p))
