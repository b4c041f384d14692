-- What callers use of the running values instead of a step's text.
-- Assumes nothing.
use Rattle.std.specs.Prelude.{ℕ, suc, ◌+◌, ◌≡◌, refl, List, [], ◌∷◌, length, Result, Ok, Err}
use Rattle.refusals.specs.declared.Refusal.{Refusal}
use Rattle.std.proofs.Common.{arith, ap}
use Rattle.search.specs.Laws.{clash}
use Rattle.card.specs.declared.Answer.{Answer}
use Rattle.card.specs.Answers.{answer_of}
use Rattle.farthest.specs.Farthest.{leaders_from}
use Rattle.running.specs.declared.Running.{Running}
use Rattle.running.specs.Running.{after_card, step_to, step_of, running_after}

-- a step goes to the next place
pub on_place : (s t : Running) (a : Answer) (card : List ℕ) → step_of s card ≡ Ok (t, a) → t.place ≡ suc s.place
unfolding step_of
on_place s t a card = go (answer_of card s.last)
  where
    go : (y : Result Answer Refusal) → step_to y s ≡ Ok (t, a) → t.place ≡ suc s.place
    go (Ok b) q =
        let both : ◌≡◌ {A = Running × Answer} (t, a) (after_card s b, b) = cc in ap (λ (u : Running × Answer). u.0.place) both
    go (Err r) q = clash (cc)

-- the leaders are those of the cards passed
pub running_leaders : (s : Running) (xs : List Answer) → (running_after s xs).leaders ≡ leaders_from s.leaders xs
unfolding running_after leaders_from
running_leaders s [] = refl
running_leaders s (a ∷ xs) = running_leaders (after_card s a) xs

-- and the place counts them
pub running_place : (s : Running) (xs : List Answer) → (running_after s xs).place ≡ s.place + length xs
unfolding running_after
running_place s [] = omega arith
running_place s (a ∷ xs) = let z = running_place (after_card s a) xs in omega arith
