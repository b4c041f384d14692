-- A register's cards cut behind the first of them: what the first come to and what the others come to is what they all come to.
-- Assumes nothing.
use Rattle.std.specs.Prelude.{ℕ, suc, ◌≡◌, refl, List, [], ◌∷◌, ◌++◌, Result, Ok, Err}
use Rattle.std.proofs.Common.{◌∙◌, ap}
use Rattle.search.specs.Laws.{clash}
use Rattle.refusals.specs.declared.Refusal.{Refusal}
use Rattle.card.specs.declared.Answer.{Answer}
use Rattle.card.specs.Answers.{answer_of}
use Rattle.running.specs.declared.Running.{Running}
use Rattle.running.specs.Running.{after_card, running_after}
use Rattle.cards.specs.Register.{Cards, answers, sent_back, joined, then, cards_from}
use Rattle.cards.proofs.Laws.{joined_is}

-- the answers of the first cards in front of what the others come to
abbrev pub in_front : List Answer → Cards → Cards
in_front [] c = c
in_front (a ∷ xs) c = joined a (in_front xs c)

pub front_answers : (xs ys : List Answer) → in_front xs (answers ys) ≡ answers (xs ++ ys)
front_answers [] ys = refl
front_answers (a ∷ xs) ys = ap (joined a) (front_answers xs ys)

pub front_sent_back : (xs : List Answer) (r : Refusal) (place : ℕ) → in_front xs (sent_back r place) ≡ sent_back r place
front_sent_back [] r place = refl
front_sent_back (a ∷ xs) r place = ap (joined a) (front_sent_back xs r place)

-- the first cards are all answered: the others follow from the running values behind them
pub cut_answered : (s : Running) (front behind : List (List ℕ)) (xs : List Answer) → cards_from s.place s.last front ≡ answers xs
    → cards_from s.place s.last (front ++ behind) ≡ in_front xs (cards_from (running_after s xs).place (running_after s xs).last behind)
unfolding cards_from running_after
cut_answered s [] behind [] e = refl
cut_answered s [] behind (x ∷ xs) e = clash (cc)
cut_answered s (card ∷ front) behind xs e =
    go (answer_of card s.last) (λ a ys. cut_answered (after_card s a) front behind ys) e
  where
    others : List Answer → Cards
    others ys = cards_from (running_after s ys).place (running_after s ys).last behind

    go : (x : Result Answer Refusal)
        → ((a : Answer) (ys : List Answer) → cards_from (suc s.place) a.number front ≡ answers ys
        → cards_from (suc s.place) a.number (front ++ behind) ≡ in_front ys (others (a ∷ ys)))
        → then x s.place (λ k. cards_from (suc s.place) k front) ≡ answers xs
        → then x s.place (λ k. cards_from (suc s.place) k (front ++ behind)) ≡ in_front xs (others xs)
    go (Ok a) ih q =
        let j = joined_is a (cards_from (suc s.place) a.number front) q in
        ap (joined a) (ih a j.0 j.1) ∙ ap (λ (ys : List Answer). in_front ys (others ys)) j.2
    go (Err r) ih q = clash (cc)

-- one of the first cards is sent back: so are they all
pub cut_sent_back : (place last : ℕ) (front behind : List (List ℕ)) (r : Refusal) (p : ℕ) → cards_from place last front ≡ sent_back r p → cards_from place last (front ++ behind) ≡ sent_back r p
unfolding cards_from
cut_sent_back place last [] behind r p e = clash (cc)
cut_sent_back place last (card ∷ front) behind r p e =
    go (answer_of card last) (λ a. cut_sent_back (suc place) a.number front behind r p) e
  where
    beside : (a : Answer) (c d : Cards) → (c ≡ sent_back r p → d ≡ sent_back r p) → joined a c ≡ sent_back r p → joined a d ≡ sent_back r p
    beside a (answers ys) d ih q = clash (cc)
    beside a (sent_back s k) d ih q = ap (joined a) (ih q)

    go : (x : Result Answer Refusal)
        → ((a : Answer) → cards_from (suc place) a.number front ≡ sent_back r p → cards_from (suc place) a.number (front ++ behind) ≡ sent_back r p)
        → then x place (λ k. cards_from (suc place) k front) ≡ sent_back r p
        → then x place (λ k. cards_from (suc place) k (front ++ behind)) ≡ sent_back r p
    go (Ok a) ih q =
        beside a (cards_from (suc place) a.number front) (cards_from (suc place) a.number (front ++ behind)) (ih a) q
    go (Err s) ih q = q
