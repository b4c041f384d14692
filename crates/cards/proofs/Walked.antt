-- The walk of the code (`walk/specs/Walk.antt`, and `tally/specs/Tally.antt` whatever it keeps) comes to what a register is (`Register.antt`).
-- Assumes nothing.
use Rattle.std.specs.Prelude.{ℕ, suc, ◌+◌, ◌≡◌, refl, List, [], ◌∷◌, ◌++◌, length, Result, Ok, Err}
use Rattle.refusals.specs.declared.SentBack.{SentBack}
use Rattle.refusals.specs.Numbers.{refused_at}
use Rattle.std.proofs.Common.{arith, add-zero, ◌∙◌, ap, sym, length-append}
use Rattle.search.specs.Laws.{clash}
use Rattle.refusals.specs.declared.Refusal.{Refusal}
use Rattle.card.specs.declared.Answer.{Answer}
use Rattle.card.specs.Answers.{answer_of}
use Rattle.farthest.specs.Farthest.{leaders_of}
use Rattle.running.specs.declared.Running.{Running}
use Rattle.running.specs.Running.{before_cards, after_card, step_to, step_of, running_after}
use Rattle.running.proofs.Laws.{running_leaders}
use Rattle.tally.specs.Tally.{go_on, kept_from, kept_after}
use Rattle.walk.specs.Walk.{texts_of, walk_from, write_on, text_from}
use Rattle.cards.specs.Register.{Cards, answers, sent_back, joined, then, cards_from}
use Rattle.cards.proofs.Laws.{joined_is}

module _ {K : Type 0} (after : K → Answer → K) where
  -- what a walk from running values and a kept value on ends with, where its cards come to this
  abbrev pub walked_as : Running → K → Cards → Result (Running × K) (SentBack ℕ)
  walked_as s k (answers xs) = Ok (running_after s xs, kept_after after k xs)
  walked_as s k (sent_back r place) = Err (refused_at r place)

  walked_joined : (s : Running) (k : K) (a : Answer) (c : Cards) → walked_as (after_card s a) (after k a) c ≡ walked_as s k (joined a c)
  unfolding running_after kept_after
  walked_joined s k a (answers xs) = refl
  walked_joined s k a (sent_back r place) = refl

  pub walk_is : (s : Running) (k : K) (cards : List (List ℕ)) → kept_from after s k cards ≡ walked_as s k (cards_from s.place s.last cards)
  unfolding kept_from step_of cards_from running_after kept_after
  walk_is s k [] = refl
  walk_is s k (card ∷ rest) = go (answer_of card s.last) (λ a. walk_is (after_card s a) (after k a) rest)
    where
      go : (x : Result Answer Refusal) → ((a : Answer) → kept_from after (after_card s a) (after k a) rest ≡ walked_as (after_card s a) (after k a) (cards_from (suc s.place) a.number rest))
          → go_on (step_to x s) (λ t a. kept_from after t (after k a) rest) ≡ walked_as s k (then x s.place (λ n. cards_from (suc s.place) n rest))
      go (Ok a) ih = ih a ∙ walked_joined s k a (cards_from (suc s.place) a.number rest)
      go (Err r) ih = refl

-- a walk that writes keeps how many bytes are written
abbrev written : (Answer → List ℕ) → ℕ → Answer → ℕ
written told n a = n + length (told a)

written_all : (told : Answer → List ℕ) (at : ℕ) (xs : List Answer) → kept_after (written told) at xs ≡ at + length (texts_of told xs)
unfolding kept_after texts_of
written_all told at [] = sym (add-zero at)
written_all told at (a ∷ xs) = omega (arith, written_all told (at + length (told a)) xs, length-append (told a) (texts_of told xs))

-- of cards that are all answered, the texts are written one after the other
pub text_is : (told : Answer → List ℕ) (s : Running) (cards : List (List ℕ)) (xs : List Answer) → cards_from s.place s.last cards ≡ answers xs → text_from told s cards ≡ texts_of told xs
unfolding text_from step_of cards_from texts_of
text_is told s [] [] e = refl
text_is told s [] (x ∷ xs) e = let z : ◌≡◌ {A = ℕ} 0 1 = cc in clash z
text_is told s (card ∷ rest) xs e = go (answer_of card s.last) (λ a ys. text_is told (after_card s a) rest ys) e
  where
    go : (x : Result Answer Refusal) → ((a : Answer) (ys : List Answer) → cards_from (suc s.place) a.number rest ≡ answers ys → text_from told (after_card s a) rest ≡ texts_of told ys)
        → then x s.place (λ k. cards_from (suc s.place) k rest) ≡ answers xs → write_on (step_to x s) (λ t a. told a ++ text_from told t rest) ≡ texts_of told xs
    go (Ok a) ih q =
        let j = joined_is a (cards_from (suc s.place) a.number rest) q in
        ap (λ (rest : List ℕ). told a ++ rest) (ih a j.0 j.1) ∙ ap (texts_of told) j.2
    go (Err r) ih q = let z : ◌≡◌ {A = ℕ} 0 1 = cc in clash z

-- What callers use of a walk: where it came to its end, every card of it is answered, the running values are those after the answers,
-- and what is written are their texts, of this size;
pub record Passed (told : Answer → List ℕ) (s : Running) (cards : List (List ℕ)) (t : Running) (size : ℕ) : Type 0 where
  pub list : List Answer
  pub answered : cards_from s.place s.last cards ≡ answers list
  pub running : running_after s list ≡ t
  pub text : text_from told s cards ≡ texts_of told list
  pub sized : size ≡ length (texts_of told list)

module _ (told : Answer → List ℕ) (s : Running) (cards : List (List ℕ)) where
  pub passed : (t : Running) (size : ℕ) → walk_from told s 0 cards ≡ Ok (t, size) → Passed told s cards t size
  passed t size e = go (cards_from s.place s.last cards) refl (sym (walk_is (written told) s 0 cards) ∙ e)
    where
      go : (c : Cards) → cards_from s.place s.last cards ≡ c → walked_as (written told) s 0 c ≡ Ok (t, size) → Passed told s cards t size
      go (answers xs) q u =
          let both : ◌≡◌ {A = Running × ℕ} (running_after s xs, kept_after (written told) 0 xs) (t, size) = cc in
          let z : 0 + length (texts_of told xs) ≡ size = sym (written_all told 0 xs) ∙ ap (λ (b : Running × ℕ). b.1) both in
          record { list = xs; answered = q; running = ap (λ (b : Running × ℕ). b.0) both; text = text_is told s cards xs q; sized = omega arith }
      go (sent_back r place) q u = clash (cc)

  -- and where it stopped, the cards are sent back there
  pub stopped : (sent : SentBack ℕ) → walk_from told s 0 cards ≡ Err sent → cards_from s.place s.last cards ≡ sent_back sent.refusal sent.place
  stopped sent e = go (cards_from s.place s.last cards) (sym (walk_is (written told) s 0 cards) ∙ e)
    where
      go : (c : Cards) → walked_as (written told) s 0 c ≡ Err sent → c ≡ sent_back sent.refusal sent.place
      go (answers xs) u = clash (cc)
      go (sent_back t k) u = cc

-- the leaders after a walk from the first card on
pub passed_leaders : (told : Answer → List ℕ) (cards : List (List ℕ)) (t : Running) (size : ℕ) (p : Passed told before_cards cards t size) → t.leaders ≡ leaders_of p.list
unfolding leaders_of
passed_leaders told cards t size p = ap (λ (u : Running). u.leaders) (sym p.running) ∙ running_leaders before_cards p.list
