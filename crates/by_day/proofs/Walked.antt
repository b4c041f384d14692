-- The walk that keeps a value (`tally/specs/Tally.antt`) comes to what it keeps of a register, whatever that is.
-- Assumes nothing.
use Rattle.std.specs.Prelude.{ℕ, ◌≡◌, refl, List, Option, Result, Ok, Err}
use Rattle.std.proofs.Common.{◌∙◌, sym, ap}
use Rattle.search.specs.Laws.{clash}
use Rattle.refusals.specs.declared.SentBack.{SentBack}
use Rattle.card.specs.declared.Answer.{Answer}
use Rattle.farthest.specs.declared.Leaders.{Leaders}
use Rattle.farthest.specs.Farthest.{leaders_of}
use Rattle.header.specs.declared.Stored.{Stored}
use Rattle.running.specs.declared.Running.{Running}
use Rattle.running.specs.Running.{before_cards, running_after}
use Rattle.running.proofs.Laws.{running_leaders}
use Rattle.cards.specs.Distances.{held_to}
use Rattle.cards.specs.Register.{Cards, answers, sent_back, cards_from, settled, result_of}
use Rattle.cards.proofs.Laws.{settled_result, settled_accepted}
use Rattle.cards.proofs.Walked.{walked_as, walk_is}
use Rattle.tally.specs.Tally.{kept_from, kept_after}
use Rattle.by_day.specs.Kept.{kept_result}

module _ {K : Type 0} (after : K → Answer → K) where
  -- ---- one law for each return of the call that walks

  module _ (from : K) (s : Option Stored) (cards : List (List ℕ)) (x : Result (Running × K) (SentBack ℕ)) (e : x ≡ kept_from after before_cards from cards) where
    came_to : x ≡ walked_as after before_cards from (cards_from 0 0 cards)
    came_to = e ∙ walk_is after before_cards from cards

    -- it stopped at a card
    pub walk_stopped : (sent : SentBack ℕ) → x ≡ Err sent → Err sent ≡ kept_result after from (settled s (cards_from 0 0 cards))
    walk_stopped sent q = go (cards_from 0 0 cards) (sym q ∙ came_to)
      where
        go : (c : Cards) → Err sent ≡ walked_as after before_cards from c → Err sent ≡ kept_result after from (settled s c)
        go (answers xs) u = clash (cc)
        go (sent_back r place) u = cc

    -- it came to its end
    module _ (t : Running) (k : K) (q : x ≡ Ok (t, k)) (h : Result Leaders (SentBack ℕ)) (d : h ≡ held_to s t.leaders) where
      record Passed (c : Cards) : Type 0 where
        list : List Answer
        answered : c ≡ answers list
        leads : t.leaders ≡ leaders_of list
        kept : k ≡ kept_after after from list

      passed : Passed (cards_from 0 0 cards)
      unfolding leaders_of
      passed = go (cards_from 0 0 cards) (sym q ∙ came_to)
        where
          go : (c : Cards) → Ok (t, k) ≡ walked_as after before_cards from c → Passed c
          go (answers xs) u =
              let both : ◌≡◌ {A = Running × K} (t, k) (running_after before_cards xs, kept_after after from xs) = cc in
              record {
                list = xs;
                answered = refl;
                leads = ap (λ (b : Running × K). b.0.leaders) both ∙ running_leaders before_cards xs;
                kept = ap (λ (b : Running × K). b.1) both;
              }
          go (sent_back r place) u = clash (cc)

      held : h ≡ held_to s (leaders_of passed.list)
      held = d ∙ ap (held_to s) passed.leads

      settled_to : (c : Cards) → settled s (answers passed.list) ≡ c → settled s (cards_from 0 0 cards) ≡ c
      settled_to c z = ap (settled s) passed.answered ∙ z

      -- a wrong distance is stored
      pub walk_refused : (sent : SentBack ℕ) → h ≡ Err sent → Err sent ≡ kept_result after from (settled s (cards_from 0 0 cards))
      walk_refused sent w = go (settled s (answers passed.list)) refl (settled_result s passed.list ∙ (sym held ∙ w))
        where
          go : (c : Cards) → settled s (answers passed.list) ≡ c → result_of c ≡ Err sent → Err sent ≡ kept_result after from (settled s (cards_from 0 0 cards))
          go (answers xs) z u = clash (cc)
          go (sent_back r place) z u = sym (ap (kept_result after from) (settled_to (sent_back r place) z) ∙ cc)

      -- none is
      pub walk_kept : (l : Leaders) → h ≡ Ok l → Ok k ≡ kept_result after from (settled s (cards_from 0 0 cards))
      walk_kept l w =
          ap Ok passed.kept
          ∙ sym (ap (kept_result after from) (settled_to (answers passed.list) (settled_accepted s passed.list l (sym w ∙ held))))
