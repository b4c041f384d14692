-- One law for each return of the call that walks: what a walk through all cards ends with, held to the stored distances, is the call's
-- answer, and what it wrote is what belongs into the lent buffer.
-- Assumes nothing.
use Rattle.std.specs.Prelude.{Option, Result, Ok, Err}
use Rattle.farthest.specs.declared.Leaders.{Leaders}
use Rattle.refusals.specs.declared.SentBack.{SentBack}
use Prim.Native.Nat.{ℕ, ◌*◌, ◌≤◌}
use native.Mathlib.Omega.{arith}
use mathlib.Core.Path.{◌≡◌, ◌∙◌, refl, ap, sym}
use mathlib.Core.List.{List, [], ◌∷◌, ◌++◌}
use lib.ListN.{length, take, drop}
use lib.Seq.{sets, take_at}
use Rattle.buffer.specs.Wrote.{Wrote}
use Rattle.buffer.proofs.Laws.{written_first}
use Rattle.card.specs.declared.Answer.{Answer}
use Rattle.farthest.specs.Farthest.{leaders_of}
use Rattle.encode.specs.Bytes.{answer_bytes}
use Rattle.header.specs.declared.Stored.{Stored}
use Rattle.running.specs.declared.Running.{Running}
use Rattle.running.specs.Running.{before_cards}
use Rattle.walk.specs.Walk.{texts_of, walk_from, text_from}
use Rattle.cards.specs.Distances.{held_to}
use Rattle.cards.specs.Register.{answers, cards_from, settled, result_of, bytes_of, filled_with}
use Rattle.cards.proofs.Laws.{cards_count, bytes_length, settled_result, settled_accepted, settled_refused}
use Rattle.cards.proofs.Walked.{Passed, passed, passed_leaders, stopped}

-- the texts of the answer buffer are its bytes
texts_bytes : (xs : List Answer) → texts_of answer_bytes xs ≡ bytes_of xs
unfolding texts_of bytes_of
texts_bytes [] = refl
texts_bytes (a ∷ xs) = ap (λ text. answer_bytes a ++ text) (texts_bytes xs)

module _ (told : Answer → List ℕ) (s : Option Stored) (cards : List (List ℕ)) (x : Result (Running × ℕ) (SentBack ℕ)) (e : x ≡ walk_from told before_cards 0 cards) where
  -- the walk stopped at a card: that is the answer, and the lent buffer stays as it was
  module _ (sent : SentBack ℕ) (q : x ≡ Err sent) where
    pub refused_result : Err sent ≡ result_of (settled s (cards_from 0 0 cards))
    refused_result = ap (λ c. result_of (settled s c)) (sym (stopped told before_cards cards sent (sym e ∙ q)))

    pub refused_kept : (out : List ℕ) → out ≡ filled_with (settled s (cards_from 0 0 cards)) out
    refused_kept out = ap (λ c. filled_with (settled s c) out) (sym (stopped told before_cards cards sent (sym e ∙ q)))

  -- it came to its end
  module _ (t : Running) (size : ℕ) (q : x ≡ Ok (t, size)) where
    whole : Passed told before_cards cards t size
    whole = passed told before_cards cards t size (sym e ∙ q)

    module _ (h : Result Leaders (SentBack ℕ)) (k : h ≡ held_to s t.leaders) where
      held : h ≡ held_to s (leaders_of whole.list)
      held = k ∙ ap (held_to s) (passed_leaders told cards t size whole)

      pub held_result : h ≡ result_of (settled s (cards_from 0 0 cards))
      held_result = held ∙ (sym (settled_result s whole.list) ∙ ap (λ c. result_of (settled s c)) (sym whole.answered))

      pub held_kept : (sent : SentBack ℕ) → h ≡ Err sent → (out : List ℕ) → out ≡ filled_with (settled s (cards_from 0 0 cards)) out
      held_kept sent w out =
          ap (λ c. filled_with c out) (sym (settled_refused s whole.list sent (sym w ∙ held)))
          ∙ ap (λ c. filled_with (settled s c) out) (sym whole.answered)

      held_answers : (l : Leaders) → h ≡ Ok l → settled s (cards_from 0 0 cards) ≡ answers whole.list
      held_answers l w = ap (settled s) whole.answered ∙ settled_accepted s whole.list l (sym w ∙ held)

-- an accepted register has what the walk's buffer holds of the answers copied over its front
pub copied : (s : Option Stored) (cards : List (List ℕ)) (x : Result (Running × ℕ) (SentBack ℕ)) → x ≡ walk_from answer_bytes before_cards 0 cards
    → (t : Running) (size : ℕ) → x ≡ Ok (t, size) → (h : Result Leaders (SentBack ℕ)) → h ≡ held_to s t.leaders → (l : Leaders) → h ≡ Ok l
    → (own walked part out after : List ℕ) (next : ℕ) → walked ≡ sets own 0 (text_from answer_bytes before_cards cards) → part ≡ take size walked → 16 * length cards ≤ length own
    → Wrote out after 0 next part → 16 * length cards ≤ length out → after ≡ filled_with (settled s (cards_from 0 0 cards)) out
unfolding whole
copied s cards x e t size q h k l u own walked part out after next f w room wrote fitting =
    let p = passed answer_bytes before_cards cards t size (sym e ∙ q) in
    let b = bytes_of p.list in
    let whole : length b ≡ size = ap length (sym (texts_bytes p.list)) ∙ sym p.sized in
    let few : length b ≤ 16 * length cards = omega (arith, bytes_length p.list, cards_count 0 0 cards p.list p.answered) in
    let fits : length b ≤ length own = omega (arith, few) in
    let front : walked ≡ b ++ drop (length b) own = f ∙ (ap (sets own 0) (p.text ∙ texts_bytes p.list) ∙ written_first b own fits) in
    let same : part ≡ b = w ∙ ap (take size) front ∙ take_at b (drop (length b) own) size whole in
    wrote.bytes ∙ ap (sets out 0) same ∙ written_first b out (omega (arith, few))
    ∙ ap (λ c. filled_with c out) (sym (held_answers answer_bytes s cards x e t size q h k l u))
