-- Cards as version 3 has them: each has 28 bytes, and they come to what they came to before.
-- Assumes nothing.
use Rattle.std.specs.Prelude.{ℕ, zero, suc, ◌<◌, ◌≡◌, refl, List, [], ◌∷◌, map, length, get_or, Result, Ok, Err, Contains}
use Rattle.std.proofs.Common.{arith, ◌∙◌, sym, ap, subst}
use Rattle.refusals.specs.declared.Refusal.{Refusal}
use Rattle.fields.specs.declared.Fields.{Fields}
use Rattle.fields.specs.Layout.{fields_of}
use Rattle.seasons.specs.Seasons.{grown, Given}
use Rattle.card.specs.declared.Answer.{Answer}
use Rattle.card.specs.Answers.{answer_of}
use Rattle.card.proofs.Grown.{grown_fields, grown_long, answer_grown}
use Rattle.header.specs.InTurn.{Sized}
use Rattle.cards.specs.Register.{then, cards_from}
use Rattle.edits.specs.Edits.{card_number}
use Rattle.edits.specs.Around.{AllGiven}

pub grown_at : (cards : List (List ℕ)) (i : ℕ) → i < length cards → get_or (map grown cards) i [] ≡ grown (get_or cards i [])
grown_at [] i h = absurd (omega (arith, h))
grown_at (card ∷ rest) zero h = refl
grown_at (card ∷ rest) (suc i) h = grown_at rest i (omega (arith, h))

-- within a list no default is read
within : (cards : List (List ℕ)) (i : ℕ) (c d : List ℕ) → i < length cards → get_or cards i c ≡ get_or cards i d
within [] i c d h = absurd (omega (arith, h))
within (card ∷ rest) zero c d h = refl
within (card ∷ rest) (suc i) c d h = within rest i c d (omega (arith, h))

pub grown_count : (cards : List (List ℕ)) → length (map grown cards) ≡ length cards
grown_count [] = refl
grown_count (card ∷ rest) = ap suc (grown_count rest)

pub grown_sized : (cards : List (List ℕ)) → AllGiven cards → Sized 28 (map grown cards)
grown_sized cards g i h =
    let k : i < length cards = omega (arith, h, grown_count cards) in
    ap length (grown_at cards i k) ∙ grown_long (get_or cards i []) (g i k)

pub grown_number : (card : List ℕ) → Given card → card_number (grown card) ≡ card_number card
unfolding fields_of
grown_number card g = ap (λ (f : Fields). f.number) (grown_fields card g)

-- a card of a list, as version 3 has it, is in the list of them
pub grown_each : (cards : List (List ℕ)) (card : List ℕ) → Contains cards card → Contains (map grown cards) (grown card)
grown_each cards card (i, h, e) =
    let k : i < length (map grown cards) = omega (arith, h, grown_count cards) in
    (i, k, within (map grown cards) i (grown card) [] k ∙ (grown_at cards i h ∙ ap grown (within cards i [] card h ∙ e)))

-- what holds of each card of a list holds of one that is in it
pub each_there : (P : List ℕ → Type 0) (cards : List (List ℕ)) (card : List ℕ) → ((i : ℕ) → i < length cards → P (get_or cards i [])) → Contains cards card → P card
each_there P cards card all (i, h, e) = subst P (within cards i [] card h ∙ e) (all i h)

-- and each of these comes from one
pub grown_back : (cards : List (List ℕ)) (card : List ℕ) → Contains (map grown cards) card → (c : List ℕ) × Contains cards c × (grown c ≡ card)
grown_back cards card (i, h, e) =
    let k : i < length cards = omega (arith, h, grown_count cards) in
    (get_or cards i [], (i, k, within cards i (get_or cards i []) [] k), sym (grown_at cards i k) ∙ (within (map grown cards) i [] card h ∙ e))

-- cards come to the same
pub grown_from : (place last : ℕ) (cards : List (List ℕ)) → AllGiven cards → cards_from place last (map grown cards) ≡ cards_from place last cards
unfolding cards_from
grown_from place last [] g = refl
grown_from place last (card ∷ rest) g =
    let here : answer_of (grown card) last ≡ answer_of card last = answer_grown card last (g 0 (omega arith)) in
    ap (λ x. then x place (λ n. cards_from (suc place) n (map grown rest))) here
    ∙ go (answer_of card last) (λ n. grown_from (suc place) n rest (λ i h. g (suc i) (omega (arith, h))))
  where
    go : (x : Result Answer Refusal) → ((n : ℕ) → cards_from (suc place) n (map grown rest) ≡ cards_from (suc place) n rest)
        → then x place (λ n. cards_from (suc place) n (map grown rest)) ≡ then x place (λ n. cards_from (suc place) n rest)
    go (Ok a) ih = ap (λ c. then (Ok a) place (λ n. c)) (ih a.number)
    go (Err r) ih = refl
