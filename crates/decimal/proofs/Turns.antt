-- What the loop and the calls in a row of `src/lib.rt` rest on: one turn of the loop, and the texts put together.
-- Assumes nothing.
use Rattle.std.specs.Prelude.{ℕ, suc, ◌-◌, ◌/◌, ◌%◌, ◌^◌, ◌≤◌, ◌<◌, ◌≡◌, List, [], ◌∷◌, ◌++◌, length, drop, set}
use Rattle.std.proofs.Common.{arith, sym, ap, subst, ◌∙◌, append_assoc, add-one}
use Rattle.std.proofs.lemmas.List.{drop-set}
use Rattle.buffer.specs.declared.Writer.{Writer}
use Rattle.buffer.specs.Puts.{Puts}
use Rattle.buffer.proofs.Laws.{then}
use Rattle.decimal.specs.Digits.{digit, digits_in}
use Rattle.decimal.specs.Decimal.{padded, digits, fixed}
use Rattle.decimal.proofs.DigitLaws.{padded_in}
use Rattle.decimal.proofs.Laws.{digits_padded}

-- the last digit is written first, before the place reached, and the others before it
pub digit_turn : (base : ℕ) (room : List ℕ) (place n : ℕ) → 0 < place → place ≤ length room
    → digits_in base place n ++ drop place room
    ≡ digits_in base (place - 1) (n / base) ++ drop (place - 1) (set room (place - 1) (digit (n % base)))
unfolding digits_in
digit_turn base room place n some fits =
    let before = place - 1 in
    let more : place ≡ suc before = omega arith in
    let others = digits_in base before (n / base) in
    let last : drop before (set room before (digit (n % base))) ≡ digit (n % base) ∷ drop (suc before) room =
    drop-set room before (digit (n % base)) (omega arith) ∙ ap (λ (k : ℕ). digit (n % base) ∷ drop k room) (add-one before) in
    ap (λ (k : ℕ). digits_in base k n ++ drop k room) more
    ∙ append_assoc others (digit (n % base) ∷ []) (drop (suc before) room) ∙ sym (ap (λ (l : List ℕ). others ++ l) last)

-- as many of the last digits as there are digits: the number
pub counted : (n : ℕ) {before after : Writer} {count : ℕ} → count ≡ length (digits n) → Puts before after (digits_in 10 count n)
    → Puts before after (digits n)
counted n {before} {after} {count} e w =
    subst (λ (t : List ℕ). Puts before after t) (ap (λ (k : ℕ). digits_in 10 k n) e ∙ sym (padded_in (length (digits n)) n) ∙ sym (digits_padded n)) w

-- the wholes, the dot and the decimals, one after the other: the number with decimals
pub dotted : (places tens count n whole : ℕ) {b₀ b₁ b₂ b₃ : Writer} → whole ≡ 10 ^ tens → tens ≡ places → Puts b₀ b₁ (digits (n / whole)) → Puts b₁ b₂ (46 ∷ [])
    → Puts b₂ b₃ (digits_in 10 count (n % whole)) → count ≡ places → Puts b₀ b₃ (fixed places n)
unfolding fixed
dotted places tens count n whole {b₀} {b₁} {b₂} {b₃} e power wholes point decimals same =
    let exact : Puts b₂ b₃ (padded places (n % whole)) =
    subst (λ (t : List ℕ). Puts b₂ b₃ t) (ap (λ (k : ℕ). digits_in 10 k (n % whole)) same ∙ sym (padded_in places (n % whole))) decimals in
    subst (λ k. Puts b₀ b₃ (digits (n / k) ++ (46 ∷ padded places (n % k)))) (e ∙ ap (λ (k : ℕ). 10 ^ k) power)
    (then wholes (then point exact))
