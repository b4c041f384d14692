-- The five fields of `put_answer` put together.
-- Assumes nothing.
use Rattle.std.specs.Prelude.{ℕ, ◌≡◌, [], ◌∷◌}
use Rattle.std.proofs.Common.{subst}
use Rattle.buffer.specs.Numbers.{two_bytes, four_bytes, eight_bytes}
use Rattle.buffer.specs.declared.Writer.{Writer}
use Rattle.buffer.specs.Puts.{Puts}
use Rattle.buffer.proofs.Laws.{then}
use Rattle.card.specs.declared.Answer.{Answer}
use Rattle.encode.specs.Bytes.{answer_bytes}

-- the number, the route and the table, the rate, the distance
pub answer_end : (a : Answer) (rate distance : ℕ) {b₀ b₁ b₂ b₃ b₄ b₅ : Writer} → rate ≡ a.rate.0 → distance ≡ a.distance.0
    → Puts b₀ b₁ (four_bytes a.number) → Puts b₁ b₂ (a.route ∷ []) → Puts b₂ b₃ (a.table ∷ []) → Puts b₃ b₄ (eight_bytes rate)
    → Puts b₄ b₅ (two_bytes distance) → Puts b₀ b₅ (answer_bytes a)
unfolding answer_bytes
answer_end a rate distance {b₀} {b₁} {b₂} {b₃} {b₄} {b₅} er ed number route table pounds miles =
    then number (then route (then table (then
    (subst (λ (n : ℕ). Puts b₃ b₄ (eight_bytes n)) er pounds)
    (subst (λ (n : ℕ). Puts b₄ b₅ (two_bytes n)) ed miles))))
