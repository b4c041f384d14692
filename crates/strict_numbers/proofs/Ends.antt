-- One law for each number: what is written one after the other is its text.
-- Assumes nothing.
use Rattle.std.specs.Prelude.{ℕ, ◌-◌, ◌/◌, ◌≤◌, ◌<◌, ◌≡◌, [], ◌∷◌, ◌++◌}
use Rattle.std.proofs.Common.{append_assoc, lt-ltb, le-ltb}
use Rattle.buffer.specs.declared.Writer.{Writer}
use Rattle.buffer.specs.Puts.{Puts}
use Rattle.buffer.proofs.Laws.{then}
use Rattle.decimal.specs.Digits.{digits_in}
use Rattle.decimal.specs.Decimal.{digits}
use Rattle.decimal.proofs.DigitLaws.{padded_in}
use Rattle.comma.specs.Strict.{cas_text, heat_text, tenths_text}
use Rattle.comma.proofs.StrictLaws.{tenths_cases}
use Rattle.strict_numbers.specs.Parts.{cas_end}

-- the two bytes by their state: a concentration as it is, else a temperature
module _ {b₀ b₁ : Writer} (state heat : ℕ) where
  pub concentration : state ≡ 5 → Puts b₀ b₁ (digits heat ++ (44 ∷ [])) → Puts b₀ b₁ (tenths_text state heat ++ (44 ∷ []))
  concentration e number =
      tenths_cases (λ form text. Puts b₀ b₁ (text ++ (44 ∷ []))) state heat (λ h. number) (λ n. absurd (n e))

  pub temperature : (state ≡ 5 → ⊥) → Puts b₀ b₁ (heat_text heat ++ (44 ∷ [])) → Puts b₀ b₁ (tenths_text state heat ++ (44 ∷ []))
  temperature n signed =
      tenths_cases (λ form text. Puts b₀ b₁ (text ++ (44 ∷ []))) state heat (λ e. absurd (n e)) (λ h. signed)

-- a temperature from zero up
pub heat_up : {b₀ b₁ : Writer} (heat : ℕ) → heat < 32_768 → Puts b₀ b₁ (digits heat ++ (44 ∷ [])) → Puts b₀ b₁ (heat_text heat ++ (44 ∷ []))
unfolding heat_text
heat_up heat h number = rw (lt-ltb heat 32_768 h, heat_text) number

module _ {b₀ b₁ b₂ : Writer} where
  -- and one below zero
  pub heat_down : (heat : ℕ) → 32_768 ≤ heat → Puts b₀ b₁ (45 ∷ []) → Puts b₁ b₂ (digits (65_536 - heat) ++ (44 ∷ []))
      → Puts b₀ b₂ (heat_text heat ++ (44 ∷ []))
  unfolding heat_text
  heat_down heat h minus number = rw (le-ltb heat 32_768 h, heat_text) (then minus number)

  pub cas_line : (cas : ℕ) → Puts b₀ b₁ (digits (cas / 1_000) ++ (45 ∷ [])) → Puts b₁ b₂ (cas_end cas) → Puts b₀ b₂ (cas_text cas ++ (44 ∷ []))
  unfolding cas_text cas_end
  cas_line cas first others = simp append_assoc (simp append_assoc at (then first others))

module _ {b₀ b₁ b₂ b₃ b₄ : Writer} where
  pub cas_end_lem : (cas : ℕ) → Puts b₀ b₁ (digits_in 10 2 (cas / 10)) → Puts b₁ b₂ (45 ∷ []) → Puts b₂ b₃ (digits_in 10 1 cas)
      → Puts b₃ b₄ (44 ∷ []) → Puts b₀ b₄ (cas_end cas)
  unfolding cas_end
  cas_end_lem cas middle hyphen last comma =
      rw (padded_in 2 (cas / 10), padded_in 1 cas) (then middle (then hyphen (then last comma)))
