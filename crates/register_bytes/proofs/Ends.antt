-- One law for each part of a register that is written.
-- Assumes nothing.
use Rattle.std.specs.Prelude.{ℕ, ◌+◌, ◌*◌, ◌≡◌, [], ◌∷◌, ◌++◌}
use Rattle.std.proofs.Common.{subst, append_assoc}
use Rattle.buffer.specs.Numbers.{two_bytes, four_bytes}
use Rattle.buffer.specs.declared.Writer.{Writer}
use Rattle.buffer.specs.Puts.{Puts}
use Rattle.buffer.proofs.Laws.{then}
use Rattle.fields.specs.declared.Fields.{Fields}
use Rattle.comma.specs.Text.{card_bytes, header_bytes}
use Rattle.register_bytes.specs.Parts.{code_bytes, amount_bytes, last_bytes}

-- the three parts are the card
card_parts : (f : Fields) → code_bytes f ++ (amount_bytes f ++ last_bytes f) ≡ card_bytes f
unfolding code_bytes amount_bytes last_bytes card_bytes
card_parts f = simp append_assoc

module _ {b₀ b₁ b₂ b₃ : Writer} where
  pub header_end : (count : ℕ) → Puts b₀ b₁ (four_bytes (7 + 24 * count)) → Puts b₁ b₂ (1 ∷ []) → Puts b₂ b₃ (two_bytes count)
      → Puts b₀ b₃ (header_bytes count)
  unfolding header_bytes
  header_end count size version last = then size (then version last)

  pub amounts_end : (f : Fields) → Puts b₀ b₁ (four_bytes f.cas) → Puts b₁ b₂ (four_bytes f.pounds) → Puts b₂ b₃ (four_bytes f.area)
      → Puts b₀ b₃ (amount_bytes f)
  unfolding amount_bytes
  amounts_end f cas pounds area = then cas (then pounds area)

  pub lasts_end : (f : Fields) → Puts b₀ b₁ (two_bytes f.wall) → Puts b₁ b₂ (two_bytes f.heat) → Puts b₂ b₃ (four_bytes f.number)
      → Puts b₀ b₃ (last_bytes f)
  unfolding last_bytes
  lasts_end f wall heat number = then wall (then heat number)

  pub card_end : (f : Fields) → Puts b₀ b₁ (code_bytes f) → Puts b₁ b₂ (amount_bytes f) → Puts b₂ b₃ (last_bytes f) → Puts b₀ b₃ (card_bytes f)
  card_end f codes amounts lasts = subst (Puts b₀ b₃) (card_parts f) (then codes (then amounts lasts))

pub codes_end : (f : Fields) {b₀ b₁ b₂ b₃ b₄ : Writer} → Puts b₀ b₁ (f.kind ∷ []) → Puts b₁ b₂ (f.state ∷ []) → Puts b₂ b₃ (f.topography ∷ [])
    → Puts b₃ b₄ (f.containment ∷ []) → Puts b₀ b₄ (code_bytes f)
unfolding code_bytes
codes_end f kind state topography containment = then kind (then state (then topography containment))
