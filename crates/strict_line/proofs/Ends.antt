-- One law for each part of a strict line: what is written one after the other is the part.
-- Assumes nothing.
use Rattle.std.specs.Prelude.{ℕ, [], ◌∷◌, ◌++◌}
use Rattle.std.proofs.Common.{append_assoc}
use Rattle.buffer.specs.declared.Writer.{Writer}
use Rattle.buffer.specs.Puts.{Puts}
use Rattle.buffer.proofs.Laws.{then}
use Rattle.decimal.specs.Decimal.{digits}
use Rattle.pieces.specs.Pieces.{closed}
use Rattle.fields.specs.declared.Fields.{Fields}
use Rattle.comma.specs.Strict.{cas_text, tenths_text, field_texts, strict_line}
use Rattle.strict_line.specs.Parts.{codes_text, amounts_text, lasts_text}

module _ {b₀ b₁ b₂ : Writer} where
  pub end_line : (number : ℕ) → Puts b₀ b₁ (digits number ++ (44 ∷ [])) → Puts b₁ b₂ (10 ∷ []) → Puts b₀ b₂ (digits number ++ (44 ∷ 10 ∷ []))
  end_line number comma feed = simp append_assoc at (then comma feed)

module _ {b₀ b₁ b₂ b₃ : Writer} (f : Fields) where
  pub amounts_line : Puts b₀ b₁ (cas_text f.cas ++ (44 ∷ [])) → Puts b₁ b₂ (digits f.pounds ++ (44 ∷ []))
      → Puts b₂ b₃ (digits f.area ++ (44 ∷ [])) → Puts b₀ b₃ (amounts_text f)
  unfolding amounts_text closed
  amounts_line cas pounds area = simp append_assoc at (then cas (then pounds area))

  pub lasts_line : Puts b₀ b₁ (digits f.wall ++ (44 ∷ [])) → Puts b₁ b₂ (tenths_text f.state f.heat ++ (44 ∷ []))
      → Puts b₂ b₃ (digits f.number ++ (44 ∷ 10 ∷ [])) → Puts b₀ b₃ (lasts_text f)
  unfolding lasts_text closed
  lasts_line wall heat number = simp append_assoc (simp append_assoc at (then wall (then heat number)))

  pub whole_line : Puts b₀ b₁ (codes_text f) → Puts b₁ b₂ (amounts_text f) → Puts b₂ b₃ (lasts_text f) → Puts b₀ b₃ (strict_line f ++ (10 ∷ []))
  unfolding codes_text amounts_text lasts_text strict_line field_texts closed
  whole_line codes amounts lasts = simp append_assoc (simp append_assoc at (then codes (then amounts lasts)))

module _ {b₀ b₁ b₂ b₃ b₄ : Writer} where
  pub codes_line : (f : Fields) → Puts b₀ b₁ (digits f.kind ++ (44 ∷ [])) → Puts b₁ b₂ (digits f.state ++ (44 ∷ []))
      → Puts b₂ b₃ (digits f.topography ++ (44 ∷ [])) → Puts b₃ b₄ (digits f.containment ++ (44 ∷ [])) → Puts b₀ b₄ (codes_text f)
  unfolding codes_text closed
  codes_line f kind state topography containment = simp append_assoc at (then kind (then state (then topography containment)))
