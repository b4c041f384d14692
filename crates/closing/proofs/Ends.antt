-- One law for each line: its parts, written one after the other, are the line.
-- Assumes nothing.
use Rattle.std.specs.Prelude.{ℕ, ◌≡◌, [], ◌∷◌, Option, Some, None}
use Rattle.std.proofs.Common.{sym, subst}
use Rattle.farthest.specs.declared.Leader.{Leader}
use Rattle.buffer.specs.declared.Writer.{Writer}
use Rattle.buffer.specs.Puts.{Puts}
use Rattle.buffer.proofs.Laws.{then}
use Rattle.decimal.specs.Decimal.{digits}
use Rattle.lines.specs.Lines.{spaced, ended, miles_text}
use Rattle.closing.specs.Closing.{leader_line, refused_line}

module _ {b₀ b₁ b₂ : Writer} where
  pub none_line : (letter : ℕ) (f : Option Leader) → f ≡ None → Puts b₀ b₁ (letter ∷ [])
      → Puts b₁ b₂ (32 ∷ 110 ∷ 111 ∷ 110 ∷ 101 ∷ 10 ∷ []) → Puts b₀ b₂ (leader_line letter f)
  unfolding leader_line
  none_line letter f e start word = subst (λ (g : Option Leader). Puts b₀ b₂ (leader_line letter g)) (sym e) (then start word)

module _ {b₀ b₁ b₂ b₃ b₄ : Writer} where
  pub leading_line : (letter : ℕ) (lead : Leader) → Puts b₀ b₁ (letter ∷ []) → Puts b₁ b₂ (32 ∷ [])
      → Puts b₂ b₃ (spaced (digits lead.number)) → Puts b₃ b₄ (miles_text lead.distance.0) → Puts b₀ b₄ (leader_line letter (Some lead))
  unfolding leader_line
  leading_line letter lead start space card miles = then start (then space (then card miles))

  pub refused_line_lem : (number place : ℕ) → Puts b₀ b₁ (114 ∷ 101 ∷ 102 ∷ 117 ∷ 115 ∷ 101 ∷ 100 ∷ 32 ∷ []) → Puts b₁ b₂ (digits number)
      → Puts b₂ b₃ (32 ∷ 97 ∷ 116 ∷ 32 ∷ []) → Puts b₃ b₄ (ended (digits place)) → Puts b₀ b₄ (refused_line number place)
  unfolding refused_line
  refused_line_lem number place word refusal word' last = then word (then refusal (then word' last))

-- the line of a class that has a card is that card's
pub leader_line_lem : {before after : Writer} (letter : ℕ) (lead : Leader) (f : Option Leader) → f ≡ Some lead
    → Puts before after (leader_line letter (Some lead)) → Puts before after (leader_line letter f)
leader_line_lem {before} {after} letter lead f e line =
    subst (λ (g : Option Leader). Puts before after (leader_line letter g)) (sym e) line
