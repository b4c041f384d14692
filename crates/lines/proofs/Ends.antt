-- One law for each part of a card's line: what is written one after the other is the part.
-- Assumes nothing.
use Rattle.std.specs.Prelude.{ℕ, ◌≡◌, [], ◌∷◌, ◌++◌}
use Rattle.std.proofs.Common.{subst}
use Rattle.card.specs.declared.Answer.{Answer}
use Rattle.buffer.specs.declared.Writer.{Writer}
use Rattle.buffer.specs.Puts.{Puts}
use Rattle.decimal.specs.Decimal.{digits, fixed}
use Rattle.buffer.proofs.Laws.{then}
use Rattle.lines.specs.Lines.{spaced, ended, miles_text, rates_text, numbers_text, card_line}

module _ {b₀ b₁ b₂ : Writer} where
  pub miles_line : (n m : ℕ) → n ≡ m → Puts b₀ b₁ (fixed 2 n) → Puts b₁ b₂ (10 ∷ []) → Puts b₀ b₂ (miles_text m)
  unfolding miles_text
  miles_line n m e text feed = subst (λ (k : ℕ). Puts b₀ b₂ (ended (fixed 2 k))) e (then text feed)

  pub card_line_lem : (a : Answer) → Puts b₀ b₁ (numbers_text a.number a.route a.table) → Puts b₁ b₂ (rates_text a.rate.0 a.distance.0)
      → Puts b₀ b₂ (card_line a)
  unfolding card_line
  card_line_lem a numbers rates = then numbers rates

module _ {b₀ b₁ b₂ b₃ : Writer} where
  pub numbers_line : (number route table : ℕ) → Puts b₀ b₁ (spaced (digits number)) → Puts b₁ b₂ (spaced (digits route))
      → Puts b₂ b₃ (spaced (digits table)) → Puts b₀ b₃ (numbers_text number route table)
  unfolding numbers_text
  numbers_line number route table first next last = then first (then next last)

  pub rates_line : (n rate miles : ℕ) → n ≡ rate → Puts b₀ b₁ (fixed 3 n) → Puts b₁ b₂ (32 ∷ []) → Puts b₂ b₃ (miles_text miles)
      → Puts b₀ b₃ (rates_text rate miles)
  unfolding rates_text
  rates_line n rate miles e first space last =
      subst (λ (k : ℕ). Puts b₀ b₃ (spaced (fixed 3 k) ++ miles_text miles)) e (then (then first space) last)
