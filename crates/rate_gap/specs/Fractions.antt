-- Fractions of two whole numbers, compared by cross-multiplication.
-- Assumes nothing.
use Rattle.std.specs.Prelude.{ℕ, ◌+◌, ◌*◌, ◌≤◌, ◌<◌, ◌≡◌}

pub record Fraction : Type 0 where
  pub numerator : ℕ
  pub denominator : ℕ

-- 14 over 10 is 1.4
infixl 80 ◌over◌
abbrev pub ◌over◌ : ℕ → ℕ → Fraction
◌over◌ n d = record { numerator = n; denominator = d }

infixl 70 ◌times◌
abbrev pub ◌times◌ : Fraction → Fraction → Fraction
◌times◌ a b = (a.numerator * b.numerator) over (a.denominator * b.denominator)

infixl 60 ◌plus◌
abbrev pub ◌plus◌ : Fraction → Fraction → Fraction
◌plus◌ a b = (a.numerator * b.denominator + b.numerator * a.denominator) over (a.denominator * b.denominator)

-- a denominator is not zero: only of such fractions do the comparisons say anything
abbrev pub Defined : Fraction → Type 0
Defined a = 0 < a.denominator

infix 50 ◌at_most◌
abbrev pub ◌at_most◌ : Fraction → Fraction → Type 0
◌at_most◌ a b = a.numerator * b.denominator ≤ b.numerator * a.denominator

-- strictly
infix 50 ◌below◌
abbrev pub ◌below◌ : Fraction → Fraction → Type 0
◌below◌ a b = a.numerator * b.denominator < b.numerator * a.denominator

infix 50 ◌equals◌
abbrev pub ◌equals◌ : Fraction → Fraction → Type 0
◌equals◌ a b = a.numerator * b.denominator ≡ b.numerator * a.denominator
