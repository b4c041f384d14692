-- The definitions of the exact rate and of the slack, held against the answers of an independent reading of the papers.
-- Assumes nothing.
use Rattle.std.specs.Prelude.{ℕ, ◌*◌, ◌/◌, ◌%◌, ◌^◌, ◌≡◌, refl, Bool, true, not, List, ◌++◌, eqb}
use Rattle.search.specs.Rising.{both}
use Rattle.search.specs.Places.{every}
use Rattle.buffer.specs.Numbers.{eight_bytes}
use Rattle.promises.specs.Starred.{computed}
use Rattle.rate_gap.specs.Fractions.{Fraction}
use Rattle.rate_gap.specs.Exact.{Chain, exact_diked, chain_of, route_in, exact_in}
use Rattle.rate_gap.specs.Claim.{slack_in}
use Rattle.rate_gap.specs.RateLines.{RateLine}
use Rattle.rate_gap.specs.Vectors.{vectors}

-- the 24 bytes of a card, big-endian
abbrev pub bytes_of : ℕ → List ℕ
bytes_of n = eight_bytes (n / 2 ^ 128) ++ (eight_bytes (n / 2 ^ 64 % 2 ^ 64) ++ eight_bytes (n % 2 ^ 64))

-- "fractions are compared by value": whether two are equal
abbrev pub alike : Fraction → Fraction → Bool
alike a b = eqb (a.numerator * b.denominator) (b.numerator * a.denominator)

-- a line agrees with a chain that has a route
abbrev pub agrees : RateLine → Chain → Bool
agrees line chain =
    both (not (eqb (route_in chain) 0)) (both (alike (exact_in chain) line.exact) (alike (slack_in chain) line.slack))

-- every line
pub all_agree : every (λ line. agrees line (chain_of (bytes_of line.card))) vectors ≡ true
unfolding vectors computed eight_bytes exact_diked chain_of
all_agree = refl
