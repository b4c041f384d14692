-- Two cards whose rates are off by nearly all that A8 allows, one in a dike and one in a building, and what they rule out: in a dike neither
-- term of the bound can be left out, and with the shed factor the 0.001 stays whole.
-- Assumes nothing.
use Rattle.std.specs.Prelude.{ℕ, ◌≡◌, refl, List, [], ◌∷◌, map}
use Rattle.std.proofs.Common.{arith}
use Rattle.promises.specs.Starred.{Row, card_of, row, toxic, given, at, none, urban, in_dike, in_building, stated, defined, computed}
use Rattle.rate_gap.specs.Fractions.{◌over◌, ◌times◌, ◌plus◌, ◌at_most◌, ◌below◌, ◌equals◌}
use Rattle.rate_gap.specs.Exact.{exact_diked, chain_of, exact_in}
use Rattle.rate_gap.specs.Claim.{slack_in}

-- 19,610 lb of bromine at 25.0 °C in a dike of 278 sq ft with a wall of 0.37 ft: 3,137.6 sq ft would be covered, and the dike holds 102.86
-- cubic feet. The exact area is 9,854.80 / 33 = 298.63030.. sq ft, rounded up to 298.64.
abbrev pub diked : ℕ → List ℕ
diked = card_of 1 4 urban in_dike 7726956 19_610 278 37 250

-- 5,763 lb of 37 % formaldehyde in a building of 3,000 sq ft: 2,535.72 sq ft, which is not rounded
abbrev pub sheltered : ℕ → List ℕ
sheltered = card_of 1 5 urban in_building 50000 5_763 3_000 0 370

unfoldable pub rows : List Row
rows =
    row (toxic 1 diked 2 8 (given 29_864) 30_522 340 ∷ toxic 2 sheltered 2 3 (given 253_572) 72 10 ∷ []) (at 1 340) none ∷ []

-- what is reported: 30.522 and 0.072
pub reported : map defined rows ≡ map stated rows
unfolding rows computed
reported = refl

-- ---- the diked card: LF 0.073, TCF 1

-- 30.520016..
pub diked_exact : exact_in (chain_of (diked 1)) equals 12_589_507 over 412_500
unfolding computed exact_diked chain_of
diked_exact = refl

-- 0.002022
pub diked_slack : slack_in (chain_of (diked 1)) equals 2_022 over 1_000_000
unfolding computed exact_diked chain_of
diked_slack = refl

-- over 98 percent of it are used
pub diked_close : exact_in (chain_of (diked 1)) plus slack_in (chain_of (diked 1)) times 98 over 100 below 30_522 over 1_000
unfolding computed exact_diked chain_of
diked_close = omega arith

-- without its 0.001 the bound would be false, and so would the 0.001 alone
pub thousandth_needed : exact_in (chain_of (diked 1)) plus 14 over 1_000 times 73 over 1_000 at_most 30_522 over 1_000
unfolding computed exact_diked chain_of
thousandth_needed = omega arith

pub area_needed : exact_in (chain_of (diked 1)) plus 1 over 1_000 at_most 30_522 over 1_000
unfolding computed exact_diked chain_of
area_needed = omega arith

-- ---- the sheltered card: LF 0.0002, TCF 1, with the shed factor

-- 0.07100016
pub sheltered_exact : exact_in (chain_of (sheltered 2)) equals 7_100_016 over 100_000_000
unfolding computed exact_diked chain_of
sheltered_exact = refl

-- 0.00100028
pub sheltered_slack : slack_in (chain_of (sheltered 2)) equals 100_028 over 100_000_000
unfolding computed exact_diked chain_of
sheltered_slack = refl

-- over 99.9 percent of it are used
pub sheltered_close : exact_in (chain_of (sheltered 2)) plus slack_in (chain_of (sheltered 2)) times 999 over 1_000 below 72 over 1_000
unfolding computed exact_diked chain_of
sheltered_close = omega arith

-- with a tenth of both terms the bound would be false
pub thousandth_whole : exact_in (chain_of (sheltered 2)) plus 14 over 1_000 times 2 over 10_000 times 1 over 10 plus 1 over 10_000 at_most 72 over 1_000
unfolding computed exact_diked chain_of
thousandth_whole = omega arith
