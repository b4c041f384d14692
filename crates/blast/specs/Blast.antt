-- The ring of a blast, by Equation C-1 (document 02, A7, in whose words each definition stands).
-- Assumes nothing.
use Rattle.std.specs.Prelude.{ℕ, zero, suc, ◌*◌, ◌≤◌, ◌<◌, Bool, true, false, leb, Option, Some, None}
use Rattle.units.specs.declared.Miles.{Miles}
use Rattle.combustion.specs.Heats.{heat_of}
use Rattle.release.specs.Rates.{ceil_div}

-- "D × D × D × 102,960 at least 4,913 × pounds × HC"
abbrev pub Enough : ℕ → ℕ → ℕ → Type 0
Enough pounds hc d = 4_913 * pounds * hc ≤ d * d * d * 102_960

-- "The ring is the least whole number of metres D with" it: D satisfies the inequality and no smaller number does
pub record Least (pounds hc d : ℕ) : Type 0 where
  pub enough : Enough pounds hc d
  pub no_smaller : (e : ℕ) → e < d → Enough pounds hc e → ⊥

-- the inequality as a test
abbrev pub enough : ℕ → ℕ → ℕ → Bool
enough pounds hc d = leb (4_913 * pounds * hc) (d * d * d * 102_960)

-- the first number from d on that passes a test, among so many that are looked at
unfoldable pub first_from : (ℕ → Bool) → ℕ → ℕ → ℕ
first_from test zero d = d
first_from test (suc further) d = elim (test d) [ true ↦ d | false ↦ first_from test further (suc d) ]

-- that number of metres, looked for from 0 on: 4,913 × pounds × HC itself is always enough. `is_least` and `only_least` in `Laws` say
-- that it is the least, and the only one.
unfoldable pub metres_of : ℕ → ℕ → ℕ
metres_of pounds hc = first_from (enough pounds hc) (4_913 * pounds * hc) 0

-- "Hundredths of a mile are D × 100,000 / 1,609,344, rounded up."
abbrev pub hundredths_of : ℕ → ℕ
hundredths_of metres = ceil_div (metres * 100_000) 1_609_344

-- the distance by a substance's heat; one without a heat draws no ring
abbrev pub ring_by : ℕ → Option ℕ → Miles
ring_by pounds None = record { 0 = 0 }
ring_by pounds (Some hc) = record { 0 = hundredths_of (metres_of pounds hc) }

-- the distance of a blast of so many pounds of a substance
unfoldable pub ring_of : ℕ → ℕ → Miles
ring_of cas pounds = ring_by pounds (heat_of cas)
