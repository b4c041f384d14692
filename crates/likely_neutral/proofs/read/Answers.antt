-- `likely_neutral::read` meets its contract: the constants are what is computed from the printed tables. Assumes nothing.
use Rattle.std.proofs.Common.{refl, ap, ◌≡◌, ◌-◌, suc, zero, ℕ, arith, rules}
use Rattle.std.specs.Prelude.{None}
use Rattle.rules.specs.Rules.{by_range, distance, mark_of, past, answered, in_use, largest}
use Rattle.rules.specs.Cuts.{uppers}
use Rattle.rules.specs.Carried.{running}
use Rattle.rules.proofs.Means.{range_means}
use Rattle.likely_neutral.specs.Numbered.{numbered}
use Rattle.likely_neutral.specs.PrintedNeutral.{table14, table15, table16, table17}
use Rattle.likely_neutral.proofs.read.Goals as goal
use Rattle.likely_neutral.proofs.read.Goals.{in-14, in-15, in-16, in-17}

-- a number that no table has
other : (n place rate endpoint : ℕ) → n - 13 ≡ place → (n ≡ 14 → ⊥) → (n ≡ 15 → ⊥) → (n ≡ 16 → ⊥) → (n ≡ 17 → ⊥) → None ≡ by_range (numbered n) rate endpoint
unfolding numbered by_range past answered in_use largest
other n zero rate endpoint e a b c d = rw e refl
other n (suc zero) rate endpoint e a b c d = absurd (a (omega arith))
other n (suc (suc zero)) rate endpoint e a b c d = absurd (b (omega arith))
other n (suc (suc (suc zero))) rate endpoint e a b c d = absurd (c (omega arith))
other n (suc (suc (suc (suc zero)))) rate endpoint e a b c d = absurd (d (omega arith))
other n (suc (suc (suc (suc (suc k))))) rate endpoint e a b c d = rw e refl

pub returns-in_default : goal.returns-in_default
returns-in_default c = search (other, rules)

pub returns : goal.returns
unfolding uppers running distance mark_of table14 table15 table16 table17 numbered
returns c = elim c.match-table.branch [
  | in-14 w ↦ rw w.in-14.is (range_means table14 (ap (λ b. b.now) w.ranges-is) refl refl refl _ _ c.read.ensures)
  | in-15 w ↦ rw w.in-15.is (range_means table15 (ap (λ b. b.now) w.ranges-is) refl refl refl _ _ c.read.ensures)
  | in-16 w ↦ rw w.in-16.is (range_means table16 (ap (λ b. b.now) w.ranges-is) refl refl refl _ _ c.read.ensures)
  | in-17 w ↦ rw w.in-17.is (range_means table17 (ap (λ b. b.now) w.ranges-is) refl refl refl _ _ c.read.ensures)
]
