-- `neutral::read` meets its contract: the constants are what is computed from the printed tables. Assumes nothing.
use Rattle.std.proofs.Common.{refl, ap, ◌≡◌, suc, zero, ℕ, rules}
use Rattle.std.specs.Prelude.{None}
use Rattle.rules.specs.Rules.{by_range, distance, mark_of, past, answered, in_use, largest}
use Rattle.rules.specs.Cuts.{uppers}
use Rattle.rules.specs.Carried.{running}
use Rattle.rules.proofs.Means.{range_means}
use Rattle.neutral.specs.Numbered.{numbered}
use Rattle.neutral.specs.PrintedNeutral.{table1, table2, table3, table4}
use Rattle.neutral.proofs.read.Goals as goal
use Rattle.neutral.proofs.read.Goals.{in-1, in-2, in-3, in-4}

-- a number that no table has
other : (n rate endpoint : ℕ) → (n ≡ 1 → ⊥) → (n ≡ 2 → ⊥) → (n ≡ 3 → ⊥) → (n ≡ 4 → ⊥) → None ≡ by_range (numbered n) rate endpoint
unfolding numbered by_range past answered in_use largest
other zero rate endpoint a b c d = refl
other (suc zero) rate endpoint a b c d = absurd (a refl)
other (suc (suc zero)) rate endpoint a b c d = absurd (b refl)
other (suc (suc (suc zero))) rate endpoint a b c d = absurd (c refl)
other (suc (suc (suc (suc zero)))) rate endpoint a b c d = absurd (d refl)
other (suc (suc (suc (suc (suc n))))) rate endpoint a b c d = refl

pub returns-in_default : goal.returns-in_default
returns-in_default c = search (other, rules)

pub returns : goal.returns
unfolding uppers running distance mark_of table1 table2 table3 table4 numbered
returns c = elim c.match-table.branch [
  | in-1 w ↦ rw w.in-1.is (range_means table1 (ap (λ b. b.now) w.ranges-is) refl refl refl _ _ c.read.ensures)
  | in-2 w ↦ rw w.in-2.is (range_means table2 (ap (λ b. b.now) w.ranges-is) refl refl refl _ _ c.read.ensures)
  | in-3 w ↦ rw w.in-3.is (range_means table3 (ap (λ b. b.now) w.ranges-is) refl refl refl _ _ c.read.ensures)
  | in-4 w ↦ rw w.in-4.is (range_means table4 (ap (λ b. b.now) w.ranges-is) refl refl refl _ _ c.read.ensures)
]
