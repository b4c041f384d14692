-- What callers use of the tables instead of their text: for one table, ground and endpoint a larger rate never reads a
-- shorter distance. It is proved once for each form of table.
-- Assumes nothing.
use Rattle.std.specs.Prelude.{ℕ, ◌≤◌, ◌<◌, ◌≡◌, refl, map, Bool, true, get_or, Some, None}
use Rattle.std.proofs.Common.{arith, ap}
use Rattle.std.proofs.Math.ListN.{get_or-eq_default}
use Rattle.search.specs.Rising.{both}
use Rattle.search.specs.PlaceLaws.{every_at}
use Rattle.search.specs.Laws.{both_true}
use Rattle.units.specs.declared.Miles.{Miles}
use Rattle.rules.specs.Rules.{thousandths}
use Rattle.rules.specs.Cuts.{climbs, climbs_from}
use Rattle.rules.proofs.Laws.{joined, row_mono, range_mono}
use Rattle.dispersion.specs.declared.Ground.{Ground}
use Rattle.dispersion.specs.Tables.{Table, ranges, grid, lines, unprinted, tables, rate_of, read_in, reading_of}

-- a table is printed in order, its rates and endpoints rising strictly, its ranges joined from 0 on: a test that computes
unfoldable pub in_order : Table → Bool
in_order (ranges table) = joined 0 table
in_order (grid rates endpoints rows) = both (climbs (thousandths rates)) (climbs endpoints)
in_order (lines table) = climbs (thousandths (map rate_of table))
in_order unprinted = true

pub in_order_lem : (n : ℕ) → in_order (get_or tables n unprinted) ≡ true
unfolding in_order joined climbs climbs_from thousandths tables
in_order_lem n = every_at in_order tables unprinted refl refl n

table_mono : (t : Table) (g : Ground) (e r s : ℕ) (d f : Miles) → in_order t ≡ true → r ≤ s
    → read_in t g r e ≡ Some d → read_in t g s e ≡ Some f → d.0 ≤ f.0
unfolding read_in in_order
table_mono (ranges table) g e r s d f c h p q = range_mono table e r s d f h p q
table_mono (grid rates endpoints rows) g e r s d f c h p q =
    row_mono rates _ r s d f (both_true (climbs (thousandths rates)) (climbs endpoints) c).0 h p q
table_mono (lines table) g e r s d f c h p q = row_mono (map rate_of table) _ r s d f c h p q
table_mono unprinted g e r s d f c h p q = let z : ◌≡◌ {A = ℕ} 0 1 = cc in omega arith

-- for one table, ground and endpoint a larger rate never reads a shorter distance
pub reading_mono : (t : ℕ) (g : Ground) (e r s : ℕ) (d f : Miles) → r ≤ s
    → reading_of t g r e ≡ Some d → reading_of t g s e ≡ Some f → d.0 ≤ f.0
unfolding reading_of
reading_mono t g e r s d f h p q = table_mono (get_or tables t unprinted) g e r s d f (in_order_lem t) h p q

-- behind the last table there is nothing to read
pub reading_none : (t : ℕ) (g : Ground) (r e : ℕ) → 12 < t → reading_of t g r e ≡ None
unfolding reading_of read_in tables
reading_none t g r e h = ap (λ table. read_in table g r e) (get_or-eq_default tables unprinted h)
