-- The header keeps the year's distances over every list of edits, proved.
-- Assumes nothing.
use Rattle.std.specs.Prelude.{ℕ, ◌≡◌, true, List, []}
use Rattle.std.proofs.Common.{ap, ⊎_elim}
use Rattle.header.specs.Header.{version_of, layout_of, laid, layout_in, enough}
use Rattle.ordering.proofs.Found.{found}
use Rattle.by_day.specs.Year.{year_from}
use Rattle.edits.specs.Edits.{edit_version, held}
use Rattle.edit_history.specs.Claim.{after_all, accepted, Renewed, Upheld}
use Rattle.edit_history.proofs.History.{edits_kept}
use Rattle.season_claims.specs.Claim.{EditsKeepYear}
use Rattle.season_claims.proofs.Year.{year_is, header_keeps_year}

-- the version that an edit makes stores distances
edited_stores : (register : List ℕ) → version_of register ≡ edit_version → (layout_in register).stores ≡ true
unfolding layout_in layout_of
edited_stores register e = ap (λ v. (laid (layout_of v)).stores) e

pub edits_keep_year : EditsKeepYear
edits_keep_year first edits s w some =
    let last : List ℕ = after_all edits first in
    let u : Upheld first last (accepted edits first) = edits_kept first edits s w in
    let y = year_from (found (held last) enough u.still.1).list in
    let told = year_is (held last) u.still.1 in
    let stores : (layout_in (held last)).stores ≡ true =
    ⊎_elim (λ (k : (accepted edits first ≡ []) × (last ≡ first)). absurd (some k.0)) (λ (r : Renewed last). edited_stores (held last) r.version) u.stored in
    (y, told, header_keeps_year (held last) y stores told)
