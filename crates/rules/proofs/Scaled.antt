-- The place among the scaled bounds, by the bounds themselves.
-- Assumes nothing.
use Prim.Native.Nat.{ℕ, zero, suc, ◌*◌, ◌≤◌, ◌<◌}
use native.Mathlib.Nat.{zero-mul}
use mathlib.Core.Path.{◌≡◌, refl, sym}
use mathlib.Core.List.{List, [], ◌∷◌}
use lib.ListN.{length, get_or, length-map}
use Rattle.search.specs.Rising.{first_at_least}
use Rattle.search.specs.Laws.{first_unique}
use Rattle.rules.specs.Cuts.{scaled}

scaled_at : (endpoint : ℕ) (bounds : List ℕ) (k : ℕ) → get_or (scaled endpoint bounds) k 0 ≡ get_or bounds k 0 * endpoint
unfolding scaled
scaled_at endpoint [] k = sym (zero-mul endpoint)
scaled_at endpoint (b ∷ rest) zero = refl
scaled_at endpoint (b ∷ rest) (suc k) = scaled_at endpoint rest k

pub scaled_place : (x endpoint : ℕ) (bounds : List ℕ) (i : ℕ) → i ≤ length bounds → ((k : ℕ) → k < i → get_or bounds k 0 * endpoint < x)
    → (i < length bounds → x ≤ get_or bounds i 0 * endpoint) → first_at_least x (scaled endpoint bounds) ≡ i
unfolding scaled
scaled_place x endpoint bounds i h below here =
    let n : length (scaled endpoint bounds) ≡ length bounds = length-map bounds (λ bound. bound * endpoint) in
    first_unique (scaled endpoint bounds) x i (rw n h)
    (λ k l. rw (scaled_at endpoint bounds k) (below k l))
    (λ l. rw (scaled_at endpoint bounds i) (here (rw n at l)))
