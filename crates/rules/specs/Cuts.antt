-- What the code searches instead of the printed numbers, as computed from them: cut points and scaled bounds. The laws in
-- proofs/ say that they mean what `Rules` says.
-- Assumes nothing.
use Rattle.std.specs.Prelude.{ℕ, ◌+◌, ◌*◌, ◌-◌, ◌/◌, List, [], ◌∷◌, map, Bool, true, ltb}
use Rattle.search.specs.Rising.{both}
use Rattle.rules.specs.Printed.{Range, closed, above}

-- the largest number that reads a and not its neighbour b, then those of the numbers behind
unfoldable pub cuts_from : ℕ → ℕ → List ℕ → List ℕ
cuts_from tie a [] = []
cuts_from tie a (b ∷ rest) = (a + b - tie) / 2 ∷ cuts_from tie b rest

unfoldable pub cuts : ℕ → List ℕ → List ℕ
cuts tie [] = []
cuts tie (a ∷ rest) = cuts_from tie a rest

-- the numbers rise strictly: a test that computes
unfoldable pub climbs_from : ℕ → List ℕ → Bool
climbs_from a [] = true
climbs_from a (b ∷ rest) = both (ltb a b) (climbs_from b rest)

unfoldable pub climbs : List ℕ → Bool
climbs [] = true
climbs (a ∷ rest) = climbs_from a rest

-- the upper bounds of the closed ranges before the first open one
unfoldable pub uppers : List Range → List ℕ
uppers [] = []
uppers (closed from upto mark ∷ rest) = upto ∷ uppers rest
uppers (above from mark ∷ rest) = []

-- the bounds times the endpoint, to be compared with 1,000 times the rate
unfoldable pub scaled : ℕ → List ℕ → List ℕ
scaled endpoint bounds = map (λ bound. bound * endpoint) bounds
