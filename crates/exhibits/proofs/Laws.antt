-- What other crates use of the exhibits instead of their text: each factor is within the limit that the paper gives it.
-- Assumes nothing.
use Rattle.std.specs.Prelude.{ℕ, ◌≤◌, ◌<◌, ◌≡◌, refl, ◌++◌, map, Bool, true, false, leb, ltb}
use Rattle.std.proofs.Common.{sym, ◌∙◌, leb-true, ltb-true}
use Rattle.search.specs.Rising.{both}
use Rattle.search.specs.Laws.{both_true}
use Rattle.search.specs.Places.{among, every, look_up}
use Rattle.search.specs.Arms.{Missed, missed}
use Rattle.search.specs.PlaceLaws.{among_apart, among_each, look_none, look_each}
use Rattle.exhibits.specs.declared.Cell.{Cell}
use Rattle.exhibits.specs.declared.Cell.TheVariants.{Factor, Lfb, NoData}
use Rattle.exhibits.specs.declared.Toxic.{Toxic}
use Rattle.exhibits.specs.declared.Toxic.TheVariants.{OfGas, OfLiquid, OfSolution, OutOfRange, NotListed}
use Rattle.exhibits.specs.PrintedB1.{b1}
use Rattle.exhibits.specs.PrintedB2.{b2}
use Rattle.exhibits.specs.PrintedB4.{b4}
use Rattle.exhibits.specs.Exhibits.{gas_cas, liquid_cas, gas_in, liquid_in, factors_of, toxic_of}
use Rattle.exhibits.specs.Lines.{lfa_of, lfb_of, df_of, corrections_of}
use Rattle.exhibits.specs.Laws.{CellWithin, Within}

-- a CAS number that is in neither exhibit
pub not_listed : (cas : ℕ) → among cas (map gas_cas b1 ++ map liquid_cas b2) ≡ false → toxic_of cas ≡ NotListed
unfolding toxic_of
not_listed cas absent =
    let apart = among_apart cas (map gas_cas b1) (map liquid_cas b2) absent in
    look_none gas_cas gas_in cas b1 (look_up liquid_cas liquid_in cas b2 NotListed) apart.0
    ∙ look_none liquid_cas liquid_in cas b2 NotListed apart.1

-- a CAS number that no line of either exhibit has
pub no_line : (cas : ℕ) → Missed cas (map gas_cas b1 ++ map liquid_cas b2) → NotListed ≡ toxic_of cas
no_line cas m = sym (not_listed cas (missed cas (map gas_cas b1 ++ map liquid_cas b2) m))

-- a CAS number that is in one of them has at most eight digits
pub listed_below : (cas : ℕ) → (toxic_of cas ≡ NotListed → ⊥) → cas < 100_000_000
unfolding b1 b2
listed_below cas n = go (among cas (map gas_cas b1 ++ map liquid_cas b2)) refl
  where
    go : (t : Bool) → among cas (map gas_cas b1 ++ map liquid_cas b2) ≡ t → cas < 100_000_000
    go true e =
        ltb-true cas 100_000_000 (among_each (λ c. ltb c 100_000_000) cas (map gas_cas b1 ++ map liquid_cas b2) refl e)
    go false e = absurd (n (not_listed cas e))

-- a test that passes at each line of the exhibits, and where nothing is listed, passes at any CAS number
pub listed : (ok : Toxic → Bool) → ok NotListed ≡ true → every (λ g. ok (gas_in g)) b1 ≡ true → every (λ l. ok (liquid_in l)) b2 ≡ true → (cas : ℕ) → ok (toxic_of cas) ≡ true
unfolding toxic_of
listed ok none gases liquids cas =
    look_each gas_cas gas_in cas ok b1 (look_up liquid_cas liquid_in cas b2 NotListed)
    (look_each liquid_cas liquid_in cas ok b2 NotListed none liquids) gases

abbrev cell_fits : Cell → Bool
cell_fits (Factor n) = leb n 1000
cell_fits Lfb = true
cell_fits NoData = true

cell_within : (x : Cell) → cell_fits x ≡ true → CellWithin x
cell_within (Factor n) e = leb-true n 1000 e
cell_within Lfb e = tt
cell_within NoData e = tt

-- the same as a test that computes
unfoldable pub fits : Toxic → Bool
fits t =
    both (leb (lfa_of t) 1000000)
    (both (leb (lfb_of t) 1000000)
    (both (leb (df_of t) 200)
    (both (cell_fits (corrections_of t).at30)
    (both (cell_fits (corrections_of t).at35)
    (both (cell_fits (corrections_of t).at40)
    (both (cell_fits (corrections_of t).at45) (cell_fits (corrections_of t).at50)))))))

pub fits_within : (t : Toxic) → fits t ≡ true → Within t
unfolding fits
fits_within t e =
    let a = both_true (leb (lfa_of t) 1000000) _ e in
    let b = both_true (leb (lfb_of t) 1000000) _ a.1 in
    let d = both_true (leb (df_of t) 200) _ b.1 in
    let at30 = both_true (cell_fits (corrections_of t).at30) _ d.1 in
    let at35 = both_true (cell_fits (corrections_of t).at35) _ at30.1 in
    let at40 = both_true (cell_fits (corrections_of t).at40) _ at35.1 in
    let at45 = both_true (cell_fits (corrections_of t).at45) _ at40.1 in
    record {
      lfa_limit = leb-true (lfa_of t) 1000000 a.0;
      lfb_limit = leb-true (lfb_of t) 1000000 b.0;
      df_limit = leb-true (df_of t) 200 d.0;
      at30_limit = cell_within (corrections_of t).at30 at30.0;
      at35_limit = cell_within (corrections_of t).at35 at35.0;
      at40_limit = cell_within (corrections_of t).at40 at40.0;
      at45_limit = cell_within (corrections_of t).at45 at45.0;
      at50_limit = cell_within (corrections_of t).at50 at45.1;
    }

pub within : (cas : ℕ) → Within (toxic_of cas)
unfolding fits factors_of look_up b1 b2 b4
within cas = fits_within (toxic_of cas) (listed fits refl refl refl cas)

-- no endpoint is zero, so a rate may be divided by it
abbrev pub Positive : Toxic → Type 0
Positive (OfGas g) = 1 ≤ g.endpoint
Positive (OfLiquid l) = 1 ≤ l.endpoint
Positive (OfSolution s) = 1 ≤ s.endpoint
Positive OutOfRange = Unit {0}
Positive NotListed = Unit {0}

abbrev pub has_endpoint : Toxic → Bool
has_endpoint (OfGas g) = leb 1 g.endpoint
has_endpoint (OfLiquid l) = leb 1 l.endpoint
has_endpoint (OfSolution s) = leb 1 s.endpoint
has_endpoint OutOfRange = true
has_endpoint NotListed = true

pub above_zero : (t : Toxic) → has_endpoint t ≡ true → Positive t
above_zero (OfGas g) e = leb-true 1 g.endpoint e
above_zero (OfLiquid l) e = leb-true 1 l.endpoint e
above_zero (OfSolution s) e = leb-true 1 s.endpoint e
above_zero OutOfRange e = tt
above_zero NotListed e = tt

pub positive : (cas : ℕ) → Positive (toxic_of cas)
unfolding b1 b2
positive cas = above_zero (toxic_of cas) (listed has_endpoint refl refl refl cas)
