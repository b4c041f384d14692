-- What other crates use of Exhibit C-1 instead of its text.
-- Assumes nothing.
use Rattle.std.specs.Prelude.{ℕ, ◌≤◌, ◌<◌, ◌≡◌, refl, map, Bool, true, false, leb, ltb, Option, Some, None, IfSome, is_some}
use Rattle.std.proofs.Common.{ap, sym, leb-true, ltb-true}
use Rattle.search.specs.PlaceLaws.{among_each, look_each, look_none, look_listed}
use Rattle.search.specs.Arms.{Missed, missed}
use Rattle.combustion.specs.PrintedC1.{c1}
use Rattle.combustion.specs.Heats.{cas_of, heat_in, is_flammable, heat_of}

-- a CAS number that is listed has at most eight digits
pub listed_below : (cas : ℕ) → is_flammable cas ≡ true → cas < 100_000_000
unfolding is_flammable c1
listed_below cas e =
    ltb-true cas 100_000_000 (among_each (λ c. ltb c 100_000_000) cas (map cas_of c1) refl e)

-- HC is "at most 150,000": one test over the whole exhibit
pub heat_within : (cas : ℕ) → IfSome (heat_of cas) (λ hc. hc ≤ 150_000)
unfolding heat_of c1
heat_within cas = bounded (heat_of cas) (look_each cas_of (λ line. Some (heat_in line)) cas low c1 None refl refl)
  where
    low : Option ℕ → Bool
    low None = true
    low (Some hc) = leb hc 150_000

    bounded : (h : Option ℕ) → low h ≡ true → IfSome h (λ hc. hc ≤ 150_000)
    bounded None e = tt
    bounded (Some hc) e = leb-true hc 150_000 e

-- and every heat that is printed is above 0
pub heat_above_zero : (cas : ℕ) → IfSome (heat_of cas) (λ hc. 0 < hc)
unfolding heat_of c1
heat_above_zero cas = bounded (heat_of cas) (look_each cas_of (λ line. Some (heat_in line)) cas high c1 None refl refl)
  where
    high : Option ℕ → Bool
    high None = true
    high (Some hc) = ltb 0 hc

    bounded : (h : Option ℕ) → high h ≡ true → IfSome h (λ hc. 0 < hc)
    bounded None e = tt
    bounded (Some hc) e = ltb-true 0 hc e

-- a number that no line has is no substance's, and has no heat
pub no_heat : (cas : ℕ) → Missed cas (map cas_of c1) → None ≡ heat_of cas
unfolding heat_of
no_heat cas m = sym (look_none cas_of (λ line. Some (heat_in line)) cas c1 None (missed cas (map cas_of c1) m))

-- a substance has a heat exactly where it is listed
pub listed : (cas : ℕ) → is_some (heat_of cas) ≡ is_flammable cas
unfolding heat_of is_flammable c1
listed cas = go (is_flammable cas) refl
  where
    go : (b : Bool) → is_flammable cas ≡ b → is_some (heat_of cas) ≡ b
    go true e = look_listed cas_of (λ line. Some (heat_in line)) cas is_some c1 None e refl
    go false e = ap is_some (look_none cas_of (λ line. Some (heat_in line)) cas c1 None e)
