-- Cards that have a meaning are told again by their meanings and numbers.
-- Assumes nothing.
use Rattle.std.specs.Prelude.{ℕ, ◌≡◌, refl, List, [], ◌∷◌}
use Rattle.std.proofs.Common.{sym, ap, ap₂}
use Rattle.search.specs.Laws.{clash}
use Rattle.fields.specs.declared.Fields.{Fields}
use Rattle.meaning.specs.Same.{same_fields}
use Rattle.comma.proofs.StrictLaws.{AllFitting}
use Rattle.texts.specs.Claim.{Meant, meanings_from}
use Rattle.texts.proofs.Accepted.{AllMean}

-- equal lists have equal first cards and equal rests
heads : {a b : Meant} {u v : List Meant} → a ∷ u ≡ b ∷ v → a ≡ b
heads e = cc

tails : {a b : Meant} {u v : List Meant} → a ∷ u ≡ b ∷ v → u ≡ v
tails e = cc

-- so equal meanings and numbers are equal cards
pub same_cards : (last other : ℕ) (xs ys : List Fields) → AllFitting xs → AllFitting ys → AllMean last xs
    → meanings_from last xs ≡ meanings_from other ys → xs ≡ ys
unfolding meanings_from
same_cards last other [] [] fx fy m e = refl
same_cards last other [] (g ∷ ys) fx fy m e = clash (cc)
same_cards last other (f ∷ xs) [] fx fy m e = clash (cc)
same_cards last other (f ∷ xs) (g ∷ ys) fx fy m e =
    let first = heads e in
    ap₂ ◌∷◌
    (same_fields f g last other fx.0.heat fy.0.heat refl (sym (ap (λ (x : Meant). x.meaning) first)) m.0 (ap (λ (x : Meant). x.number) first))
    (same_cards f.number g.number xs ys fx.1 fy.1 m.1 (tails e))
