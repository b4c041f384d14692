-- The cards in force on a day: each is a card of the register, and each card of it that is in force is among them. So none of them is
-- farther than the farthest of the year.
-- Assumes nothing.
use Rattle.std.specs.Prelude.{ℕ, zero, suc, ◌≡◌, refl, Bool, true, false, List, [], ◌∷◌}
use Rattle.std.proofs.Common.{sym, ap, ◌∙◌, subst, le_refl}
use Rattle.seasons.specs.Seasons.{in_force}
use Rattle.card.specs.declared.Class.{Class}
use Rattle.card.specs.declared.Answer.{Answer}
use Rattle.farthest.specs.Farthest.{At, NoFarther, farthest_of}
use Rattle.farthest.proofs.Laws.{no_farther}
use Rattle.by_day.specs.Day.{keep_if, in_force_on}
use Rattle.by_day.specs.Year.{farthest_on}

-- an answer stands in a list
abbrev pub Stands : List Answer → Answer → Type 0
Stands xs a = (i : ℕ) × At xs i a

module _ (day : ℕ) where
  pub from_day : (xs : List Answer) (i : ℕ) (a : Answer) → At (in_force_on day xs) i a → Stands xs a × (in_force a.season day ≡ true)
  unfolding in_force_on
  from_day [] i a h = absurd h
  from_day (x ∷ xs) i a h = go (in_force x.season day) refl (λ j. from_day xs j a) i h
    where
      go : (b : Bool) → in_force x.season day ≡ b → ((j : ℕ) → At (in_force_on day xs) j a → Stands xs a × (in_force a.season day ≡ true))
          → (j : ℕ) → At (keep_if b x (in_force_on day xs)) j a → Stands (x ∷ xs) a × (in_force a.season day ≡ true)
      go true e ih zero k = ((0, k), ap (λ (y : Answer). in_force y.season day) k ∙ e)
      go true e ih (suc j) k = let r = ih j k in ((suc r.0.0, r.0.1), r.1)
      go false e ih j k = let r = ih j k in ((suc r.0.0, r.0.1), r.1)

  pub to_day : (xs : List Answer) (i : ℕ) (a : Answer) → At xs i a → in_force a.season day ≡ true → Stands (in_force_on day xs) a
  unfolding in_force_on
  to_day [] i a h e = absurd h
  to_day (x ∷ xs) zero a h e =
      let there : in_force x.season day ≡ true = ap (λ (y : Answer). in_force y.season day) (sym h) ∙ e in
      (0, subst (λ b. At (keep_if b x (in_force_on day xs)) 0 a) (sym there) h)
  to_day (x ∷ xs) (suc i) a h e = go (in_force x.season day) (to_day xs i a h e)
    where
      go : (b : Bool) → Stands (in_force_on day xs) a → Stands (keep_if b x (in_force_on day xs)) a
      go true r = (suc r.0, r.1)
      go false r = r

  -- the year's distance is exceeded on no day
  pub on_day_at_most : (c : Class) (xs : List Answer) → NoFarther (farthest_on c day xs) (farthest_of c xs)
  on_day_at_most c xs =
      no_farther c (in_force_on day xs) xs
      (λ i a h e. let r = from_day xs i a h in (r.0.0, a, r.0.1, e, le_refl a.distance.0))
