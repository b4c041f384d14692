-- Demand 1 of the two calls, proved: each refuses exactly by its table of conditions.
-- Assumes nothing.
use Rattle.std.specs.Prelude.{ℕ, zero, suc, ◌≤◌, ◌<◌, ◌≡◌, ◌⊎◌, refl, Bool, true, false, not, eqb, List, map, Result, Ok, Err}
use Rattle.std.proofs.Common.{arith, not-suc-le-zero, ◌∙◌, sym, ap, subst, inl, inr, ⊎_elim}
use Rattle.std.proofs.lemmas.Bool.{cases_lt}
use Rattle.std.proofs.lemmas.Bool.Decides.{nat_tests}
use Rattle.search.specs.Rising.{both}
use Rattle.search.specs.Laws.{clash}
use Rattle.refusals.specs.declared.Refusal.{Refusal}
use Rattle.refusals.specs.declared.Refusal.TheVariants as refusal
use Rattle.refusals.specs.declared.SentBack.{SentBack}
use Rattle.refusals.specs.Numbers.{refused_at}
use Rattle.seasons.specs.Seasons.{bad_day}
use Rattle.farthest.specs.declared.Leaders.{Leaders}
use Rattle.header.specs.Header.{enough, count_of}
use Rattle.cards.specs.Register.{outcome_of}
use Rattle.ordering.proofs.Found.{found}
use Rattle.conditions.specs.Conditions.{Condition, any_of, met, only, conditions_at}
use Rattle.conditions.specs.First.{Verdict, passed, refused, first_of, after, first_append, first_elsewhere}
use Rattle.conditions.proofs.Afresh.{none_met, some_met}
use Rattle.conditions.proofs.Tables.{Passes, Refuses, exactly_by}
use Rattle.conditions.proofs.Exactly.{Told, told, refused_exactly}
use Rattle.by_day.specs.Day.{leaders_on, unless_bad, day_of}
use Rattle.by_day.specs.Year.{year_from}
use Rattle.by_day.specs.Year.{leaders_told}
use Rattle.season_claims.specs.Conditions.{YearExactly, none_below, is_accepted, of_named, day_conditions_at, DayExactly}
use Rattle.season_claims.proofs.Days.{day_is, day_refused}
use Rattle.season_claims.proofs.Year.{year_is, year_refused, year_whole}

-- ---- the year

pub year_exactly : YearExactly
year_exactly bytes =
    let whole = refused_exactly bytes enough in (
      (λ r place. (
        (λ e. (whole.0 r place).0 (sym (year_whole bytes) ∙ ap leaders_told e)),
        (λ f. year_refused bytes (refused_at r place) ((whole.0 r place).1 f)),
      )),
      (
        (λ a. whole.1.0 (a.0.leaders, sym (year_whole bytes) ∙ ap leaders_told a.1)),
        (λ n. let a = whole.1.1 n in (year_from (found bytes enough a.1).list, year_is bytes a.1)),
      ),
    )

-- ---- what "accepted" comes to

module _ (table : ℕ → List Condition) where
  all_pass : (n : ℕ) → ((p : ℕ) → p < n → first_of (table p) ≡ passed) → none_below table n ≡ true
  unfolding none_below
  all_pass zero h = refl
  all_pass (suc n) h =
      ap (λ b. both (not b) (none_below table n)) (none_met (table n) (h n (omega arith)))
      ∙ all_pass n (λ p l. h p (omega (arith, l)))

  one_refuses : (n p : ℕ) (r : Refusal) → p < n → first_of (table p) ≡ refused r → none_below table n ≡ false
  unfolding none_below
  one_refuses zero p r l e = absurd (not-suc-le-zero l)
  one_refuses (suc n) p r l e =
      ⊎_elim
      (λ (less : p < n). ap (both (not (any_of (map met (table n))))) (one_refuses n p r less e) ∙ both_none (not (any_of (map met (table n)))))
      (λ (le : n ≤ p).
      let same : p ≡ n = omega arith in
      ap (λ b. both (not b) (none_below table n)) (some_met (table n) r (subst (λ k. first_of (table k) ≡ refused r) same e)))
      (cases_lt p n)
    where
      both_none : (b : Bool) → both b false ≡ false
      both_none true = refl
      both_none false = refl

-- ---- a day

module _ (bytes : List ℕ) (day : ℕ) where
  abbrev own : ℕ → List Condition
  own = conditions_at bytes enough

  -- what the line of the named day comes to
  abbrev named : ℕ → Verdict
  named place = first_of (only (eqb place 0) (of_named bytes day))

  named_passes : both (is_accepted bytes) (bad_day day) ≡ false → (place : ℕ) → named place ≡ passed
  unfolding first_of only of_named
  named_passes w place = grind (arith, w)

  named_refuses : both (is_accepted bytes) (bad_day day) ≡ true → named 0 ≡ refused refusal.Day
  unfolding first_of only of_named
  named_refuses w = grind (arith, w)

  lines : (place : ℕ) → first_of (day_conditions_at bytes day place) ≡ after (first_of (own place)) (named place)
  unfolding day_conditions_at
  lines place = first_append (own place) (only (eqb place 0) (of_named bytes day))

  -- behind the last card no condition holds
  behind_cards : (place : ℕ) → count_of bytes < place → first_of (own place) ≡ passed
  unfolding conditions_at
  behind_cards place h = grind (arith, nat_tests, first_append, first_elsewhere, h)

  accepted_is : Passes own → is_accepted bytes ≡ true
  accepted_is t = all_pass own (suc (count_of bytes)) (λ p l. t p)

  refused_is : (r : Refusal) (place : ℕ) → first_of (own place) ≡ refused r → is_accepted bytes ≡ false
  refused_is r place e =
      ⊎_elim
      (λ (l : place < suc (count_of bytes)). one_refuses own (suc (count_of bytes)) place r l e)
      (λ (l : suc (count_of bytes) ≤ place). clash (let z : refused r ≡ passed = sym e ∙ behind_cards place l in cc))
      (cases_lt place (suc (count_of bytes)))

  -- what the call answers, in terms of the table
  abbrev DayTold : Result Leaders (SentBack ℕ) → Type 0
  DayTold (Ok m) = Passes (day_conditions_at bytes day)
  DayTold (Err sent) = Refuses (day_conditions_at bytes day) sent.refusal sent.place

  own_refuses : (r : Refusal) (place : ℕ) → Refuses own r place → Refuses (day_conditions_at bytes day) r place
  own_refuses r place t =
      let hidden : both (is_accepted bytes) (bad_day day) ≡ false = ap (λ b. both b (bad_day day)) (refused_is r place t.0) in (
        lines place ∙ ap (λ v. after v (named place)) t.0,
        λ p l. lines p ∙ (ap (λ v. after v (named p)) (t.1 p l) ∙ named_passes hidden p),
      )

  own_passes : Passes own → (b : Bool) → bad_day day ≡ b → (m : Leaders) → DayTold (unless_bad b m)
  own_passes t true q m =
      let holds : both (is_accepted bytes) (bad_day day) ≡ true = ap (λ b. both b (bad_day day)) (accepted_is t) ∙ q in
      (lines 0 ∙ (ap (λ v. after v (named 0)) (t 0) ∙ named_refuses holds), λ p l. absurd (not-suc-le-zero l))
  own_passes t false q m =
      let hidden : both (is_accepted bytes) (bad_day day) ≡ false = ap (λ b. both b (bad_day day)) (accepted_is t) ∙ q in
      λ p. lines p ∙ (ap (λ v. after v (named p)) (t p) ∙ named_passes hidden p)

  day_goes : DayTold (day_of bytes day)
  day_goes = go (outcome_of bytes enough) refl (told bytes enough)
    where
      go : (o : Result Leaders (SentBack ℕ)) → outcome_of bytes enough ≡ o → Told bytes enough (outcome_of bytes enough) → DayTold (day_of bytes day)
      go (Ok l) k t =
          subst DayTold (sym (day_is bytes day k))
          (own_passes (subst (Told bytes enough) k t) (bad_day day) refl (leaders_on day (found bytes enough k).list))
      go (Err sent) k t =
          subst DayTold (sym (day_refused bytes day sent k)) (own_refuses sent.refusal sent.place (subst (Told bytes enough) k t))

  -- it accepts or refuses
  ends : (o : Result Leaders (SentBack ℕ)) → ((m : Leaders) × (o ≡ Ok m)) ⊎ ((r : Refusal) × (place : ℕ) × (o ≡ Err (refused_at r place)))
  ends (Ok m) = inl (m, refl)
  ends (Err sent) = inr (sent.refusal, sent.place, refl)

pub day_exactly : DayExactly
day_exactly bytes day =
    exactly_by (day_conditions_at bytes day)
    (λ r place. day_of bytes day ≡ Err (refused_at r place))
    ((m : Leaders) × (day_of bytes day ≡ Ok m))
    (ends bytes day (day_of bytes day))
    (λ a. subst (DayTold bytes day) a.1 (day_goes bytes day))
    (λ r place e. subst (DayTold bytes day) e (day_goes bytes day))
