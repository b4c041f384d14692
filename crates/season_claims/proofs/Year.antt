-- The year's farthest cards and their days, proved.
-- Assumes nothing.
use Rattle.std.specs.Prelude.{ℕ, ◌<◌, ◌≡◌, refl, true, false, List, ◌↔◌, Option, Some, None, Result, Ok, Err}
use Rattle.std.proofs.Common.{arith, ◌∙◌, sym, ap, ap₂, subst, subst₂}
use Rattle.std.proofs.lemmas.Bool.{true≢false}
use Rattle.std.proofs.lemmas.Bool.Decides.{nat_tests}
use Rattle.search.specs.Laws.{clash}
use Rattle.refusals.specs.declared.SentBack.{SentBack}
use Rattle.card.specs.declared.Answer.{Answer}
use Rattle.farthest.specs.declared.Leaders.{Leaders}
use Rattle.card.specs.declared.Class.{Class}
use Rattle.card.specs.declared.Class.TheVariants as class
use Rattle.seasons.proofs.SeasonLaws.{day_within, good_day}
use Rattle.farthest.specs.declared.Leader.{Leader}
use Rattle.farthest.specs.Farthest.{NoFarther, NoCard, farthest_of, leaders_of}
use Rattle.farthest.proofs.Laws.{none_if}
use Rattle.ordering.specs.Order.{kind_of}
use Rattle.ordering.specs.Claim.{card_at, farthest_in}
use Rattle.ordering.proofs.Order.{class_is}
use Rattle.prefix.proofs.Kept.{same_class}
use Rattle.ordering.proofs.Ordering.{in_result}
use Rattle.by_day.specs.Day.{in_force_on, leaders_on, unless_bad, day_of}
use Rattle.season_claims.proofs.Days.{day_is, day_found}
use Rattle.by_day.proofs.Standing.{from_day, on_day_at_most}
use Rattle.by_day.proofs.Reached.{Good, reached, earliest, no_cards}
use Rattle.by_day.proofs.Years.{good_seasons}
use Rattle.header.specs.declared.Stored.{Stored}
use Rattle.header.specs.Header.{stored_at, layout_in, stored_if, stored_in, enough}
use Rattle.cards.specs.Distances.{distances_of, differ, wrong_for}
use Rattle.cards.specs.Register.{outcome_of}
use Rattle.ordering.proofs.Found.{found, found_cards, from_card, to_card}
use Rattle.by_day.specs.declared.Year.{Year}
use Rattle.by_day.specs.Year.{has_distance, farthest_on, earliest_day, year_from, year_of, day_told, leaders_told}
use Rattle.season_claims.specs.Claim.{DayOfYear, FarOn, YearReached, YearExceeded, YearEarliest, NoCardOf, NoDay, YearWhole, HeaderKeepsYear}

-- ---- the call

-- of an accepted register it tells the year of its answers
pub year_is : (bytes : List ℕ) {l : Leaders} (e : outcome_of bytes enough ≡ Ok l) → year_of bytes ≡ Ok (year_from (found bytes enough e).list)
unfolding year_of outcome_of
year_is bytes e = grind (arith, found_cards bytes (found bytes enough e), e)

-- one that is sent back gives its refusal
pub year_refused : (bytes : List ℕ) (sent : SentBack ℕ) → outcome_of bytes enough ≡ Err sent → year_of bytes ≡ Err sent
unfolding year_of outcome_of
year_refused bytes sent e = grind (arith, e)

-- the year's farthest cards are those of all answers
leaders_from_year : (xs : List Answer) → (year_from xs).leaders ≡ leaders_of xs
unfolding year_from
leaders_from_year xs = refl

-- where it answers, the register is accepted
pub record YearFound (bytes : List ℕ) (year : Year) : Type 0 where
  pub whole : Leaders
  pub accepted : outcome_of bytes enough ≡ Ok whole
  pub told : year_from (found bytes enough accepted).list ≡ year

pub year_found : (bytes : List ℕ) (year : Year) → year_of bytes ≡ Ok year → YearFound bytes year
year_found bytes year e = go (outcome_of bytes enough) refl
  where
    go : (o : Result Leaders (SentBack ℕ)) → outcome_of bytes enough ≡ o → YearFound bytes year
    go (Ok l) k =
        let z : Ok (year_from (found bytes enough k).list) ≡ Ok year = sym (year_is bytes k) ∙ e in
        record { whole = l; accepted = k; told = cc }
    go (Err sent) k = clash (let z : Err sent ≡ Ok year = sym (year_refused bytes sent k) ∙ e in cc)

module _ (bytes : List ℕ) (year : Year) (f : YearFound bytes year) where
  abbrev pub list : List Answer
  list = (found bytes enough f.accepted).list

  pub leads : leaders_of list ≡ year.leaders
  leads = sym (leaders_from_year list) ∙ ap (λ (y : Year). y.leaders) f.told

pub year_whole : YearWhole
year_whole register = go (outcome_of register enough) refl
  where
    go : (o : Result Leaders (SentBack ℕ)) → outcome_of register enough ≡ o → leaders_told (year_of register) ≡ o
    go (Ok l) k =
        let f = found register enough k in
        ap leaders_told (year_is register k) ∙ ap Ok (leaders_from_year f.list ∙ f.leads)
    go (Err sent) k = ap leaders_told (year_refused register sent k)

-- ---- the days

pub year_exceeded : YearExceeded
year_exceeded c register year day m e q =
    let f = year_found register year e in
    subst₂ NoFarther
    (in_result c (in_force_on day (list register year f)) (day_found register day m f.accepted q).leads)
    (in_result c (list register year f) (leads register year f))
    (on_day_at_most day c (list register year f))

module _ (c : Class) (register : List ℕ) (year : Year) (f : YearFound register year) where
  abbrev xs : List Answer
  xs = list register year f

  -- the farthest card in the result is that of the answers
  farthest_is : farthest_of c xs ≡ farthest_in c year.leaders
  farthest_is = in_result c xs (leads register year f)

  told_day : (k : Class) → earliest_day k xs (farthest_of k xs) ≡ day_told k year
  unfolding year_from
  told_day class.Toxic = ap (λ (y : Year). y.toxic_day) f.told
  told_day class.Flammable = ap (λ (y : Year). y.flammable_day) f.told

  -- an accepted card's season has days of the year alone
  good : Good xs
  good = good_seasons register xs (found_cards register (found register enough f.accepted))

  -- the farthest of a day of the year
  far_on : (d day : ℕ) → DayOfYear day → has_distance (farthest_on c day xs) d ≡ true → FarOn c register day d
  unfolding leaders_on
  far_on d day k h = go (farthest_on c day xs) refl h
    where
      m : Leaders
      m = leaders_of (in_force_on day xs)

      told : day_of register day ≡ Ok m
      told = day_is register day f.accepted ∙ ap (λ b. unless_bad b m) (good_day day k.0 k.1)

      go : (l : Option Leader) → farthest_on c day xs ≡ l → has_distance l d ≡ true → FarOn c register day d
      go None e w = clash (cc)
      go (Some lead) e w = (m, lead, told, sym (in_result c (in_force_on day xs) refl) ∙ e, grind (arith, nat_tests, w))

  module _ (lead : Leader) (e : farthest_in c year.leaders ≡ Some lead) where
    reached_day : DayOfYear (day_told c year) × FarOn c register (day_told c year) lead.distance.0
    reached_day =
        let r = reached c xs good lead (farthest_is ∙ e) in
        subst (λ day. DayOfYear day × FarOn c register day lead.distance.0) (told_day c)
        ((r.0, r.1), far_on lead.distance.0 (earliest_day c xs (farthest_of c xs)) (r.0, r.1) r.2)

    no_earlier : (day : ℕ) → day < day_told c year → FarOn c register day lead.distance.0 → ⊥
    no_earlier day h o =
        let t = day_found register day o.0 f.accepted o.2 in
        let on : farthest_on c day xs ≡ Some o.1 = in_result c (in_force_on day xs) t.leads ∙ o.3 in
        let has : has_distance (Some o.1) lead.distance.0 ≡ true = grind (arith, nat_tests, o.4) in
        let not = earliest c xs good lead (farthest_is ∙ e) day (day_within day t.good).0 (subst (λ n. day < n) (sym (told_day c)) h) in
        true≢false (sym has ∙ (ap (λ (l : Option Leader). has_distance l lead.distance.0) (sym on) ∙ not))

  -- a class without cards has no answer
  no_answer : NoCardOf c register → NoCard c xs
  no_answer n i a w k =
      let x = from_card register enough f.accepted i a w in
      n i x.0 (class_is (card_at register i) x.1 x.2 ∙ ap kind_of k)

  no_card : NoCard c xs → NoCardOf c register
  no_card n i l k =
      let x = to_card register enough f.accepted i l in
      n i x.0 x.1 (same_class x.0.class c (sym (class_is (card_at register i) x.2 x.3) ∙ k))

  without : NoCardOf c register → farthest_in c year.leaders ≡ None
  without n = sym farthest_is ∙ none_if c xs (no_answer n)

  zero_exactly : (day_told c year ≡ 0) ↔ NoCardOf c register
  zero_exactly =
      let n = no_cards c xs good in
      ((λ z. no_card (n.0 (told_day c ∙ z))), (λ w. sym (told_day c) ∙ n.1 (no_answer w)))

  none_on_day : NoCardOf c register → (day : ℕ) (m : Leaders) → day_of register day ≡ Ok m → farthest_in c m ≡ None
  none_on_day n day m q =
      sym (in_result c (in_force_on day xs) (day_found register day m f.accepted q).leads)
      ∙ none_if c (in_force_on day xs) (λ i a w k. let on = (from_day day xs i a w).0 in no_answer n on.0 a on.1 k)

pub year_reached : YearReached
year_reached c register year lead e k = reached_day c register year (year_found register year e) lead k

pub year_earliest : YearEarliest
year_earliest c register year lead day e k h o = no_earlier c register year (year_found register year e) lead k day h o

pub no_day : NoDay
no_day c register year e =
    let f = year_found register year e in
    (zero_exactly c register year f, λ n. (without c register year f n, none_on_day c register year f n))

-- ---- the header

-- the distances that an accepted register stores are those of its farthest cards
stored_are : (register : List ℕ) {l : Leaders} → outcome_of register enough ≡ Ok l → (layout_in register).stores ≡ true → stored_at register ≡ distances_of l
unfolding stored_in wrong_for
stored_are register {l} e k =
    let s : Stored = stored_at register in
    let d : Stored = distances_of l in
    let right : differ s d ≡ false = sym (ap (λ b. wrong_for (stored_if b s) l) k) ∙ (found register enough e).stored in
    let toxic : s.toxic ≡ d.toxic = grind (arith, nat_tests, right) in
    let flammable : s.flammable ≡ d.flammable = grind (arith, nat_tests, right) in
    ap₂ (λ t f. record { toxic = t; flammable = f }) toxic flammable

pub header_keeps_year : HeaderKeepsYear
header_keeps_year register year k e =
    let f = year_found register year e in
    stored_are register f.accepted k ∙ ap distances_of (sym (found register enough f.accepted).leads ∙ leads register year f)
