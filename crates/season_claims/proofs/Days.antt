-- A day's farthest cards, proved: what the call tells of an accepted register, and that it keeps the ordering.
-- Assumes nothing.
use Rattle.std.specs.Prelude.{ℕ, ◌≡◌, refl, Bool, true, false, List, Result, Ok, Err}
use Rattle.std.proofs.Common.{arith, ◌∙◌, sym, ap, subst₂}
use Rattle.search.specs.Laws.{clash}
use Rattle.refusals.specs.declared.SentBack.{SentBack}
use Rattle.seasons.specs.declared.Season.{Season}
use Rattle.seasons.specs.Seasons.{bad_day, season_of, in_force}
use Rattle.seasons.proofs.SeasonLaws.{day_within, good_day}
use Rattle.card.specs.declared.Class.{Class}
use Rattle.card.specs.declared.Answer.{Answer}
use Rattle.card.specs.Answers.{answer_of}
use Rattle.card.specs.Number.{answer_season}
use Rattle.farthest.specs.declared.Leaders.{Leaders}
use Rattle.farthest.specs.Farthest.{At, Matched, NoFarther, farthest_of, leaders_of}
use Rattle.farthest.proofs.Laws.{no_farther}
use Rattle.header.specs.Header.{enough}
use Rattle.cards.specs.Register.{outcome_of}
use Rattle.ordering.specs.Order.{kind_of}
use Rattle.ordering.specs.Claim.{card_at}
use Rattle.ordering.proofs.Order.{cards_ordered, class_is}
use Rattle.ordering.proofs.Ordering.{in_result}
use Rattle.ordering.proofs.Found.{found, found_cards, from_card, to_card}
use Rattle.by_day.specs.Day.{in_force_on, leaders_on, unless_bad, day_of}
use Rattle.by_day.proofs.Standing.{from_day, to_day}
use Rattle.season_claims.specs.Claim.{OnEveryDay, CoveredOn, DaysOrdered}

-- ---- the call

-- of an accepted register it tells the farthest of the answers in force, on a day of the year
pub day_is : (bytes : List ℕ) (day : ℕ) {l : Leaders} (e : outcome_of bytes enough ≡ Ok l)
    → day_of bytes day ≡ unless_bad (bad_day day) (leaders_on day (found bytes enough e).list)
unfolding day_of outcome_of
day_is bytes day e = grind (arith, found_cards bytes (found bytes enough e), e)

-- one that is sent back gives its refusal
pub day_refused : (bytes : List ℕ) (day : ℕ) (sent : SentBack ℕ) → outcome_of bytes enough ≡ Err sent → day_of bytes day ≡ Err sent
unfolding day_of outcome_of
day_refused bytes day sent e = grind (arith, e)

-- where it answers, the register is accepted
pub day_accepted : (bytes : List ℕ) (day : ℕ) (m : Leaders) → day_of bytes day ≡ Ok m → (l : Leaders) × (outcome_of bytes enough ≡ Ok l)
day_accepted bytes day m e = go (outcome_of bytes enough) refl
  where
    go : (o : Result Leaders (SentBack ℕ)) → outcome_of bytes enough ≡ o → (l : Leaders) × (outcome_of bytes enough ≡ Ok l)
    go (Ok l) k = (l, k)
    go (Err sent) k = clash (let z : Err sent ≡ Ok m = sym (day_refused bytes day sent k) ∙ e in cc)

-- and the day is one of the year
pub record DayTold (day : ℕ) (xs : List Answer) (m : Leaders) : Type 0 where
  pub good : bad_day day ≡ false
  pub leads : leaders_of (in_force_on day xs) ≡ m

pub day_found : (bytes : List ℕ) (day : ℕ) (m : Leaders) {l : Leaders} (e : outcome_of bytes enough ≡ Ok l) → day_of bytes day ≡ Ok m
    → DayTold day (found bytes enough e).list m
unfolding leaders_on
day_found bytes day m e q = go (bad_day day) refl (sym (day_is bytes day e) ∙ q)
  where
    go : (b : Bool) → bad_day day ≡ b → unless_bad b (leaders_on day (found bytes enough e).list) ≡ Ok m → DayTold day (found bytes enough e).list m
    go true k z = clash (cc)
    go false k z = record { good = k; leads = cc }

-- ---- the days of the year

pub on_every_day : OnEveryDay
on_every_day register day = (
  (λ a.
      let f = day_accepted register day a.0 a.1 in (f, day_within day (day_found register day a.0 f.1 a.1).good)),
  (λ a.
      let e = a.0.1 in (
        leaders_on day (found register enough e).list,
        day_is register day e ∙ ap (λ b. unless_bad b (leaders_on day (found register enough e).list)) (good_day day a.1.0 a.1.1),
      )),
)

-- ---- two registers on one day

-- an answer is in force on the days on which its card is
module _ (card : List ℕ) (last day : ℕ) (a : Answer) (e : answer_of card last ≡ Ok a) where
  same_days : in_force a.season day ≡ in_force (season_of card) day
  same_days = ap (λ (s : Season). in_force s day) (answer_season card last e)

  card_in_force : in_force a.season day ≡ true → in_force (season_of card) day ≡ true
  card_in_force k = sym same_days ∙ k

  answer_in_force : in_force (season_of card) day ≡ true → in_force a.season day ≡ true
  answer_in_force k = same_days ∙ k

module _ (c : Class) (day : ℕ) (first second : List ℕ) (h : CoveredOn c day first second) {l m : Leaders} (p : outcome_of first enough ≡ Ok l) (q : outcome_of second enough ≡ Ok m) where
  abbrev xs : List Answer
  xs = (found first enough p).list

  abbrev ys : List Answer
  ys = (found second enough q).list

  -- a card of the class in force has, in the second register, an answer of the class in force and at least as far
  matched : (i : ℕ) (a : Answer) → At (in_force_on day xs) i a → a.class ≡ c → Matched c a.distance.0 (in_force_on day ys)
  matched i a w k =
      let on = from_day day xs i a w in
      let j = on.0.0 in
      let x = from_card first enough p j a on.0.1 in
      let season = card_in_force (card_at first j) x.1 day a x.2 on.1 in
      let y = h j x.0 (class_is (card_at first j) x.1 x.2 ∙ ap kind_of k) season in
      let z = to_card second enough q y.0 y.1 in
      let other = answer_in_force (card_at second y.0) z.2 day z.0 z.3 y.2 in
      let there = to_day day ys y.0 z.0 z.1 other in
      let n = cards_ordered (card_at first j) (card_at second y.0) x.1 z.2 y.3 x.2 z.3 in
      (there.0, z.0, there.1, sym n.class ∙ k, n.distance)

  ordered : NoFarther (farthest_of c (in_force_on day xs)) (farthest_of c (in_force_on day ys))
  ordered = no_farther c (in_force_on day xs) (in_force_on day ys) matched

pub days_ordered : DaysOrdered
days_ordered c day first second l m p q h =
    let x = day_accepted first day l p in
    let y = day_accepted second day m q in
    subst₂ NoFarther
    (in_result c (in_force_on day (found first enough x.1).list) (day_found first day l x.1 p).leads)
    (in_result c (in_force_on day (found second enough y.1).list) (day_found second day m y.1 q).leads)
    (ordered c day first second h x.1 y.1)
