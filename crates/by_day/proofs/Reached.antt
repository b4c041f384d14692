-- The year's distance of a class with cards is reached on some day, its earliest one, and exceeded on none: what callers use of the
-- definitions of the year (`specs/Year.antt`), for cards whose seasons are not refused.
-- Assumes nothing.
use Rattle.std.specs.Prelude.{ℕ, zero, suc, ◌+◌, ◌≤◌, ◌<◌, ◌≡◌, refl, Bool, true, false, ◌⊎◌, ◌↔◌, List, Option, Some, None}
use Rattle.std.proofs.Common.{arith, ◌∙◌, sym, ap, subst, ⊎_elim}
use Rattle.std.proofs.lemmas.Bool.{eq-eqb, ne_eqb, cases_order, true≢false}
use Rattle.seasons.specs.Seasons.{bad_season, in_force}
use Rattle.seasons.proofs.SeasonLaws.{first_day_within, in_force_first, first_day_least}
use Rattle.units.specs.declared.Miles.{Miles}
use Rattle.card.specs.declared.Class.{Class}
use Rattle.card.specs.declared.Answer.{Answer}
use Rattle.farthest.specs.declared.Leader.{Leader}
use Rattle.farthest.specs.Farthest.{At, Reaches, NoFarther, NoCard, farthest_of}
use Rattle.farthest.proofs.Laws.{reaches, leads, none_only, none_if}
use Rattle.by_day.specs.Day.{in_force_on}
use Rattle.by_day.specs.Year.{has_distance, farthest_on, earliest_from, earliest_day}
use Rattle.by_day.proofs.Standing.{Stands, from_day, to_day, on_day_at_most}
use Rattle.by_day.proofs.Earliest.{day_from, Earliest, Led, led_all}

-- no card has a day that is none of the year
abbrev pub Good : List Answer → Type 0
Good xs = (i : ℕ) (a : Answer) → At xs i a → bad_season a.season ≡ false

-- ---- a farthest card of a distance

has_reached : (f : Option Leader) (lead : Leader) → Reaches f lead.distance.0 → NoFarther f (Some lead) → has_distance f lead.distance.0 ≡ true
has_reached None lead r n = absurd r
has_reached (Some first) lead r n = eq-eqb first.distance.0 lead.distance.0 (omega arith)

-- ---- the search for the earliest day

-- a day that has it, where none before it has, is found
day_found : (c : Class) (xs : List Answer) (far n from day : ℕ) → from ≤ day → day < from + n → has_distance (farthest_on c day xs) far ≡ true
    → ((d : ℕ) → from ≤ d → d < day → has_distance (farthest_on c d xs) far ≡ false) → earliest_from c xs far n from ≡ day
unfolding earliest_from
day_found c xs far zero from day l h there before = absurd (omega arith)
day_found c xs far (suc n) from day l h there before = go (has_distance (farthest_on c from xs) far) refl (day_found c xs far n (suc from) day)
  where
    not_here : has_distance (farthest_on c from xs) far ≡ false → from < day
    not_here e =
        ⊎_elim
        (λ (q : from ≡ day). absurd (true≢false (sym there ∙ (ap (λ d. has_distance (farthest_on c d xs) far) (sym q) ∙ e))))
        (λ (o : (from < day) ⊎ (day < from)). ⊎_elim (λ (k : from < day). k) (λ (k : day < from). absurd (omega arith)) o)
        (cases_order from day)

    here : has_distance (farthest_on c from xs) far ≡ true → from ≡ day
    here e =
        ⊎_elim
        (λ (q : from ≡ day). q)
        (λ (o : (from < day) ⊎ (day < from)).
        ⊎_elim (λ (k : from < day). absurd (true≢false (sym e ∙ before from (omega arith) k))) (λ (k : day < from). absurd (omega arith)) o)
        (cases_order from day)

    go : (t : Bool) → has_distance (farthest_on c from xs) far ≡ t
        → (suc from ≤ day → day < suc from + n → has_distance (farthest_on c day xs) far ≡ true
        → ((d : ℕ) → suc from ≤ d → d < day → has_distance (farthest_on c d xs) far ≡ false) → earliest_from c xs far n (suc from) ≡ day)
        → elim t [ true ↦ from | false ↦ earliest_from c xs far n (suc from) ] ≡ day
    go true e ih = here e
    go false e ih = let k = not_here e in ih (omega arith) (omega arith) there (λ d p q. before d (omega arith) q)

-- ---- the day that the walk keeps

module _ (c : Class) (xs : List Answer) (good : Good xs) where
  abbrev walked_day : ℕ
  walked_day = day_from c None 0 xs

  module _ (lead : Leader) (e : farthest_of c xs ≡ Some lead) where
    earliest_card : Earliest c (Stands xs) lead.distance.0 walked_day
    earliest_card = subst (λ (f : Option Leader). Led c (Stands xs) f walked_day) e (led_all c xs)

    season_good : bad_season earliest_card.card.season ≡ false
    season_good = good earliest_card.seen.0 earliest_card.card earliest_card.seen.1

    walked_within : (1 ≤ walked_day) × (walked_day ≤ 366)
    walked_within = subst (λ d. (1 ≤ d) × (d ≤ 366)) (sym earliest_card.its_day) (first_day_within earliest_card.card.season season_good)

    -- on that day the card is in force
    walked_reached : has_distance (farthest_on c walked_day xs) lead.distance.0 ≡ true
    walked_reached =
        let k = earliest_card in
        let on : in_force k.card.season walked_day ≡ true = ap (in_force k.card.season) k.its_day ∙ in_force_first k.card.season season_good in
        let there = to_day walked_day xs k.seen.0 k.card k.seen.1 on in
        has_reached (farthest_on c walked_day xs) lead
        (subst (Reaches (farthest_on c walked_day xs)) k.as_far (reaches c (in_force_on walked_day xs) there.0 k.card there.1 k.of_class))
        (subst (NoFarther (farthest_on c walked_day xs)) e (on_day_at_most walked_day c xs))

    -- on an earlier one no card that is as far is
    walked_first : (d : ℕ) → 1 ≤ d → d < walked_day → has_distance (farthest_on c d xs) lead.distance.0 ≡ false
    walked_first d l h = go (farthest_on c d xs) refl
      where
        go : (f : Option Leader) → farthest_on c d xs ≡ f → has_distance f lead.distance.0 ≡ false
        go None q = refl
        go (Some first) q =
            ne_eqb first.distance.0 lead.distance.0
            (λ same.
            let w = leads c (in_force_on d xs) first.number first.distance q in
            let r = from_day d xs w.0 w.1 w.2.stands in
            let far : w.1.distance.0 ≡ lead.distance.0 = ap (λ (m : Miles). m.0) w.2.far ∙ same in
            let least = (earliest_card.others w.1 r.0 w.2.of_class).1 far in
            let own = first_day_least w.1.season d l r.1 in
            omega arith)

    walked_is : earliest_from c xs lead.distance.0 366 1 ≡ walked_day
    walked_is =
        day_found c xs lead.distance.0 366 1 walked_day walked_within.0 (let z = walked_within.1 in omega arith) walked_reached walked_first

  pub walked_earliest : walked_day ≡ earliest_day c xs (farthest_of c xs)
  walked_earliest = go (farthest_of c xs) refl
    where
      go : (f : Option Leader) → farthest_of c xs ≡ f → walked_day ≡ earliest_day c xs f
      go None e = let l = subst (λ (f : Option Leader). Led c (Stands xs) f walked_day) e (led_all c xs) in l.0
      go (Some lead) e = sym (walked_is lead e)

  -- ---- the laws

  abbrev day : ℕ
  day = earliest_day c xs (farthest_of c xs)

  module _ (lead : Leader) (e : farthest_of c xs ≡ Some lead) where
    -- the earliest day is one of the year, and the year's distance is reached on it
    pub reached : (1 ≤ day) × (day ≤ 366) × (has_distance (farthest_on c day xs) lead.distance.0 ≡ true)
    reached =
        subst (λ d. (1 ≤ d) × (d ≤ 366) × (has_distance (farthest_on c d xs) lead.distance.0 ≡ true)) walked_earliest
        ((walked_within lead e).0, (walked_within lead e).1, walked_reached lead e)

    -- and on no day before it
    pub earliest : (d : ℕ) → 1 ≤ d → d < day → has_distance (farthest_on c d xs) lead.distance.0 ≡ false
    earliest d l h = walked_first lead e d l (subst (λ n. d < n) (sym walked_earliest) h)

  -- day 0 is that of a class without cards
  pub no_cards : (day ≡ 0) ↔ NoCard c xs
  no_cards = (to, λ n. ap (earliest_day c xs) (none_if c xs n))
    where
      to : day ≡ 0 → NoCard c xs
      to z = go (farthest_of c xs) refl
        where
          go : (f : Option Leader) → farthest_of c xs ≡ f → NoCard c xs
          go None e = none_only c xs e
          go (Some lead) e = let r = reached lead e in absurd (omega arith)
