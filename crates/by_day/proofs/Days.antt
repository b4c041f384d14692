-- The farthest of a day: what the walk keeps is what the definition says, before the day itself is looked at.
-- Assumes nothing.
use Rattle.std.specs.Prelude.{ℕ, ◌≡◌, refl, Bool, true, false, List, [], ◌∷◌, Result, Ok, Err}
use Rattle.std.proofs.Common.{sym, ap}
use Rattle.refusals.specs.declared.Refusal.{Refusal}
use Rattle.refusals.specs.declared.SentBack.{SentBack}
use Rattle.seasons.specs.Seasons.{bad_day, in_force}
use Rattle.card.specs.declared.Answer.{Answer}
use Rattle.farthest.specs.declared.Leaders.{Leaders}
use Rattle.farthest.specs.Farthest.{no_leaders, leaders_after, leaders_from, leaders_of}
use Rattle.header.specs.Header.{enough, header_of}
use Rattle.cards.specs.Register.{Cards, answers, sent_back, cards_of}
use Rattle.tally.specs.Tally.{kept_after}
use Rattle.by_day.specs.declared.Today.{Today}
use Rattle.by_day.specs.Day.{keep_if, in_force_on, leaders_on, unless_bad, result_on, day_behind, day_of}
use Rattle.by_day.specs.Kept.{today_before, today_if, today_after, kept_result, kept_behind, kept_of}

abbrev today : ℕ → Leaders → Today
today day l = record { day = day; leaders = l }

-- the cards in force count, in their order, and no other does
today_kept : (day : ℕ) (l : Leaders) (xs : List Answer) → kept_after today_after (today day l) xs ≡ today day (leaders_from l (in_force_on day xs))
unfolding kept_after today_after leaders_from in_force_on
today_kept day l [] = refl
today_kept day l (a ∷ xs) = go (λ m. today_kept day m xs) (in_force a.season day)
  where
    go : ((m : Leaders) → kept_after today_after (today day m) xs ≡ today day (leaders_from m (in_force_on day xs)))
        → (b : Bool) → kept_after today_after (today_if b (today day l) a) xs ≡ today day (leaders_from l (keep_if b a (in_force_on day xs)))
    go ih true = ih (leaders_after l a)
    go ih false = ih l

-- the register's own refusal comes before 21
abbrev pub looked_at : ℕ → Result Today (SentBack ℕ) → Result Leaders (SentBack ℕ)
looked_at day (Ok t) = unless_bad (bad_day day) t.leaders
looked_at day (Err sent) = Err sent

module _ (bytes : List ℕ) (day : ℕ) where
  cards_told : (c : Cards) → result_on day c ≡ looked_at day (kept_result today_after (today_before day) c)
  unfolding leaders_on leaders_of
  cards_told (answers xs) = ap (λ (t : Today). unless_bad (bad_day day) t.leaders) (sym (today_kept day no_leaders xs))
  cards_told (sent_back r place) = refl

  pub day_is : day_of bytes day ≡ looked_at day (kept_of today_after (today_before day) bytes)
  unfolding kept_of day_of
  day_is = go (header_of bytes enough)
    where
      go : (h : Result ℕ Refusal) → day_behind day h bytes ≡ looked_at day (kept_behind today_after (today_before day) h bytes)
      go (Ok n) = cards_told (cards_of bytes)
      go (Err r) = refl
