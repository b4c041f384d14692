-- What an answer has of its card: its number, its season, and a meaning whose days are days of the year.
-- Assumes nothing.
use Rattle.std.specs.Prelude.{ℕ, ◌≡◌, refl, Bool, true, false, List, Option, Some, None, Result, Ok, Err}
use Rattle.refusals.specs.declared.Refusal.{Refusal}
use Rattle.units.specs.declared.Miles.{Miles}
use Rattle.std.proofs.Common.{sym, ap}
use Rattle.search.specs.Laws.{clash}
use Rattle.dispersion.specs.Tables.{reading_of}
use Rattle.scenario.specs.declared.ToxicCard.{ToxicCard}
use Rattle.scenario.specs.declared.Scenario.{Scenario}
use Rattle.scenario.specs.Plan.{plan_of}
use Rattle.fields.specs.Layout.{fields_of}
use Rattle.seasons.specs.declared.Season.{Season}
use Rattle.seasons.specs.Seasons.{season_of, bad_season, whole_year}
use Rattle.meaning.specs.declared.Meaning.{Meaning}
use Rattle.meaning.specs.declared.Meaning.TheVariants as meaning
use Rattle.meaning.specs.Reading.{meaning_of}
use Rattle.card.specs.declared.Answer.{Answer}
use Rattle.card.specs.Stock.{stock_if, in_season, stock_of}
use Rattle.card.specs.Answers.{read_toxic, planned_answer, answer_by, answer_for, answer_of}

abbrev number_in : Result Answer Refusal → ℕ
number_in (Ok a) = a.number
number_in (Err r) = 0

abbrev season_in : Result Answer Refusal → Season
season_in (Ok a) = a.season
season_in (Err r) = whole_year

read_season : (x : Option Miles) (n : ℕ) (season : Season) (s : Scenario) {a : Answer} → read_toxic x n season s ≡ Ok a → (a.number ≡ n) × (a.season ≡ season)
read_season (Some d) n season s e = (ap number_in (sym e), ap season_in (sym e))
read_season None n season s e = let z : ◌≡◌ {A = ℕ} 0 1 = cc in clash z

plan_season : (p : Option Scenario) (n : ℕ) (season : Season) (card : ToxicCard) {a : Answer} → planned_answer p n season card ≡ Ok a → (a.number ≡ n) × (a.season ≡ season)
plan_season (Some s) n season card e = read_season (reading_of s.table card.topography s.rate.0 s.endpoint) n season s e
plan_season None n season card e = let z : ◌≡◌ {A = ℕ} 0 1 = cc in clash z

by_season : (m : Meaning) (season : Season) (n : ℕ) {a : Answer} → answer_by m season n ≡ Ok a → (a.number ≡ n) × (a.season ≡ season)
by_season (meaning.Toxic card) season n e = plan_season (plan_of card) n season card e
by_season (meaning.Flammable card) season n e = (ap number_in (sym e), ap season_in (sym e))

-- An answered card has a meaning and a season of days of the year, and its answer is that of both.
pub record Stocked (bytes : List ℕ) (last : ℕ) (a : Answer) : Type 0 where
  pub meaning : Meaning
  pub means : meaning_of (fields_of bytes) last ≡ Ok meaning
  pub season : bad_season (season_of bytes) ≡ false
  pub answered : answer_by meaning (season_of bytes) (fields_of bytes).number ≡ Ok a

pub stocked : (bytes : List ℕ) (last : ℕ) {a : Answer} → answer_of bytes last ≡ Ok a → Stocked bytes last a
unfolding answer_of stock_of
stocked bytes last {a} e = go (meaning_of (fields_of bytes) last) refl e
  where
    test : (m : Meaning) → meaning_of (fields_of bytes) last ≡ Ok m → (b : Bool) → bad_season (season_of bytes) ≡ b
        → answer_for (stock_if b (record { meaning = m; season = season_of bytes })) (fields_of bytes).number ≡ Ok a → Stocked bytes last a
    test m p true q k = clash (cc)
    test m p false q k = record { meaning = m; means = p; season = q; answered = k }

    go : (m : Result Meaning Refusal) → meaning_of (fields_of bytes) last ≡ m → answer_for (in_season m (season_of bytes)) (fields_of bytes).number ≡ Ok a → Stocked bytes last a
    go (Ok m) p k = test m p (bad_season (season_of bytes)) refl k
    go (Err r) p k = clash (cc)

-- an answer has the number of its card
pub answer_number : (card : List ℕ) (last : ℕ) {a : Answer} → answer_of card last ≡ Ok a → a.number ≡ (fields_of card).number
answer_number card last e =
    let s = stocked card last e in
    (by_season s.meaning (season_of card) (fields_of card).number s.answered).0

-- and its season
pub answer_season : (card : List ℕ) (last : ℕ) {a : Answer} → answer_of card last ≡ Ok a → a.season ≡ season_of card
answer_season card last e =
    let s = stocked card last e in
    (by_season s.meaning (season_of card) (fields_of card).number s.answered).1
