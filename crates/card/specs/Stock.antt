-- A card in meaning: what it says of its vessel, and the season in which it is in force.
-- Assumes nothing.
use Rattle.std.specs.Prelude.{ℕ, Bool, true, false, List, Result, Ok, Err}
use Rattle.refusals.specs.declared.Refusal.{Refusal}
use Rattle.refusals.specs.declared.Refusal.TheVariants as refusal
use Rattle.scenario.specs.Plan.{Limits}
use Rattle.fields.specs.Layout.{fields_of}
use Rattle.seasons.specs.declared.Season.{Season}
use Rattle.seasons.specs.Seasons.{season_of, bad_season}
use Rattle.meaning.specs.declared.Meaning.{Meaning}
use Rattle.meaning.specs.declared.Meaning.TheVariants as meaning
use Rattle.meaning.specs.Reading.{meaning_of}
use Rattle.card.specs.declared.Stock.{Stock}

-- 21: "a day outside 1 to 366, on a card after its temperature", or its concentration, and before 10: behind all that its meaning asks
abbrev pub stock_if : Bool → Stock → Result Stock Refusal
stock_if true s = Err refusal.Day
stock_if false s = Ok s

abbrev pub in_season : Result Meaning Refusal → Season → Result Stock Refusal
in_season (Ok m) s = stock_if (bad_season s) (record { meaning = m; season = s })
in_season (Err r) s = Err r

-- the bytes of a card, of any version, after the last card's number
unfoldable pub stock_of : List ℕ → ℕ → Result Stock Refusal
stock_of bytes last = in_season (meaning_of (fields_of bytes) last) (season_of bytes)

-- what it keeps of document 01's limits
abbrev pub limits_of : Meaning → Type 0
limits_of (meaning.Toxic card) = Limits card
limits_of (meaning.Flammable card) = Unit {0}

abbrev pub StockLimits : Result Stock Refusal → Type 0
StockLimits (Ok s) = limits_of s.meaning
StockLimits (Err r) = Unit {0}
