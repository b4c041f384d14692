-- The longest strict line of an accepted register has 59 bytes with its line feed (`Claim.antt`).
-- Assumes nothing.
use Rattle.std.specs.Prelude.{ℕ, ◌*◌, ◌-◌, ◌^◌, ◌≤◌, ◌<◌, ◌≡◌, refl, List, [], ◌∷◌, ◌⊎◌, ltb, length, replicate, Some, None}
use Rattle.farthest.specs.Farthest.{leader}
use Rattle.std.proofs.Common.{arith, inl, inr, length-append, ltb-true}
use Rattle.search.specs.Places.{look_up}
use Rattle.search.specs.PlaceLaws.{every_at}
use Rattle.exhibits.specs.PrintedB1.{b1}
use Rattle.exhibits.specs.PrintedB2.{b2}
use Rattle.exhibits.specs.Exhibits.{toxic_of}
use Rattle.rules.specs.Rules.{answered, apart, by_row, closest, closest_column, closest_from, closest_row, distance, from_column, in_use, larger, largest, last_of, smaller, thousandths}
use Rattle.dispersion.specs.Tables.{read_in, reading_of, tables}
use Rattle.release.specs.Rates.{at_most_ten_minutes, pool_rate}
use Rattle.pool_area.specs.Pool.{diked_area}
use Rattle.factors.specs.Factors.{column_of}
use Rattle.which_table.specs.WhichTable.{table_of}
use Rattle.scenario.specs.Plan.{plan_of, pool_of}
use Rattle.buffer.specs.Numbers.{two_bytes, four_bytes}
use Rattle.decimal.specs.Decimal.{digits, padded}
use Rattle.decimal.proofs.Laws.{digits_short}
use Rattle.pieces.specs.Pieces.{closed}
use Rattle.fields.specs.declared.Fields.{Fields}
use Rattle.fields.specs.Layout.{fields_of}
use Rattle.form.specs.Form.{state_of, ground_of, held_of, shape_of}
use Rattle.ranges.specs.Ranges.{bad_pounds, bad_area, bad_wall, signed, bad_heat, bounds_of, tenths_of}
use Rattle.meaning.specs.Reading.{bad_number, substance_of, toxic_meaning, meaning_of}
use Rattle.meaning.specs.Ranges.{Ranged, ranged}
use Rattle.seasons.specs.Seasons.{season_of, bad_day, bad_season}
use Rattle.card.specs.Stock.{stock_of}
use Rattle.card.specs.Answers.{answer_of}
use Rattle.farthest.specs.Farthest.{leaders_after, leaders_from, leaders_of}
use Rattle.header.specs.Header.{layout_of, layout_in, stored_in, cards_in, bad_length, bad_version, bad_count, bad_buffer, header_of}
use Rattle.cards.specs.Distances.{wrong_for}
use Rattle.cards.specs.Register.{cards_from, cards_of, outcome_of}
use Rattle.comma.specs.Text.{card_bytes, bytes_of, header_bytes, register_of}
use Rattle.comma.specs.Strict.{cas_text, heat_text, tenths_text, field_texts, strict_line, strict_lines}
use Rattle.comma.proofs.StrictLaws.{AllFitting, cas_short, heat_cases, tenths_cases}
use Rattle.comma.specs.CardLaws.{AllBytes}
use Rattle.comma.proofs.CardLaws.{register_counted}
use Rattle.write_lines.specs.Writing.{fields_of_register, strict_text}
use Rattle.texts.specs.Claim.{Writable, Longest, Reached}
use Rattle.texts.proofs.Accepted.{AllMean, all_mean}
use Rattle.texts.proofs.Told.{told_accepted}

-- ---- a line

-- a temperature in range is at most four digits, or a minus and three
heat_length : (heat : ℕ) → (heat ≤ 3_000) ⊎ (65_036 ≤ heat) → length (heat_text heat) ≤ 4
heat_length heat (inl h) =
    heat_cases (λ text. length text ≤ 4) heat (λ up. digits_short 3 heat (omega arith)) (λ down. absurd (omega arith))
heat_length heat (inr h) =
    heat_cases (λ text. length text ≤ 4) heat (λ up. absurd (omega arith))
    (λ down. omega (arith, digits_short 2 (65_536 - heat) (omega arith)))

-- so is the ninth field in every state: in state 5, where no minus is written, the two bytes are at most 3,000
tenths_length : (state heat : ℕ) → (heat ≤ 3_000) ⊎ ((65_036 ≤ heat) × (state ≡ 5 → ⊥)) → length (tenths_text state heat) ≤ 4
tenths_length state heat (inl h) =
    tenths_cases (λ form text. length text ≤ 4) state heat (λ e. digits_short 3 heat (omega arith)) (λ n. heat_length heat (inl h))
tenths_length state heat (inr h) =
    tenths_cases (λ form text. length text ≤ 4) state heat (λ e. absurd (h.1 e)) (λ n. heat_length heat (inr h.0))

-- the ten numbers of a card in range and their commas
line_length : (f : Fields) → Ranged f → f.number < 2 ^ 32 → length (strict_line f) ≤ 58
unfolding strict_line field_texts closed
line_length f r h =
    simp length-append
    (omega (
      arith,
      digits_short 0 f.kind (omega arith),
      digits_short 0 f.state (omega arith),
      digits_short 0 f.topography (omega arith),
      digits_short 0 f.containment (omega arith),
      cas_short 4 f.cas (omega arith),
      digits_short 7 f.pounds (omega arith),
      digits_short 6 f.area (omega arith),
      digits_short 4 f.wall (omega arith),
      tenths_length f.state f.heat r.heat,
      digits_short 9 f.number (omega arith),
    ))

-- ---- a text: a line and its line feed for each card

lines_length : (last : ℕ) (xs : List Fields) → AllFitting xs → AllMean last xs → length (strict_lines xs) ≤ 59 * length xs
unfolding strict_lines closed
lines_length last [] fit m = omega arith
lines_length last (f ∷ rest) fit m =
    simp length-append
    (omega (arith, line_length f (ranged f last m.0) fit.0.number, lines_length f.number rest fit.1 m.1))

pub longest : Longest
unfolding strict_text fields_of_register
longest register all a =
    let cards = fields_of_register register in
    omega (
      arith,
      lines_length 0 cards (told_accepted register all a).fit (all_mean register a),
      register_counted register,
    )

-- ---- 59 is reached

-- 10,000,000 lb of phosphorus oxychloride at -50.0 °C in the largest dike, on urban ground: its line is
-- 1,4,2,1,10025-87-3,10000000,1000000,10000,-500,4294967295, and the line feed
unfoldable pub widest : List ℕ
unfolding register_of header_bytes bytes_of card_bytes two_bytes four_bytes
widest =
    register_of
    (record {
      kind = 1;
      state = 4;
      topography = 2;
      containment = 1;
      cas = 10_025_873;
      pounds = 10_000_000;
      area = 1_000_000;
      wall = 10_000;
      heat = 65_536 - 500;
      number = 4_294_967_295;
    }
    ∷ [])

widest_bytes : AllBytes widest
unfolding widest
widest_bytes i = ltb-true _ 256 (every_at (λ b. ltb b 256) widest 0 refl refl i)

widest_written : Writable widest
unfolding widest outcome_of header_of bad_length bad_version bad_count bad_buffer layout_of layout_in stored_in cards_in wrong_for cards_of cards_from answer_of stock_of season_of bad_season bad_day fields_of meaning_of bad_number shape_of state_of ground_of held_of toxic_meaning substance_of tenths_of toxic_of look_up b1 b2 bounds_of bad_pounds bad_area bad_wall bad_heat signed plan_of pool_of table_of column_of at_most_ten_minutes diked_area pool_rate reading_of read_in tables answered apart by_row closest closest_column closest_from closest_row distance from_column in_use larger largest last_of smaller thousandths leaders_of leaders_from leaders_after
widest_written =
    ((replicate 16 0, record { toxic = Some (leader 4_294_967_295 (record { 0 = 2_500 })); flammable = None }, refl), refl)

pub reached : Reached
unfolding widest strict_text fields_of_register layout_of layout_in cards_in fields_of strict_lines strict_line field_texts closed cas_text heat_text tenths_text digits padded
reached = (widest, widest_bytes, widest_written, refl, refl)
