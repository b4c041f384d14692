-- Condition 6 is what the form of a card comes to.
-- Assumes nothing.
use Rattle.std.specs.Prelude.{ℕ, ◌≡◌, not, List, [], ◌∷◌, eqb, Some, is_none, is_err}
use Rattle.std.proofs.Common.{arith}
use Rattle.std.proofs.lemmas.Bool.Decides.{nat_tests}
use Rattle.search.specs.Rising.{both}
use Rattle.search.specs.Places.{either, among}
use Rattle.which_table.specs.declared.State.{State}
use Rattle.buffer.specs.Numbers.{byte_at, two_at, four_at}
use Rattle.fields.specs.Layout.{fields_of}
use Rattle.form.specs.Form.{state_of, ground_of, open_of, held_of, heat_fits, shaped_state, shaped_blank, shape_of, blank}
use Rattle.conditions.specs.Conditions.{unlisted, filled, bad_toxic, bad_flammable, bad_form}

module _ (card : List ℕ) where
  -- bytes 1 to 3 of a toxic card, with its area and its wall
  state_form : (b : ℕ) → unlisted b (1 ∷ 2 ∷ 3 ∷ 4 ∷ 5 ∷ []) ≡ is_none (state_of b)
  unfolding unlisted among state_of
  state_form b = grind (arith, nat_tests)

  ground_form : (b : ℕ) → unlisted b (1 ∷ 2 ∷ []) ≡ is_none (ground_of b)
  unfolding unlisted among ground_of
  ground_form b = grind (arith, nat_tests)

  held_form : (b area wall : ℕ) → either (unlisted b (0 ∷ 1 ∷ 2 ∷ 3 ∷ [])) (either (both (eqb b 0) (not (eqb area 0))) (both (not (eqb b 1)) (not (eqb wall 0)))) ≡ is_none (held_of b area wall)
  unfolding unlisted among held_of open_of
  held_form b area wall = grind (arith, nat_tests)

  area_filled : filled card (12 ∷ 13 ∷ 14 ∷ 15 ∷ []) ≡ not (eqb (four_at card 12) 0)
  unfolding filled
  area_filled = grind (arith, nat_tests)

  wall_filled : filled card (16 ∷ 17 ∷ []) ≡ not (eqb (two_at card 16) 0)
  unfolding filled
  wall_filled = grind (arith, nat_tests)

  -- the temperature, which is "for state 4; zero otherwise", or the concentration for state 5
  heat_form : (b : ℕ) (s : State) → state_of b ≡ Some s → both (unlisted b (4 ∷ 5 ∷ [])) (filled card (18 ∷ 19 ∷ [])) ≡ not (heat_fits s (two_at card 18))
  unfolding unlisted among filled state_of
  heat_form b s e = grind (arith, nat_tests)

  -- a card's bytes and fields refuse it where one of them does
  toxic_form : bad_toxic card ≡ is_err (shaped_state (state_of (fields_of card).state) (fields_of card))
  unfolding bad_toxic fields_of
  toxic_form =
      grind (
        arith,
        state_form (byte_at card 1),
        ground_form (byte_at card 2),
        area_filled,
        wall_filled,
        held_form (byte_at card 3) (four_at card 12) (two_at card 16),
        heat_form (byte_at card 1),
      )

  blank_form : bad_flammable card ≡ is_err (shaped_blank (blank (fields_of card)))
  unfolding bad_flammable filled fields_of blank
  blank_form = grind (arith, nat_tests)

-- 6 holds exactly where the form of a card is refused
pub form_is : (card : List ℕ) → bad_form card ≡ is_err (shape_of (fields_of card))
unfolding bad_form unlisted among shape_of fields_of
form_is card = grind (arith, nat_tests, toxic_form card, blank_form card)
