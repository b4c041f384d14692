-- Bytes 0 to 3 of a card and its must-be-zero fields: what kind of card they make, or refusal 6.
-- Assumes nothing.
use Rattle.std.specs.Prelude.{ℕ, ◌*◌, Bool, true, false, eqb, Option, Some, None, Result, Ok, Err}
use Rattle.dispersion.specs.declared.Ground.{Ground}
use Rattle.refusals.specs.declared.Refusal.{Refusal}
use Rattle.release.specs.declared.Containment.{Containment}
use Rattle.search.specs.Rising.{both}
use Rattle.dispersion.specs.declared.Ground.TheVariants.{Rural, Urban}
use Rattle.release.specs.declared.Containment.TheVariants.{Open, Dike, Building, ShedWithDoors}
use Rattle.which_table.specs.declared.State.{State}
use Rattle.which_table.specs.declared.State.TheVariants.{Gas, Pressurized, Refrigerated, Liquid, Solution}
use Rattle.fields.specs.declared.Fields.{Fields}
use Rattle.refusals.specs.declared.Refusal.TheVariants as refusal
use Rattle.form.specs.declared.Standing.{Standing}
use Rattle.form.specs.declared.Shape.{Shape}
use Rattle.form.specs.declared.Shape.TheVariants as shape

-- "1: state, 1 gas, 2 gas liquefied under pressure, 3 gas liquefied by refrigeration alone, 4 liquid"; document 02, A3: "State 5 is
-- a solution of a B-3 substance"
unfoldable pub state_of : ℕ → Option State
state_of b =
    elim (eqb b 1) [
      | true ↦ Some Gas
      | false ↦
          elim (eqb b 2) [
            | true ↦ Some Pressurized
            | false ↦
                elim (eqb b 3) [
                  | true ↦ Some Refrigerated
                  | false ↦
                      elim (eqb b 4) [
                        | true ↦ Some Liquid
                        | false ↦ elim (eqb b 5) [ true ↦ Some Solution | false ↦ None ]
                      ]
                ]
          ]
    ]

-- "2: ground, 1 rural, 2 urban."
unfoldable pub ground_of : ℕ → Option Ground
ground_of b =
    elim (eqb b 1)
    [ true ↦ Some Rural | false ↦ elim (eqb b 2) [ true ↦ Some Urban | false ↦ None ] ]

-- open, where the area is zero
unfoldable pub open_of : ℕ → Option Containment
open_of area = elim (eqb area 0) [ true ↦ Some Open | false ↦ None ]

-- "3: containment, 0 open, 1 dike, 2 building"; the area is "zero if open", the wall "zero unless a dike". "In meaning, a
-- card's containment is open, a dike with its area and wall, or a building with its floor." Document 02, A5: "Byte 3 admits 3, with the
-- area rules of 2."
unfoldable pub held_of : ℕ → ℕ → ℕ → Option Containment
held_of b area wall =
    elim (eqb b 1) [
      | true ↦ Some (Dike (record { area = record { 0 = 100 * area }; wall = wall }))
      | false ↦
          elim (eqb wall 0) [
            | true ↦
                elim (eqb b 2) [
                  | true ↦ Some (Building (record { floor = record { 0 = 100 * area } }))
                  | false ↦
                      elim (eqb b 0) [
                        | true ↦ open_of area
                        | false ↦
                            elim (eqb b 3) [
                              | true ↦ Some (ShedWithDoors (record { floor = record { 0 = 100 * area } }))
                              | false ↦ None
                            ]
                      ]
                ]
            | false ↦ None
          ]
    ]

-- "18, 19: .. for state 4; zero otherwise"; in state 5 the concentration "takes the temperature's place"
abbrev pub heat_fits : State → ℕ → Bool
heat_fits Gas heat = eqb heat 0
heat_fits Pressurized heat = eqb heat 0
heat_fits Refrigerated heat = eqb heat 0
heat_fits Liquid heat = true
heat_fits Solution heat = true

-- a toxic card's bytes 1 to 3 and must-be-zero fields, one after the other
abbrev pub shaped_heat : Bool → Standing → Result Shape Refusal
shaped_heat true standing = Ok (shape.Toxic standing)
shaped_heat false standing = Err refusal.Form

abbrev pub shaped_held : Option Containment → Fields → State → Option Ground → Result Shape Refusal
shaped_held (Some c) f s (Some g) =
    shaped_heat (heat_fits s f.heat) (record { state = s; topography = g; containment = c })
shaped_held (Some c) f s None = Err refusal.Form
shaped_held None f s g = Err refusal.Form

abbrev pub shaped_state : Option State → Fields → Result Shape Refusal
shaped_state (Some s) f =
    shaped_held (held_of f.containment f.area f.wall) f s (ground_of f.topography)
shaped_state None f = Err refusal.Form

-- "A flammable card has zero in bytes 1, 2, 3 and 12 to 19."
unfoldable pub blank : Fields → Bool
blank f =
    both (eqb f.state 0)
    (both (eqb f.topography 0)
    (both (eqb f.containment 0) (both (eqb f.area 0) (both (eqb f.wall 0) (eqb f.heat 0)))))

abbrev pub shaped_blank : Bool → Result Shape Refusal
shaped_blank true = Ok shape.Flammable
shaped_blank false = Err refusal.Form

-- 6: "bytes 0 to 3 unlisted, or a must-be-zero field filled"; "0: kind, 1 toxic, 2 flammable."
unfoldable pub shape_of : Fields → Result Shape Refusal
shape_of f =
    elim (eqb f.kind 1) [
      | true ↦ shaped_state (state_of f.state) f
      | false ↦ elim (eqb f.kind 2) [ true ↦ shaped_blank (blank f) | false ↦ Err refusal.Form ]
    ]
