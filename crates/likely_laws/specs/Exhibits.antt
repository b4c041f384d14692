-- Exhibits 4 and 5 of the guidance's Chapter 8 as printed, and that the definition's choice of a table is theirs: over a table of cases, and
-- of every card at every duration.
-- Assumes nothing.
use Rattle.std.specs.Prelude.{ℕ, ◌≡◌, refl, List, [], ◌∷◌, map, Bool, true, false, leb, eqb}
use Rattle.search.specs.Rising.{both}
use Rattle.search.specs.Places.{either, among, look_up}
use Rattle.exhibits.specs.declared.Plume.{Plume}
use Rattle.exhibits.specs.declared.Plume.TheVariants.{Neutral, Dense}
use Rattle.exhibits.specs.declared.Toxic.{Toxic}
use Rattle.exhibits.specs.PrintedB1.{b1}
use Rattle.exhibits.specs.PrintedB2.{b2}
use Rattle.exhibits.specs.PrintedB4.{b4}
use Rattle.exhibits.specs.Lines.{dense_of}
use Rattle.exhibits.specs.Exhibits.{factors_of, toxic_of}
use Rattle.solutions.specs.PrintedB3.{b3}
use Rattle.solutions.specs.Solutions.{bad_percent, highest, lines_of, lowest, solution_of}
use Rattle.dispersion.specs.declared.Ground.{Ground}
use Rattle.dispersion.specs.declared.Ground.TheVariants.{Rural, Urban}
use Rattle.release.specs.declared.Containment.TheVariants.{Open}
use Rattle.which_table.specs.declared.State.{State}
use Rattle.which_table.specs.declared.State.TheVariants.{Gas, Pressurized, Refrigerated, Liquid, Solution}
use Rattle.which_table.specs.WhichTable.{plume_in, table_of}
use Rattle.scenario.specs.declared.Tenths.TheVariants.{Concentration}
use Rattle.likely_scenario.specs.LikelyScenario.{likely_table}

-- ---- Exhibit 4, "Generic Reference Tables of Distances for Alternative Scenarios"

-- a line: gas or vapor density, topography, release duration in minutes, reference table number
pub data GenericLine : Type 0 where
  generic : Plume → Ground → ℕ → ℕ → GenericLine

unfoldable pub exhibit4 : List GenericLine
exhibit4 =
    generic Neutral Rural 10 14
    ∷ generic Neutral Rural 60 15
    ∷ generic Neutral Urban 10 16
    ∷ generic Neutral Urban 60 17
    ∷ generic Dense Rural 10 18
    ∷ generic Dense Rural 60 19
    ∷ generic Dense Urban 10 20
    ∷ generic Dense Urban 60 21
    ∷ []

-- the byte of a ground, by which two are compared
abbrev pub ground_byte : Ground → ℕ
ground_byte Rural = 1
ground_byte Urban = 2

-- the table that a density, a topography and a duration have there; 0 where no line has them
unfoldable pub generic_in : List GenericLine → Plume → Ground → ℕ → ℕ
generic_in [] plume topography minutes = 0
generic_in (generic p g m table ∷ rest) plume topography minutes =
    elim (both (eqb (dense_of p) (dense_of plume)) (both (eqb (ground_byte g) (ground_byte topography)) (eqb m minutes)))
    [ true ↦ table | false ↦ generic_in rest plume topography minutes ]

-- ---- Exhibit 5, "Chemical-Specific Reference Tables of Distances for Alternative Scenarios"

-- its substances by name
pub data Substance : Type 0 where
  ammonia_under_pressure ammonia_not_liquefied ammonia_by_refrigeration ammonia_in_water chlorine sulfur_dioxide : Substance

-- a line: the substances, gas or vapor density, release duration in minutes from and to, topography, reference table number
pub data SpecificLine : Type 0 where
  specific : List Substance → Plume → ℕ → ℕ → List Ground → ℕ → SpecificLine

unfoldable pub exhibit5 : List SpecificLine
exhibit5 =
    -- "Anhydrous ammonia liquefied under pressure"
    specific (ammonia_under_pressure ∷ []) Dense 10 60 (Rural ∷ Urban ∷ []) 22
    -- "Non-liquefied ammonia, ammonia liquefied by refrigeration, or aqueous ammonia"
    ∷ specific (ammonia_not_liquefied ∷ ammonia_by_refrigeration ∷ ammonia_in_water ∷ []) Neutral 10 60 (Rural ∷ Urban ∷ []) 23
    -- "Chlorine"
    ∷ specific (chlorine ∷ []) Dense 10 60 (Rural ∷ Urban ∷ []) 24
    -- "Sulfur dioxide (anhydrous)"
    ∷ specific (sulfur_dioxide ∷ []) Dense 10 60 (Rural ∷ Urban ∷ []) 25
    ∷ []

-- a number for each, by which two are compared
abbrev pub code_of : Substance → ℕ
code_of ammonia_under_pressure = 0
code_of ammonia_not_liquefied = 1
code_of ammonia_by_refrigeration = 2
code_of ammonia_in_water = 3
code_of chlorine = 4
code_of sulfur_dioxide = 5

-- The table that a substance has there in a topography; 0 where no line has it. "You may use these tables for releases of any duration."
unfoldable pub specific_in : List SpecificLine → Substance → Ground → ℕ
specific_in [] substance topography = 0
specific_in (specific names p from upto grounds table ∷ rest) substance topography =
    elim (both (among (code_of substance) (map code_of names)) (among (ground_byte topography) (map ground_byte grounds)))
    [ true ↦ table | false ↦ specific_in rest substance topography ]

-- ---- the table of a card by the exhibits

-- ammonia in a card's state; in state 4 it is refused with every gas, by 10, before its table matters
abbrev pub ammonia_in : State → Substance
ammonia_in Gas = ammonia_not_liquefied
ammonia_in Pressurized = ammonia_under_pressure
ammonia_in Refrigerated = ammonia_by_refrigeration
ammonia_in Liquid = ammonia_not_liquefied
ammonia_in Solution = ammonia_in_water

abbrev pub is_solution : State → Bool
is_solution Gas = false
is_solution Pressurized = false
is_solution Refrigerated = false
is_solution Liquid = false
is_solution Solution = true

-- the duration that Exhibit 4 prints
abbrev pub printed_minutes : Bool → ℕ
printed_minutes true = 10
printed_minutes false = 60

-- "10 minutes or less, or state 5, the 10-minute ones"
abbrev pub duration_in : State → ℕ → ℕ
duration_in state minutes = printed_minutes (either (is_solution state) (leb minutes 10))

-- "The generic reference tables should be used for all toxic substances other than ammonia, chlorine, and sulfur dioxide." By CAS number,
-- state, the plume of the alternative case, ground and minutes.
unfoldable pub exhibits_table : ℕ → State → Plume → Ground → ℕ → ℕ
exhibits_table cas state plume topography minutes =
    elim (eqb cas 7664417) [
      | true ↦ specific_in exhibit5 (ammonia_in state) topography
      | false ↦
          elim (eqb cas 7782505) [
            | true ↦ specific_in exhibit5 chlorine topography
            | false ↦
                elim (eqb cas 7446095) [
                  | true ↦ specific_in exhibit5 sulfur_dioxide topography
                  | false ↦ generic_in exhibit4 (plume_in state plume) topography (duration_in state minutes)
                ]
          ]
    ]

-- ---- a table of cases

-- CAS number, state, tenths of a percent in state 5 (else 0), the plume that Exhibits B-1 to B-3 print for the alternative case, ground,
-- minutes, and the number in the line of Exhibit 4 or 5
pub data Case : Type 0 where
  asked : ℕ → State → ℕ → Plume → Ground → ℕ → ℕ → Case

unfoldable pub cases : List Case
cases =
    -- each line of Exhibit 4: diborane, neutrally buoyant by B-1, and phosgene, dense
    asked 19287457 Gas 0 Neutral Rural 10 14
    ∷ asked 19287457 Gas 0 Neutral Rural 11 15
    ∷ asked 19287457 Gas 0 Neutral Urban 1 16
    ∷ asked 19287457 Gas 0 Neutral Urban 60 17
    ∷ asked 75445 Gas 0 Dense Rural 1 18
    ∷ asked 75445 Gas 0 Dense Rural 11 19
    ∷ asked 75445 Gas 0 Dense Urban 10 20
    ∷ asked 75445 Gas 0 Dense Urban 4_294_967_295 21
    -- hydrogen fluoride: neutrally buoyant by B-1, dense where it is liquefied
    ∷ asked 7664393 Gas 0 Neutral Rural 60 15
    ∷ asked 7664393 Gas 0 Neutral Urban 10 16
    ∷ asked 7664393 Pressurized 0 Neutral Rural 10 18
    ∷ asked 7664393 Pressurized 0 Neutral Urban 11 21
    ∷ asked 7664393 Refrigerated 0 Neutral Rural 4_294_967_295 19
    ∷ asked 7664393 Refrigerated 0 Neutral Urban 1 20
    -- allyl alcohol: a dense plume in the worst case, a buoyant one in the alternative case
    ∷ asked 107186 Liquid 0 Neutral Rural 10 14
    ∷ asked 107186 Liquid 0 Neutral Rural 156 15
    ∷ asked 107186 Liquid 0 Neutral Urban 1 16
    ∷ asked 107186 Liquid 0 Neutral Urban 11 17
    -- bromine: dense in both
    ∷ asked 7726956 Liquid 0 Dense Rural 10 18
    ∷ asked 7726956 Liquid 0 Dense Urban 60 21
    -- solutions, always by a 10-minute table: hydrochloric acid, dense in the worst case, nitric acid likewise, oleum, formaldehyde
    ∷ asked 7647010 Solution 370 Neutral Rural 60 14
    ∷ asked 7697372 Solution 900 Neutral Urban 4_294_967_295 16
    ∷ asked 8014957 Solution 300 Neutral Rural 11 14
    ∷ asked 50000 Solution 370 Neutral Urban 1 16
    -- hydrogen chloride, which has the CAS number of its acid
    ∷ asked 7647010 Gas 0 Dense Rural 60 19
    -- each substance of Exhibit 5, whatever the ground and the minutes
    ∷ asked 7664417 Pressurized 0 Neutral Rural 10 22
    ∷ asked 7664417 Pressurized 0 Neutral Urban 11 22
    ∷ asked 7664417 Gas 0 Neutral Rural 1 23
    ∷ asked 7664417 Refrigerated 0 Neutral Urban 4_294_967_295 23
    ∷ asked 7664417 Solution 300 Neutral Rural 60 23
    ∷ asked 7782505 Gas 0 Dense Urban 10 24
    ∷ asked 7782505 Pressurized 0 Dense Rural 60 24
    ∷ asked 7782505 Refrigerated 0 Dense Urban 4_294_967_295 24
    ∷ asked 7446095 Gas 0 Dense Rural 11 25
    ∷ asked 7446095 Pressurized 0 Dense Urban 1 25
    ∷ asked 7446095 Refrigerated 0 Dense Rural 60 25
    ∷ []

-- what the exhibits of Appendix B say of a substance in a state
abbrev pub entry_in : ℕ → State → ℕ → Toxic
entry_in cas state tenths = elim (is_solution state) [ true ↦ solution_of cas tenths | false ↦ toxic_of cas ]

-- the definition's table of a case's card; its pounds, its containment and a temperature choose none
abbrev pub chosen : Case → ℕ
chosen (asked cas state tenths plume topography minutes table) =
    likely_table
    (record {
      cas = cas;
      entry = entry_in cas state tenths;
      state = state;
      topography = topography;
      quantity = record { 0 = 1 };
      tenths = Concentration tenths;
      containment = Open;
    })
    minutes

-- the exhibits' table, and the number that the case states
abbrev pub table_in : Case → ℕ
table_in (asked cas state tenths plume topography minutes table) = exhibits_table cas state plume topography minutes

abbrev pub stated : Case → ℕ
stated (asked cas state tenths plume topography minutes table) = table

-- every case: the definition's choice is that of Exhibits 4 and 5
pub cases_by_exhibits : map chosen cases ≡ map table_in cases
unfolding cases likely_table table_of exhibits_table generic_in specific_in exhibit4 exhibit5 among look_up toxic_of factors_of b1 b2 b4 solution_of bad_percent highest lines_of lowest b3
cases_by_exhibits = refl

-- and the number that the case states
pub cases_as_stated : map table_in cases ≡ map stated cases
unfolding cases exhibits_table generic_in specific_in exhibit4 exhibit5 among
cases_as_stated = refl
