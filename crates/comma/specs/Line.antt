-- "one card a line, eleven fields between commas, decimal but for the last: kind, state, ground, containment, CAS number with
-- hyphens .., pounds, area, wall, temperature in tenths, card number, and a remark that is dropped."
-- Assumes nothing.
use Rattle.std.specs.Prelude.{ℕ, List, [], ◌∷◌, true, false, ltb, eqb, length, Option, Some, None}
use Rattle.pieces.specs.Pieces.{pieces}
use Rattle.fields.specs.declared.Fields.{Fields}
use Rattle.numerals.specs.declared.Form.{Form}
use Rattle.numerals.specs.declared.Form.TheVariants.{Decimal, Cas, Temperature}
use Rattle.numerals.specs.Numerals.{value_in}
use Rattle.comma.specs.declared.Codes.{Codes}
use Rattle.comma.specs.declared.Amounts.{Amounts}

-- the fields of a line, between commas (44); ten commas make eleven fields
unfoldable pub fields_in : List ℕ → List (List ℕ)
fields_in text = pieces 44 ([] ∷ []) text

-- a well-formed number is taken on
abbrev pub and : Option ℕ → (ℕ → Option Fields) → Option Fields
and (Some n) further = further n
and None further = None

-- the number of the first field and the fields behind it; a number's field is never the last
abbrev pub next : Form → List (List ℕ) → (ℕ → List (List ℕ) → Option Fields) → Option Fields
next form [] further = None
next form (field ∷ []) further = None
next form (field ∷ other ∷ rest) further = and (value_in form field) (λ n. further n (other ∷ rest))

-- "and a remark that is dropped": the last field, whatever is in it
abbrev pub remark : List (List ℕ) → Fields → Option Fields
remark [] fields = None
remark (dropped ∷ []) fields = Some fields
remark (dropped ∷ other ∷ rest) fields = None

-- a number "too wide for its bytes" is not well formed: 255 for one byte, 65,535 for two, 4,294,967,295 for four
abbrev pub of_one_byte : Form
of_one_byte = Decimal 255

abbrev pub of_two_bytes : Form
of_two_bytes = Decimal 65_535

abbrev pub of_four_bytes : Form
of_four_bytes = Decimal 4_294_967_295

-- "Its concentration, unsigned tenths of a percent by weight, takes the temperature's place (in a comma line too)": what the
-- ninth field holds goes by the number in the second alone, 5 for a water solution, whatever the kind. A concentration has no
-- minus.
unfoldable pub tenths_form : ℕ → Form
tenths_form state = elim (eqb state 5) [ true ↦ of_two_bytes | false ↦ Temperature ]

-- "wall, temperature in tenths, card number, and a remark", with a concentration in "the temperature's place" in state 5
unfoldable pub lasts_in : Codes → Amounts → List (List ℕ) → Option Fields
lasts_in codes amounts fields =
    next of_two_bytes fields (λ wall behind_wall.
    next (tenths_form codes.state) behind_wall (λ heat behind_heat.
    next of_four_bytes behind_heat (λ number behind_number.
    remark behind_number
    (record {
      kind = codes.kind;
      state = codes.state;
      topography = codes.topography;
      containment = codes.containment;
      cas = amounts.cas;
      pounds = amounts.pounds;
      area = amounts.area;
      wall = wall;
      heat = heat;
      number = number;
    }))))

-- "CAS number with hyphens .., pounds, area"
unfoldable pub amounts_in : Codes → List (List ℕ) → Option Fields
amounts_in codes fields =
    next Cas fields (λ cas behind_cas.
    next of_four_bytes behind_cas (λ pounds behind_pounds.
    next of_four_bytes behind_pounds (λ area behind_area.
    lasts_in codes (record { cas = cas; pounds = pounds; area = area }) behind_area)))

-- "kind, state, ground, containment"
unfoldable pub codes_in : List (List ℕ) → Option Fields
codes_in fields =
    next of_one_byte fields (λ kind behind_kind.
    next of_one_byte behind_kind (λ state behind_state.
    next of_one_byte behind_state (λ topography behind_ground.
    next of_one_byte behind_ground (λ containment behind_containment.
    amounts_in (record { kind = kind; state = state; topography = topography; containment = containment }) behind_containment))))

-- "A line is at most 200 bytes, then a line feed"
abbrev pub longest_line : ℕ
longest_line = 200

-- a line's card, or that it "isn't eleven well-formed fields or is too long"
unfoldable pub line_of : List ℕ → Option Fields
line_of text = elim (ltb longest_line (length text)) [ true ↦ None | false ↦ codes_in (fields_in text) ]
