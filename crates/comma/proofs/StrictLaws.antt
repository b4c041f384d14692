-- The strict text of some cards is read as those cards, so that no two lists of cards have the same text; and whatever a text
-- is read as fits the bytes of a card.
-- Assumes nothing.
use Rattle.std.specs.Prelude.{ℕ, suc, ◌+◌, ◌-◌, ◌/◌, ◌%◌, ◌^◌, ◌≤◌, ◌<◌, ◌≡◌, refl, List, [], ◌∷◌, ◌++◌, map, Bool, true, false, ◌⊎◌, ltb, eqb, length, Option, Some, None}
use Rattle.std.proofs.Common.{arith, sym, ap, subst, ◌∙◌, append-nil, inl, inr, length-append, lt-ltb, le-ltb, eqb-true}
use Rattle.std.proofs.lemmas.Bool.{eqb-false}
use Rattle.search.specs.Laws.{lt_or_ge}
use Rattle.decimal.specs.Decimal.{digits, padded, read_from, AllDigits}
use Rattle.decimal.proofs.Laws.{padded_all, digits_all, digits_some, digits_short, digits_read, read_append}
use Rattle.pieces.specs.Pieces.{closed, Without, EachWithout}
use Rattle.pieces.proofs.Laws.{pieces_closed}
use Rattle.fields.specs.declared.Fields.{Fields}
use Rattle.numerals.specs.declared.Form.{Form}
use Rattle.numerals.specs.declared.Form.TheVariants.{Cas, Temperature}
use Rattle.numerals.specs.Numerals.{read_on, cas_in, heat_in, value_in, most_of, Within}
use Rattle.numerals.proofs.Laws.{within, digits_are, value_written, digits_without, decimal_written, grouped, groups, heat_plus, heat_minus}
use Rattle.comma.specs.Line.{fields_in, and, next, remark, of_one_byte, of_two_bytes, of_four_bytes, tenths_form, lasts_in, amounts_in, codes_in, longest_line, line_of}
use Rattle.comma.specs.Text.{lines_of, Cards, cards, bad, then, cards_from, cards_in}
use Rattle.comma.specs.Strict.{cas_text, heat_text, tenths_text, field_texts, strict_line, strict_lines}

-- each number of a card fits its bytes: one byte, two or four
pub record Fitting (f : Fields) : Type 0 where
  pub kind : f.kind < 256
  pub state : f.state < 256
  pub topography : f.topography < 256
  pub containment : f.containment < 256
  pub cas : f.cas < 2 ^ 32
  pub pounds : f.pounds < 2 ^ 32
  pub area : f.area < 2 ^ 32
  pub wall : f.wall < 2 ^ 16
  pub heat : f.heat < 2 ^ 16
  pub number : f.number < 2 ^ 32

-- so do those of every card
abbrev pub AllFitting : List Fields → Type 0
AllFitting [] = Unit {0}
AllFitting (f ∷ rest) = Fitting f × AllFitting rest

-- ---- the text of a CAS number

-- its digits up to the thousands, and its last three
cas_digits : ℕ → List ℕ
cas_digits cas = digits (cas / 1_000) ++ padded 3 cas

-- its groups are those with hyphens between
cas_grouped : (cas : ℕ) → cas_text cas ≡ grouped (digits (cas / 1_000)) (48 + cas / 10 / 10 % 10) (48 + cas / 10 % 10) (48 + cas % 10)
unfolding cas_text padded
cas_grouped cas = refl

cas_digits_lem : (cas : ℕ) → cas_in (cas_text cas) ≡ read_on 4_294_967_295 0 (cas_digits cas)
unfolding cas_digits padded
cas_digits_lem cas =
    ap cas_in (cas_grouped cas)
    ∙ groups (digits (cas / 1_000)) (48 + cas / 10 / 10 % 10) (48 + cas / 10 % 10) (48 + cas % 10) (digits_some (cas / 1_000))

-- they are digits, and read as the number
all_append : (s t : List ℕ) → AllDigits s → AllDigits t → AllDigits (s ++ t)
all_append [] t ds dt = dt
all_append (b ∷ s) t ds dt = (ds.0, ds.1, all_append s t ds.2 dt)

cas_all : (cas : ℕ) → AllDigits (cas_digits cas)
unfolding cas_digits
cas_all cas = all_append (digits (cas / 1_000)) (padded 3 cas) (digits_all (cas / 1_000)) (padded_all 3 cas)

cas_read : (cas : ℕ) → read_from 0 (cas_digits cas) ≡ cas
unfolding cas_digits padded read_from
cas_read cas =
    read_append (digits (cas / 1_000)) (padded 3 cas) 0 ∙ rw (digits_read (cas / 1_000)) (omega arith)

-- ---- the text of a temperature

-- what holds of the text of a temperature from zero up, and of one below, holds of every one
pub heat_cases : (P : List ℕ → Type 0) (heat : ℕ) → (heat < 32_768 → P (digits heat)) → (32_768 ≤ heat → P (45 ∷ digits (65_536 - heat)))
    → P (heat_text heat)
unfolding heat_text
heat_cases P heat up down = go (lt_or_ge heat 32_768)
  where
    go : (heat < 32_768) ⊎ (32_768 ≤ heat) → P (heat_text heat)
    go (inl h) = rw (lt-ltb heat 32_768 h, heat_text) (up h)
    go (inr h) = rw (le-ltb heat 32_768 h, heat_text) (down h)

-- ---- the ninth field: a concentration in state 5, else a temperature

-- what holds of the form and the text of a concentration, and of those of a temperature, holds of the field in every state
pub tenths_cases : (P : Form → List ℕ → Type 0) (state heat : ℕ) → (state ≡ 5 → P of_two_bytes (digits heat))
    → ((state ≡ 5 → ⊥) → P Temperature (heat_text heat)) → P (tenths_form state) (tenths_text state heat)
unfolding tenths_form tenths_text
tenths_cases P state heat solution other = go (eqb state 5) refl
  where
    go : (t : Bool) → eqb state 5 ≡ t
        → P (elim t as (λ _. Form) [ true ↦ of_two_bytes | false ↦ Temperature ]) (elim t as (λ _. List ℕ) [ true ↦ digits heat | false ↦ heat_text heat ])
    go true e = solution (eqb-true state 5 e)
    go false e = other (eqb-false state 5 e)

-- so it is never wider than its two bytes
pub tenths_most : (state : ℕ) → most_of (tenths_form state) ≡ 65_535
tenths_most state = tenths_cases (λ form text. most_of form ≡ 65_535) state 0 (λ e. refl) (λ n. refl)

-- ---- no byte of a text is below the hyphen: no comma, no space, no line feed

without_append : (x : ℕ) (s t : List ℕ) → Without x s → Without x t → Without x (s ++ t)
without_append x [] t ws wt = wt
without_append x (b ∷ s) t ws wt = (ws.0, without_append x s t ws.1 wt)

module _ (x : ℕ) (low : x < 45) where
  number_without : (n : ℕ) → Without x (digits n)
  number_without n = digits_without x (digits n) (omega arith) (digits_all n)

  hyphen_without : 45 ≡ x → ⊥
  hyphen_without e = omega arith

  cas_without : (cas : ℕ) → Without x (cas_text cas)
  unfolding cas_text
  cas_without cas =
      without_append x (digits (cas / 1_000)) (45 ∷ (padded 2 (cas / 10) ++ (45 ∷ padded 1 cas))) (number_without (cas / 1_000)) (
        hyphen_without,
        without_append x (padded 2 (cas / 10)) (45 ∷ padded 1 cas) (digits_without x (padded 2 (cas / 10)) (omega arith) (padded_all 2 (cas / 10)))
            (hyphen_without, digits_without x (padded 1 cas) (omega arith) (padded_all 1 cas)),
      )

  heat_without : (heat : ℕ) → Without x (heat_text heat)
  heat_without heat =
      heat_cases (Without x) heat (λ h. number_without heat) (λ h. (hyphen_without, number_without (65_536 - heat)))

  tenths_without : (state heat : ℕ) → Without x (tenths_text state heat)
  tenths_without state heat =
      tenths_cases (λ form text. Without x text) state heat (λ e. number_without heat) (λ n. heat_without heat)

  -- nor of any of the ten
  pub texts_without : (f : Fields) → EachWithout x (field_texts f)
  unfolding field_texts
  texts_without f = search (number_without, cas_without, tenths_without) depth 14

-- ---- each text is read as its number

-- "CAS number with hyphens"
pub cas_written : (cas : ℕ) → cas < 2 ^ 32 → value_in Cas (cas_text cas) ≡ Some cas
cas_written cas h =
    value_written Cas (cas_text cas) (cas_without 32 (omega arith) cas)
    ∙ cas_digits_lem cas
    ∙ digits_are 4_294_967_295 0 (cas_digits cas) (cas_all cas) (rw (cas_read cas) (omega arith))
    ∙ ap Some (cas_read cas)

-- "temperature in tenths"
pub heat_written : (heat : ℕ) → heat < 2 ^ 16 → value_in Temperature (heat_text heat) ≡ Some heat
heat_written heat h =
    value_written Temperature (heat_text heat) (heat_without 32 (omega arith) heat)
    ∙ heat_cases (λ text. heat_in text ≡ Some heat) heat
    (λ up. heat_plus heat (omega arith))
    (λ down.
    let back : 65_536 - (65_536 - heat) ≡ heat = omega arith in
    heat_minus (65_536 - heat) (omega arith) (omega arith) ∙ ap Some back)

-- "Its concentration .. takes the temperature's place", in the form that the state gives
pub tenths_written : (state heat : ℕ) → heat < 2 ^ 16 → value_in (tenths_form state) (tenths_text state heat) ≡ Some heat
tenths_written state heat h =
    tenths_cases (λ form text. value_in form text ≡ Some heat) state heat
    (λ e. decimal_written 65_535 heat (omega arith))
    (λ n. heat_written heat h)

-- ---- a strict line is short

-- a CAS number with so many digits in its first group has five bytes more: three digits and two hyphens
pub cas_short : (digits_but_one cas : ℕ) → cas / 1_000 < 10 ^ suc digits_but_one → length (cas_text cas) ≤ digits_but_one + 6
cas_short k cas h = rw (cas_grouped cas, length-append) (omega (arith, digits_short k (cas / 1_000) h))

-- a temperature is at most a minus and five digits
heat_short : (heat : ℕ) → heat < 2 ^ 16 → length (heat_text heat) ≤ 6
heat_short heat h =
    heat_cases (λ text. length text ≤ 6) heat
    (λ up. omega (arith, digits_short 4 heat (omega arith)))
    (λ down. omega (arith, digits_short 4 (65_536 - heat) (omega arith)))

-- and a concentration five digits
tenths_short : (state heat : ℕ) → heat < 2 ^ 16 → length (tenths_text state heat) ≤ 6
tenths_short state heat h =
    tenths_cases (λ form text. length text ≤ 6) state heat (λ e. omega (arith, digits_short 4 heat (omega arith))) (λ n. heat_short heat h)

-- at most 75 bytes, far from too long
pub line_short : (f : Fields) → Fitting f → length (strict_line f) ≤ 75
unfolding strict_line field_texts closed
line_short f fits =
    simp length-append
    (omega (
      arith,
      digits_short 2 f.kind (omega arith),
      digits_short 2 f.state (omega arith),
      digits_short 2 f.topography (omega arith),
      digits_short 2 f.containment (omega arith),
      cas_short 6 f.cas (omega arith),
      digits_short 9 f.pounds (omega arith),
      digits_short 9 f.area (omega arith),
      digits_short 4 f.wall (omega arith),
      tenths_short f.state f.heat fits.heat,
      digits_short 9 f.number (omega arith),
    ))

-- ---- a strict line is read as its card

-- the ten numbers and the empty remark
strict_fields : (f : Fields) → fields_in (strict_line f) ≡ field_texts f ++ ([] ∷ [])
unfolding fields_in strict_line
strict_fields f = pieces_closed 44 ([] ∷ []) (field_texts f) (texts_without 44 (omega arith) f)

-- each of them is taken on
texts_read : (f : Fields) → Fitting f → codes_in (field_texts f ++ ([] ∷ [])) ≡ Some f
unfolding field_texts codes_in amounts_in lasts_in
texts_read f fits =
    rw (
      decimal_written 255 f.kind (omega arith),
      decimal_written 255 f.state (omega arith),
      decimal_written 255 f.topography (omega arith),
      decimal_written 255 f.containment (omega arith),
      cas_written f.cas fits.cas,
      decimal_written 4_294_967_295 f.pounds (omega arith),
      decimal_written 4_294_967_295 f.area (omega arith),
      decimal_written 65_535 f.wall (omega arith),
      tenths_written f.state f.heat fits.heat,
      decimal_written 4_294_967_295 f.number (omega arith),
    )

-- reading the strict line of a card gives the card
pub line_written : (f : Fields) → Fitting f → line_of (strict_line f) ≡ Some f
unfolding line_of
line_written f fits =
    rw (le-ltb longest_line (length (strict_line f)) (omega (arith, line_short f fits)), line_of)
    (ap codes_in (strict_fields f) ∙ texts_read f fits)

-- ---- a strict text is read as its cards

-- what stands in no piece, and is not the separator, does not stand in their text
closed_without : (x y : ℕ) (ps : List (List ℕ)) → (y ≡ x → ⊥) → EachWithout x ps → Without x (closed y ps)
unfolding closed
closed_without x y [] n w = tt
closed_without x y (p ∷ ps) n w = without_append x p (y ∷ closed y ps) w.0 (n, closed_without x y ps n w.1)

-- no line feed stands in a strict line
pub line_without : (f : Fields) → Without 10 (strict_line f)
unfolding strict_line
line_without f = closed_without 10 44 (field_texts f) (λ e. omega arith) (texts_without 10 (omega arith) f)

lines_without : (xs : List Fields) → EachWithout 10 (map strict_line xs)
lines_without [] = tt
lines_without (f ∷ rest) = (line_without f, lines_without rest)

-- the cards from any line on
strict_cards : (k : ℕ) (xs : List Fields) → AllFitting xs → cards_from k (map strict_line xs) ≡ cards xs
unfolding cards_from
strict_cards k [] fit = refl
strict_cards k (f ∷ rest) fit = rw (line_written f fit.0, strict_cards (suc k) rest fit.1)

-- reading what was written gives the cards
pub text_written : (xs : List Fields) → AllFitting xs → cards_in (strict_lines xs) ≡ cards xs
unfolding cards_in lines_of strict_lines
text_written xs fit =
    ap (cards_from 1) (pieces_closed 10 [] (map strict_line xs) (lines_without xs) ∙ append-nil (map strict_line xs))
    ∙ strict_cards 1 xs fit

pub cards_same : {xs ys : List Fields} → cards xs ≡ cards ys → xs ≡ ys
cards_same e = cc

-- so no other cards have the same text
pub strict_same : (xs ys : List Fields) → AllFitting xs → AllFitting ys → strict_lines xs ≡ strict_lines ys → xs ≡ ys
strict_same xs ys fx fy e = cards_same (sym (text_written xs fx) ∙ ap cards_in e ∙ text_written ys fy)

-- ---- what is read fits the bytes of a card

-- of a line, and of lines: by cases, so that what is read carries it along
abbrev LineFits : Option Fields → Type 0
LineFits (Some f) = Fitting f
LineFits None = Unit {0}

abbrev CardsFit : Cards → Type 0
CardsFit (cards xs) = AllFitting xs
CardsFit (bad k) = Unit {0}

-- a number that is taken on is at most what its field may hold
next_fits : (form : Form) (fields : List (List ℕ)) (further : ℕ → List (List ℕ) → Option Fields)
    → ((n : ℕ) (rest : List (List ℕ)) → n ≤ most_of form → LineFits (further n rest)) → LineFits (next form fields further)
next_fits form [] further fits = tt
next_fits form (field ∷ []) further fits = tt
next_fits form (field ∷ other ∷ rest) further fits = go (value_in form field) (within form field)
  where
    go : (n : Option ℕ) → Within (most_of form) n → LineFits (and n (λ k. further k (other ∷ rest)))
    go (Some n) w = fits n (other ∷ rest) w
    go None w = tt

remark_fits : (fields : List (List ℕ)) (f : Fields) → Fitting f → LineFits (remark fields f)
remark_fits [] f fits = tt
remark_fits (dropped ∷ []) f fits = fits
remark_fits (dropped ∷ other ∷ rest) f fits = tt

-- ten numbers, each within its field
codes_fit : (fields : List (List ℕ)) → LineFits (codes_in fields)
unfolding codes_in amounts_in lasts_in
codes_fit fields =
    next_fits of_one_byte fields _ (λ kind r₁ h₁.
    next_fits of_one_byte r₁ _ (λ state r₂ h₂.
    next_fits of_one_byte r₂ _ (λ topography r₃ h₃.
    next_fits of_one_byte r₃ _ (λ containment r₄ h₄.
    next_fits Cas r₄ _ (λ cas r₅ h₅.
    next_fits of_four_bytes r₅ _ (λ pounds r₆ h₆.
    next_fits of_four_bytes r₆ _ (λ area r₇ h₇.
    next_fits of_two_bytes r₇ _ (λ wall r₈ h₈.
    next_fits (tenths_form state) r₈ _ (λ heat r₉ h₉.
    next_fits of_four_bytes r₉ _ (λ number r₁₀ h₁₀.
    remark_fits r₁₀ _ (omega (arith, tenths_most state))))))))))))

line_fits : (text : List ℕ) → LineFits (line_of text)
unfolding line_of
line_fits text = go (ltb longest_line (length text))
  where
    go : (t : Bool) → LineFits (elim t as (λ _. Option Fields) [ true ↦ None | false ↦ codes_in (fields_in text) ])
    go true = tt
    go false = codes_fit (fields_in text)

-- the card of a line fits
pub line_fitting : (text : List ℕ) {f : Fields} → line_of text ≡ Some f → Fitting f
line_fitting text e = subst LineFits e (line_fits text)

then_fits : (l : Option Fields) (k : ℕ) (further : Cards) → LineFits l → CardsFit further → CardsFit (then l k further)
then_fits (Some f) k (cards xs) fits fit = (fits, fit)
then_fits (Some f) k (bad j) fits fit = tt
then_fits None k (cards xs) fits fit = tt
then_fits None k (bad j) fits fit = tt

cards_fit : (k : ℕ) (lines : List (List ℕ)) → CardsFit (cards_from k lines)
unfolding cards_from
cards_fit k [] = tt
cards_fit k (text ∷ rest) =
    then_fits (line_of text) k (cards_from (suc k) rest) (line_fits text) (cards_fit (suc k) rest)

-- and so do the cards of a text
pub text_fitting : (text : List ℕ) {xs : List Fields} → cards_in text ≡ cards xs → AllFitting xs
unfolding cards_in
text_fitting text e = subst CardsFit e (cards_fit 1 (lines_of text))
