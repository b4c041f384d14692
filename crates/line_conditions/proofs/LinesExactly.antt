-- The reader and the writer of comma lines go exactly by their tables.
-- Assumes nothing.
use Rattle.std.specs.Prelude.{Option, Some, None, Result, Ok, Err}
use Rattle.farthest.specs.declared.Leaders.{Leaders}
use Rattle.refusals.specs.declared.SentBack.{SentBack}
use Rattle.refusals.specs.Numbers.{refused_at}
use Prim.Native.Nat.{ℕ, zero, suc, ◌+◌, ◌<◌}
use Rattle.std.proofs.Common.{arith, ◌∙◌, sym, inl, inr}
use Rattle.std.specs.Prelude.{◌≡◌, Bool, List, [], ◌∷◌, ◌++◌, ◌⊎◌, ltb, length}
use Rattle.std.proofs.Math.Path.{refl, ap, subst}
use Rattle.std.proofs.Math.Bool.{true, false}
use Rattle.std.proofs.lemmas.Bool.Decides.{nat_tests}
use Rattle.refusals.specs.declared.Refusal.{Refusal}
use Rattle.refusals.specs.declared.Refusal.TheVariants as refusal
use Rattle.header.specs.Header.{version_of, enough, layout_of, unknown, bad_length, bad_version}
use Rattle.cards.specs.Register.{outcome_of}
use Rattle.fields.specs.declared.Fields.{Fields}
use Rattle.comma.specs.Line.{line_of}
use Rattle.comma.specs.Text.{Cards, cards, bad, then, cards_from, cards_in, lines_of, bad_room, size_of, read_as, reading_of}
use Rattle.write_lines.specs.Writing.{strict_text, other_version, refused_if, writable, answer_as, writing_of}
use Rattle.conditions.specs.Conditions.{Condition, condition, only, of_register, conditions_at}
use Rattle.conditions.specs.First.{passed, first_of, after_passed, first_append}
use Rattle.line_conditions.specs.Lines.{malformed, bad_line, all_formed, no_room_to_read, no_room_to_write, room_at, lines_at, of_writer, taken_at, writing_at}
use Rattle.conditions.specs.Claim.{ExactlyBy}
use Rattle.conditions.proofs.Tables.{Passes, Refuses, exactly_by}
use Rattle.line_conditions.specs.LinesClaim.{ReadExactly, WrittenExactly}
use Rattle.conditions.proofs.Exactly.{Told as RegisterTold, told as register_told}

-- ---- what either call answers, in terms of its table

abbrev Told : (ℕ → List Condition) → Result ℕ (SentBack ℕ) → Type 0
Told table (Ok n) = Passes table
Told table (Err sent) = Refuses table sent.refusal sent.place

pub ends : (c : Result ℕ (SentBack ℕ)) → ((n : ℕ) × (c ≡ Ok n)) ⊎ ((r : Refusal) × (place : ℕ) × (c ≡ Err (refused_at r place)))
ends (Ok n) = inl (n, refl)
ends (Err sent) = inr (sent.refusal, sent.place, refl)

told_exactly : (table : ℕ → List Condition) (c : Result ℕ (SentBack ℕ)) → Told table c → ExactlyBy table (λ r place. c ≡ Err (refused_at r place)) ((n : ℕ) × (c ≡ Ok n))
told_exactly table c t =
    exactly_by table (λ r place. c ≡ Err (refused_at r place)) ((n : ℕ) × (c ≡ Ok n)) (ends c)
    (λ a. subst (Told table) a.1 t)
    (λ r place e. subst (Told table) e t)

-- ---- 13 behind the conditions of a table

module _ (table : ℕ → List Condition) where
  abbrev further : Bool → ℕ → List Condition
  further full place = table place ++ room_at full place

  -- where 13 does not hold, a place comes to what it came to
  as_before : (place : ℕ) → first_of (further false place) ≡ first_of (table place)
  unfolding room_at only first_of
  as_before place = grind (arith, first_append (table place) (room_at false place), after_passed)

  still_refuses : (r : Refusal) (place : ℕ) → Refuses table r place → Refuses (further false) r place
  still_refuses r place t = (as_before place ∙ t.0, λ p h. as_before p ∙ t.1 p h)

  -- where nothing else holds, 13 alone decides
  found_last : (full : Bool) (n : ℕ) → Passes table → Told (further full) (elim full as (λ _. Result ℕ (SentBack ℕ)) [ true ↦ Err (refused_at refusal.Room 0) | false ↦ Ok n ])
  unfolding room_at only first_of
  found_last true n t = (grind (arith, first_append (table 0) (room_at true 0), t 0), λ p h. absurd (omega arith))
  found_last false n t = λ p. as_before p ∙ t p

-- ---- the reader

-- a line's number, seen from the line before
pub bad_here : (text : List ℕ) (rest : List (List ℕ)) → bad_line (text ∷ rest) 1 ≡ malformed (line_of text)
unfolding bad_line
bad_here text rest = grind (arith, nat_tests)

pub bad_behind : (text : List ℕ) (rest : List (List ℕ)) (i : ℕ) → bad_line (text ∷ rest) (suc (suc i)) ≡ bad_line rest (suc i)
unfolding bad_line
bad_behind text rest i = grind (arith, nat_tests)

-- where all lines are well formed, none is bad
pub none_bad : (lines : List (List ℕ)) → all_formed lines ≡ true → (number : ℕ) → bad_line lines number ≡ false
unfolding all_formed bad_line
none_bad lines e zero = refl
none_bad [] e (suc i) = grind (arith, nat_tests)
none_bad (text ∷ rest) e (suc zero) = grind (arith, nat_tests)
none_bad (text ∷ rest) e (suc (suc i)) = grind (arith, bad_behind text rest i, λ (h : all_formed rest ≡ true). none_bad rest h (suc i))

-- so where one is bad, not all are well formed
pub not_formed : (lines : List (List ℕ)) (number : ℕ) → bad_line lines number ≡ true → all_formed lines ≡ false
not_formed lines number h = grind (arith, none_bad lines)

-- what lines come to: as many cards, or the first line that is bad
abbrev Read : ℕ → List (List ℕ) → Cards → Type 0
Read k lines (cards xs) = (length xs ≡ length lines) × (all_formed lines ≡ true)
Read k lines (bad j) = (i : ℕ) × (j ≡ k + i) × (bad_line lines (suc i) ≡ true) × ((p : ℕ) → p < i → bad_line lines (suc p) ≡ false)

read : (k : ℕ) (lines : List (List ℕ)) → Read k lines (cards_from k lines)
unfolding cards_from all_formed
read k [] = (refl, refl)
read k (text ∷ rest) = go (line_of text) refl (cards_from (suc k) rest) (read (suc k) rest)
  where
    -- a well-formed line in front of others
    over : (f : Fields) (n : ℕ) → line_of text ≡ Some f → ((p : ℕ) → p < n → bad_line rest (suc p) ≡ false) → (p : ℕ) → p < suc n → bad_line (text ∷ rest) (suc p) ≡ false
    over f n e before zero h = grind (arith, bad_here text rest, e)
    over f n e before (suc p) h = grind (arith, bad_behind text rest p, before p)

    go : (l : Option Fields) → line_of text ≡ l → (c : Cards) → Read (suc k) rest c → Read k (text ∷ rest) (then l k c)
    go (Some f) e (cards xs) t = (ap suc t.0, grind (arith, e, t.1))
    go (Some f) e (bad j) t = (suc t.0, omega (arith, t.1), bad_behind text rest t.0 ∙ t.2, over f t.0 e t.3)
    go None e c t = (0, omega arith, bad_here text rest ∙ ap malformed e, λ p h. absurd (omega arith))

module _ (text : List ℕ) where
  -- 12 alone
  abbrev line_at : ℕ → List Condition
  line_at place = condition refusal.Line (bad_line (lines_of text) place) ∷ []

  line_refuses : (i : ℕ) → bad_line (lines_of text) (suc i) ≡ true → ((p : ℕ) → p < i → bad_line (lines_of text) (suc p) ≡ false) → Refuses line_at refusal.Line (suc i)
  unfolding first_of bad_line
  line_refuses i e before = (grind (arith, e), earlier)
    where
      earlier : (p : ℕ) → p < suc i → first_of (line_at p) ≡ passed
      earlier zero h = refl
      earlier (suc p) h = grind (arith, before p)

  reading_told : (room : ℕ) (c : Cards) → Read 1 (lines_of text) c → Told (further line_at (no_room_to_read (lines_of text) room)) (read_as c room)
  unfolding no_room_to_read first_of
  reading_told room (cards xs) t =
      let e : no_room_to_read (lines_of text) room ≡ bad_room (length xs) room = cc in
      subst (λ full. Told (further line_at full) (read_as (cards xs) room)) (sym e)
      (found_last line_at (bad_room (length xs) room) (size_of (length xs)) (λ p. grind (arith, none_bad (lines_of text) t.1 p)))
  reading_told room (bad j) t =
      let e : no_room_to_read (lines_of text) room ≡ false = cc (not_formed (lines_of text) (suc t.0) t.2) in
      let n : suc t.0 ≡ j = omega (arith, t.1) in
      subst (λ full. Refuses (further line_at full) refusal.Line j) (sym e)
      (still_refuses line_at refusal.Line j (subst (Refuses line_at refusal.Line) n (line_refuses t.0 t.2 t.3)))

  read_told : (room : ℕ) → Told (lines_at text room) (reading_of text room)
  unfolding lines_at reading_of cards_in
  read_told room = reading_told room (cards_in text) (read 1 (lines_of text))

pub read_exactly : ReadExactly
read_exactly text room = told_exactly (lines_at text room) (reading_of text room) (read_told text room)

-- ---- the writer

module _ (register : List ℕ) (room : ℕ) where
  -- what the writer makes of the register, in terms of its table
  abbrev Taken : Result Leaders (SentBack ℕ) → Type 0
  Taken (Ok l) = Passes (taken_at register)
  Taken (Err sent) = Refuses (taken_at register) sent.refusal sent.place

  -- version 1 is given
  known : other_version register ≡ false → bad_version register ≡ false
  unfolding other_version bad_version layout_of
  known e = let one : version_of register ≡ 1 = grind (arith, nat_tests, e) in ap (λ v. unknown (layout_of v)) one

  -- so where the writer gives no 2, its table comes to the register's
  as_register : other_version register ≡ false → (place : ℕ) → first_of (taken_at register place) ≡ first_of (conditions_at register enough place)
  unfolding taken_at of_writer conditions_at only of_register first_of
  as_register e place = simp (e, known e)

  passed_on : other_version register ≡ false → (o : Result Leaders (SentBack ℕ)) → RegisterTold register enough o → Taken o
  passed_on e (Ok l) t = λ p. as_register e p ∙ t p
  passed_on e (Err sent) t = (as_register e sent.place ∙ t.0, λ p h. as_register e p ∙ t.1 p h)

  -- by the writer's own two checks
  taken_told : Taken (writable register)
  unfolding writable taken_at of_writer only first_of
  taken_told = go (bad_length register) (other_version register) refl refl
    where
      go : (a b : Bool) → bad_length register ≡ a → other_version register ≡ b → Taken (refused_if a refusal.Length (refused_if b refusal.Version (outcome_of register enough)))
      go true b p q = (simp p, λ k h. absurd (omega (arith, h)))
      go false true p q = (simp (p, q), λ k h. absurd (omega (arith, h)))
      go false false p q = passed_on q (outcome_of register enough) (register_told register enough)

  writing_told : (o : Result Leaders (SentBack ℕ)) → Taken o → Told (further (taken_at register) (no_room_to_write o (strict_text register) room)) (answer_as o (strict_text register) room)
  unfolding no_room_to_write
  writing_told (Ok l) t = found_last (taken_at register) (ltb room (length (strict_text register))) (length (strict_text register)) t
  writing_told (Err sent) t = still_refuses (taken_at register) sent.refusal sent.place t

  written_told : Told (writing_at register room) (writing_of register room)
  unfolding writing_at writing_of
  written_told = writing_told (writable register) taken_told

pub written_exactly : WrittenExactly
written_exactly register room = told_exactly (writing_at register room) (writing_of register room) (written_told register room)
