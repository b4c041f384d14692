-- What the tables of comma lines say in plain words: of the reader's 12 and 13, and of the writer's 2 and 4.
-- Assumes nothing.
use Rattle.std.specs.Prelude.{Ok, Err}
use Rattle.refusals.specs.Numbers.{refused_at}
use Prim.Native.Nat.{ℕ, zero, suc, ◌+◌, ◌*◌, ◌<◌}
use Rattle.std.proofs.Common.{arith, ◌∙◌, sym, eqb-true}
use Rattle.std.specs.Prelude.{◌≡◌, refl, true, false, not, List, [], ◌∷◌, map, ◌⊎◌, eqb, length, get_or, drop}
use Rattle.std.proofs.lemmas.Bool.Decides.{nat_tests}
use Rattle.std.proofs.Math.Path.{ap, ap₂}
use Rattle.std.proofs.Math.Logic.{inl, inr, ⊎_elim}
use Rattle.search.specs.Rising.{both}
use Rattle.search.specs.Laws.{clash, both_true}
use Rattle.search.specs.Places.{every}
use Rattle.search.specs.PlaceLaws.{every_at}
use Rattle.refusals.specs.declared.Refusal.{Refusal}
use Rattle.refusals.specs.declared.Refusal.TheVariants as refusal
use Rattle.refusals.specs.Numbers.{number_of}
use Rattle.header.specs.Header.{version_of, enough, bad_length, bad_count, bad_buffer}
use Rattle.comma.specs.Text.{lines_of, bad_room, reading_of}
use Rattle.write_lines.specs.Writing.{other_version, writable, writing_of}
use Rattle.conditions.specs.Conditions.{Condition, condition, only, of_register, of_card, at_last, conditions_at}
use Rattle.conditions.specs.First.{Names}
use Rattle.line_conditions.specs.Lines.{bad_line, all_formed, no_room_to_read, room_at, lines_at, of_writer, taken_at, writing_at}
use Rattle.conditions.specs.Claim.{Holds, First, number_in}
use Rattle.line_conditions.specs.LinesClaim.{BadLine, NamesFirst, ComesWhenBad, FoundLast, OtherVersions, NeverFour}
use Rattle.line_conditions.proofs.LinesExactly.{ends, bad_here, bad_behind, none_bad, not_formed, read_exactly, written_exactly}

-- ---- the tests, and what they say

-- lines none of which is bad are all well formed
all_formed_lem : (lines : List (List ℕ)) → ((number : ℕ) → bad_line lines number ≡ true → ⊥) → all_formed lines ≡ true
unfolding all_formed bad_line
all_formed_lem [] none = refl
all_formed_lem (text ∷ rest) none = grind (arith, nat_tests, all_formed_lem rest behind, none 1, bad_here text rest)
  where
    behind : (number : ℕ) → bad_line rest number ≡ true → ⊥
    behind zero e = clash (cc)
    behind (suc i) e = none (suc (suc i)) (bad_behind text rest i ∙ e)

-- over 2,000 lines, or a buffer too short for so many cards
module _ (count room : ℕ) where
  over : bad_room count room ≡ true → (2_000 < count) ⊎ (room < 7 + 24 * count)
  unfolding bad_room
  over e = grind (arith, nat_tests)

  from_over : (2_000 < count) ⊎ (room < 7 + 24 * count) → bad_room count room ≡ true
  unfolding bad_room
  from_over h = grind (arith, nat_tests)

-- a bad line, as the table and as the claim have it
module _ (text : List ℕ) where
  to_bad : (number : ℕ) → bad_line (lines_of text) number ≡ true → BadLine text number
  unfolding bad_line
  to_bad zero e = clash (cc)
  to_bad (suc i) e = grind (arith, nat_tests)

  from_bad : (number : ℕ) → BadLine text number → bad_line (lines_of text) number ≡ true
  unfolding bad_line
  from_bad zero b = absurd b
  from_bad (suc i) b = grind (arith, nat_tests)

  none_there : all_formed (lines_of text) ≡ true → (number : ℕ) → BadLine text number → ⊥
  none_there e number b = grind (arith, none_bad (lines_of text) e number, from_bad number b)

  all_there : ((number : ℕ) → BadLine text number → ⊥) → all_formed (lines_of text) ≡ true
  all_there none = all_formed_lem (lines_of text) (λ number h. none number (to_bad number h))

-- ---- the reader's table

module _ (text : List ℕ) (room : ℕ) where
  -- what the first of its conditions says
  abbrev Bad : Refusal → ℕ → Type 0
  Bad r place = (r ≡ refusal.Line) × (bad_line (lines_of text) place ≡ true)

  abbrev Full : Refusal → ℕ → Type 0
  Full r place = (r ≡ refusal.Room) × (place ≡ 0) × (all_formed (lines_of text) ≡ true) × (bad_room (length (lines_of text)) room ≡ true)

  sides : (r : Refusal) (place : ℕ) → reading_of text room ≡ Err (refused_at r place) → Bad r place ⊎ Full r place
  unfolding lines_at no_room_to_read room_at only
  sides r place e = go x.line x.names x.holds
    where
      x : First (lines_at text room) r place
      x = ((read_exactly text room).0 r place).0 e

      go : (l : ℕ) → Names (lines_at text room place) l r → Holds (lines_at text room) l place → Bad r place ⊎ Full r place
      go zero n h = inl (sym n, h)
      go (suc zero) n h =
          let p = both_true (eqb place 0) (no_room_to_read (lines_of text) room) h in
          let q = both_true (all_formed (lines_of text)) (bad_room (length (lines_of text)) room) p.1 in
          inr (sym n, eqb-true place 0 p.0, q.0, q.1)
      go (suc (suc l)) n h = absurd n

  -- a refusal that the reader gave, where it does not accept
  given : ((n : ℕ) × (reading_of text room ≡ Ok n) → ⊥) → (r : Refusal) × (place : ℕ) × (reading_of text room ≡ Err (refused_at r place))
  given h = ⊎_elim (λ a. absurd (h a)) (λ o. o) (ends (reading_of text room))

  -- where a line is bad, 12 comes
  comes : (number : ℕ) → BadLine text number → (n : ℕ) × (reading_of text room ≡ Err (refused_at refusal.Line n))
  unfolding lines_at
  comes number b =
      let h = from_bad text number b in
      let o = given (λ a. (read_exactly text room).1.0 a number 0 h) in
      ⊎_elim
      (λ (s : Bad o.0 o.1). (o.1, o.2 ∙ ap (λ r. Err (refused_at r o.1)) s.0))
      (λ (s : Full o.0 o.1). let n = not_formed (lines_of text) number h in clash (cc))
      (sides o.0 o.1 o.2)

  -- where none is and there is no room, 13
  comes_last : all_formed (lines_of text) ≡ true → bad_room (length (lines_of text)) room ≡ true → reading_of text room ≡ Err (refused_at refusal.Room 0)
  unfolding lines_at no_room_to_read room_at only
  comes_last f h =
      let o = given (λ a. (read_exactly text room).1.0 a 0 1 (ap₂ both f h)) in
      ⊎_elim
      (λ (s : Bad o.0 o.1). let n = none_bad (lines_of text) f o.1 in clash (cc))
      (λ (s : Full o.0 o.1). o.2 ∙ ap₂ (λ r place. Err (refused_at r place)) s.0 s.1)
      (sides o.0 o.1 o.2)

  -- 12 names a bad line, and none before it is
  bad_first : (number : ℕ) → reading_of text room ≡ Err (refused_at refusal.Line number) → BadLine text number × ((k : ℕ) → k < number → BadLine text k → ⊥)
  unfolding lines_at
  bad_first number e = (
    ⊎_elim
        (λ (s : Bad refusal.Line number). to_bad text number s.1)
        (λ (s : Full refusal.Line number). clash (cc))
        (sides refusal.Line number e),
    λ k h b. (((read_exactly text room).0 refusal.Line number).0 e).earlier k 0 h (from_bad text k b),
  )

pub names_first : NamesFirst
names_first text room number = (bad_first text room number, named)
  where
    named : BadLine text number × ((k : ℕ) → k < number → BadLine text k → ⊥) → reading_of text room ≡ Err (refused_at refusal.Line number)
    named b =
        let o = comes text room number b.0 in
        let t = bad_first text room o.0 o.1 in
        let h : o.0 < number → ⊥ = λ l. b.1 o.0 l t.0 in
        let k : number < o.0 → ⊥ = λ l. t.1 number l b.0 in
        let n : o.0 ≡ number = omega arith in
        o.1 ∙ ap (λ m. Err (refused_at refusal.Line m)) n

pub comes_when_bad : ComesWhenBad
comes_when_bad text room = (λ o. (o.0, (bad_first text room o.0 o.1).0), λ o. comes text room o.0 o.1)

pub found_last : FoundLast
found_last text room place = (
  λ e.
      ⊎_elim
      (λ (s : Bad text room refusal.Room place). clash (cc))
      (λ (s : Full text room refusal.Room place). (s.1, none_there text s.2, over (length (lines_of text)) room s.3))
      (sides text room refusal.Room place e),
  λ t.
      comes_last text room (all_there text t.1) (from_over (length (lines_of text)) room t.2)
      ∙ ap (λ p. Err (refused_at refusal.Room p)) (sym t.0),
)

-- ---- the writer's 2 and its 4

-- a line that names a refusal has its number
number_at : (cs : List Condition) (l : ℕ) (r : Refusal) → Names cs l r → get_or (map number_in cs) l 0 ≡ number_of r
number_at [] l r n = absurd n
number_at (condition s b ∷ rest) zero r n = ap number_of n
number_at (condition s b ∷ rest) (suc l) r n = number_at rest l r n

-- where 32,000 bytes are under 16 × count, the count is above 2,000: 3 holds too
three_too : (register : List ℕ) → bad_buffer register enough ≡ true → bad_count register ≡ true
unfolding bad_buffer bad_count
three_too register e = grind (arith, nat_tests)

-- none of some numbers is this one
none_is : (m : ℕ) (numbers : List ℕ) → every (λ k. not (eqb k m)) numbers ≡ true → not (eqb 0 m) ≡ true → (l : ℕ) → get_or numbers l 0 ≡ m → ⊥
none_is m numbers e z l n = grind (arith, nat_tests, every_at (λ k. not (eqb k m)) numbers 0 e z l)

module _ (register : List ℕ) (room place : ℕ) where
  two_first : writing_of register room ≡ Err (refused_at refusal.Version place) → (place ≡ 0) × (bad_length register ≡ false) × (version_of register ≡ 1 → ⊥)
  unfolding writing_at taken_at of_writer conditions_at only of_register of_card at_last room_at other_version
  two_first e = go x.line (number_at (writing_at register room place) x.line refusal.Version x.names) x.holds x.above
    where
      x : First (writing_at register room) refusal.Version place
      x = ((written_exactly register room).0 refusal.Version place).0 e

      go : (l : ℕ) → get_or (map number_in (writing_at register room place)) l 0 ≡ 2 → Holds (writing_at register room) l place → ((i : ℕ) → i < l → Holds (writing_at register room) i place → ⊥)
          → (place ≡ 0) × (bad_length register ≡ false) × (version_of register ≡ 1 → ⊥)
      go zero n h a = absurd (omega (arith, n))
      go (suc zero) n h a =
          let p = both_true (eqb place 0) (other_version register) h in
          -- 1 does not hold above it
          let above : bad_length register ≡ true → ⊥ = λ q. a 0 (omega arith) (ap₂ both p.0 q) in
          (eqb-true place 0 p.0, grind (arith, above), grind (arith, nat_tests, p.1))
      -- the lines below 2's have other numbers
      go (suc (suc l)) n h a = absurd (none_is 2 (drop 2 (map number_in (writing_at register room place))) refl refl l n)

pub other_versions : OtherVersions
unfolding writing_of writable other_version
other_versions register room place = (
  two_first register room place,
  λ t. grind (arith, nat_tests, t.0, t.1, t.2),
)

pub never_four : NeverFour
unfolding writing_at taken_at of_writer conditions_at only of_register of_card at_last room_at
never_four register room place e = go x.line (number_at (writing_at register room place) x.line refusal.Buffer x.names) x.holds x.above
  where
    x : First (writing_at register room) refusal.Buffer place
    x = ((written_exactly register room).0 refusal.Buffer place).0 e

    go : (l : ℕ) → get_or (map number_in (writing_at register room place)) l 0 ≡ 4 → Holds (writing_at register room) l place → ((i : ℕ) → i < l → Holds (writing_at register room) i place → ⊥) → ⊥
    go zero n h a = absurd (omega arith)
    go (suc zero) n h a = absurd (omega arith)
    go (suc (suc zero)) n h a = absurd (omega arith)
    go (suc (suc (suc zero))) n h a =
        let p = both_true (eqb place 0) (bad_buffer register enough) h in
        a 2 (omega arith) (ap₂ both p.0 (three_too register p.1))
    -- the lines below 4's have other numbers
    go (suc (suc (suc (suc l)))) n h a = none_is 4 (drop 4 (map number_in (writing_at register room place))) refl refl l n
