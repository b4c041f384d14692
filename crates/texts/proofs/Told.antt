-- What the cards of a register tell: those of an accepted register of bytes fit their bytes, and a register that lines are written of,
-- or that a text reads into, is the register of the cards in it.
-- Assumes nothing.
use Rattle.std.specs.Prelude.{ℕ, ◌≤◌, ◌≡◌, refl, Bool, true, false, List, ◌++◌, length, take, drop, Result, Ok, Err}
use Rattle.refusals.specs.declared.SentBack.{SentBack}
use Rattle.refusals.specs.Numbers.{refused_at}
use Rattle.std.proofs.Common.{arith, sym, ap, subst, ◌∙◌}
use Rattle.std.proofs.lemmas.Bool.Decides.{nat_tests}
use Rattle.std.proofs.Math.Seq.{take-append_seam}
use Rattle.search.specs.Laws.{clash}
use Rattle.fields.specs.declared.Fields.{Fields}
use Rattle.refusals.specs.declared.Refusal.TheVariants as refusal
use Rattle.comma.specs.Text.{Cards, cards, bad, cards_in, size_of, register_of, bad_room, read_as, reading_of, filled_with, read_into}
use Rattle.comma.proofs.StrictLaws.{AllFitting, text_fitting}
use Rattle.comma.specs.CardLaws.{AllBytes}
use Rattle.comma.proofs.CardLaws.{register_fitting, register_counted, register_length, register_read, register_back}
use Rattle.write_lines.specs.Writing.{fields_of_register}
use Rattle.texts.specs.Claim.{Accepted, Writable, Reads, ReadsInto}
use Rattle.texts.proofs.Accepted.{headed, length_field}

pub record Told (register : List ℕ) : Type 0 where
  pub fit : AllFitting (fields_of_register register)
  pub few : length (fields_of_register register) ≤ 2_000

-- it is the register of the cards in it
abbrev pub Back : List ℕ → Type 0
Back register = register_of (fields_of_register register) ≡ register

-- an accepted register of bytes
pub told_accepted : (register : List ℕ) → AllBytes register → Accepted register → Told register
unfolding fields_of_register
told_accepted register all a =
    record {
      fit = register_fitting register all;
      few = rw (register_counted register) (headed register a).cards;
    }

-- and one that lines are written of
pub told_back : (register : List ℕ) → AllBytes register → Writable register → Back register
unfolding fields_of_register
told_back register all w = register_back register all (headed register w.0).whole (length_field register w.0) w.1

-- the register of at most 2,000 cards that fit: its cards are those
of_cards : (xs : List Fields) (register : List ℕ) → AllFitting xs → length xs ≤ 2_000 → register_of xs ≡ register
    → (fields_of_register register ≡ xs) × Told register × Back register
unfolding fields_of_register
of_cards xs register fit few e =
    let same : fields_of_register (register_of xs) ≡ xs = register_read xs few fit in
    subst (λ (r : List ℕ). (fields_of_register r ≡ xs) × Told r × Back r) e
    (same, record { fit = subst AllFitting (sym same) fit; few = rw same few }, ap register_of same)

-- ---- what a text reads into

-- the cards of the text are those of the register, and the register is told by them
pub record Read (text register : List ℕ) : Type 0 where
  pub same : cards_in text ≡ cards (fields_of_register register)
  pub told : Told register
  pub back : Back register

-- 13 lets pass at most 2,000 cards, and those wherever they have room
room_few : (count room : ℕ) → bad_room count room ≡ false → count ≤ 2_000
unfolding bad_room
room_few count room e = grind (arith, nat_tests)

room_enough : (count room : ℕ) → count ≤ 2_000 → size_of count ≤ room → bad_room count room ≡ false
unfolding bad_room
room_enough count room few h = grind (arith, nat_tests)

pub bytes_are : {m n : ℕ} → ◌≡◌ {A = Result ℕ (SentBack ℕ)} (Ok m) (Ok n) → m ≡ n
bytes_are e = cc

-- by what the text comes to
read_from_lem : (text register out : List ℕ) (n : ℕ) (c : Cards) → cards_in text ≡ c → read_as c (length out) ≡ Ok n
    → take n (filled_with c out) ≡ register → Read text register
read_from_lem text register out n (bad k) p a w = clash (cc)
read_from_lem text register out n (cards xs) p a w = go (bad_room (length xs) (length out)) refl a w
  where
    go : (b : Bool) → bad_room (length xs) (length out) ≡ b
        → (elim b as (λ _. Result ℕ (SentBack ℕ)) [ true ↦ Err (refused_at refusal.Room 0) | false ↦ Ok (size_of (length xs)) ]) ≡ Ok n
        → take n (elim b as (λ _. List ℕ) [ true ↦ out | false ↦ register_of xs ++ drop (size_of (length xs)) out ]) ≡ register
        → Read text register
    go true q a w = clash (cc)
    go false q a w =
        let size : length (register_of xs) ≡ n = register_length xs ∙ bytes_are a in
        let front : take n (register_of xs ++ drop (size_of (length xs)) out) ≡ register_of xs =
        rw (← size) (take-append_seam (register_of xs) (drop (size_of (length xs)) out)) in
        let t = of_cards xs register (text_fitting text p) (room_few (length xs) (length out) q) (sym front ∙ w) in
        record { same = p ∙ ap cards (sym t.0); told = t.1; back = t.2 }

pub read_is : (text register : List ℕ) → Reads text register → Read text register
unfolding reading_of read_into
read_is text register r = read_from_lem text register r.out r.size (cards_in text) refl r.told r.bytes

-- ---- a text with the cards of such a register reads into it

pub reads_into : (text register : List ℕ) → Read text register → ReadsInto text register
unfolding reading_of read_into
reads_into text register r out h =
    let xs = fields_of_register register in
    let size : size_of (length xs) ≡ length register = sym (register_length xs) ∙ ap length r.back in
    let room : bad_room (length xs) (length out) ≡ false = room_enough (length xs) (length out) r.told.few (omega arith) in
    (rw (r.same, room, read_as, size), rw (r.same, room, filled_with, size, r.back))
