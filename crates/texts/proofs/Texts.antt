-- The theorems of request A1 over the reader and the writer (`Claim.antt`).
-- Assumes nothing.
use Rattle.std.specs.Prelude.{ℕ, ◌≤◌, ◌≡◌, Bool, true, false, List, ◌++◌, ltb, length, take, drop, Result, Ok, Err}
use Rattle.refusals.specs.declared.SentBack.{SentBack}
use Rattle.refusals.specs.Numbers.{refused_at}
use Rattle.std.proofs.Common.{sym, ap, ◌∙◌, le-ltb}
use Rattle.std.proofs.Math.Seq.{take-append_seam}
use Rattle.search.specs.Laws.{clash}
use Rattle.refusals.specs.declared.Refusal.TheVariants as refusal
use Rattle.comma.specs.Text.{cards, cards_in}
use Rattle.comma.specs.Strict.{strict_lines}
use Rattle.comma.proofs.StrictLaws.{text_written, cards_same, strict_same}
use Rattle.write_lines.specs.Writing.{fields_of_register, strict_text, answer_as, writing_of, written_as, write_into}
use Rattle.texts.specs.Claim.{Accepted, Writable, ReadAlike, RoundTrip, meanings_of, SameForms, SameBytes, StrictAgain}
use Rattle.texts.proofs.Accepted.{taken, all_mean}
use Rattle.texts.proofs.Meanings.{same_cards}
use Rattle.texts.proofs.Told.{Told, Back, told_accepted, told_back, Read, bytes_are, read_is, reads_into}

-- ---- "a reader into a lent version 1 register"

pub read_alike : ReadAlike
read_alike text register r = reads_into text register (read_is text register r)

-- ---- "Reading what was written gives the same register"

-- a strict text has the register's cards
strict_cards : (register : List ℕ) → Told register → cards_in (strict_text register) ≡ cards (fields_of_register register)
unfolding strict_text
strict_cards register t = text_written (fields_of_register register) t.fit

-- so it reads into the register of those
strict_read : (register : List ℕ) → Told register → Back register → Read (strict_text register) register
strict_read register t b = record { same = strict_cards register t; told = t; back = b }

-- what the writer writes where it answers a number of bytes is the strict text
written : (register out : List ℕ) (n : ℕ) → Writable register → writing_of register (length out) ≡ Ok n
    → take n (write_into register out) ≡ strict_text register
unfolding writing_of write_into
written register out n a e =
    ap (λ o. take n (written_as o text out)) (taken register a)
    ∙ go (ltb (length out) (length text)) (sym (ap (λ o. answer_as o text (length out)) (taken register a)) ∙ e)
  where
    text : List ℕ
    text = strict_text register

    go : (b : Bool) → (elim b as (λ _. Result ℕ (SentBack ℕ)) [ true ↦ Err (refused_at refusal.Room 0) | false ↦ Ok (length text) ]) ≡ Ok n
        → take n (elim b as (λ _. List ℕ) [ true ↦ out | false ↦ text ++ drop (length text) out ]) ≡ text
    go true q = clash (cc)
    go false q = rw (← bytes_are q) (take-append_seam text (drop (length text) out))

-- and it answers one wherever there is room
writes : (register out : List ℕ) → Writable register → length (strict_text register) ≤ length out
    → writing_of register (length out) ≡ Ok (length (strict_text register))
unfolding writing_of
writes register out a h = rw (taken register a, le-ltb (length out) (length (strict_text register)) h, answer_as)

pub round_trip : RoundTrip
round_trip register all a =
    let read : Read (strict_text register) register = strict_read register (told_accepted register all a.0) (told_back register all a) in
    record {
      same = λ out n e. reads_into (take n (write_into register out)) register (rw (written register out n a e) read);
      written = λ out h. writes register out a h;
    }

-- ---- "two texts .. have equal strict forms exactly when they mean the same cards"

-- equal cards, where strict forms or meanings are equal
module _ (first second : List ℕ) (t : Told first) (u : Told second) (a : Accepted first) where
  by_forms : strict_text first ≡ strict_text second → fields_of_register first ≡ fields_of_register second
  unfolding strict_text
  by_forms e = strict_same (fields_of_register first) (fields_of_register second) t.fit u.fit e

  by_meanings : meanings_of first ≡ meanings_of second → fields_of_register first ≡ fields_of_register second
  unfolding meanings_of
  by_meanings e = same_cards 0 0 (fields_of_register first) (fields_of_register second) t.fit u.fit (all_mean first a) e

pub same_forms : SameForms
unfolding strict_text meanings_of
same_forms s t first second r q a b =
    let x = (read_is s first r).told in
    let y = (read_is t second q).told in (
      λ e. rw (by_forms first second x y a e),
      λ e. rw (by_meanings first second x y a e),
    )

pub same_bytes : SameBytes
same_bytes first second fa sa a b =
    let x = told_accepted first fa a.0 in
    let y = told_accepted second sa b.0 in (
      λ e. sym (told_back first fa a) ∙ rw (by_meanings first second x y a.0 e) (told_back second sa b),
      λ e. ap meanings_of e,
    )

-- ---- "one strict way of writing lines"

pub strict_again : StrictAgain
unfolding strict_text
strict_again register again all a r =
    ap strict_lines
    (cards_same (sym (read_is (strict_text register) again r).same ∙ strict_cards register (told_accepted register all a)))
