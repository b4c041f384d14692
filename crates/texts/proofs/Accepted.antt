-- What acceptance says of a register: what stands in its header, that the writer takes it, and that none of its cards' meanings
-- is a refusal.
-- Assumes nothing.
use Rattle.std.specs.Prelude.{ℕ, suc, ◌≡◌, refl, false, List, [], ◌∷◌, map, length, Result, Ok, Err}
use Rattle.std.proofs.Common.{arith, subst}
use Rattle.std.proofs.lemmas.Bool.Decides.{nat_tests}
use Rattle.search.specs.Laws.{clash}
use Rattle.buffer.specs.Numbers.{four_at}
use Rattle.fields.specs.declared.Fields.{Fields}
use Rattle.fields.specs.Layout.{fields_of}
use Rattle.refusals.specs.declared.Refusal.{Refusal}
use Rattle.meaning.specs.Reading.{meaning_of}
use Rattle.card.specs.declared.Answer.{Answer}
use Rattle.card.specs.Answers.{answer_of}
use Rattle.card.specs.Number.{stocked, answer_number}
use Rattle.header.specs.Header.{enough, count_of, cards_in, bad_length, header_of, Fitting}
use Rattle.cards.specs.Register.{answers, then, cards_from, outcome_of}
use Rattle.cards.proofs.Laws.{joined_is, accepted_fits}
use Rattle.ordering.proofs.Found.{any_room, found}
use Rattle.write_lines.specs.Writing.{fields_of_register, other_version, writable}
use Rattle.texts.specs.Claim.{Accepted, Writable}

-- ---- the header

-- what the header of an accepted register says, whatever its version
pub headed : (register : List ℕ) (a : Accepted register) → Fitting register (length a.0) (count_of register)
headed register a = accepted_fits register (length a.0) a.1 a.2

good_length : (register : List ℕ) → Accepted register → bad_length register ≡ false
unfolding outcome_of header_of
good_length register (buffer, leaders, e) = grind (arith, e)

pub length_field : (register : List ℕ) → Accepted register → four_at register 0 ≡ length register
unfolding bad_length
length_field register a = grind (arith, nat_tests, good_length register a)

-- the writer, who is lent no answer buffer, takes a register of version 1
pub taken : (register : List ℕ) (w : Writable register) → writable register ≡ Ok w.0.1
unfolding writable other_version
taken register w =
    rw (good_length register w.0, w.1)
    (any_room register (length w.0.0) enough w.0.2 (omega (arith, (headed register w.0).cards)))

-- ---- the cards

-- each of these cards has a meaning, read after the last one's number
abbrev pub AllMean : ℕ → List Fields → Type 0
AllMean last [] = Unit {0}
AllMean last (f ∷ rest) = ((r : Refusal) → meaning_of f last ≡ Err r → ⊥) × AllMean f.number rest

-- a card that is answered has one
answered_means : (card : List ℕ) (last : ℕ) {a : Answer} → answer_of card last ≡ Ok a → (r : Refusal) → meaning_of (fields_of card) last ≡ Err r → ⊥
answered_means card last e r m = let means = (stocked card last e).means in clash (cc)

-- so have cards that are all answered
answers_mean : (place last : ℕ) (cards : List (List ℕ)) (xs : List Answer) → cards_from place last cards ≡ answers xs → AllMean last (map fields_of cards)
unfolding cards_from
answers_mean place last [] xs e = tt
answers_mean place last (card ∷ rest) xs e =
    go (answer_of card last) refl (λ k ys. answers_mean (suc place) k rest ys) e
  where
    go : (x : Result Answer Refusal) → answer_of card last ≡ x
        → ((k : ℕ) (ys : List Answer) → cards_from (suc place) k rest ≡ answers ys → AllMean k (map fields_of rest))
        → then x place (λ k. cards_from (suc place) k rest) ≡ answers xs
        → AllMean last (fields_of card ∷ map fields_of rest)
    go (Ok a) p ih q =
        let j = joined_is a (cards_from (suc place) a.number rest) q in (
          answered_means card last p,
          subst (λ k. AllMean k (map fields_of rest)) (answer_number card last p) (ih a.number j.0 j.1),
        )
    go (Err r) p ih q = clash (cc)

-- and those of an accepted register
pub all_mean : (register : List ℕ) → Accepted register → AllMean 0 (fields_of_register register)
unfolding fields_of_register
all_mean register a =
    let f = found register (length a.0) a.2 in
    answers_mean 0 0 (cards_in register) f.list f.cards
