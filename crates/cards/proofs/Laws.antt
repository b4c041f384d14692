-- What callers use of a register's cards and of its header.
-- Assumes nothing.
use Rattle.std.specs.Prelude.{ℕ, suc, ◌*◌, ◌≤◌, ◌≡◌, refl, Bool, true, false, List, [], ◌∷◌, length, Option, Result, Ok, Err}
use Rattle.farthest.specs.declared.Leaders.{Leaders}
use Rattle.refusals.specs.declared.SentBack.{SentBack}
use Rattle.refusals.specs.Numbers.{refused_at}
use Rattle.std.proofs.Common.{arith, ◌∙◌, sym, ap₂, subst, length-append}
use Rattle.std.proofs.Math.Path.{ap}
use Rattle.search.specs.Laws.{clash}
use Rattle.refusals.specs.declared.Refusal.{Refusal}
use Rattle.refusals.specs.declared.Refusal.TheVariants as refusal
use Rattle.card.specs.declared.Answer.{Answer}
use Rattle.card.specs.Answers.{answer_of}
use Rattle.farthest.specs.Farthest.{leaders_of}
use Rattle.encode.specs.Bytes.{answer_bytes}
use Rattle.encode.specs.Laws.{length_answer}
use Rattle.header.specs.declared.Stored.{Stored}
use Rattle.header.specs.Header.{count_of, cards_in, stored_in, header_of, Whole, Fitting}
use Rattle.header.proofs.Chunks.{cards_counted}
use Rattle.header.proofs.Ends.{header_fitting}
use Rattle.cards.specs.Distances.{wrong_for, unless, held_to}
use Rattle.cards.specs.Register.{Cards, answers, sent_back, joined, then, cards_from, unless_wrong, settled, cards_of, result_of, after_header, outcome_of, bytes_of, filled_with, filled_after, buffer_of}

-- where one answer more in front gives cards that are all answered, the cards behind it are
pub joined_is : (a : Answer) (c : Cards) {xs : List Answer} → joined a c ≡ answers xs → (ys : List Answer) × (c ≡ answers ys) × (a ∷ ys ≡ xs)
joined_is a (answers ys) e = (ys, refl, answers_is e)
  where
    answers_is : {u v : List Answer} → answers u ≡ answers v → u ≡ v
    answers_is q = cc
joined_is a (sent_back r place) e = let z : ◌≡◌ {A = ℕ} 0 1 = cc in clash z

-- a register whose cards are all answered has one answer a card, and sixteen bytes for each
pub cards_count : (place last : ℕ) (cards : List (List ℕ)) (xs : List Answer) → cards_from place last cards ≡ answers xs → length xs ≡ length cards
unfolding cards_from
cards_count place last [] [] e = refl
cards_count place last [] (x ∷ xs) e = let z : ◌≡◌ {A = ℕ} 0 1 = cc in clash z
cards_count place last (card ∷ rest) xs e =
    go (answer_of card last) (λ a ys. cards_count (suc place) a.number rest ys) e
  where
    go : (x : Result Answer Refusal) → ((a : Answer) (ys : List Answer) → cards_from (suc place) a.number rest ≡ answers ys → length ys ≡ length rest) → then x place (λ k. cards_from (suc place) k rest) ≡ answers xs → length xs ≡ suc (length rest)
    go (Ok a) ih q =
        let j = joined_is a (cards_from (suc place) a.number rest) q in
        sym (ap length j.2) ∙ ap suc (ih a j.0 j.1)
    go (Err r) ih q = let z : ◌≡◌ {A = ℕ} 0 1 = cc in clash z

pub bytes_length : (xs : List Answer) → length (bytes_of xs) ≡ 16 * length xs
unfolding bytes_of
bytes_length [] = refl
bytes_length (a ∷ xs) =
    let z : length (bytes_of xs) ≡ 16 * length xs = bytes_length xs in
    omega (arith, length-append (answer_bytes a) (bytes_of xs), length_answer a)

-- ---- the distances that are stored

module _ (s : Option Stored) where
  -- cards that have all passed come to what the stored distances make of their leaders
  pub settled_result : (xs : List Answer) → result_of (settled s (answers xs)) ≡ held_to s (leaders_of xs)
  unfolding held_to
  settled_result xs = go (wrong_for s (leaders_of xs))
    where
      go : (b : Bool) → result_of (unless_wrong b xs) ≡ unless b (leaders_of xs)
      go true = refl
      go false = refl

  -- where a call accepts them, no wrong distance is stored
  pub settled_accepted : (xs : List Answer) (l : Leaders) → Ok l ≡ held_to s (leaders_of xs) → settled s (answers xs) ≡ answers xs
  unfolding held_to
  settled_accepted xs l = go (wrong_for s (leaders_of xs))
    where
      go : (b : Bool) → Ok l ≡ unless b (leaders_of xs) → unless_wrong b xs ≡ answers xs
      go true e = clash (cc)
      go false e = refl

  -- where it sends them back, one is
  pub settled_refused : (xs : List Answer) (sent : SentBack ℕ) → Err sent ≡ held_to s (leaders_of xs) → settled s (answers xs) ≡ sent_back refusal.Count 0
  unfolding held_to
  settled_refused xs sent = go (wrong_for s (leaders_of xs))
    where
      go : (b : Bool) → Err sent ≡ unless b (leaders_of xs) → unless_wrong b xs ≡ sent_back refusal.Count 0
      go true e = refl
      go false e = clash (cc)

  -- and cards whose answers are settled were all answered
  pub settled_is : (c : Cards) {xs : List Answer} → settled s c ≡ answers xs → (c ≡ answers xs) × (wrong_for s (leaders_of xs) ≡ false)
  settled_is (answers ys) {xs = xs} e = go (wrong_for s (leaders_of ys)) refl e
    where
      answers_are : {u v : List Answer} → answers u ≡ answers v → u ≡ v
      answers_are q = cc

      go : (b : Bool) → wrong_for s (leaders_of ys) ≡ b → unless_wrong b ys ≡ answers xs → (answers ys ≡ answers xs) × (wrong_for s (leaders_of xs) ≡ false)
      go true w q = let z : ◌≡◌ {A = ℕ} 0 1 = cc in clash z
      go false w q = (q, ap (λ zs. wrong_for s (leaders_of zs)) (sym (answers_are q)) ∙ w)
  settled_is (sent_back r place) {xs = xs} e = let z : ◌≡◌ {A = ℕ} 0 1 = cc in clash z

-- ---- the whole call

-- from its header on: the cards behind a good one, and the distances that it stores
module _ (bytes : List ℕ) (room : ℕ) (h : Result ℕ Refusal) (e : h ≡ header_of bytes room) where
  pub header_refused : (r : Refusal) → h ≡ Err r → Err (refused_at r 0) ≡ outcome_of bytes room
  unfolding outcome_of
  header_refused r q = ap (λ y. after_header y bytes) (sym q ∙ e)

  module _ (n : ℕ) (q : h ≡ Ok n) where
    fits : Fitting bytes room n
    fits = header_fitting bytes room n (sym e ∙ q)

    pub good_header : Whole bytes
    good_header = fits.whole

    module _ (cards : List (List ℕ)) (c : cards ≡ cards_in bytes) where
      counted : length cards ≡ n
      counted = ap length c ∙ (cards_counted bytes ∙ sym fits.counted)

      pub good_count : length cards ≤ 2_000
      good_count = omega (arith, fits.cards, counted)

      pub good_answers : 16 * length cards ≤ room
      good_answers = omega (arith, fits.answers, counted)

      module _ (s : Option Stored) (d : s ≡ stored_in bytes) where
        -- the cards of the register, as the code has them
        pub good_cards : settled s (cards_from 0 0 cards) ≡ cards_of bytes
        unfolding cards_of
        good_cards = ap₂ (λ t (cs : List (List ℕ)). settled t (cards_from 0 0 cs)) d c

        pub header_good : (r : Result Leaders (SentBack ℕ)) → r ≡ result_of (settled s (cards_from 0 0 cards)) → r ≡ outcome_of bytes room
        unfolding outcome_of
        header_good r g = g ∙ (ap result_of good_cards ∙ ap (λ y. after_header y bytes) (sym q ∙ e))

pub ruleset good = (good_header, good_count, good_answers)

-- and what it leaves in the buffer
module _ (bytes out : List ℕ) (h : Result ℕ Refusal) (e : h ≡ header_of bytes (length out)) where
  pub header_kept : (r : Refusal) → h ≡ Err r → out ≡ buffer_of bytes out
  unfolding buffer_of
  header_kept r q = ap (λ y. filled_after y bytes out) (sym q ∙ e)

  pub header_filled : (n : ℕ) (q : h ≡ Ok n) (cards : List (List ℕ)) (c : cards ≡ cards_in bytes) (s : Option Stored) (d : s ≡ stored_in bytes)
      → (after : List ℕ) → after ≡ filled_with (settled s (cards_from 0 0 cards)) out → after ≡ buffer_of bytes out
  unfolding buffer_of
  header_filled n q cards c s d after g =
      g ∙ (ap (λ y. filled_with y out) (good_cards bytes (length out) h e n q cards c s d) ∙ ap (λ y. filled_after y bytes out) (sym q ∙ e))

-- a register that is accepted has a good header
module _ (bytes : List ℕ) (room : ℕ) (l : Leaders) (e : outcome_of bytes room ≡ Ok l) where
  pub accepted_header : (n : ℕ) × (header_of bytes room ≡ Ok n)
  unfolding outcome_of
  accepted_header = go (header_of bytes room) refl e
    where
      go : (h : Result ℕ Refusal) → header_of bytes room ≡ h → after_header h bytes ≡ Ok l → (n : ℕ) × (header_of bytes room ≡ Ok n)
      go (Ok n) q a = (n, q)
      go (Err r) q a = clash (cc)

  pub accepted_fits : Fitting bytes room (count_of bytes)
  accepted_fits =
      let f = header_fitting bytes room accepted_header.0 accepted_header.1 in
      subst (Fitting bytes room) f.counted f
