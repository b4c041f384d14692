-- What an accepted register's answers are: one for each card, each the answer of that card's bytes.
-- Assumes nothing.
use Rattle.std.specs.Prelude.{ℕ, zero, suc, ◌*◌, ◌≤◌, ◌<◌, ◌≡◌, refl, List, [], ◌∷◌, length, get_or, Result, Ok, Err}
use Rattle.refusals.specs.declared.Refusal.{Refusal}
use Rattle.std.proofs.Common.{zero-le, suc-le-suc, arith, le_of_suc-le-suc, not-suc-le-zero, ◌∙◌, sym, ap, subst}
use Rattle.std.proofs.lemmas.Bool.Decides.{nat_tests}
use Rattle.search.specs.Laws.{clash}
use Rattle.card.specs.declared.Answer.{Answer}
use Rattle.card.specs.Answers.{answer_of}
use Rattle.farthest.specs.declared.Leaders.{Leaders}
use Rattle.farthest.specs.Farthest.{At, leaders_of}
use Rattle.header.specs.Header.{bad_buffer, header_of, count_of, stored_in, cards_in}
use Rattle.header.proofs.Chunks.{cards_counted}
use Rattle.cards.specs.Distances.{wrong_for}
use Rattle.cards.specs.Register.{Cards, answers, sent_back, then, cards_from, cards_of, result_of, after_header, outcome_of}
use Rattle.cards.proofs.Laws.{joined_is, settled_is}
use Rattle.ordering.specs.Claim.{card_at}
use Rattle.ordering.specs.Found.{Found}

-- the answer at a place is that of the card there, after some last number
AnswerAt : List (List ℕ) → ℕ → Answer → Type 0
AnswerAt cards i a = (last : ℕ) × (answer_of (get_or cards i []) last ≡ Ok a)

-- every answer of the cards stands for a card
answers_are : (place last : ℕ) (cards : List (List ℕ)) (xs : List Answer) → cards_from place last cards ≡ answers xs → (i : ℕ) (a : Answer) → At xs i a → (i < length cards) × AnswerAt cards i a
unfolding cards_from AnswerAt
answers_are place last [] [] e i a h = absurd h
answers_are place last [] (x ∷ xs) e i a h = clash (cc)
answers_are place last (card ∷ rest) xs e i a h =
    go (answer_of card last) refl (λ b ys. answers_are (suc place) b.number rest ys) e i h
  where
    at_head : (b : Answer) (ys : List Answer) → answer_of card last ≡ Ok b → ((k : ℕ) → At ys k a → (k < length rest) × AnswerAt rest k a) → (k : ℕ) → At (b ∷ ys) k a → (k < suc (length rest)) × AnswerAt (card ∷ rest) k a
    at_head b ys p ih zero q = (suc-le-suc zero-le, (last, p ∙ ap Ok (sym q)))
    at_head b ys p ih (suc k) q = let r = ih k q in (suc-le-suc r.0, r.1)

    go : (x : Result Answer Refusal) → answer_of card last ≡ x → ((b : Answer) (ys : List Answer) → cards_from (suc place) b.number rest ≡ answers ys → (k : ℕ) (d : Answer) → At ys k d → (k < length rest) × AnswerAt rest k d) → then x place (λ k. cards_from (suc place) k rest) ≡ answers xs → (k : ℕ) → At xs k a → (k < suc (length rest)) × AnswerAt (card ∷ rest) k a
    go (Ok b) p ih q k w =
        let j = joined_is b (cards_from (suc place) b.number rest) q in
        at_head b j.0 p (λ k' w'. ih b j.0 j.1 k' a w') k (subst (λ (ys : List Answer). At ys k a) (sym j.2) w)
    go (Err r) p ih q k w = clash (cc)

-- every card has its answer
cards_have : (place last : ℕ) (cards : List (List ℕ)) (xs : List Answer) → cards_from place last cards ≡ answers xs → (i : ℕ) → i < length cards → (a : Answer) × At xs i a × AnswerAt cards i a
unfolding cards_from AnswerAt
cards_have place last [] xs e i h = absurd (not-suc-le-zero h)
cards_have place last (card ∷ rest) xs e i h =
    go (answer_of card last) refl (λ b ys. cards_have (suc place) b.number rest ys) e i h
  where
    at_head : (b : Answer) (ys : List Answer) → answer_of card last ≡ Ok b → ((k : ℕ) → k < length rest → (a : Answer) × At ys k a × AnswerAt rest k a) → (k : ℕ) → k < suc (length rest) → (a : Answer) × At (b ∷ ys) k a × AnswerAt (card ∷ rest) k a
    at_head b ys p ih zero q = (b, refl, (last, p))
    at_head b ys p ih (suc k) q =
        let r = ih k (le_of_suc-le-suc q) in (r.0, r.1, r.2)

    go : (x : Result Answer Refusal) → answer_of card last ≡ x → ((b : Answer) (ys : List Answer) → cards_from (suc place) b.number rest ≡ answers ys → (k : ℕ) → k < length rest → (a : Answer) × At ys k a × AnswerAt rest k a) → then x place (λ k. cards_from (suc place) k rest) ≡ answers xs → (k : ℕ) → k < suc (length rest) → (a : Answer) × At xs k a × AnswerAt (card ∷ rest) k a
    go (Ok b) p ih q k w =
        let j = joined_is b (cards_from (suc place) b.number rest) q in
        subst (λ (ys : List Answer). (a : Answer) × At ys k a × AnswerAt (card ∷ rest) k a) j.2 (at_head b j.0 p (ih b j.0 j.1) k w)
    go (Err r) p ih q k w = clash (cc)

-- acceptance and both farthest cards are the same with every buffer that number 4 lets pass
pub any_room : (bytes : List ℕ) (room other : ℕ) {l : Leaders} → outcome_of bytes room ≡ Ok l → 16 * count_of bytes ≤ other → outcome_of bytes other ≡ Ok l
unfolding outcome_of header_of bad_buffer
any_room bytes room other e k = grind (arith, nat_tests, e)

-- the answers of an accepted register
pub found : (bytes : List ℕ) (room : ℕ) {l : Leaders} → outcome_of bytes room ≡ Ok l → Found bytes l
unfolding outcome_of cards_of
found bytes room {l} e = header_found (header_of bytes room) e
  where
    cards_found : (c : Cards) → cards_of bytes ≡ c → result_of c ≡ Ok l → Found bytes l
    cards_found (answers xs) p q =
        let leads : leaders_of xs ≡ l = cc in
        let s = settled_is (stored_in bytes) (cards_from 0 0 (cards_in bytes)) p in
        record { list = xs; cards = s.0; leads = leads; stored = ap (wrong_for (stored_in bytes)) (sym leads) ∙ s.1 }
    cards_found (sent_back r place) p q = clash (cc)

    header_found : (h : Result ℕ Refusal) → after_header h bytes ≡ Ok l → Found bytes l
    header_found (Ok n) q = cards_found (cards_of bytes) refl q
    header_found (Err r) q = clash (cc)

pub found_cards : (bytes : List ℕ) {l : Leaders} (f : Found bytes l) → cards_of bytes ≡ answers f.list
unfolding cards_of
found_cards bytes f = grind (arith, f.cards, f.leads, f.stored)

-- cards of a register that are all answered: every answer is that of a card, and every card has its answer
module _ (bytes : List ℕ) {xs : List Answer} (e : cards_from 0 0 (cards_in bytes) ≡ answers xs) where
  pub answer_is_cards : (i : ℕ) (a : Answer) → At xs i a → (i < count_of bytes) × (last : ℕ) × (answer_of (card_at bytes i) last ≡ Ok a)
  unfolding AnswerAt
  answer_is_cards i a h =
      let r = answers_are 0 0 (cards_in bytes) xs e i a h in
      (subst (λ n. i < n) (cards_counted bytes) r.0, r.1.0, r.1.1)

  pub card_has_answer : (i : ℕ) → i < count_of bytes → (a : Answer) × At xs i a × (last : ℕ) × (answer_of (card_at bytes i) last ≡ Ok a)
  unfolding AnswerAt
  card_has_answer i h =
      let r = cards_have 0 0 (cards_in bytes) xs e i (subst (λ n. i < n) (sym (cards_counted bytes)) h) in
      (r.0, r.1, r.2.0, r.2.1)

-- and so of an accepted register
module _ (bytes : List ℕ) (room : ℕ) {l : Leaders} (e : outcome_of bytes room ≡ Ok l) where
  pub from_card : (i : ℕ) (a : Answer) → At (found bytes room e).list i a → (i < count_of bytes) × (last : ℕ) × (answer_of (card_at bytes i) last ≡ Ok a)
  from_card = answer_is_cards bytes (found bytes room e).cards

  pub to_card : (i : ℕ) → i < count_of bytes → (a : Answer) × At (found bytes room e).list i a × (last : ℕ) × (answer_of (card_at bytes i) last ≡ Ok a)
  to_card = card_has_answer bytes (found bytes room e).cards
