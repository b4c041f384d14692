-- The answer buffer, byte by byte, and what does not depend on it.
-- Assumes nothing.
use Rattle.std.specs.Prelude.{ℕ, zero, suc, ◌+◌, ◌-◌, ◌*◌, ◌≤◌, ◌<◌, ◌≡◌, refl, List, [], ◌∷◌, ◌++◌, length, get_or, drop, Result, Ok, Err}
use Rattle.refusals.specs.Numbers.{refused_at}
use Rattle.std.proofs.Common.{arith, ◌∙◌, sym, ap, append_assoc, get_or-append-add, get_or-drop}
use Rattle.std.proofs.Math.ListN.{get_or-append}
use Rattle.search.specs.Laws.{clash}
use Rattle.refusals.specs.declared.Refusal.{Refusal}
use Rattle.card.specs.declared.Answer.{Answer}
use Rattle.card.specs.Answers.{answer_of}
use Rattle.farthest.specs.declared.Leaders.{Leaders}
use Rattle.farthest.specs.Farthest.{At}
use Rattle.encode.specs.Bytes.{answer_bytes}
use Rattle.encode.specs.Laws.{length_answer}
use Rattle.header.specs.Header.{header_of, count_of, cards_in}
use Rattle.header.proofs.Chunks.{cards_counted}
use Rattle.cards.specs.Register.{Cards, answers, sent_back, cards_of, result_of, after_header, outcome_of, bytes_of, filled_with, filled_after, buffer_of}
use Rattle.cards.proofs.Laws.{cards_count, bytes_length}
use Rattle.ordering.specs.Claim.{card_at, Accepts}
use Rattle.ordering.specs.Found.{Found}
use Rattle.ordering.proofs.Found.{found, found_cards, any_room, to_card}

good_filled : (bytes out : List ℕ) (h : Result ℕ Refusal) {l : Leaders} (f : Found bytes l) → after_header h bytes ≡ Ok l → filled_after h bytes out ≡ bytes_of f.list ++ drop (length (bytes_of f.list)) out
good_filled bytes out (Ok n) f e = ap (λ c. filled_with c out) (found_cards bytes f)
good_filled bytes out (Err r) f e = clash (cc)

buffer_is : (bytes out : List ℕ) {l : Leaders} (e : Accepts bytes out l) → buffer_of bytes out ≡ bytes_of (found bytes (length out) e).list ++ drop (length (bytes_of (found bytes (length out) e).list)) out
unfolding buffer_of outcome_of
buffer_is bytes out e =
    good_filled bytes out (header_of bytes (length out)) (found bytes (length out) e) e

-- the bytes of the answer at a place
bytes_at : (xs : List Answer) (rest : List ℕ) (i j : ℕ) (a : Answer) → At xs i a → j < 16 → get_or (bytes_of xs ++ rest) (16 * i + j) 0 ≡ get_or (answer_bytes a) j 0
unfolding bytes_of
bytes_at [] rest i j a h k = absurd h
bytes_at (x ∷ xs) rest zero j a h k =
    let z : 16 * 0 + j ≡ j = omega arith in
    ap (λ n. get_or ((answer_bytes x ++ bytes_of xs) ++ rest) n 0) z
    ∙ (ap (λ (b : List ℕ). get_or b j 0) (append_assoc (answer_bytes x) (bytes_of xs) rest)
    ∙ (get_or-append (answer_bytes x) (bytes_of xs ++ rest) 0 j (omega (arith, length_answer x))
    ∙ ap (λ (y : Answer). get_or (answer_bytes y) j 0) (sym h)))
bytes_at (x ∷ xs) rest (suc i) j a h k =
    let z : 16 * suc i + j ≡ length (answer_bytes x) + (16 * i + j) = omega (arith, length_answer x) in
    ap (λ n. get_or ((answer_bytes x ++ bytes_of xs) ++ rest) n 0) z
    ∙ (ap (λ (b : List ℕ). get_or b (length (answer_bytes x) + (16 * i + j)) 0) (append_assoc (answer_bytes x) (bytes_of xs) rest)
    ∙ (get_or-append-add (answer_bytes x) (bytes_of xs ++ rest) (16 * i + j) 0 ∙ bytes_at xs rest i j a h k))

-- What stands at the sixteen bytes 16 i + j of an accepted call's buffer: byte j of the answer of the card at place i.
pub buffer_answer : (bytes out : List ℕ) (l : Leaders) → Accepts bytes out l → (i : ℕ) → i < count_of bytes
    → (a : Answer) × (last : ℕ) × (answer_of (card_at bytes i) last ≡ Ok a) × ((j : ℕ) → j < 16 → get_or (buffer_of bytes out) (16 * i + j) 0 ≡ get_or (answer_bytes a) j 0)
buffer_answer bytes out l e i h =
    let t = to_card bytes (length out) e i h in
    let f = found bytes (length out) e in
    (t.0, t.2, t.3, λ j k. ap (λ (b : List ℕ). get_or b (16 * i + j) 0) (buffer_is bytes out e) ∙ bytes_at f.list (drop (length (bytes_of f.list)) out) i j t.0 t.1 k)

-- one of them
pub buffer_at : (bytes out : List ℕ) (l : Leaders) → Accepts bytes out l → (i j : ℕ) → i < count_of bytes → j < 16
    → (a : Answer) × (last : ℕ) × (answer_of (card_at bytes i) last ≡ Ok a) × (get_or (buffer_of bytes out) (16 * i + j) 0 ≡ get_or (answer_bytes a) j 0)
buffer_at bytes out l e i j h k =
    let t = buffer_answer bytes out l e i h in (t.0, t.1, t.2, t.3 j k)

-- Every byte beyond is the old one.
pub buffer_beyond : (bytes out : List ℕ) (l : Leaders) → Accepts bytes out l → (k : ℕ) → 16 * count_of bytes ≤ k → get_or (buffer_of bytes out) k 0 ≡ get_or out k 0
buffer_beyond bytes out l e k h =
    let f = found bytes (length out) e in
    let n : length (bytes_of f.list) ≤ k = omega (arith, bytes_length f.list, cards_count 0 0 (cards_in bytes) f.list f.cards, cards_counted bytes) in
    let z : k ≡ length (bytes_of f.list) + (k - length (bytes_of f.list)) = omega arith in
    ap (λ (b : List ℕ). get_or b k 0) (buffer_is bytes out e)
    ∙ (ap (λ m. get_or (bytes_of f.list ++ drop (length (bytes_of f.list)) out) m 0) z
    ∙ (get_or-append-add (bytes_of f.list) (drop (length (bytes_of f.list)) out) (k - length (bytes_of f.list)) 0
    ∙ (get_or-drop (length (bytes_of f.list)) out (k - length (bytes_of f.list)) 0 ∙ ap (λ m. get_or out m 0) (sym z))))

-- A refused call changes no byte.
kept_cards : (c : Cards) (out : List ℕ) {r : Refusal} {place : ℕ} → result_of c ≡ Err (refused_at r place) → filled_with c out ≡ out
kept_cards (answers xs) out e = clash (cc)
kept_cards (sent_back r place) out e = refl

kept_header : (h : Result ℕ Refusal) (bytes out : List ℕ) {r : Refusal} {place : ℕ} → after_header h bytes ≡ Err (refused_at r place) → filled_after h bytes out ≡ out
kept_header (Ok n) bytes out e = kept_cards (cards_of bytes) out e
kept_header (Err r) bytes out e = refl

pub buffer_kept : (bytes out : List ℕ) (r : Refusal) (place : ℕ) → outcome_of bytes (length out) ≡ Err (refused_at r place) → buffer_of bytes out ≡ out
unfolding outcome_of buffer_of
buffer_kept bytes out r place e = kept_header (header_of bytes (length out)) bytes out e

-- Acceptance and both farthest cards are the same with every buffer that number 4 lets pass.
pub any_buffer : (bytes out other : List ℕ) (l : Leaders) → Accepts bytes out l → 16 * count_of bytes ≤ length other → Accepts bytes other l
any_buffer bytes out other l e k = any_room bytes (length out) (length other) e k
