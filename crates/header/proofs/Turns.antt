-- Several cards one behind the other: how many they are, which bytes the card at a place has, what the first of them are and those behind,
-- and that their bytes are those of all of them.
-- Assumes nothing.
use Rattle.std.specs.Prelude.{ℕ, zero, suc, ◌+◌, ◌-◌, ◌*◌, ◌<◌, ◌≤◌, ◌≡◌, refl, List, [], ◌∷◌, ◌++◌, length, take, drop, get_or}
use Rattle.std.specs.List.{concat}
use Rattle.std.specs.Simd.{first_chunks}
use Rattle.std.proofs.Common.{arith, ◌∙◌, ap, ap₂, sym, length-drop, take_all, take-append-drop, drop-drop}
use Rattle.std.proofs.lemmas.List.{take-take, drop-take}
use native.Mathlib.Nat.{mul-suc, mul-le-mul_left}
use native.Mathlib.Numerals.{unary_clauses}
use Rattle.header.specs.declared.several.Cards.{Cards}
use Rattle.header.specs.InTurn.{in_turn}
use Rattle.header.proofs.Chunks.{chunks_count, chunk_at}

-- one card is its bytes
pub one_is : (bytes : List ℕ) → first_chunks (length bytes) 1 bytes ≡ bytes ∷ []
one_is bytes = ap (λ (b : List ℕ). b ∷ []) (take_all (length bytes) bytes (omega arith))

pub counted : (c : Cards) → length (in_turn c) ≡ c.count
unfolding in_turn
counted c = chunks_count c.size c.count c.bytes.now

-- the card at a place has room among the bytes
pub turn_within : (c : Cards) (i : ℕ) → i < c.count → c.size * i + c.size ≤ length c.bytes.now
turn_within c i h = omega (arith, c.whole, mul-suc c.size i, mul-le-mul_left c.size h)

pub turn_is : (c : Cards) (i : ℕ) → i < c.count → take (c.size * i + c.size - c.size * i) (drop (c.size * i) c.bytes.now) ≡ get_or (in_turn c) i []
unfolding in_turn
turn_is c i h =
    ap (λ n. take n (drop (c.size * i) c.bytes.now)) (let z : c.size * i + c.size - c.size * i ≡ c.size = omega arith in z)
    ∙ sym (chunk_at c.size c.count c.bytes.now i h)

-- ---- the first of them, and those behind

front_chunks : (size k n : ℕ) (bytes : List ℕ) → k ≤ n → first_chunks size k (take (size * k) bytes) ≡ take k (first_chunks size n bytes)
front_chunks size zero n bytes h = refl
front_chunks size (suc k) zero bytes h = absurd (omega (arith, h))
front_chunks size (suc k) (suc n) bytes h =
    let on : size * suc k ≡ size + size * k = omega (arith, mul-suc size k) in
    ap₂ (λ (b : List ℕ) (bs : List (List ℕ)). b ∷ bs)
    (take-take size (size * suc k) bytes (omega arith))
    (ap (first_chunks size k) (ap (λ m. drop size (take m bytes)) on ∙ drop-take size (size * k) bytes) ∙ front_chunks size k n (drop size bytes) (omega (arith, h)))

behind_chunks : (size k n : ℕ) (bytes : List ℕ) → k ≤ n → first_chunks size (n - k) (drop (size * k) bytes) ≡ drop k (first_chunks size n bytes)
behind_chunks size zero n bytes h = simp unary_clauses refl
behind_chunks size (suc k) zero bytes h = absurd (omega (arith, h))
behind_chunks size (suc k) (suc n) bytes h =
    let on : size + size * k ≡ size * suc k = omega (arith, mul-suc size k) in
    let less : suc n - suc k ≡ n - k = omega arith in
    ap₂ (first_chunks size) less (ap (λ m. drop m bytes) (sym on) ∙ sym (drop-drop (size * k) size bytes))
    ∙ behind_chunks size k n (drop size bytes) (omega (arith, h))

module _ (c : Cards) (k : ℕ) (h : k ≤ c.count) where
  pub first_within : c.size * k ≤ length c.bytes.now
  first_within = omega (arith, c.whole, mul-le-mul_left c.size h)

  pub first_are : {front : List ℕ} → front ≡ take (c.size * k) c.bytes.now → first_chunks c.size k front ≡ take k (in_turn c)
  unfolding in_turn
  first_are e = ap (first_chunks c.size k) e ∙ front_chunks c.size k c.count c.bytes.now h

  pub others_are : {behind : List ℕ} → behind ≡ drop (c.size * k) c.bytes.now → first_chunks c.size (c.count - k) behind ≡ drop k (in_turn c)
  unfolding in_turn
  others_are e = ap (first_chunks c.size (c.count - k)) e ∙ behind_chunks c.size k c.count c.bytes.now h

-- ---- their bytes

no_bytes : (bytes : List ℕ) → length bytes ≡ 0 → bytes ≡ []
no_bytes [] e = refl
no_bytes (b ∷ bytes) e = absurd (omega (arith, e))

pub turn_bytes : (c : Cards) → concat (in_turn c) ≡ c.bytes.now
unfolding in_turn
turn_bytes c = go c.size c.count c.bytes.now c.whole
  where
    go : (size n : ℕ) (bytes : List ℕ) → length bytes ≡ size * n → concat (first_chunks size n bytes) ≡ bytes
    go size zero bytes e = sym (no_bytes bytes (omega (arith, e)))
    go size (suc n) bytes e =
        let rest : length (drop size bytes) ≡ size * n = omega (arith, e, length-drop size bytes, mul-suc size n) in
        ap (λ (b : List ℕ). take size bytes ++ b) (go size n (drop size bytes) rest) ∙ take-append-drop size bytes
