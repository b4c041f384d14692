-- What callers use of a written buffer: texts follow one another, a text stands where it was written with every other byte
-- as it was, and a reader of the bytes of a number finds the number.
-- Assumes nothing.
use Rattle.std.specs.Prelude.{ℕ, zero, suc, ◌+◌, ◌*◌, ◌/◌, ◌%◌, ◌^◌, ◌≤◌, ◌<◌, ◌≡◌, refl, List, [], ◌∷◌, ◌++◌, length, take, drop, get_or, set}
use Rattle.std.proofs.Common.{arith, add-zero, zero-add, not-suc-le-zero, sym, ap, subst, ◌∙◌, length-append, length-set, take_at, drop_at, get_or-set_same, get_or-set_other}
use Rattle.std.proofs.lemmas.List.Edits.{sets, sets-eq}
use Rattle.buffer.specs.Numbers.{byte_at, two_at, four_at, eight_at, two_bytes, four_bytes, eight_bytes}
use Rattle.buffer.specs.declared.Writer.{Writer}
use Rattle.buffer.specs.Wrote.{Wrote}
use Rattle.buffer.specs.Puts.{Puts}

-- ---- writing one text after another

-- two texts one after the other are their joint text
pub sets_append : (s t b : List ℕ) (at : ℕ) → sets (sets b at s) (at + length s) t ≡ sets b at (s ++ t)
sets_append [] t b at = ap (λ (k : ℕ). sets b k t) (add-zero at)
sets_append (x ∷ s) t b at =
    let on : at + suc (length s) ≡ suc at + length s = omega arith in
    ap (λ (k : ℕ). sets (sets (set b at x) (suc at) s) k t) on ∙ sets_append s t (set b at x) (suc at)

-- the same where the first text is known by its length: what is written behind it lengthens it
pub sets_behind : (k : ℕ) (s t b₀ b₁ b₂ : List ℕ) (at : ℕ) → length s ≡ k
    → b₁ ≡ sets b₀ at s → b₂ ≡ sets b₁ (at + k) t → b₂ ≡ sets b₀ at (s ++ t)
sets_behind k s t b₀ b₁ b₂ at long first second =
    second ∙ ap (λ (b : List ℕ). sets b (at + k) t) first
    ∙ ap (λ (j : ℕ). sets (sets b₀ at s) (at + j) t) (sym long) ∙ sets_append s t b₀ at

-- two stores, one byte after the other
pub sets_pair : (b : List ℕ) (at next x y : ℕ) → next ≡ at + 1 → set (set b at x) next y ≡ sets b at (x ∷ y ∷ [])
sets_pair b at next x y e =
    let on : next ≡ suc at = omega arith in
    ap (λ (k : ℕ). set (set b at x) k y) on

-- the rule for a chain of calls that write: each begins where the one before it ended
pub joined : {b₀ b₁ b₂ s t : List ℕ} {at mid end : ℕ}
    → Wrote b₀ b₁ at mid s → Wrote b₁ b₂ mid end t → Wrote b₀ b₂ at end (s ++ t)
joined {b₀} {b₁} {b₂} {s} {t} {at} {mid} {end} first second = record {
  place = simp length-append (omega (arith, first.place, second.place));
  bytes =
      second.bytes ∙ ap (λ (b : List ℕ). sets b mid t) first.bytes
      ∙ ap (λ (k : ℕ). sets (sets b₀ at s) k t) first.place ∙ sets_append s t b₀ at;
}

-- the same of a writer: two texts one behind the other are their joint text
pub then : {before between after : Writer} {s t : List ℕ} → Puts before between s → Puts between after t → Puts before after (s ++ t)
then first second = record { same = second.same ∙ first.same; long = second.long ∙ first.long; wrote = joined first.wrote second.wrote }

-- what a writer wrote, of the buffer that it was lent
pub lent : {before after : Writer} {text held : List ℕ} → Puts before after text → held ≡ after.bytes.now
    → Wrote before.bytes.now held before.at after.at text
lent {before} {after} {text} puts e = subst (λ (b : List ℕ). Wrote before.bytes.now b before.at after.at text) (sym e) puts.wrote

-- a text that fits, written from the start: the text, and what stood behind it
pub written_first : (t b : List ℕ) → length t ≤ length b → sets b 0 t ≡ t ++ drop (length t) b
written_first t b fits = sets-eq t b 0 (simp zero-add fits) ∙ simp zero-add

-- ---- what a caller reads of a buffer that was written

-- from its start: up to the answered position it is the text, and from there on it is as it was
pub written_whole : {before after text : List ℕ} {next : ℕ} → Wrote before after 0 next text → next ≤ length before
    → (take next after ≡ text) × (drop next after ≡ drop next before)
written_whole {before} {after} {text} {next} w fits =
    let same : length text ≡ next = omega (arith, w.place) in
    let whole : after ≡ text ++ drop next before =
    w.bytes ∙ written_first text before (omega arith) ∙ ap (λ (k : ℕ). text ++ drop k before) same in (
      ap (take next) whole ∙ take_at text (drop next before) next same,
      ap (drop next) whole ∙ drop_at text (drop next before) next same,
    )

-- "bytes beyond are untouched": those before the text, and those behind it
pub untouched_before : (s b : List ℕ) (at k : ℕ) → k < at → get_or (sets b at s) k 0 ≡ get_or b k 0
untouched_before [] b at k h = refl
untouched_before (x ∷ s) b at k h =
    untouched_before s (set b at x) (suc at) k (omega arith) ∙ get_or-set_other b at k x 0 (λ e. omega arith)

pub untouched_behind : (s b : List ℕ) (at k : ℕ) → at + length s ≤ k → get_or (sets b at s) k 0 ≡ get_or b k 0
untouched_behind [] b at k h = refl
untouched_behind (x ∷ s) b at k h =
    untouched_behind s (set b at x) (suc at) k (omega arith) ∙ get_or-set_other b at k x 0 (λ e. omega arith)

-- a text that fits stands where it was written
pub stands : (s b : List ℕ) (at j : ℕ) → at + length s ≤ length b → j < length s
    → get_or (sets b at s) (at + j) 0 ≡ get_or s j 0
stands [] b at j fits h = absurd (not-suc-le-zero h)
stands (x ∷ s) b at zero fits h =
    ap (λ (k : ℕ). get_or (sets (set b at x) (suc at) s) k 0) (add-zero at)
    ∙ untouched_before s (set b at x) (suc at) at (omega arith) ∙ get_or-set_same b at x 0 (omega arith)
stands (x ∷ s) b at (suc j) fits h =
    let on : at + suc j ≡ suc at + j = omega arith in
    ap (λ (k : ℕ). get_or (sets (set b at x) (suc at) s) k 0) on
    ∙ stands s (set b at x) (suc at) j (simp length-set (omega arith)) (omega arith)

-- numbers are read off the buffer as off the text
module _ (s bytes : List ℕ) (at : ℕ) (same : (j : ℕ) → j < length s → get_or bytes (at + j) 0 ≡ get_or s j 0) where
  pub two_in : (k : ℕ) → k + 2 ≤ length s → two_at bytes (at + k) ≡ two_at s k
  two_in k h =
      let on : at + k + 1 ≡ at + (k + 1) = omega arith in
      ap (λ (x : ℕ). x * 256 + byte_at bytes (at + k + 1)) (same k (omega arith))
      ∙ ap (λ (i : ℕ). byte_at s k * 256 + byte_at bytes i) on
      ∙ ap (λ (x : ℕ). byte_at s k * 256 + x) (same (k + 1) (omega arith))

  pub four_in : (k : ℕ) → k + 4 ≤ length s → four_at bytes (at + k) ≡ four_at s k
  four_in k h =
      let on : at + k + 2 ≡ at + (k + 2) = omega arith in
      ap (λ (x : ℕ). x * 65_536 + two_at bytes (at + k + 2)) (two_in k (omega arith))
      ∙ ap (λ (i : ℕ). two_at s k * 65_536 + two_at bytes i) on
      ∙ ap (λ (x : ℕ). two_at s k * 65_536 + x) (two_in (k + 2) (omega arith))

  pub eight_in : (k : ℕ) → k + 8 ≤ length s → eight_at bytes (at + k) ≡ eight_at s k
  eight_in k h =
      let on : at + k + 4 ≡ at + (k + 4) = omega arith in
      ap (λ (x : ℕ). x * 4_294_967_296 + four_at bytes (at + k + 4)) (four_in k (omega arith))
      ∙ ap (λ (i : ℕ). four_at s k * 4_294_967_296 + four_at bytes i) on
      ∙ ap (λ (x : ℕ). four_at s k * 4_294_967_296 + x) (four_in (k + 4) (omega arith))

-- ---- the bytes of a number: how long they are

pub length_two : (n : ℕ) → length (two_bytes n) ≡ 2
unfolding two_bytes
length_two n = refl

pub length_four : (n : ℕ) → length (four_bytes n) ≡ 4
unfolding two_bytes four_bytes
length_four n = refl

pub length_eight : (n : ℕ) → length (eight_bytes n) ≡ 8
unfolding two_bytes four_bytes eight_bytes
length_eight n = refl

-- ---- the bytes of a number: reading them gives the number

pub read_two : (n : ℕ) (rest : List ℕ) → n < 2 ^ 16 → two_at (two_bytes n ++ rest) 0 ≡ n
unfolding two_bytes
read_two n rest h = omega arith

pub read_four : (n : ℕ) (rest : List ℕ) → n < 2 ^ 32 → four_at (four_bytes n ++ rest) 0 ≡ n
unfolding two_bytes four_bytes
read_four n rest h = omega arith

pub read_eight : (n : ℕ) (rest : List ℕ) → n < 2 ^ 64 → eight_at (eight_bytes n ++ rest) 0 ≡ n
unfolding two_bytes four_bytes eight_bytes
read_eight n rest h =
    let high = n / 4_294_967_296 in
    let low = n % 4_294_967_296 in
    let whole : high * 4_294_967_296 + low ≡ n = omega arith in
    let behind = four_bytes low ++ rest in
    ap (λ (x : ℕ). x * 4_294_967_296 + four_at behind 0) (read_four high behind (omega arith))
    ∙ ap (λ (x : ℕ). high * 4_294_967_296 + x) (read_four low rest (omega arith)) ∙ whole
