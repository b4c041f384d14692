-- What a header that is not refused says of its version and of the two lengths, and that the count it gives is the register's.
-- Assumes nothing.
use Rattle.std.specs.Prelude.{ℕ, ◌≡◌, refl, ◌*◌, ◌≤◌, Bool, true, false, length, List, Ok}
use Rattle.std.proofs.Common.{arith, ◌∙◌, sym}
use Rattle.search.specs.Laws.{clash}
use Rattle.std.proofs.lemmas.Bool.Decides.{nat_tests}
use Rattle.refusals.specs.declared.Refusal.TheVariants as refusal
use Rattle.header.specs.Header.{count_of, layout_in, size_of, bad_length, bad_version, bad_count, bad_buffer, header_if, header_of, Fitting}

-- what the checks of version, count and buffer leave
pub header_fits : (bytes : List ℕ) (room n : ℕ) (v k : Bool) → v ≡ bad_version bytes → v ≡ false → k ≡ bad_count bytes → k ≡ false → n ≡ count_of bytes → 16 * n ≤ room → Fitting bytes room n
unfolding bad_count
header_fits bytes room n v k p vf q kf e roomy =
    let few : count_of bytes ≤ 2_000 = grind (arith, nat_tests, q, kf) in
    let long : length bytes ≡ size_of (layout_in bytes) (count_of bytes) = grind (arith, nat_tests, q, kf) in
    record {
      version = sym p ∙ vf;
      cards = omega (arith, few, e);
      counted = e;
      whole = record { register = long };
      answers = roomy;
    }

pub header_fitting : (bytes : List ℕ) (room n : ℕ) → header_of bytes room ≡ Ok n → Fitting bytes room n
unfolding header_of bad_buffer
header_fitting bytes room n = go (bad_length bytes) (bad_version bytes) (bad_count bytes) (bad_buffer bytes room) refl refl refl
  where
    go : (a v k b : Bool) → bad_version bytes ≡ v → bad_count bytes ≡ k → bad_buffer bytes room ≡ b
        → header_if a refusal.Length (header_if v refusal.Version (header_if k refusal.Count (header_if b refusal.Buffer (Ok (count_of bytes))))) ≡ Ok n
        → Fitting bytes room n
    go true v k b p q t e = clash (cc)
    go false true k b p q t e = clash (cc)
    go false false true b p q t e = clash (cc)
    go false false false true p q t e = clash (cc)
    go false false false false p q t e =
        let same : count_of bytes ≡ n = cc in
        header_fits bytes room n false false (sym p) refl (sym q) refl (sym same) (let z : 16 * count_of bytes ≤ room = grind (arith, nat_tests, t) in omega (arith, z, same))
