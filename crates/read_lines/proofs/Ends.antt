-- The header and the cards behind it are the register, and the bytes behind that stay.
-- Assumes nothing.
use Rattle.std.specs.Prelude.{ℕ, ◌+◌, ◌*◌, ◌≤◌, ◌≡◌, refl, List, ◌++◌, length, drop}
use Rattle.std.proofs.Common.{arith, ap, ◌∙◌}
use Rattle.std.proofs.lemmas.List.Edits.{sets}
use Rattle.buffer.proofs.Laws.{sets_behind, written_first}
use Rattle.fields.specs.declared.Fields.{Fields}
use Rattle.comma.specs.Text.{bytes_of, header_bytes, register_of}
use Rattle.comma.proofs.CardLaws.{header_length, register_length}

pub register_written : (xs : List Fields) (n : ℕ) (out : List ℕ) → n ≡ length xs → 7 + 24 * n ≤ length out
    → sets (sets out 0 (header_bytes n)) 7 (bytes_of xs) ≡ register_of xs ++ drop (7 + 24 * length xs) out
unfolding register_of
register_written xs n out e enough =
    let header = sets out 0 (header_bytes n) in
    sets_behind 7 (header_bytes n) (bytes_of xs) out header (sets header 7 (bytes_of xs)) 0 (header_length n) refl refl
    ∙ ap (λ (k : ℕ). sets out 0 (header_bytes k ++ bytes_of xs)) e
    ∙ written_first (register_of xs) out (omega (arith, register_length xs))
    ∙ ap (λ (k : ℕ). register_of xs ++ drop k out) (register_length xs)
