-- A register that the writer takes: how many cards it has, and that their text is the register's.
-- Assumes nothing.
use Rattle.std.specs.Prelude.{ℕ, ◌≤◌, ◌≡◌, List, map, length, Result, Ok}
use Rattle.std.proofs.Common.{arith, ap}
use Rattle.refusals.specs.declared.SentBack.{SentBack}
use Rattle.farthest.specs.declared.Leaders.{Leaders}
use Rattle.fields.specs.Layout.{fields_of}
use Rattle.header.specs.Header.{count_of, cards_in, enough, Whole, Fitting}
use Rattle.header.proofs.Chunks.{cards_counted}
use Rattle.cards.specs.Register.{outcome_of}
use Rattle.cards.proofs.Laws.{accepted_fits}
use Rattle.comma.specs.Strict.{strict_lines}
use Rattle.write_lines.specs.Writing.{strict_text, fields_of_register, writable}

-- the text of a register's cards, as the code takes them, is the register's
pub text_is : (bytes : List ℕ) (cards : List (List ℕ)) → cards ≡ cards_in bytes → strict_lines (map fields_of cards) ≡ strict_text bytes
unfolding strict_text fields_of_register
text_is bytes cards c = ap (λ (xs : List (List ℕ)). strict_lines (map fields_of xs)) c

module _ (bytes : List ℕ) (x : Result Leaders (SentBack ℕ)) (l : Leaders) (e : x ≡ writable bytes) (q : x ≡ Ok l) where
  accepts : outcome_of bytes enough ≡ Ok l
  unfolding writable
  accepts = grind (arith, e, q)

  fits : Fitting bytes enough (count_of bytes)
  fits = accepted_fits bytes enough l accepts

  pub taken_whole : Whole bytes
  taken_whole = fits.whole

  pub taken_count : (cards : List (List ℕ)) → cards ≡ cards_in bytes → length cards ≤ 2_000
  taken_count cards c = omega (arith, fits.cards, cards_counted bytes, ap length c)
