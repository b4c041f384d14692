-- From a register's header on: what is kept of the cards behind a good one is what is kept of the register.
-- Assumes nothing.
use Rattle.std.specs.Prelude.{ℕ, ◌≡◌, List, Option, Result, Ok, Err}
use Rattle.std.proofs.Common.{◌∙◌, sym, ap}
use Rattle.refusals.specs.declared.Refusal.{Refusal}
use Rattle.refusals.specs.declared.SentBack.{SentBack}
use Rattle.refusals.specs.Numbers.{refused_at}
use Rattle.card.specs.declared.Answer.{Answer}
use Rattle.header.specs.declared.Stored.{Stored}
use Rattle.header.specs.Header.{enough, header_of, cards_in, stored_in}
use Rattle.cards.specs.Register.{cards_from, settled}
use Rattle.cards.proofs.Laws.{good_cards}
use Rattle.by_day.specs.Kept.{kept_result, kept_behind, kept_of}

module _ {K : Type 0} (after : K → Answer → K) (from : K) (bytes : List ℕ) (h : Result ℕ Refusal) (e : h ≡ header_of bytes enough) where
  -- a header that is refused
  pub header_sent : (r : Refusal) → h ≡ Err r → Err (refused_at r 0) ≡ kept_of after from bytes
  unfolding kept_of
  header_sent r q = ap (λ y. kept_behind after from y bytes) (sym q ∙ e)

  -- a good one
  pub cards_kept : (n : ℕ) → h ≡ Ok n → (cards : List (List ℕ)) → cards ≡ cards_in bytes → (s : Option Stored) → s ≡ stored_in bytes
      → (x : Result K (SentBack ℕ)) → x ≡ kept_result after from (settled s (cards_from 0 0 cards)) → x ≡ kept_of after from bytes
  unfolding kept_of
  cards_kept n q cards c s d x g =
      g ∙ (ap (kept_result after from) (good_cards bytes enough h e n q cards c s d) ∙ ap (λ y. kept_behind after from y bytes) (sym q ∙ e))
