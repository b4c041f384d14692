-- A card answers the same when its bytes are those of version 3: what it gains is the season that it has without them.
-- Assumes nothing.
use Rattle.std.specs.Prelude.{ℕ, ◌+◌, ◌<◌, ◌≤◌, ◌≡◌, true, false, List, [], ◌∷◌, ◌++◌, ◌⊎◌, length, get_or}
use Rattle.std.proofs.Common.{arith, ◌∙◌, ap, ⊎_elim, length-append, append-nil}
use Rattle.std.proofs.lemmas.List.{get_or_append_left, get_or-append-add}
use Rattle.std.proofs.lemmas.Bool.Decides.{nat_tests}
use Rattle.buffer.specs.Numbers.{byte_at, two_bytes}
use Rattle.fields.specs.Layout.{fields_of}
use Rattle.seasons.specs.Seasons.{whole_year, is_older, season_at, season_of, gained, grown, Given}
use Rattle.card.specs.Stock.{stock_of}
use Rattle.card.specs.Answers.{answer_of}

module _ (card more : List ℕ) (h : 24 ≤ length card) where
  byte_kept : (i : ℕ) → i < 24 → byte_at (card ++ more) i ≡ byte_at card i
  byte_kept i k = get_or_append_left card more 0 i (omega (arith, h, k))

  -- what stands behind the 24 bytes is no field of a card
  fields_kept : fields_of (card ++ more) ≡ fields_of card
  unfolding fields_of
  fields_kept =
      let b : (i : ℕ) → i < 24 → byte_at (card ++ more) i ≡ byte_at card i = byte_kept in
      cc (b 0 (omega arith), b 1 (omega arith), b 2 (omega arith), b 3 (omega arith), b 4 (omega arith), b 5 (omega arith), b 6 (omega arith), b 7 (omega arith), b 8 (omega arith), b 9 (omega arith), b 10 (omega arith), b 11 (omega arith), b 12 (omega arith), b 13 (omega arith), b 14 (omega arith), b 15 (omega arith), b 16 (omega arith), b 17 (omega arith), b 18 (omega arith), b 19 (omega arith), b 20 (omega arith), b 21 (omega arith), b 22 (omega arith), b 23 (omega arith))

module _ (card : List ℕ) where
  long : Given card → 24 ≤ length card
  long g = ⊎_elim (λ e. omega (arith, e)) (λ e. omega (arith, e)) g

  pub grown_fields : Given card → fields_of (grown card) ≡ fields_of card
  unfolding grown
  grown_fields g = fields_kept card (gained (is_older card)) (long g)

  -- an older card reads 1 and 366 behind its bytes
  module _ (e : length card ≡ 24) where
    four : List ℕ
    four = 0 ∷ 1 ∷ 1 ∷ 110 ∷ []

    gains : grown card ≡ card ++ four
    unfolding grown two_bytes four
    gains = let older : is_older card ≡ true = grind (arith, nat_tests, e) in ap (λ b. card ++ gained b) older

    behind : (i : ℕ) → byte_at (card ++ four) (24 + i) ≡ get_or four i 0
    behind i = let k : 24 + i ≡ length card + i = omega (arith, e) in ap (λ n. byte_at (card ++ four) n) k ∙ get_or-append-add card four i 0

    season_read : season_at (card ++ four) ≡ whole_year
    unfolding four
    season_read = cc (behind 0, behind 1, behind 2, behind 3)

    older_season : season_of (grown card) ≡ season_of card
    unfolding season_of four
    older_season =
        let longer : is_older (card ++ four) ≡ false = grind (arith, nat_tests, e, length-append card four) in
        let older : is_older card ≡ true = grind (arith, nat_tests, e) in
        ap season_of gains ∙ grind (arith, longer, older, season_read)

  -- a card of version 3 stays as it is
  pub newer : length card ≡ 28 → grown card ≡ card
  unfolding grown
  newer e = let longer : is_older card ≡ false = grind (arith, nat_tests, e) in ap (λ b. card ++ gained b) longer ∙ append-nil card

  -- either has the 28 bytes of version 3
  pub grown_long : Given card → length (grown card) ≡ 28
  unfolding four
  grown_long g = ⊎_elim (λ e. omega (arith, ap length (gains e), length-append card (four e), e)) (λ e. omega (arith, ap length (newer e), e)) g

  pub grown_season : Given card → season_of (grown card) ≡ season_of card
  grown_season g = ⊎_elim older_season (λ e. ap season_of (newer e)) g

  pub answer_grown : (last : ℕ) → Given card → answer_of (grown card) last ≡ answer_of card last
  unfolding answer_of stock_of
  answer_grown last g = cc (grown_fields g, grown_season g)
