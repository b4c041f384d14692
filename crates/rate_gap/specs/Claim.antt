-- Request A8 of document 02, in its words: how far a rate may be off. The theorem is `rates_near` of `Gap`.
-- Assumes nothing.
use Rattle.std.specs.Prelude.{ℕ, ◌+◌, ◌*◌, ◌<◌, ◌≡◌, Bool, true, false, List}
use Rattle.buffer.specs.Numbers.{byte_at, eight_at}
use Rattle.farthest.specs.declared.Leaders.{Leaders}
use Rattle.header.specs.Header.{answer_size, count_of}
use Rattle.cards.specs.Register.{buffer_of}
use Rattle.ordering.specs.Claim.{card_at, Accepts}
use Rattle.rate_gap.specs.Fractions.{Fraction, ◌over◌, ◌times◌, ◌plus◌, Defined, ◌at_most◌, ◌below◌, ◌equals◌}
use Rattle.rate_gap.specs.Exact.{Chain, gas, pool, blast, none, chain_of, route_in, exact_in}

-- "Sixteen bytes a card: card number 4, route 1, table 1, rate 8, distance 2.": the route and the rate that the call leaves in the answer
-- buffer for the card at a place. "Rates are in thousandths of a pound per minute".
abbrev pub reported_route : List ℕ → List ℕ → ℕ → ℕ
reported_route register buffer i = byte_at (buffer_of register buffer) (answer_size * i + 4)

abbrev pub reported_rate : List ℕ → List ℕ → ℕ → Fraction
reported_rate register buffer i = eight_at (buffer_of register buffer) (answer_size * i + 6) over 1_000

-- "0.014 × LF × TCF (a tenth of that with the shed factor) plus 0.001 pounds per minute": a tenth of the first term, and never of the 0.001
abbrev pub slack : ℕ → ℕ → Bool → Fraction
slack lf tcf false = 14 over 1_000 times lf over 1_000_000 times tcf over 100 plus 1 over 1_000
slack lf tcf true = 14 over 1_000 times lf over 1_000_000 times tcf over 100 times 1 over 10 plus 1 over 1_000

-- that of a pool; no other rate is off
abbrev pub slack_in : Chain → Fraction
slack_in (gas pounds inside) = 0 over 1
slack_in (pool lf tcf area shed) = slack lf tcf shed
slack_in blast = 0 over 1
slack_in none = 0 over 1

-- what is said of a card with this chain, where this route and this rate are reported
pub record Near (chain : Chain) (route : ℕ) (reported : Fraction) : Type 0 where
  -- the chain is that of the reported route, and no denominator is zero
  pub same_route : route ≡ route_in chain
  pub exact_defined : Defined (exact_in chain)
  pub slack_defined : Defined (slack_in chain)
  -- "The reported rate is at least the exact value."
  pub at_least : exact_in chain at_most reported
  -- "On routes 1 and 3 it equals it."
  pub on_route_1 : route ≡ 1 → reported equals exact_in chain
  pub on_route_3 : route ≡ 3 → reported equals exact_in chain
  -- "On route 2 it is below the exact value plus 0.014 × LF × TCF (a tenth of that with the shed factor) plus 0.001 pounds per minute."
  pub on_route_2 : route ≡ 2 → reported below exact_in chain plus slack_in chain

-- "the gap stated for every accepted card": each card of each accepted register, whatever the answer buffer
abbrev pub RatesNear : Type 0
RatesNear =
    (register buffer : List ℕ) (l : Leaders) → Accepts register buffer l
    → (i : ℕ) → i < count_of register
    → Near (chain_of (card_at register i)) (reported_route register buffer i) (reported_rate register buffer i)
