-- Document 02, A9: "For every list of edits on an accepted register, the two distances, once stored, are those worked out afresh, refused
-- edits included, and cards not named keep their bytes." And A10: "The header keeps the year's values"; "accepted edits bring 28-byte cards
-- and make any register version 3, .. older cards gaining 1 and 366 behind their bytes." What these say of the bytes of a buffer and of
-- the results of the calls. The theorem is `edits_kept` of `proofs/History.antt`; two sentences on a single edit are `refused_kept` and
-- `length_told` there.
-- Assumes nothing.
use Rattle.std.specs.Prelude.{ℕ, ◌+◌, ◌-◌, ◌*◌, ◌≡◌, true, List, [], ◌∷◌, length, drop, replicate, ◌⊎◌, Result, Ok, Err, Contains}
use Rattle.refusals.specs.declared.SentBack.{SentBack}
use Rattle.seasons.specs.Seasons.{grown}
use Rattle.card.specs.declared.Class.TheVariants as class
use Rattle.farthest.specs.declared.Leaders.{Leaders}
use Rattle.header.specs.Header.{version_of, count_of, stored_at, layout_in, cards_in, enough}
use Rattle.cards.specs.Register.{outcome_of}
use Rattle.conditions.specs.Conditions.{farthest_among}
use Rattle.edits.specs.Edits.{Edit, add, replace, withdraw, card_number, named, edited, edit_version, held, edit_of, buffer_after}

-- ---- lists of edits

-- a card that is handed in has 28 bytes: "accepted edits bring 28-byte cards"
abbrev pub WholeCard : Edit → Type 0
WholeCard (add card) = length card ≡ 28
WholeCard (replace card) = length card ≡ 28
WholeCard (withdraw n) = Unit {0}

abbrev pub WholeCards : List Edit → Type 0
WholeCards [] = Unit {0}
WholeCards (e ∷ rest) = WholeCard e × WholeCards rest

-- the buffer after all calls: each finds what the one before it left
unfoldable pub after_all : List Edit → List ℕ → List ℕ
after_all [] buffer = buffer
after_all (e ∷ rest) buffer = after_all rest (buffer_after e buffer)

-- the edits that were accepted, by the results of the calls; a refused one falls out
abbrev pub join_if : Result ℕ (SentBack ℕ) → Edit → List Edit → List Edit
join_if (Ok n) e rest = e ∷ rest
join_if (Err sent) e rest = rest

unfoldable pub accepted : List Edit → List ℕ → List Edit
accepted [] buffer = []
accepted (e ∷ rest) buffer = join_if (edit_of e buffer) e (accepted rest (buffer_after e buffer))

-- edits applied to a list of cards, one after the other
unfoldable pub applied : List Edit → List (List ℕ) → List (List ℕ)
applied [] cards = cards
applied (e ∷ rest) cards = applied rest (edited e cards)

-- no edit of a list names this number
abbrev pub NotNamed : ℕ → List Edit → Type 0
NotNamed n [] = Unit {0}
NotNamed n (e ∷ rest) = (n ≡ named e → ⊥) × NotNamed n rest

-- the bytes of a card behind some accepted edits, none of which names it: those that it had, and behind them, once an edit was accepted,
-- the days that an older one gains
abbrev pub kept : List Edit → List ℕ → List ℕ
kept [] card = card
kept (e ∷ rest) card = grown card

-- ---- the claim

-- the register that a buffer starts with is accepted
abbrev pub StartsAccepted : List ℕ → Type 0
StartsAccepted buffer = (l : Leaders) × (outcome_of (held buffer) enough ≡ Ok l)

-- "the two distances .. are those worked out afresh": of each class the largest that demand 2 gives a card of it, zero for none. "The
-- header keeps the year's values": whatever the days on which its card is in force
pub record Afresh (register : List ℕ) : Type 0 where
  pub toxic : (stored_at register).toxic ≡ farthest_among class.Toxic register (count_of register)
  pub flammable : (stored_at register).flammable ≡ farthest_among class.Flammable register (count_of register)

-- what an accepted edit leaves: A10, "any register version 3, of 11 + 28 × count bytes", whatever it was before, and the buffer "holds
-- zeros behind it"
pub record Renewed (buffer : List ℕ) : Type 0 where
  pub version : version_of (held buffer) ≡ edit_version
  pub long : length (held buffer) ≡ 11 + 28 * count_of (held buffer)
  pub zeros : drop (length (held buffer)) buffer ≡ replicate (length buffer - length (held buffer)) 0

-- What a list of edits leaves in a buffer: from what it held at first, what it holds at last, and the edits that were accepted.
pub record Upheld (first last : List ℕ) (done : List Edit) : Type 0 where
  -- the buffer still starts with an accepted register
  pub still : StartsAccepted last
  -- its two distances, "once stored", are those worked out afresh
  pub distances : (layout_in (held last)).stores ≡ true → Afresh (held last)
  -- they are stored once an edit was accepted; where none was, no byte has changed
  pub stored : ((done ≡ []) × (last ≡ first)) ⊎ Renewed last
  -- the cards are those of the first register with the accepted edits applied
  pub cards : cards_in (held last) ≡ applied done (cards_in (held first))
  -- "cards not named keep their bytes", "older cards gaining 1 and 366 behind their bytes": those of the first register are there
  pub stay : (card : List ℕ) → NotNamed (card_number card) done
      → Contains (cards_in (held first)) card → Contains (cards_in (held last)) (kept done card)
  -- and no others have come
  pub came : (card : List ℕ) → NotNamed (card_number card) done
      → Contains (cards_in (held last)) card → (c : List ℕ) × Contains (cards_in (held first)) c × (kept done c ≡ card)
  -- the buffer is as long as it was
  pub long : length last ≡ length first

-- The claim: for every buffer that starts with an accepted register, of any version, and every list of edits, accepted and refused
-- ones mixed.
abbrev pub EditsKept : Type 0
EditsKept =
    (first : List ℕ) (edits : List Edit) → StartsAccepted first → WholeCards edits
    → Upheld first (after_all edits first) (accepted edits first)

-- ---- one edit, in plain words

-- "A refusal .. changes no byte of any lent buffer", bytes behind the register included: of any buffer, whatever it starts with
abbrev pub RefusedKept : Type 0
RefusedKept = (e : Edit) (buffer : List ℕ) (sent : SentBack ℕ) → edit_of e buffer ≡ Err sent → buffer_after e buffer ≡ buffer

-- an accepted edit answers how long the register now is
abbrev pub LengthTold : Type 0
LengthTold =
    (e : Edit) (buffer : List ℕ) (n : ℕ) → StartsAccepted buffer → WholeCard e
    → edit_of e buffer ≡ Ok n → n ≡ length (held (buffer_after e buffer))
