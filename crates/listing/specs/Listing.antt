-- The listing of a register, as text: what the listing program prints for the bytes that it is given.
-- Assumes nothing.
use Rattle.std.specs.Prelude.{ℕ, ◌+◌, ◌*◌, ◌≤◌, List, [], ◌∷◌, ◌++◌, Bool, true, false, ltb, length, drop, Option, Some, None, Result, Ok, Err}
use Rattle.refusals.specs.declared.Refusal.{Refusal}
use Rattle.refusals.specs.Numbers.{number_of}
use Rattle.card.specs.declared.Answer.{Answer}
use Rattle.farthest.specs.declared.Leaders.{Leaders}
use Rattle.farthest.specs.Farthest.{leaders_of}
use Rattle.header.specs.Header.{third_layout, size_of, enough, header_of}
use Rattle.cards.specs.Register.{Cards, answers, sent_back, cards_of}
use Rattle.lines.specs.Lines.{card_line}
use Rattle.closing.specs.Closing.{leader_line, refused_line, unless_long}

-- "the longest register that can be accepted": 2,000 cards; document 02, A9: "the listing's limit follows the longest register", and
-- that is one of version 3 (56,011 bytes)
abbrev pub longest : ℕ
longest = size_of third_layout 2_000

-- "prints card number, route, table, pounds per minute (three decimals) and miles (two decimals)", a line for each card
unfoldable pub card_lines : List Answer → List ℕ
card_lines [] = []
card_lines (a ∷ rest) = card_line a ++ card_lines rest

-- "then T and F lines with card and miles or `none`": T is 84, F is 70
unfoldable pub leader_lines : Leaders → List ℕ
leader_lines l = leader_line 84 l.toxic ++ leader_line 70 l.flammable

-- all cards and both leaders; "a refusal prints `refused N at K`"
abbrev pub listing_of : Cards → List ℕ
listing_of (answers xs) = card_lines xs ++ leader_lines (leaders_of xs)
listing_of (sent_back r place) = refused_line (number_of r) place

-- "(0 for 1 to 4, and wherever no card is meant)"
abbrev pub listed_after : Result ℕ Refusal → List ℕ → List ℕ
listed_after (Ok count) bytes = listing_of (cards_of bytes)
listed_after (Err r) bytes = refused_line (number_of r) 0

-- "The listing program reads a register on standard input and prints" this; "An input longer than the longest register that can be
-- accepted .. prints `too long` and nothing else."
unfoldable pub text_of : List ℕ → List ℕ
text_of bytes = unless_long (ltb longest (length bytes)) (listed_after (header_of bytes enough) bytes)

-- room for every listing: 128 bytes a card, and the leaders' two lines
abbrev pub listing_room : ℕ
listing_room = 128 * 2_000 + 256

abbrev pub if_room : Bool → Option ℕ → Option ℕ
if_room true r = None
if_room false r = r

-- what the call answers for a register and a lent buffer of this length
unfoldable pub listed_of : List ℕ → ℕ → Option ℕ
listed_of bytes room = if_room (ltb room listing_room) (Some (length (text_of bytes)))

abbrev pub kept_if : Bool → List ℕ → List ℕ → List ℕ
kept_if true out after = out
kept_if false out after = after

-- what it leaves in that buffer: the text and, behind it, what was there
unfoldable pub listed_into : List ℕ → List ℕ → List ℕ
listed_into bytes out = kept_if (ltb (length out) listing_room) out (text_of bytes ++ drop (length (text_of bytes)) out)

-- the text lies within the buffer
abbrev pub Within : ℕ → Option ℕ → Type 0
Within room (Some n) = n ≤ room
Within room None = Unit {0}
