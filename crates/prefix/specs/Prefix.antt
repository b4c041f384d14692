-- The leaders after the first k cards of a register, as a definition that computes: document 02, A4, "keep the two leaders as running
-- values on one walk". `Claim.antt` says the same in the paper's words.
-- Assumes nothing.
use Rattle.std.specs.Prelude.{ℕ, List, take, Result, Ok, Err}
use Rattle.farthest.specs.declared.Leaders.{Leaders}
use Rattle.refusals.specs.declared.Refusal.{Refusal}
use Rattle.refusals.specs.declared.SentBack.{SentBack}
use Rattle.refusals.specs.Numbers.{refused_at}
use Rattle.farthest.specs.Farthest.{leaders_of}
use Rattle.header.specs.Header.{enough, header_of}
use Rattle.cards.specs.Register.{Cards, answers, sent_back, cards_of}

-- "after the first k cards of an accepted register, for every k, they are 01's farthest of those k, or none"; beyond the count the first
-- k cards are all its cards. A register that is sent back gives its own refusal, whichever card it is for, and so it does for a wrong
-- stored distance.
abbrev pub result_after : ℕ → Cards → Result Leaders (SentBack ℕ)
result_after k (answers xs) = Ok (leaders_of (take k xs))
result_after k (sent_back r place) = Err (refused_at r place)

abbrev pub result_behind : ℕ → Result ℕ Refusal → List ℕ → Result Leaders (SentBack ℕ)
result_behind k (Ok count) bytes = result_after k (cards_of bytes)
result_behind k (Err r) bytes = Err (refused_at r 0)

-- what the call answers for these bytes; no answer buffer is lent, so that number 4 never comes
unfoldable pub prefix_of : List ℕ → ℕ → Result Leaders (SentBack ℕ)
prefix_of bytes k = result_behind k (header_of bytes enough) bytes
