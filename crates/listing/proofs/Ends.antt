-- One law for each return: what was written is what is to be listed.
-- Assumes nothing.
use Rattle.std.specs.Prelude.{Some, None, Result, Ok, Err}
use Rattle.refusals.specs.declared.SentBack.{SentBack}
use Prim.Native.Nat.{ℕ, ◌+◌, ◌*◌, ◌≤◌, ◌<◌}
use native.Mathlib.Omega.{arith}
use mathlib.Core.Path.{◌≡◌, ◌∙◌, ap, sym, subst}
use mathlib.Core.List.{List, ◌++◌, append_assoc}
use lib.ListN.{length, take, drop, take-append-drop}
use lib.Seq.{sets, length-take-le, drop-append-le}
use borrow.Author.Tests.{lt-ltb, le-ltb}
use Rattle.refusals.specs.Numbers.{number_of}
use Rattle.farthest.specs.declared.Leaders.{Leaders}
use Rattle.header.specs.Header.{enough, cards_in, header_of}
use Rattle.running.specs.declared.Running.{Running}
use Rattle.running.specs.Running.{before_cards}
use Rattle.lines.specs.Lines.{card_line}
use Rattle.walk.specs.Walk.{walk_from, text_from}
use Rattle.walk.specs.Walk.{Within as Reached}
use Rattle.cards.specs.Register.{outcome_of}
use Rattle.cards.proofs.Walked.{passed}
use Rattle.buffer.specs.declared.Writer.{Writer}
use Rattle.buffer.specs.Wrote.{Wrote}
use Rattle.buffer.specs.Puts.{Puts}
use Rattle.buffer.proofs.Laws.{joined, then, written_first}
use Rattle.closing.specs.Closing.{leader_line, refused_line, too_long, unless_long}
use Rattle.listing.specs.Listing.{longest, leader_lines, listed_after, text_of, listing_room, if_room, listed_of, kept_if, listed_into}
use Rattle.listing.specs.Laws.{IsAccepted}
use Rattle.listing.proofs.Laws.{accepted_text, accepted_walk, sent_back_text}

pub leaders_line : (l : Leaders) {b₀ b₁ b₂ : Writer} → Puts b₀ b₁ (leader_line 84 l.toxic) → Puts b₁ b₂ (leader_line 70 l.flammable)
    → Puts b₀ b₂ (leader_lines l)
unfolding leader_lines
leaders_line l toxic flammable = then toxic flammable

module _ {out after : List ℕ} {end : ℕ} (bytes : List ℕ) (accepted : IsAccepted (outcome_of bytes enough)) (cards : List (List ℕ)) (c : cards ≡ cards_in bytes) (x : Result (Running × ℕ) (SentBack ℕ)) (w : x ≡ walk_from card_line before_cards 0 cards) where
  -- the cards' lines, and the leaders' behind them
  pub accepted_lines : {lined : List ℕ} (t : Running) (size : ℕ) → x ≡ Ok (t, size)
      → lined ≡ sets out 0 (text_from card_line before_cards cards)
      → Wrote lined after size end (leader_lines t.leaders) → Wrote out after 0 end (listed_after (header_of bytes enough) bytes)
  accepted_lines t size q lines leaders =
      let p = passed card_line before_cards cards t size (sym w ∙ q) in
      subst (Wrote out after 0 end) (accepted_text bytes accepted cards c t size p)
      (joined {s = text_from card_line before_cards cards} (record { place = omega (arith, p.sized, ap length p.text); bytes = lines }) leaders)

  pub never_stopped : (sent : SentBack ℕ) → x ≡ Err sent → Wrote out after 0 end (listed_after (header_of bytes enough) bytes)
  never_stopped sent q = accepted_walk bytes accepted cards c sent (sym w ∙ q)

-- 128 bytes a card: 2,000 cards have room, and the leaders behind them
pub lines_room : (n : ℕ) (out : List ℕ) → n ≤ 2_000 → length out ≡ listing_room → 128 * n ≤ length out
lines_room n out few h = omega arith

pub behind_cards : (x : Result (Running × ℕ) (SentBack ℕ)) (t : Running) (size n : ℕ) → x ≡ Ok (t, size) → Reached (128 * n) x → n ≤ 2_000 → size ≤ 128 * 2_000
behind_cards x t size n q r few = let z : size ≤ 128 * n = subst (Reached (128 * n)) q r in omega arith

pub leaders_within : (x : Result (Running × ℕ) (SentBack ℕ)) (t : Running) (size n end : ℕ) → x ≡ Ok (t, size) → Reached (128 * n) x → n ≤ 2_000 → end ≤ size + 128 → end ≤ listing_room
leaders_within x t size n end q r few e = omega (arith, behind_cards x t size n q r few, e)

pub accepted_is : (bytes : List ℕ) (x : Result Leaders (SentBack ℕ)) {l : Leaders} → x ≡ outcome_of bytes enough → x ≡ Ok l → IsAccepted (outcome_of bytes enough)
accepted_is bytes x e q = subst IsAccepted (sym q ∙ e) tt

module _ {before after : List ℕ} {at end : ℕ} (bytes : List ℕ) where
  pub sent_back_line : (x : Result Leaders (SentBack ℕ)) (sent : SentBack ℕ) (number : ℕ) → x ≡ outcome_of bytes enough → x ≡ Err sent → number ≡ number_of sent.refusal → Wrote before after at end (refused_line number sent.place) → Wrote before after at end (listed_after (header_of bytes enough) bytes)
  sent_back_line x sent number e q g line =
      subst (Wrote before after at end) (ap (λ n. refused_line n sent.place) g ∙ sent_back_text bytes (sym e ∙ q)) line

module _ (bytes out : List ℕ) where
  pub no_room : length out < listing_room → None ≡ listed_of bytes (length out)
  unfolding listed_of
  no_room h = ap (λ t. if_room t (Some (length (text_of bytes)))) (sym (lt-ltb (length out) listing_room h))

  pub kept : length out < listing_room → out ≡ listed_into bytes out
  unfolding listed_into
  kept h = ap (λ t. kept_if t out (text_of bytes ++ drop (length (text_of bytes)) out)) (sym (lt-ltb (length out) listing_room h))

  long : longest < length bytes → too_long ≡ text_of bytes
  unfolding text_of
  long l = ap (λ t. unless_long t (listed_after (header_of bytes enough) bytes)) (sym (lt-ltb longest (length bytes) l))

  short : length bytes ≤ longest → listed_after (header_of bytes enough) bytes ≡ text_of bytes
  unfolding text_of
  short l = ap (λ t. unless_long t (listed_after (header_of bytes enough) bytes)) (sym (le-ltb longest (length bytes) l))

  -- a text written into the front of a buffer, with what stands behind that, is written into the whole
  module _ (h : listing_room ≤ length out) {front after : List ℕ} (f : front ≡ take listing_room out) (n : ℕ) where
    whole : {text : List ℕ} → Wrote front after 0 n text → n ≤ listing_room → after ++ drop listing_room out ≡ text ++ drop (length text) out
    whole {text} w r =
        let there : length front ≡ listing_room = ap length f ∙ length-take-le listing_room out h in
        let enough : length text ≤ length front = omega (arith, w.place, there) in
        let short : length text ≤ length (take listing_room out) = omega (arith, enough, ap length f) in
        ap (λ (a : List ℕ). a ++ drop listing_room out) (w.bytes ∙ (written_first text front enough ∙ ap (λ (b : List ℕ). text ++ drop (length text) b) f))
        ∙ (append_assoc text (drop (length text) (take listing_room out)) (drop listing_room out)
        ∙ ap (λ (b : List ℕ). text ++ b)
        (sym (drop-append-le (length text) (take listing_room out) (drop listing_room out) short) ∙ ap (drop (length text)) (take-append-drop listing_room out)))

    -- a text that fits, written from the start
    text_listed : Wrote front after 0 n (text_of bytes) → Some n ≡ listed_of bytes (length out)
    unfolding listed_of
    text_listed w =
        let z : n ≡ length (text_of bytes) = omega (arith, w.place) in
        ap Some z ∙ ap (λ t. if_room t (Some (length (text_of bytes)))) (sym (le-ltb (length out) listing_room h))

    text_into : Wrote front after 0 n (text_of bytes) → n ≤ listing_room → after ++ drop listing_room out ≡ listed_into bytes out
    unfolding listed_into
    text_into w r =
        whole w r
        ∙ ap (λ t. kept_if t out (text_of bytes ++ drop (length (text_of bytes)) out)) (sym (le-ltb (length out) listing_room h))

    pub long_listed : longest < length bytes → Wrote front after 0 n too_long → Some n ≡ listed_of bytes (length out)
    long_listed l w = text_listed (subst (Wrote front after 0 n) (long l) w)

    pub long_into : longest < length bytes → Wrote front after 0 n too_long → n ≤ 64 → after ++ drop listing_room out ≡ listed_into bytes out
    long_into l w r = text_into (subst (Wrote front after 0 n) (long l) w) (omega arith)

    pub short_listed : length bytes ≤ longest → Wrote front after 0 n (listed_after (header_of bytes enough) bytes) → Some n ≡ listed_of bytes (length out)
    short_listed l w = text_listed (subst (Wrote front after 0 n) (short l) w)

    pub short_into : length bytes ≤ longest → Wrote front after 0 n (listed_after (header_of bytes enough) bytes) → n ≤ listing_room → after ++ drop listing_room out ≡ listed_into bytes out
    short_into l w r = text_into (subst (Wrote front after 0 n) (short l) w) r
