-- The cards behind a number come to the same behind what an edit of that number brings: the numbers in front of them stay lower.
-- Assumes nothing.
use Rattle.std.specs.Prelude.{ℕ, ◌-◌, ◌≤◌, ◌≡◌, refl, List, [], ◌∷◌, Ok}
use Rattle.std.proofs.Common.{arith, zero-le, ◌∙◌, sym, ap, subst}
use Rattle.search.specs.Laws.{clash}
use Rattle.farthest.specs.declared.Leaders.{Leaders}
use Rattle.running.specs.declared.Running.{Running}
use Rattle.running.specs.Running.{before_cards}
use Rattle.cards.specs.Register.{Cards, answers, sent_back, cards_from, result_of}
use Rattle.edits.specs.Edits.{below, above}
use Rattle.edits.specs.Around.{Brings}
use Rattle.edits.proofs.Rising.{Passes, passes, checks}
use Rattle.edits.proofs.Brought.{above_any, last_from, last_below, last_after}
use Rattle.edit_walk.specs.Parts.{afresh, part_of, leads_behind}
use Rattle.edit_walk.proofs.Parts.{through}

-- the last number behind a part is that of its last card
part_last : (s : Running) (cards : List (List ℕ)) (t : Running) → part_of s cards ≡ Ok t → t.last ≡ last_from s.last cards
part_last s cards t q =
    let p = through s cards t q in
    ap (λ (u : Running). u.last) (sym p.running) ∙ last_after (afresh s) (passes s.place s.last cards p.list p.answered)

-- and that of a card of the number itself is not above it
last_brought : (n last : ℕ) → last ≤ n → (brought : List (List ℕ)) → Brings n brought → last_from last brought ≤ n
unfolding last_from
last_brought n last h [] b = h
last_brought n last h (card ∷ []) b = omega (arith, b)
last_brought n last h (card ∷ other ∷ rest) b = absurd b

module _ (n : ℕ) (cards front brought behind : List (List ℕ)) (f : front ≡ below n cards) (g : behind ≡ above n cards) (b : Brings n brought) (t : Running) (q : part_of before_cards front ≡ Ok t) where
  last_front : t.last ≤ n
  last_front =
      let z = subst (λ cs. last_from 0 cs ≤ n - 1) (sym f) (last_below n 0 cards zero-le) in
      omega (arith, part_last before_cards front t q, z)

  pub behind_any : (with : Running) (l : Leaders) → leads_behind with behind ≡ Ok l → (u : Running) → part_of t brought ≡ Ok u → leads_behind u behind ≡ Ok l
  behind_any with l e u r = go (cards_from with.place with.last behind) refl e
    where
      last_is : u.last ≤ n
      last_is = omega (arith, part_last t brought u r, last_brought n t.last last_front brought b)

      go : (c : Cards) → cards_from with.place with.last behind ≡ c → result_of c ≡ Ok l → leads_behind u behind ≡ Ok l
      go (answers xs) w k =
          let p = passes with.place with.last behind xs w in
          let z = above_any n cards (subst (λ cs. Passes with.last cs xs) g p) last_is in
          ap result_of (checks u.place (subst (λ cs. Passes u.last cs xs) (sym g) z)) ∙ k
      go (sent_back r place) w k = clash (cc)
