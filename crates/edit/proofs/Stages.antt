-- One law for each return of the stages of an edit.
-- Assumes nothing.
use Rattle.std.specs.Prelude.{ℕ, ◌+◌, ◌-◌, ◌≤◌, ◌≡◌, refl, Bool, true, false, List, ◌++◌, map, length, take, drop, ltb, replicate, Option, Result, Ok, Err}
use Rattle.std.specs.List.{concat}
use Rattle.std.proofs.Common.{arith, ◌∙◌, sym, ap, ap₂, subst, length-append, take_at}
use Rattle.std.proofs.lemmas.List.{map-append}
use Rattle.std.proofs.lemmas.List.Folds.{concat-append}
use Rattle.std.proofs.lemmas.List.Edits.{sets}
use Rattle.std.proofs.lemmas.Bool.Decides.{nat_tests}
use Rattle.search.specs.Laws.{clash}
use Rattle.refusals.specs.declared.Refusal.{Refusal}
use Rattle.refusals.specs.declared.Refusal.TheVariants as refusal
use Rattle.refusals.specs.declared.SentBack.{SentBack}
use Rattle.refusals.specs.Numbers.{refused_at}
use Rattle.farthest.specs.declared.Leaders.{Leaders}
use Rattle.farthest.specs.Farthest.{leaders_of}
use Rattle.buffer.specs.declared.Writer.{Writer}
use Rattle.buffer.specs.Puts.{Puts}
use Rattle.buffer.proofs.Laws.{then, written_first}
use Rattle.header.specs.declared.Stored.{Stored}
use Rattle.header.specs.Header.{count_of, cards_in, stored_in, header_of, enough, Whole, Fitting, size_of}
use Rattle.seasons.specs.Seasons.{grown, Given}
use Rattle.header.proofs.Chunks.{cards_counted}
use Rattle.header.proofs.Ends.{header_fitting}
use Rattle.running.specs.declared.Running.{Running}
use Rattle.cards.specs.Distances.{distances_of}
use Rattle.cards.specs.Register.{Cards, answers, sent_back, cards_from, result_of, settled, outcome_of}
use Rattle.cards.proofs.Laws.{header_refused, header_good, good_header, good_count}
use Rattle.edits.specs.Edits.{below, above, is_there, with_number, bad_presence, bad_capacity, header_bytes, register_of, laid, register_with, held, unless_bad, changed, after_old, register_by, length_of, left_by, edit_layout}
use Rattle.edits.specs.Around.{AllPass, AllGiven, Brings}
use Rattle.edits.proofs.Cut.{there_is}
use Rattle.edits.proofs.Lists.{each_front, each_behind, cards_given}
use Rattle.edit_walk.specs.Parts.{merged, part_of, Accepted, Walked}
use Rattle.edit_walk.proofs.Parts.{middle_place, middle_stops, all_on}
use Rattle.edit_walk.proofs.Behind.{behind_any}
use Rattle.edit.specs.Laid.{Ready, change_of, way_of, Known, LaidIn}

-- ---- what a stage says of a register that is laid

module _ (own : List ℕ) (most size : ℕ) (x : Result (List ℕ) (SentBack ℕ)) where
  pub fits_most : Ok size ≡ length_of x → LaidIn own most x → size ≤ most
  fits_most = go x
    where
      go : (y : Result (List ℕ) (SentBack ℕ)) → Ok size ≡ length_of y → LaidIn own most y → size ≤ most
      go (Ok register) e l = let z : size ≡ length register = cc in omega (arith, z, l.2)
      go (Err sent) e l = clash (cc)

  pub fits_own : Ok size ≡ length_of x → LaidIn own most x → size ≤ length own
  fits_own = go x
    where
      go : (y : Result (List ℕ) (SentBack ℕ)) → Ok size ≡ length_of y → LaidIn own most y → size ≤ length own
      go (Ok register) e l = let z : size ≡ length register = cc in omega (arith, z, l.1)
      go (Err sent) e l = clash (cc)

  -- it takes the place of the old one, and zeros lie behind it;
  pub left_laid : (buffer : List ℕ) → Ok size ≡ length_of x → LaidIn own most x → take size own ++ replicate (length buffer - size) 0 ≡ left_by x buffer
  left_laid buffer = go x
    where
      go : (y : Result (List ℕ) (SentBack ℕ)) → Ok size ≡ length_of y → LaidIn own most y → take size own ++ replicate (length buffer - size) 0 ≡ left_by y buffer
      go (Ok register) e l =
          let z : size ≡ length register = cc in
          ap (λ n. take n own ++ replicate (length buffer - n) 0) z ∙ ap (λ r. r ++ replicate (length buffer - length register) 0) l.0
      go (Err sent) e l = clash (cc)

-- nothing is laid where something is sent back
pub sent_length : (x : Result (List ℕ) (SentBack ℕ)) (b : SentBack ℕ) → x ≡ Err b → Err b ≡ length_of x
sent_length x b e = sym (ap length_of e)

pub sent_laid : (x : Result (List ℕ) (SentBack ℕ)) (b : SentBack ℕ) → x ≡ Err b → (own : List ℕ) (most : ℕ) → LaidIn own most x
sent_laid x b e own most = subst (LaidIn own most) (sym e) tt

-- a refused edit changes nothing
pub left_refused : (x : Result (List ℕ) (SentBack ℕ)) (sent : SentBack ℕ) (buffer : List ℕ) → Err sent ≡ length_of x → buffer ≡ left_by x buffer
left_refused (Ok register) sent buffer e = clash (cc)
left_refused (Err other) sent buffer e = refl

-- ---- the register of cards

module _ (cards : List (List ℕ)) where
  sent_with : (b : SentBack ℕ) → result_of (cards_from 0 0 cards) ≡ Err b → register_with cards ≡ Err b
  unfolding register_with
  sent_with b q = go (cards_from 0 0 cards) q
    where
      go : (c : Cards) → result_of c ≡ Err b → laid cards c ≡ Err b
      go (answers xs) p = clash (cc)
      go (sent_back r place) p = let z : refused_at r place ≡ b = cc in ap Err z

  laid_with : (l : Leaders) → result_of (cards_from 0 0 cards) ≡ Ok l → register_with cards ≡ Ok (register_of cards l)
  unfolding register_with
  laid_with l q = go (cards_from 0 0 cards) q
    where
      go : (c : Cards) → result_of c ≡ Ok l → laid cards c ≡ Ok (register_of cards l)
      go (answers xs) p = let z : leaders_of xs ≡ l = cc in ap (λ m. Ok (register_of cards m)) z
      go (sent_back r place) p = clash (cc)

-- what is brought is walked over behind the cards in front
module _ (front brought behind : List (List ℕ)) (t : Running) (l : Leaders) (k : Known front brought behind t l) where
  pub brought_place : t.place ≡ length front
  brought_place = middle_place front brought behind t k.0

  module _ (x : Result Running (SentBack ℕ)) (e : x ≡ part_of t brought) where
    pub brought_sent : (b : SentBack ℕ) → x ≡ Err b → register_with (front ++ (brought ++ behind)) ≡ Err b
    brought_sent b q = sent_with (front ++ (brought ++ behind)) b (middle_stops front brought behind t k.0 b (sym e ∙ q))

    pub brought_on : (u : Running) → x ≡ Ok u → (m n : Leaders) → m ≡ merged u.leaders l → n ≡ merged t.leaders m → result_of (cards_from 0 0 (front ++ (brought ++ behind))) ≡ Ok n
    brought_on u q m n i j =
        all_on front brought behind t k.0 u (sym e ∙ q) l (k.1 u (sym e ∙ q))
        ∙ ap Ok (sym (j ∙ ap (merged t.leaders) i))

-- cards as they are laid, each as version 3 has it
abbrev laid_text : List (List ℕ) → List ℕ
laid_text cards = concat (map grown cards)

laid_both : (xs ys : List (List ℕ)) → laid_text xs ++ laid_text ys ≡ laid_text (xs ++ ys)
laid_both xs ys = sym (ap concat (map-append grown xs ys) ∙ concat-append (map grown xs) (map grown ys))

-- the header and three lists of cards, one behind the other
module _ (front brought behind : List (List ℕ)) (l : Leaders) (q : result_of (cards_from 0 0 (front ++ (brought ++ behind))) ≡ Ok l) (d : Stored) (k : d ≡ distances_of l) {w₀ w₁ w₂ w₃ w₄ : Writer} (start : w₀.at ≡ 0)
    (count : ℕ) (n : count ≡ length front + (length brought + length behind)) (header : Puts w₀ w₁ (header_bytes count d)) (first : Puts w₁ w₂ (laid_text front)) (second : Puts w₂ w₃ (laid_text brought)) (third : Puts w₃ w₄ (laid_text behind)) where
  abbrev all : List (List ℕ)
  all = front ++ (brought ++ behind)

  cards_text : laid_text front ++ (laid_text brought ++ laid_text behind) ≡ laid_text all
  cards_text = ap (λ text. laid_text front ++ text) (laid_both brought behind) ∙ laid_both front (brought ++ behind)

  counted : count ≡ length all
  counted = omega (arith, n, length-append front (brought ++ behind), length-append brought behind)

  text_is : header_bytes count d ++ (laid_text front ++ (laid_text brought ++ laid_text behind)) ≡ register_of all l
  unfolding register_of
  text_is = ap₂ (λ n s. header_bytes n s ++ (laid_text front ++ (laid_text brought ++ laid_text behind))) counted k ∙ ap (λ text. header_bytes (length all) (distances_of l) ++ text) cards_text

  put : Puts w₀ w₄ (register_of all l)
  put = subst (Puts w₀ w₄) text_is (then header (then first (then second third)))

  size_is : w₄.at ≡ length (register_of all l)
  size_is = let z = put.wrote.place in omega (arith, z, start)

  pub laid_length : Ok w₄.at ≡ length_of (register_with all)
  laid_length = ap Ok size_is ∙ sym (ap length_of (laid_with all l q))

  pub laid_there : (own : List ℕ) (most : ℕ) → own ≡ w₄.bytes.now → w₄.at ≤ length w₀.bytes.now → w₄.at ≤ most → LaidIn own most (register_with all)
  laid_there own most held room limit =
      let text = register_of all l in
      let fits : length text ≤ length w₀.bytes.now = omega (arith, room, size_is) in
      let written : own ≡ text ++ drop (length text) w₀.bytes.now =
      held ∙ (put.wrote.bytes ∙ (ap (λ n. sets w₀.bytes.now n text) start ∙ written_first text w₀.bytes.now fits)) in
      let long : length own ≡ length w₀.bytes.now = ap length held ∙ put.long in
      subst (LaidIn own most) (sym (laid_with all l q)) (
        ap (take (length text)) written ∙ take_at text (drop (length text) w₀.bytes.now) (length text) refl,
        omega (arith, long, fits),
        omega (arith, limit, size_is),
      )

-- ---- 19 and 20

-- they are looked for by how many cards there are
pub counted_way : (wanted : Bool) (room : ℕ) (front brought behind cards : List (List ℕ)) (x : Result Unit (SentBack ℕ)) {kept all count : ℕ} → kept ≡ length front + length behind → all ≡ length cards → count ≡ length front + (length brought + length behind)
    → x ≡ way_of (bad_presence wanted (ltb kept all)) (bad_capacity room count) → x ≡ way_of (bad_presence wanted (ltb (length front + length behind) (length cards))) (bad_capacity room (length front + (length brought + length behind)))
counted_way wanted room front brought behind cards x k a c e =
    e ∙ ap₂ way_of (ap₂ (λ m n. bad_presence wanted (ltb m n)) k a) (ap (bad_capacity room) c)

abbrev after_way : Result Unit (SentBack ℕ) → Result (List ℕ) (SentBack ℕ) → Result (List ℕ) (SentBack ℕ)
after_way (Ok u) further = further
after_way (Err sent) further = Err sent

module _ (n : ℕ) (wanted : Bool) (brought cards : List (List ℕ)) (room : ℕ) (front behind : List (List ℕ)) (f : front ≡ below n cards) (b : behind ≡ above n cards)
    (x : Result Unit (SentBack ℕ)) (e : x ≡ way_of (bad_presence wanted (ltb (length front + length behind) (length cards))) (bad_capacity room (length front + (length brought + length behind)))) where
  way : changed n wanted brought cards room ≡ after_way x (register_with (front ++ (brought ++ behind)))
  unfolding changed
  way =
      let there : ltb (length front + length behind) (length cards) ≡ is_there n cards = ap₂ (λ (u v : List (List ℕ)). ltb (length u + length v) (length cards)) f b ∙ (there_is n cards).0 in
      let all : front ++ (brought ++ behind) ≡ with_number n brought cards = ap₂ (λ (u v : List (List ℕ)). u ++ (brought ++ v)) f b in
      let count : length front + (length brought + length behind) ≡ length (with_number n brought cards) = omega (arith, length-append front (brought ++ behind), length-append brought behind) ∙ ap length all in
      go (bad_presence wanted (is_there n cards)) (bad_capacity room (length (with_number n brought cards))) (register_with (with_number n brought cards))
      ∙ ap₂ after_way (sym (e ∙ ap₂ (λ p c. way_of (bad_presence wanted p) (bad_capacity room c)) there count)) (sym (ap register_with all))
    where
      go : (p c : Bool) (further : Result (List ℕ) (SentBack ℕ)) → unless_bad p refusal.Presence (unless_bad c refusal.Capacity further) ≡ after_way (way_of p c) further
      go true c further = refl
      go false true further = refl
      go false false further = refl

  clear : x ≡ Ok tt → bad_capacity room (length front + (length brought + length behind)) ≡ false
  clear q = go (bad_presence wanted (ltb (length front + length behind) (length cards))) (bad_capacity room (length front + (length brought + length behind))) (sym e ∙ q)
    where
      go : (p c : Bool) → way_of p c ≡ Ok tt → c ≡ false
      go true c h = clash (cc)
      go false true h = clash (cc)
      go false false h = refl

-- ---- the cards around the number

-- each part of them has cards of versions that somebody gives
module _ (front named behind cards : List (List ℕ)) (a : front ++ (named ++ behind) ≡ cards) (g : AllGiven cards) where
  parts : AllGiven (front ++ (named ++ behind))
  parts = subst AllGiven (sym a) g

  pub front_given : AllGiven front
  front_given = each_front Given front (named ++ behind) parts

  pub behind_given : AllGiven behind
  behind_given = each_behind Given named behind (each_behind Given front (named ++ behind) parts)

module _ (s : Option Stored) (n : ℕ) (wanted : Bool) (brought cards : List (List ℕ)) (room : ℕ) (front named behind : List (List ℕ)) (a : front ++ (named ++ behind) ≡ cards) where
  outcome : result_of (settled s (cards_from 0 0 (front ++ (named ++ behind)))) ≡ result_of (settled s (cards_from 0 0 cards))
  outcome = ap (λ (cs : List (List ℕ)). result_of (settled s (cards_from 0 0 cs))) a

  module _ (low : AllPass cards → front ≡ below n cards) (high : AllPass cards → behind ≡ above n cards) (y : Result (Running × Leaders) (SentBack ℕ)) (walked : Walked s front named behind y)
      (t : Running) (l : Leaders) (k : y ≡ Ok (t, l)) where
    w : Accepted s front named behind t l
    w = subst (Walked s front named behind) k walked

    pass : AllPass cards
    pass = go (cards_from 0 0 cards) refl (sym outcome ∙ w.accepted)
      where
        go : (c : Cards) → cards_from 0 0 cards ≡ c → result_of (settled s c) ≡ Ok w.all → AllPass cards
        go (answers xs) q h = (xs, q)
        go (sent_back r place) q h = clash (cc)

    pub known : Brings n brought → Known front brought behind t l
    known b = (w.before, behind_any n cards front brought behind (low pass) (high pass) b t w.before w.with l w.after)

    module _ (x : Result Unit (SentBack ℕ)) (e : x ≡ way_of (bad_presence wanted (ltb (length front + length behind) (length cards))) (bad_capacity room (length front + (length brought + length behind)))) where
      onward : (y : Result Unit (SentBack ℕ)) → x ≡ y → change_of s n wanted brought cards room ≡ after_way y (register_with (front ++ (brought ++ behind)))
      onward y q =
          ap (λ z. after_old z (changed n wanted brought cards room)) (sym outcome ∙ w.accepted)
          ∙ (way n wanted brought cards room front behind (low pass) (high pass) x e ∙ ap (λ z. after_way z (register_with (front ++ (brought ++ behind)))) q)

      pub way_sent : (b : SentBack ℕ) → x ≡ Err b → change_of s n wanted brought cards room ≡ Err b
      way_sent b q = onward (Err b) q

      module _ (q : x ≡ Ok tt) where
        pub few : length front + (length brought + length behind) ≤ 2_000
        unfolding bad_capacity
        few = let z = clear n wanted brought cards room front behind (low pass) (high pass) x e q in grind (arith, nat_tests, z)

        roomy : size_of edit_layout (length front + (length brought + length behind)) ≤ room
        unfolding bad_capacity
        roomy = let z = clear n wanted brought cards room front behind (low pass) (high pass) x e q in grind (arith, nat_tests, z)

        pub way_length : (y : Result ℕ (SentBack ℕ)) → y ≡ length_of (register_with (front ++ (brought ++ behind))) → y ≡ length_of (change_of s n wanted brought cards room)
        way_length y h = h ∙ sym (ap length_of (onward (Ok tt) q))

        pub way_laid : (own : List ℕ) → LaidIn own (size_of edit_layout (length front + (length brought + length behind))) (register_with (front ++ (brought ++ behind))) → LaidIn own room (change_of s n wanted brought cards room)
        way_laid own h = go (register_with (front ++ (brought ++ behind))) (sym (onward (Ok tt) q)) h
          where
            go : (y : Result (List ℕ) (SentBack ℕ)) → y ≡ change_of s n wanted brought cards room → LaidIn own (size_of edit_layout (length front + (length brought + length behind))) y → LaidIn own room (change_of s n wanted brought cards room)
            go (Ok register) i v = subst (LaidIn own room) i (v.0, v.1, omega (arith, v.2, roomy))
            go (Err sent) i v = subst (LaidIn own room) i tt

-- ---- the register that the buffer starts with

module _ (n : ℕ) (wanted : Bool) (brought : List (List ℕ)) (buffer : List ℕ) where
  module _ (register : List ℕ) (r : register ≡ held buffer) (room : ℕ) (h : Ready (held buffer) room) where
    good : header_of register enough ≡ Ok (count_of register)
    good = ap (λ y. header_of y enough) r ∙ (h.0 ∙ ap (λ y. Ok (count_of y)) (sym r))

    pub held_whole : Whole register
    held_whole = good_header register enough (header_of register enough) refl (count_of register) good

    module _ (cards : List (List ℕ)) (c : cards ≡ cards_in register) where
      pub held_given : AllGiven cards
      held_given = subst AllGiven (sym c) (cards_given register (header_fitting register enough (count_of register) good))

      pub held_few : length cards ≤ 2_000
      held_few = good_count register enough (header_of register enough) refl (count_of register) good cards c

      pub held_room : size_of edit_layout (length cards + 1) ≤ room
      held_room = let z : length cards ≡ count_of (held buffer) = ap length c ∙ (cards_counted register ∙ ap count_of r) in omega (arith, z, h.1)

      module _ (s : Option Stored) (d : s ≡ stored_in register) where
        held_is : change_of s n wanted brought cards (length buffer) ≡ register_by n wanted brought buffer
        unfolding register_by
        held_is =
            ap₂ after_old
            (header_good register enough (header_of register enough) refl (count_of register) good cards c s d (result_of (settled s (cards_from 0 0 cards))) refl
            ∙ ap (λ y. outcome_of y enough) r)
            (ap (λ (cs : List (List ℕ)). changed n wanted brought cs (length buffer)) (c ∙ ap cards_in r))

        pub held_length : (y : Result ℕ (SentBack ℕ)) → y ≡ length_of (change_of s n wanted brought cards (length buffer)) → y ≡ length_of (register_by n wanted brought buffer)
        held_length y w = w ∙ ap length_of held_is

        pub held_laid : (own : List ℕ) → LaidIn own (length buffer) (change_of s n wanted brought cards (length buffer)) → LaidIn own (length buffer) (register_by n wanted brought buffer)
        held_laid own w = subst (LaidIn own (length buffer)) held_is w

-- its header
module _ (buffer register : List ℕ) (r : register ≡ held buffer) (x : Result ℕ Refusal) (e : x ≡ header_of register enough) where
  header : x ≡ header_of (held buffer) enough
  header = e ∙ ap (λ y. header_of y enough) r

  pub header_sent : (n : ℕ) (wanted : Bool) (brought : List (List ℕ)) (f : Refusal) → x ≡ Err f → register_by n wanted brought buffer ≡ Err (refused_at f 0)
  unfolding register_by
  header_sent n wanted brought f q =
      ap (λ y. after_old y (changed n wanted brought (cards_in (held buffer)) (length buffer))) (sym (header_refused (held buffer) enough x header f q))

  module _ (count : ℕ) (q : x ≡ Ok count) where
    fits : Fitting (held buffer) enough count
    fits = header_fitting (held buffer) enough count (sym header ∙ q)

    pub count_most : count ≤ 2_000
    count_most = fits.cards

    pub ready : (room : ℕ) → size_of edit_layout (count + 1) ≤ room → Ready (held buffer) room
    ready room h = (sym header ∙ q ∙ ap Ok fits.counted, let z = fits.counted in omega (arith, z, h))
