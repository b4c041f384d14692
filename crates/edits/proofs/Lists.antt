-- Cards of one size, as a list: as a register has them, as an edit leaves them, and read back from their own bytes; and that an edit
-- leaves each card there which it does not name.
-- Assumes nothing.
use Rattle.std.specs.Prelude.{ℕ, zero, suc, ◌*◌, ◌≤◌, ◌<◌, ◌≡◌, refl, Bool, true, false, List, [], ◌∷◌, ◌++◌, ltb, eqb, length, drop, get_or, Option, Some, None, ◌↔◌, ◌⊎◌, Contains}
use Rattle.std.specs.List.{concat}
use Rattle.std.specs.Simd.{first_chunks}
use Rattle.std.proofs.Common.{arith, le_refl, ◌∙◌, sym, ap, ap₂, inl, inr, ⊎_elim, lt-ltb, length-drop, take_all, take_at, drop_at}
use Rattle.std.proofs.lemmas.List.Elements.{All-append, All-get_or, All-from_get_or, Contains-append_left, Contains-append_right, Contains-append_cases}
use Rattle.search.specs.Laws.{clash, lt_or_ge}
use Rattle.header.specs.declared.Layout.{Layout}
use Rattle.header.specs.Header.{version_of, count_of, first_layout, second_layout, third_layout, layout_of, laid, layout_in, cards_in, unknown, bad_version, Fitting}
use Rattle.header.specs.InTurn.{Sized}
use Rattle.seasons.specs.Seasons.{grown, Given}
use Rattle.header.proofs.Chunks.{chunks_sized, first_bytes}
use Rattle.edits.specs.Edits.{Edit, add, replace, withdraw, card_number, named, brings, keep_if, below, above, with_number, edited}
use Rattle.edits.specs.Around.{AllGiven}
use Rattle.edits.proofs.Growing.{grown_each, grown_back, grown_number, each_there}

-- ---- something that holds of each card

module _ (P : List ℕ → Type 0) where
  abbrev pub Each : List (List ℕ) → Type 0
  Each cards = (i : ℕ) → i < length cards → P (get_or cards i [])

  pub each_none : Each []
  each_none i h = absurd (omega (arith, h))

  pub each_more : (card : List ℕ) (rest : List (List ℕ)) → P card → Each rest → Each (card ∷ rest)
  each_more card rest e s zero h = e
  each_more card rest e s (suc i) h = s i (omega (arith, h))

  each_append : (xs ys : List (List ℕ)) → Each xs → Each ys → Each (xs ++ ys)
  each_append xs ys p q i h = All-get_or P (xs ++ ys) i [] h (All-append P xs ys (All-from_get_or P xs [] p) (All-from_get_or P ys [] q))

  -- and so it does in each part of them
  pub each_front : (xs ys : List (List ℕ)) → Each (xs ++ ys) → Each xs
  each_front [] ys s = each_none
  each_front (x ∷ xs) ys s = each_more x xs (s 0 (omega arith)) (each_front xs ys (λ i h. s (suc i) (omega (arith, h))))

  pub each_behind : (xs ys : List (List ℕ)) → Each (xs ++ ys) → Each ys
  each_behind [] ys s = s
  each_behind (x ∷ xs) ys s = each_behind xs ys (λ i h. s (suc i) (omega (arith, h)))

  each_if : (b : Bool) (card : List ℕ) (rest : List (List ℕ)) → P card → Each rest → Each (keep_if b card rest)
  each_if true card rest e s = each_more card rest e s
  each_if false card rest e s = s

  pub each_below : (n : ℕ) (cards : List (List ℕ)) → Each cards → Each (below n cards)
  unfolding below
  each_below n [] s = each_none
  each_below n (card ∷ rest) s =
      each_if (ltb (card_number card) n) card (below n rest) (s 0 (omega arith)) (each_below n rest (λ i h. s (suc i) (omega (arith, h))))

  pub each_above : (n : ℕ) (cards : List (List ℕ)) → Each cards → Each (above n cards)
  unfolding above
  each_above n [] s = each_none
  each_above n (card ∷ rest) s =
      each_if (ltb n (card_number card)) card (above n rest) (s 0 (omega arith)) (each_above n rest (λ i h. s (suc i) (omega (arith, h))))

  -- in the cards as an edit leaves them, before they gain anything
  pub each_with : (e : Edit) (cards : List (List ℕ)) → Each (brings e) → Each cards → Each (with_number (named e) (brings e) cards)
  each_with e cards b s =
      let n = named e in
      each_append (below n cards) (brings e ++ above n cards) (each_below n cards s)
      (each_append (brings e) (above n cards) b (each_above n cards s))

-- ---- a register's cards are of a version that somebody gives

card_size : (v : ℕ) → unknown (layout_of v) ≡ false → ((laid (layout_of v)).card ≡ 24) ⊎ ((laid (layout_of v)).card ≡ 28)
unfolding layout_of
card_size v = go (eqb v 1) (eqb v 2) (eqb v 3)
  where
    versions : Bool → Bool → Bool → Option Layout
    versions a b c =
        elim a [
          | true ↦ Some first_layout
          | false ↦ elim b [ true ↦ Some second_layout | false ↦ elim c [ true ↦ Some third_layout | false ↦ None ] ]
        ]

    go : (a b c : Bool) → unknown (versions a b c) ≡ false → ((laid (versions a b c)).card ≡ 24) ⊎ ((laid (versions a b c)).card ≡ 28)
    go true b c e = inl refl
    go false true c e = inl refl
    go false false true e = inr refl
    go false false false e = clash (cc)

pub cards_given : (bytes : List ℕ) {room n : ℕ} → Fitting bytes room n → AllGiven (cards_in bytes)
unfolding cards_in bad_version layout_in
cards_given bytes f i h =
    let l = layout_in bytes in
    let long : length (drop l.header bytes) ≡ l.card * count_of bytes = omega (arith, f.whole.register, length-drop l.header bytes) in
    let sized = chunks_sized l.card (count_of bytes) (drop l.header bytes) long i h in
    ⊎_elim (λ (e : l.card ≡ 24). inl (sized ∙ e)) (λ (e : l.card ≡ 28). inr (sized ∙ e)) (card_size (version_of bytes) f.version)

-- ---- their bytes

pub bytes_length : (size : ℕ) (cards : List (List ℕ)) → Sized size cards → length (concat cards) ≡ size * length cards
bytes_length size cards s =
    ap (λ (cs : List (List ℕ)). length (concat cs)) (sym (take_all (length cards) cards (le_refl (length cards))))
    ∙ first_bytes size cards s (length cards) (le_refl (length cards))

-- cards read from their own bytes are the cards
pub chunks_back : (size : ℕ) (cards : List (List ℕ)) → Sized size cards → first_chunks size (length cards) (concat cards) ≡ cards
chunks_back size [] s = refl
chunks_back size (card ∷ rest) s =
    let one : length card ≡ size = s 0 (omega arith) in
    ap₂ (λ (c : List ℕ) (cs : List (List ℕ)). c ∷ cs)
    (take_at card (concat rest) size one)
    (ap (first_chunks size (length rest)) (drop_at card (concat rest) size one) ∙ chunks_back size rest (λ i h. s (suc i) (omega (arith, h))))

-- ---- cards that an edit does not name

module _ {card : List ℕ} where
  here : (c : List ℕ) (rest : List (List ℕ)) → c ≡ card → Contains (c ∷ rest) card
  here c rest e = (0, omega arith, e)

  later : (c : List ℕ) (rest : List (List ℕ)) → Contains rest card → Contains (c ∷ rest) card
  later c rest (k, h, e) = (suc k, omega (arith, h), e)

  here_or_later : (c : List ℕ) (rest : List (List ℕ)) → Contains (c ∷ rest) card → (c ≡ card) ⊎ Contains rest card
  here_or_later c rest (zero, h, e) = inl e
  here_or_later c rest (suc k, h, e) = inr (k, omega (arith, h), e)

  -- what is kept of a list is in it
  was_there : (b : Bool) (c : List ℕ) (rest all : List (List ℕ)) → (Contains rest card → Contains all card) → Contains (keep_if b c rest) card → Contains (c ∷ all) card
  was_there true c rest all f m = ⊎_elim (here c all) (λ l. later c all (f l)) (here_or_later c rest m)
  was_there false c rest all f m = later c all (f m)

  from_below : (n : ℕ) (cards : List (List ℕ)) → Contains (below n cards) card → Contains cards card
  unfolding below
  from_below n [] m = m
  from_below n (c ∷ cards) m = was_there (ltb (card_number c) n) c (below n cards) cards (from_below n cards) m

  from_above : (n : ℕ) (cards : List (List ℕ)) → Contains (above n cards) card → Contains cards card
  unfolding above
  from_above n [] m = m
  from_above n (c ∷ cards) m = was_there (ltb n (card_number c)) c (above n cards) cards (from_above n cards) m

  -- and a card stays where the test that decides it passes
  stays : (b : Bool) (c : List ℕ) (rest : List (List ℕ)) → (c ≡ card → b ≡ true) → (c ≡ card) ⊎ Contains rest card → Contains (keep_if b c rest) card
  stays true c rest h (inl e) = here c rest e
  stays true c rest h (inr m) = later c rest m
  stays false c rest h (inl e) = clash (let z = h e in cc)
  stays false c rest h (inr m) = m

  to_below : (n : ℕ) (cards : List (List ℕ)) → card_number card < n → Contains cards card → Contains (below n cards) card
  unfolding below
  to_below n [] h m = m
  to_below n (c ∷ cards) h m =
      stays (ltb (card_number c) n) c (below n cards) (λ e. ap (λ (d : List ℕ). ltb (card_number d) n) e ∙ lt-ltb _ n h)
      (⊎_elim inl (λ l. inr (to_below n cards h l)) (here_or_later c cards m))

  to_above : (n : ℕ) (cards : List (List ℕ)) → n < card_number card → Contains cards card → Contains (above n cards) card
  unfolding above
  to_above n [] h m = m
  to_above n (c ∷ cards) h m =
      stays (ltb n (card_number c)) c (above n cards) (λ e. ap (λ (d : List ℕ). ltb n (card_number d)) e ∙ lt-ltb n _ h)
      (⊎_elim inl (λ l. inr (to_above n cards h l)) (here_or_later c cards m))

  -- what is brought has the number that is named
  brought_named : (e : Edit) → Contains (brings e) card → card_number card ≡ named e
  brought_named (add c) (zero, h, e) = ap card_number (sym e)
  brought_named (add c) (suc k, h, e) = absurd (omega (arith, h))
  brought_named (replace c) (zero, h, e) = ap card_number (sym e)
  brought_named (replace c) (suc k, h, e) = absurd (omega (arith, h))
  brought_named (withdraw n) (k, h, e) = absurd (omega (arith, h))

  -- a card of another number than the one that is named is among the cards as they would then be exactly where it was there before
  unnamed_with : (e : Edit) (cards : List (List ℕ)) → (card_number card ≡ named e → ⊥) → Contains cards card ↔ Contains (with_number (named e) (brings e) cards) card
  unnamed_with e cards other = (
    (λ m.
        ⊎_elim
        (λ (h : card_number card < named e). Contains-append_left (below (named e) cards) (brings e ++ above (named e) cards) card (to_below (named e) cards h m))
        (λ (h : named e ≤ card_number card).
        Contains-append_right (below (named e) cards) (brings e ++ above (named e) cards) card
        (Contains-append_right (brings e) (above (named e) cards) card (to_above (named e) cards (higher h) m)))
        (lt_or_ge (card_number card) (named e))),
    (λ m.
        ⊎_elim (from_below (named e) cards)
        (λ l. ⊎_elim (λ b. absurd (other (brought_named e b))) (from_above (named e) cards) (Contains-append_cases (brings e) (above (named e) cards) card l))
        (Contains-append_cases (below (named e) cards) (brings e ++ above (named e) cards) card m)),
  )
    where
      higher : named e ≤ card_number card → named e < card_number card
      higher h = omega arith

-- so it stays, as version 3 has it, and none but these has come
pub unnamed_stays : (card : List ℕ) (e : Edit) (cards : List (List ℕ)) → (card_number card ≡ named e → ⊥) → Contains cards card → Contains (edited e cards) (grown card)
unfolding edited
unnamed_stays card e cards other m = grown_each (with_number (named e) (brings e) cards) card ((unnamed_with e cards other).0 m)

pub unnamed_was : (card : List ℕ) (e : Edit) (cards : List (List ℕ)) → AllGiven (brings e) → AllGiven cards → (card_number card ≡ named e → ⊥) → Contains (edited e cards) card → (c : List ℕ) × Contains cards c × (grown c ≡ card)
unfolding edited
unnamed_was card e cards brought given other m =
    let new : List (List ℕ) = with_number (named e) (brings e) cards in
    let back = grown_back new card m in
    let known = each_with Given e cards brought given in
    let number : card_number card ≡ card_number back.0 = ap card_number (sym back.2) ∙ grown_number back.0 (each_there Given new back.0 known back.1) in
    (back.0, (unnamed_with e cards (λ k. other (number ∙ k))).1 back.1, back.2)
