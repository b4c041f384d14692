-- One law for each return: what the two parts of the walk end with is what the definition says of all cards.
-- Assumes nothing.
use Rattle.std.specs.Prelude.{Option, Result, Ok, Err}
use Rattle.farthest.specs.declared.Leaders.{Leaders}
use Rattle.refusals.specs.declared.SentBack.{SentBack}
use Rattle.refusals.specs.Numbers.{refused_at}
use Prim.Native.Nat.{ℕ, min, ◌+◌, ◌≤◌, ◌<◌}
use native.Mathlib.Omega.{arith}
use Rattle.std.proofs.Common.{⊎_elim}
use Rattle.std.proofs.lemmas.Bool.{cases_lt}
use mathlib.Core.Path.{◌≡◌, ◌∙◌, refl, ap, ap₂, sym, subst}
use mathlib.Core.List.{List, [], ◌∷◌, ◌++◌}
use lib.ListN.{length, take, drop, length-append, take-append-drop}
use lib.Seq.{take_at, length-take-le}
use Rattle.search.specs.Laws.{clash}
use Rattle.refusals.specs.declared.Refusal.{Refusal}
use Rattle.card.specs.declared.Answer.{Answer}
use Rattle.farthest.specs.Farthest.{leaders_of}
use Rattle.header.specs.declared.Stored.{Stored}
use Rattle.header.specs.Header.{enough, stored_in, cards_in, header_of}
use Rattle.running.specs.declared.Running.{Running}
use Rattle.running.specs.Running.{before_cards, after_card, running_after}
use Rattle.running.proofs.Laws.{running_leaders, running_place}
use Rattle.walk.specs.Walk.{nothing_of, walk_from}
use Rattle.cards.specs.Distances.{held_to}
use Rattle.cards.specs.Register.{Cards, answers, sent_back, cards_from, settled, result_of}
use Rattle.cards.proofs.Laws.{cards_count, header_refused, good_cards, settled_result, settled_accepted}
use Rattle.cards.proofs.Walked.{Passed, passed, passed_leaders, stopped}
use Rattle.prefix.specs.Prefix.{result_after, result_behind, prefix_of}
use Rattle.prefix.specs.Claim.{Keeps}
use Rattle.cards.proofs.Cut.{in_front, front_answers, front_sent_back, cut_answered, cut_sent_back}
use Rattle.prefix.proofs.Kept.{keeps, all_cards, refused_first}

-- cards that are sent back are so after any number of them
refused_after : (i : ℕ) (c : Cards) (sent : SentBack ℕ) → result_of c ≡ Err sent → result_after i c ≡ Err sent
refused_after i (answers xs) sent e = clash (cc)
refused_after i (sent_back r p) sent e = e

-- ---- the two parts of the walk

-- the running values behind two parts
running_both : (s : Running) (xs ys : List Answer) → running_after s (xs ++ ys) ≡ running_after (running_after s xs) ys
unfolding running_after
running_both s [] ys = refl
running_both s (a ∷ xs) ys = running_both (after_card s a) xs ys

module _ (cards front behind : List (List ℕ)) (s : Option Stored) (first : ℕ) (within : first ≤ length cards) (f : front ≡ take first cards) (b : behind ≡ drop first cards) where
  k : length front ≡ first
  k = ap length f ∙ length-take-le first cards within

  both : cards ≡ front ++ behind
  both = sym (ap₂ (λ (xs ys : List (List ℕ)). xs ++ ys) f b ∙ take-append-drop first cards)

  abbrev Told : Result Leaders (SentBack ℕ)
  Told = result_after first (settled s (cards_from 0 0 cards))

  whole : cards_from 0 0 cards ≡ cards_from 0 0 (front ++ behind)
  whole = ap (cards_from 0 0) both

  module _ (x : Result (Running × ℕ) (SentBack ℕ)) (e : x ≡ walk_from nothing_of before_cards 0 front) where
    -- it stopped in the first part
    pub first_stopped : (sent : SentBack ℕ) → x ≡ Err sent → Err sent ≡ result_after first (settled s (cards_from 0 0 cards))
    first_stopped sent q =
        ap (λ c. result_after first (settled s c))
        (sym (whole ∙ cut_sent_back 0 0 front behind sent.refusal sent.place (stopped nothing_of before_cards front sent (sym e ∙ q))))

    module _ (t : Running) (size : ℕ) (q : x ≡ Ok (t, size)) where
      first_part : Passed nothing_of before_cards front t size
      first_part = passed nothing_of before_cards front t size (sym e ∙ q)

      list_length : length first_part.list ≡ length front
      list_length = cards_count 0 0 front first_part.list first_part.answered

      place_is : t.place ≡ length front
      place_is =
          ap (λ (s : Running). s.place) (sym first_part.running)
          ∙ (running_place before_cards first_part.list ∙ (let z : 0 + length first_part.list ≡ length front = omega (arith, list_length) in z))

      pub others_room : length cards ≤ 2_000 → t.place + length behind ≤ 2_000
      others_room few =
          let z : length cards ≡ length front + length behind = ap length both ∙ length-append front behind in
          omega (arith, z, place_is)

      -- the cards of the register, cut where the first part ended
      cut : cards_from 0 0 cards ≡ in_front first_part.list (cards_from t.place t.last behind)
      cut =
          whole
          ∙ (cut_answered before_cards front behind first_part.list first_part.answered
          ∙ ap (λ (s : Running). in_front first_part.list (cards_from s.place s.last behind)) first_part.running)

      module _ (y : Result (Running × ℕ) (SentBack ℕ)) (g : y ≡ walk_from nothing_of t 0 behind) where
        -- it stopped behind the first part
        pub rest_stopped : (sent : SentBack ℕ) → y ≡ Err sent → Err sent ≡ result_after first (settled s (cards_from 0 0 cards))
        rest_stopped sent u =
            ap (λ c. result_after first (settled s c))
            (sym (cut ∙ (ap (in_front first_part.list) (stopped nothing_of t behind sent (sym g ∙ u)) ∙ front_sent_back first_part.list sent.refusal sent.place)))

        -- it passed every card
        module _ (u : Running) (n : ℕ) (l : y ≡ Ok (u, n)) where
          rest : Passed nothing_of t behind u n
          rest = passed nothing_of t behind u n (sym g ∙ l)

          all : List Answer
          all = first_part.list ++ rest.list

          all_answered : cards_from 0 0 cards ≡ answers all
          unfolding all
          all_answered = cut ∙ (ap (in_front first_part.list) rest.answered ∙ front_answers first_part.list rest.list)

          all_leaders : u.leaders ≡ leaders_of all
          unfolding all leaders_of
          all_leaders =
              ap (λ (s : Running). s.leaders) (sym (running_both before_cards first_part.list rest.list ∙ (ap (λ s. running_after s rest.list) first_part.running ∙ rest.running)))
              ∙ running_leaders before_cards (first_part.list ++ rest.list)

          module _ (h : Result Leaders (SentBack ℕ)) (d : h ≡ held_to s u.leaders) where
            held : h ≡ held_to s (leaders_of all)
            held = d ∙ ap (held_to s) all_leaders

            -- a wrong distance is stored
            pub wrong_stored : (sent : SentBack ℕ) → h ≡ Err sent → Err sent ≡ result_after first (settled s (cards_from 0 0 cards))
            wrong_stored sent w =
                sym (refused_after first (settled s (cards_from 0 0 cards)) sent
                (ap (λ c. result_of (settled s c)) all_answered ∙ (settled_result s all ∙ (sym held ∙ w))))

            -- none is: the leaders of the first part are those of the first cards
            pub all_passed : (m : Leaders) → h ≡ Ok m → Ok t.leaders ≡ result_after first (settled s (cards_from 0 0 cards))
            unfolding all
            all_passed m w =
                ap Ok
                (passed_leaders nothing_of front t size first_part
                ∙ ap leaders_of (sym (take_at first_part.list rest.list first (list_length ∙ k))))
                ∙ ap (result_after first) (sym (ap (settled s) all_answered ∙ settled_accepted s all m (sym w ∙ held)))

-- ---- the whole call, from its header on

module _ (bytes : List ℕ) (k : ℕ) (h : Result ℕ Refusal) (e : h ≡ header_of bytes enough) where
  -- a header that is refused is the register's own refusal
  pub header_told : (r : Refusal) → h ≡ Err r → Err (refused_at r 0) ≡ prefix_of bytes k
  header_told r q = sym (refused_first bytes k r 0 (sym (header_refused bytes enough h e r q)))

  module _ (n : ℕ) (x : Result Leaders (SentBack ℕ)) (q : h ≡ Ok n) (cards : List (List ℕ)) (c : cards ≡ cards_in bytes) (s : Option Stored) (d : s ≡ stored_in bytes) where
    after : ℕ → Result Leaders (SentBack ℕ)
    after i = result_after i (settled s (cards_from 0 0 cards))

    good_is : after k ≡ prefix_of bytes k
    unfolding prefix_of after
    good_is =
        ap (result_after k) (good_cards bytes enough h e n q cards c s d) ∙ ap (λ y. result_behind k y bytes) (sym q ∙ e)

    -- all cards are the first k, where there are no more
    every_card : length cards ≤ k → after (length cards) ≡ after k
    unfolding after
    every_card m = all_cards s cards (length cards) (omega arith) ∙ sym (all_cards s cards k m)

    -- the first k cards, or all there are
    pub fewer_cards : (m : ℕ) → m ≡ min k (length cards) → x ≡ result_after m (settled s (cards_from 0 0 cards)) → x ≡ prefix_of bytes k
    unfolding after
    fewer_cards m least g =
        ⊎_elim
        (λ (l : k < length cards). let z : m ≡ k = omega arith in g ∙ (ap after z ∙ good_is))
        (λ (l : length cards ≤ k). let z : m ≡ length cards = omega arith in g ∙ (ap after z ∙ (every_card l ∙ good_is)))
        (cases_lt k (length cards))

-- what equals the definition keeps the paper's words
pub kept : (bytes : List ℕ) (k : ℕ) (x : Result Leaders (SentBack ℕ)) → x ≡ prefix_of bytes k → Keeps bytes k x
kept bytes k x e = subst (Keeps bytes k) (sym e) (keeps bytes k)
