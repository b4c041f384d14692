-- Cards that stand one behind the other: what they come to, part by part.
-- Assumes nothing.
use Rattle.std.specs.Prelude.{ℕ, ◌+◌, ◌≡◌, refl, List, ◌++◌, length, Option, Result, Ok, Err}
use Rattle.std.proofs.Common.{arith, ◌∙◌, sym, ap, ap₂}
use Rattle.search.specs.Laws.{clash}
use Rattle.refusals.specs.declared.Refusal.{Refusal}
use Rattle.refusals.specs.declared.SentBack.{SentBack}
use Rattle.refusals.specs.Numbers.{refused_at}
use Rattle.card.specs.declared.Answer.{Answer}
use Rattle.farthest.specs.declared.Leaders.{Leaders}
use Rattle.farthest.specs.Farthest.{no_leaders, leaders_of}
use Rattle.header.specs.declared.Stored.{Stored}
use Rattle.running.specs.declared.Running.{Running}
use Rattle.running.specs.Running.{before_cards, running_after}
use Rattle.running.proofs.Laws.{running_leaders, running_place}
use Rattle.walk.specs.Walk.{nothing_of, walk_from}
use Rattle.cards.specs.Distances.{held_to}
use Rattle.cards.specs.Register.{Cards, answers, sent_back, cards_from, settled, result_of}
use Rattle.cards.proofs.Cut.{in_front, front_answers, front_sent_back, cut_answered, cut_sent_back}
use Rattle.cards.proofs.Laws.{cards_count, settled_result}
use Rattle.cards.proofs.Walked.{passed, stopped}
use Rattle.edit_walk.specs.Parts.{merged, afresh, ended, part_of, leads_behind, Accepted}
use Rattle.edit_walk.proofs.Merging.{leaders_in_parts}

-- ---- a part is walked

module _ (s : Running) (cards : List (List ℕ)) {none : Leaders} (l : none ≡ no_leaders) (x : Result (Running × ℕ) (SentBack ℕ)) (w : x ≡ walk_from nothing_of (record { leaders = none; last = s.last; place = s.place }) 0 cards) where
  e : x ≡ walk_from nothing_of (afresh s) 0 cards
  e = w ∙ ap (λ m. walk_from nothing_of (record { leaders = m; last = s.last; place = s.place }) 0 cards) l

  pub walked_part : (t : Running) (n : ℕ) → x ≡ Ok (t, n) → Ok t ≡ part_of s cards
  unfolding part_of
  walked_part t n q =
      let p = passed nothing_of (afresh s) cards t n (sym e ∙ q) in
      sym (ap (ended s) p.answered ∙ ap Ok p.running)

  pub stopped_part : (sent : SentBack ℕ) → x ≡ Err sent → Err sent ≡ part_of s cards
  unfolding part_of
  stopped_part sent q = sym (ap (ended s) (stopped nothing_of (afresh s) cards sent (sym e ∙ q)))

-- ---- cards behind a part

abbrev merged_in : Leaders → Result Leaders (SentBack ℕ) → Result Leaders (SentBack ℕ)
merged_in l (Ok m) = Ok (merged l m)
merged_in l (Err sent) = Err sent

front_result : (xs : List Answer) (c : Cards) → result_of (in_front xs c) ≡ merged_in (leaders_of xs) (result_of c)
front_result xs (answers ys) = ap result_of (front_answers xs ys) ∙ ap Ok (leaders_in_parts xs ys)
front_result xs (sent_back r place) = ap result_of (front_sent_back xs r place)

-- a part that came to its end
pub record Through (s : Running) (cards : List (List ℕ)) (t : Running) : Type 0 where
  pub list : List Answer
  pub answered : cards_from s.place s.last cards ≡ answers list
  pub running : running_after (afresh s) list ≡ t
  pub leads : leaders_of list ≡ t.leaders

module _ (s : Running) (cards : List (List ℕ)) where
  pub through : (t : Running) → part_of s cards ≡ Ok t → Through s cards t
  unfolding part_of leaders_of
  through t = go (cards_from s.place s.last cards) refl
    where
      go : (c : Cards) → cards_from s.place s.last cards ≡ c → ended s c ≡ Ok t → Through s cards t
      go (answers xs) e q =
          let z : running_after (afresh s) xs ≡ t = cc in
          record { list = xs; answered = e; running = z; leads = sym (running_leaders (afresh s) xs) ∙ ap (λ (u : Running). u.leaders) z }
      go (sent_back r place) e q = clash (cc)

  sent : (b : SentBack ℕ) → part_of s cards ≡ Err b → (r : Refusal) × (place : ℕ) × (cards_from s.place s.last cards ≡ sent_back r place) × (refused_at r place ≡ b)
  unfolding part_of
  sent b = go (cards_from s.place s.last cards) refl
    where
      go : (c : Cards) → cards_from s.place s.last cards ≡ c → ended s c ≡ Err b → (r : Refusal) × (place : ℕ) × (cards_from s.place s.last cards ≡ sent_back r place) × (refused_at r place ≡ b)
      go (answers xs) e q = clash (cc)
      go (sent_back r place) e q = (r, place, e, cc)

  part_place : (t : Running) → part_of s cards ≡ Ok t → t.place ≡ s.place + length cards
  part_place t q =
      let p = through t q in
      let z : t.place ≡ s.place + length p.list = ap (λ (u : Running). u.place) (sym p.running) ∙ running_place (afresh s) p.list in
      omega (arith, z, cards_count s.place s.last cards p.list p.answered)

  part_leads : (t : Running) → part_of s cards ≡ Ok t → leads_behind s cards ≡ Ok t.leaders
  part_leads t q = let p = through t q in ap result_of p.answered ∙ ap Ok p.leads

  part_sent : (b : SentBack ℕ) → part_of s cards ≡ Err b → leads_behind s cards ≡ Err b
  part_sent b q = let p = sent b q in ap result_of p.2 ∙ ap Err p.3

  module _ (more : List (List ℕ)) where
    part_on : (t : Running) → part_of s cards ≡ Ok t → leads_behind s (cards ++ more) ≡ merged_in t.leaders (leads_behind t more)
    part_on t q =
        let p = through t q in
        ap result_of (cut_answered (afresh s) cards more p.list p.answered)
        ∙ (front_result p.list (cards_from (running_after (afresh s) p.list).place (running_after (afresh s) p.list).last more)
        ∙ ap₂ (λ l (u : Running). merged_in l (leads_behind u more)) p.leads p.running)

    part_stops : (b : SentBack ℕ) → part_of s cards ≡ Err b → leads_behind s (cards ++ more) ≡ Err b
    part_stops b q =
        let p = sent b q in
        ap result_of (cut_sent_back s.place s.last cards more p.0 p.1 p.2) ∙ ap Err p.3

-- ---- three parts

module _ (front middle behind : List (List ℕ)) where
  abbrev Whole : Result Leaders (SentBack ℕ)
  Whole = result_of (cards_from 0 0 (front ++ (middle ++ behind)))

  pub front_stops : (b : SentBack ℕ) → part_of before_cards front ≡ Err b → Whole ≡ Err b
  front_stops b q = part_stops before_cards front (middle ++ behind) b q

  module _ (t : Running) (q : part_of before_cards front ≡ Ok t) where
    pub middle_place : t.place ≡ length front
    middle_place = let z = part_place before_cards front t q in omega (arith, z)

    pub middle_stops : (b : SentBack ℕ) → part_of t middle ≡ Err b → Whole ≡ Err b
    middle_stops b r = part_on before_cards front (middle ++ behind) t q ∙ ap (merged_in t.leaders) (part_stops t middle behind b r)

    module _ (u : Running) (r : part_of t middle ≡ Ok u) where
      pub behind_place : u.place ≡ length front + length middle
      behind_place = let z = part_place t middle u r in omega (arith, middle_place, z)

      through_all : (y : Result Leaders (SentBack ℕ)) → leads_behind u behind ≡ y → Whole ≡ merged_in t.leaders (merged_in u.leaders y)
      through_all y w = part_on before_cards front (middle ++ behind) t q ∙ ap (merged_in t.leaders) (part_on t middle behind u r ∙ ap (merged_in u.leaders) w)

      pub behind_stops : (b : SentBack ℕ) → part_of u behind ≡ Err b → Whole ≡ Err b
      behind_stops b w = through_all (Err b) (part_sent u behind b w)

      pub all_on : (l : Leaders) → leads_behind u behind ≡ Ok l → Whole ≡ Ok (merged t.leaders (merged u.leaders l))
      all_on l w = through_all (Ok l) w

-- ---- held to the stored distances

module _ (s : Option Stored) where
  settled_sent : (c : Cards) (b : SentBack ℕ) → result_of c ≡ Err b → result_of (settled s c) ≡ Err b
  settled_sent (answers xs) b e = clash (cc)
  settled_sent (sent_back r place) b e = e

  settled_held : (c : Cards) (l : Leaders) → result_of c ≡ Ok l → result_of (settled s c) ≡ held_to s l
  settled_held (answers xs) l e = let z : leaders_of xs ≡ l = cc in settled_result s xs ∙ ap (held_to s) z
  settled_held (sent_back r place) l e = clash (cc)

  -- one law for each return of the walk
  module _ (front named behind : List (List ℕ)) (from : Running) (k : from ≡ before_cards) (x : Result Running (SentBack ℕ)) (e : x ≡ part_of from front) where
    abbrev all : List (List ℕ)
    all = front ++ (named ++ behind)

    first : (y : Result Running (SentBack ℕ)) → x ≡ y → part_of before_cards front ≡ y
    first y q = sym (e ∙ ap (λ t. part_of t front) k) ∙ q

    pub before_sent_back : (b : SentBack ℕ) → x ≡ Err b → result_of (settled s (cards_from 0 0 all)) ≡ Err b
    before_sent_back b q = settled_sent (cards_from 0 0 all) b (front_stops front named behind b (first (Err b) q))

    pub before_place : (t : Running) → x ≡ Ok t → t.place ≡ length front
    before_place t q = middle_place front named behind t (first (Ok t) q)

    module _ (t : Running) (q : x ≡ Ok t) (y : Result Running (SentBack ℕ)) (f : y ≡ part_of t named) where
      pub with_sent_back : (b : SentBack ℕ) → y ≡ Err b → result_of (settled s (cards_from 0 0 all)) ≡ Err b
      with_sent_back b r = settled_sent (cards_from 0 0 all) b (middle_stops front named behind t (first (Ok t) q) b (sym f ∙ r))

      pub with_place : (u : Running) → y ≡ Ok u → u.place ≡ length front + length named
      with_place u r = behind_place front named behind t (first (Ok t) q) u (sym f ∙ r)

      module _ (u : Running) (r : y ≡ Ok u) (z : Result Running (SentBack ℕ)) (g : z ≡ part_of u behind) where
        pub after_sent_back : (b : SentBack ℕ) → z ≡ Err b → result_of (settled s (cards_from 0 0 all)) ≡ Err b
        after_sent_back b w = settled_sent (cards_from 0 0 all) b (behind_stops front named behind t (first (Ok t) q) u (sym f ∙ r) b (sym g ∙ w))

        module _ (v : Running) (w : z ≡ Ok v) (m l : Leaders) (i : m ≡ merged u.leaders v.leaders) (j : l ≡ merged t.leaders m) (h : Result Leaders (SentBack ℕ)) (o : h ≡ held_to s l) where
          held : result_of (settled s (cards_from 0 0 all)) ≡ h
          held =
              settled_held (cards_from 0 0 all) l (all_on front named behind t (first (Ok t) q) u (sym f ∙ r) v.leaders (part_leads u behind v (sym g ∙ w)) ∙ ap Ok (sym (j ∙ ap (merged t.leaders) i)))
              ∙ sym o

          pub wrongly_stored : (b : SentBack ℕ) → h ≡ Err b → result_of (settled s (cards_from 0 0 all)) ≡ Err b
          wrongly_stored b n = held ∙ n

          pub rightly_stored : (n : Leaders) → h ≡ Ok n → Accepted s front named behind t v.leaders
          rightly_stored n d = record { all = n; accepted = held ∙ d; before = first (Ok t) q; with = u; after = part_leads u behind v (sym g ∙ w) }
