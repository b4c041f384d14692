-- Document 02, A9 and A10, proved: what a list of edits leaves in a buffer, one edit after the other.
-- Assumes nothing.
use Rattle.std.specs.Prelude.{ℕ, ◌+◌, ◌-◌, ◌*◌, ◌≤◌, ◌≡◌, refl, Bool, true, false, List, [], ◌∷◌, ◌++◌, map, ltb, length, drop, replicate, ◌⊎◌, Result, Ok, Err, Contains}
use Rattle.std.proofs.Common.{arith, ◌∙◌, sym, ap, ap₂, subst, inl, inr, ⊎_elim, ltb-false, length-append}
use Rattle.std.proofs.lemmas.Bool.Decides.{nat_tests}
use Rattle.std.proofs.lemmas.List.{length-replicate}
use Rattle.search.specs.Laws.{clash}
use Rattle.search.specs.Places.{either}
use Rattle.refusals.specs.declared.Refusal.TheVariants as refusal
use Rattle.refusals.specs.declared.SentBack.{SentBack}
use Rattle.refusals.specs.Numbers.{refused_at}
use Rattle.card.specs.declared.Answer.{Answer}
use Rattle.farthest.specs.declared.Leaders.{Leaders}
use Rattle.farthest.specs.Farthest.{leaders_of}
use Rattle.card.specs.declared.Class.TheVariants as class
use Rattle.header.specs.Header.{version_of, count_of, stored_at, layout_in, size_of, cards_in, stored_if, stored_in, enough}
use Rattle.cards.specs.Distances.{distance_in, distances_of, differ, wrong_for}
use Rattle.cards.specs.Register.{Cards, answers, sent_back, cards_from, outcome_of}
use Rattle.cards.proofs.Laws.{accepted_fits}
use Rattle.seasons.specs.Seasons.{grown, Given}
use Rattle.card.proofs.Grown.{newer, grown_long}
use Rattle.ordering.proofs.Found.{found}
use Rattle.conditions.proofs.Afresh.{afresh}
use Rattle.edits.specs.Edits.{Edit, add, replace, withdraw, named, takes, brings, with_number, edited, is_there, bad_presence, bad_capacity, edit_layout, register_of, laid, register_with, held, unless_bad, changed, after_old, register_by, register_after, length_of, left_by, buffer_after}
use Rattle.edits.specs.Around.{AllGiven}
use Rattle.edits.proofs.Growing.{grown_sized, grown_number, each_there}
use Rattle.edits.proofs.Lists.{each_none, each_more, each_with, cards_given, unnamed_stays, unnamed_was}
use Rattle.edit_history.specs.Claim.{WholeCard, after_all, join_if, accepted, applied, NotNamed, kept, StartsAccepted, Afresh, Renewed, Upheld, EditsKept, RefusedKept, LengthTold}
use Rattle.edit_history.proofs.Back.{length_is, size_is, version_is, cards_are, accepts, held_back, rest_back}

-- ---- the distances of an accepted register that stores them

kept_afresh : (register : List ℕ) {l : Leaders} → outcome_of register enough ≡ Ok l → (layout_in register).stores ≡ true → Afresh register
unfolding stored_in wrong_for
kept_afresh register {l} e k =
    let f = found register enough e in
    let d = distances_of l in
    let s = stored_at register in
    let right : differ s d ≡ false = sym (ap (λ b. wrong_for (stored_if b s) l) k) ∙ f.stored in
    let toxic : s.toxic ≡ d.toxic = grind (arith, nat_tests, right) in
    let flammable : s.flammable ≡ d.flammable = grind (arith, nat_tests, right) in
    record {
      toxic = toxic ∙ (ap (λ (m : Leaders). distance_in m.toxic) (sym f.leads) ∙ sym (afresh class.Toxic register f.cards));
      flammable = flammable ∙ (ap (λ (m : Leaders). distance_in m.flammable) (sym f.leads) ∙ sym (afresh class.Flammable register f.cards));
    }

-- ---- one edit

brought_given : (e : Edit) → WholeCard e → AllGiven (brings e)
brought_given (add card) w = each_more Given card [] (inr w) (each_none Given)
brought_given (replace card) w = each_more Given card [] (inr w) (each_none Given)
brought_given (withdraw n) w = each_none Given

-- a card that is kept has grown by then, or it has 28 bytes anyhow
kept_longer : (done : List Edit) (card : List ℕ) → length card ≡ 28 → kept done card ≡ card
kept_longer [] card e = let n = newer card e in cc
kept_longer (f ∷ done) card e = let n = newer card e in cc

module _ (e : Edit) (buffer : List ℕ) where
  abbrev old : List (List ℕ)
  old = cards_in (held buffer)

  -- the cards as they would then be, before they gain anything
  abbrev new : List (List ℕ)
  new = with_number (named e) (brings e) old

  -- where an edit is accepted: its cards pass, there is room, and they are laid
  record Done : Type 0 where
    list : List Answer
    brought : AllGiven (brings e)
    were : AllGiven old
    check : cards_from 0 0 new ≡ answers list
    few : length new ≤ 2_000
    room : size_of edit_layout (length new) ≤ length buffer
    after : register_after e buffer ≡ Ok (register_of new (leaders_of list))

  Refused : Type 0
  Refused = (sent : SentBack ℕ) × (register_after e buffer ≡ Err sent)

-- an edit is refused or accepted
module _ (e : Edit) (w : WholeCard e) (buffer : List ℕ) {l : Leaders} (ok : outcome_of (held buffer) enough ≡ Ok l) where
  after_is : register_after e buffer ≡ changed (named e) (takes e) (brings e) (cards_in (held buffer)) (length buffer)
  unfolding register_by
  after_is = ap (λ o. after_old o (changed (named e) (takes e) (brings e) (cards_in (held buffer)) (length buffer))) ok

  steps : Refused e buffer ⊎ Done e buffer
  unfolding changed register_with bad_capacity Refused
  steps =
      go (bad_presence (takes e) (is_there (named e) (cards_in (held buffer)))) (ltb 2_000 (length (new e buffer))) (ltb (length buffer) (size_of edit_layout (length (new e buffer)))) (cards_from 0 0 (new e buffer)) refl refl refl after_is
    where
      go : (a b c : Bool) (d : Cards) → ltb 2_000 (length (new e buffer)) ≡ b → ltb (length buffer) (size_of edit_layout (length (new e buffer))) ≡ c → cards_from 0 0 (new e buffer) ≡ d
          → register_after e buffer ≡ unless_bad a refusal.Presence (unless_bad (either b c) refusal.Capacity (laid (new e buffer) d))
          → Refused e buffer ⊎ Done e buffer
      go true b c d p q r z = inl (refused_at refusal.Presence 0, z)
      go false true c d p q r z = inl (refused_at refusal.Capacity 0, z)
      go false false true d p q r z = inl (refused_at refusal.Capacity 0, z)
      go false false false (sent_back r place) p q s z = inl (refused_at r place, z)
      go false false false (answers xs) p q s z =
          inr (record {
            list = xs;
            brought = brought_given e w;
            were = cards_given (held buffer) (accepted_fits (held buffer) enough l ok);
            check = s;
            few = ltb-false 2_000 (length (new e buffer)) p;
            room = ltb-false (length buffer) (size_of edit_layout (length (new e buffer))) q;
            after = z;
          })

-- what an accepted one leaves: the register of its cards, and zeros
module _ (e : Edit) (buffer : List ℕ) (d : Done e buffer) where
  abbrev register : List ℕ
  register = register_of (new e buffer) (leaders_of d.list)

  abbrev zeros : List ℕ
  zeros = replicate (length buffer - length register) 0

  abbrev next : List ℕ
  next = register ++ zeros

  given : AllGiven (new e buffer)
  given = each_with Given e (old e buffer) d.brought d.were

  held_is : held next ≡ register
  held_is = held_back (new e buffer) d.list given d.few d.check zeros

  next_accepted : StartsAccepted next
  next_accepted =
      (leaders_of d.list, ap (λ (b : List ℕ). outcome_of b enough) held_is ∙ accepts (new e buffer) d.list given d.few d.check)

  next_cards : cards_in (held next) ≡ edited e (old e buffer)
  unfolding edited
  next_cards = ap cards_in held_is ∙ cards_are (new e buffer) d.list given d.few d.check

  next_long : length next ≡ length buffer
  next_long =
      omega (arith, length-append register zeros, length-replicate {A = ℕ} (length buffer - length register) 0, length_is (new e buffer) d.list given d.few d.check, d.room)

  renewed : Renewed next
  renewed = record {
    version = ap version_of held_is ∙ version_is (new e buffer) d.list given d.few d.check;
    long = ap length held_is ∙ (size_is (new e buffer) d.list given d.few d.check ∙ ap (λ (b : List ℕ). 11 + 28 * count_of b) (sym held_is));
    zeros =
        ap (λ (b : List ℕ). drop (length b) next) held_is
        ∙ (rest_back (new e buffer) d.list given d.few d.check zeros
        ∙ ap₂ (λ n m. replicate (n - m) 0) (sym next_long) (sym (ap length held_is)));
  }

  longer : (card : List ℕ) → Contains (edited e (old e buffer)) card → length card ≡ 28
  unfolding edited
  longer card = each_there (λ c. length c ≡ 28) (map grown (new e buffer)) card (grown_sized (new e buffer) given)

  -- so what holds of the edits behind it holds of both
  in_front : {last : List ℕ} {done : List Edit} → Upheld next last done → Upheld buffer last (e ∷ done)
  unfolding applied
  in_front {last} {done} u = record {
    still = u.still;
    distances = u.distances;
    stored = inr (⊎_elim (λ (k : (done ≡ []) × (last ≡ next)). subst Renewed (sym k.1) renewed) (λ (k : Renewed last). k) u.stored);
    cards = u.cards ∙ ap (applied done) next_cards;
    stay = λ card other m.
        let known = each_there Given (old e buffer) card d.were m in
        let there = subst (λ (cards : List (List ℕ)). Contains cards (grown card)) (sym next_cards) (unnamed_stays card e (old e buffer) other.0 m) in
        let same = subst (λ n. NotNamed n done) (sym (grown_number card known)) other.1 in
        subst (Contains (cards_in (held last))) (kept_longer done (grown card) (grown_long card known)) (u.stay (grown card) same there);
    came = λ card other m.
        let rest = u.came card other.1 m in
        let there = subst (λ (cards : List (List ℕ)). Contains cards rest.0) next_cards rest.1 in
        let is : rest.0 ≡ card = sym (kept_longer done rest.0 (longer rest.0 there)) ∙ rest.2 in
        unnamed_was card e (old e buffer) d.brought d.were other.0 (subst (Contains (edited e (old e buffer))) is there);
    long = u.long ∙ next_long;
  }

-- ---- the list

pub edits_kept : EditsKept
unfolding after_all accepted applied Refused
edits_kept first [] s w = record {
  still = s;
  distances = λ k. kept_afresh (held first) s.1 k;
  stored = inl (refl, refl);
  cards = refl;
  stay = λ card other m. m;
  came = λ card other m. (card, m, refl);
  long = refl;
}
edits_kept first (e ∷ rest) s w = go (steps e w.0 first s.1) (λ b t. edits_kept b rest t w.1)
  where
    With : Result (List ℕ) (SentBack ℕ) → Type 0
    With r = Upheld first (after_all rest (left_by r first)) (join_if (length_of r) e (accepted rest (left_by r first)))

    go : Refused e first ⊎ Done e first → ((b : List ℕ) → StartsAccepted b → Upheld b (after_all rest b) (accepted rest b)) → With (register_after e first)
    go (inl k) ih = subst With (sym k.1) (ih first s)
    go (inr d) ih = subst With (sym d.after) (in_front e first d (ih (next e first d) (next_accepted e first d)))

-- ---- one edit, in plain words

pub refused_kept : RefusedKept
refused_kept e buffer sent = go (register_after e buffer)
  where
    go : (r : Result (List ℕ) (SentBack ℕ)) → length_of r ≡ Err sent → left_by r buffer ≡ buffer
    go (Ok register) q = clash (cc)
    go (Err other) q = refl

pub length_told : LengthTold
unfolding Refused
length_told e buffer n s w q = go (steps e w buffer s.1)
  where
    go : Refused e buffer ⊎ Done e buffer → n ≡ length (held (buffer_after e buffer))
    go (inl k) = clash (let z : Err k.0 ≡ Ok n = sym (ap length_of k.1) ∙ q in cc)
    go (inr d) =
        let told : Ok (length (register e buffer d)) ≡ Ok n = sym (ap length_of d.after) ∙ q in
        let z : n ≡ length (register e buffer d) = cc in
        z ∙ (sym (ap length (held_is e buffer d)) ∙ ap (λ r. length (held (left_by r buffer))) (sym d.after))
