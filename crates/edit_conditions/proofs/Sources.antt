-- Where the refusal of an edit comes from: the old register, 19 and 20, or the new card.
-- Assumes nothing.
use Rattle.std.specs.Prelude.{ℕ, ◌≡◌, refl, Bool, true, false, not, List, [], ◌∷◌, ◌++◌, map, ◌⊎◌, eqb, length, is_ok, Result, Ok, Err}
use Rattle.std.proofs.Common.{arith, ◌∙◌, sym, ap, subst, inl, inr, ⊎_elim, eqb-true}
use Rattle.std.proofs.lemmas.Bool.Decides.{nat_tests}
use Rattle.search.specs.Places.{every}
use Rattle.search.specs.Laws.{clash}
use Rattle.refusals.specs.declared.Refusal.{Refusal}
use Rattle.refusals.specs.declared.SentBack.{SentBack}
use Rattle.refusals.specs.Numbers.{number_of, refused_at}
use Rattle.farthest.specs.declared.Leaders.{Leaders}
use Rattle.header.specs.Header.{cards_in, enough}
use Rattle.cards.specs.Register.{outcome_of}
use Rattle.conditions.specs.Conditions.{Condition, condition, only, conditions_at}
use Rattle.conditions.specs.First.{Verdict, passed, refused, first_of, after, first_append, first_here, first_elsewhere}
use Rattle.conditions.specs.Claim.{number_in}
use Rattle.edits.specs.Edits.{Edit, held, edit_of}
use Rattle.edit_conditions.specs.EditConditions.{of_edit, new_place, last_before, of_brought, edit_lines, edit_at}
use Rattle.edit_conditions.specs.EditClaim.{OldAccepted}
use Rattle.edit_conditions.proofs.EditExactly.{Told, edit_told}

-- ---- what some conditions come to

-- none of some conditions has a refusal's number
abbrev pub Lack : Refusal → List Condition → Type 0
Lack r cs = every (λ k. not (eqb k (number_of r))) (map number_in cs) ≡ true

-- so they do not come to it
pub never : (r : Refusal) (cs : List Condition) → Lack r cs → first_of cs ≡ refused r → ⊥
unfolding first_of
never r [] e h = clash (cc)
never r (condition s b ∷ rest) e h = grind (arith, nat_tests, never r rest)

-- of two lists, one behind the other, one comes to it
one_of : (v w : Verdict) (r : Refusal) → after v w ≡ refused r → (v ≡ refused r) ⊎ (w ≡ refused r)
one_of passed w r h = inr h
one_of (refused s) w r h = inl h

pub either_list : (xs ys : List Condition) (r : Refusal) → first_of (xs ++ ys) ≡ refused r → (first_of xs ≡ refused r) ⊎ (first_of ys ≡ refused r)
either_list xs ys r h = one_of (first_of xs) (first_of ys) r (sym (first_append xs ys) ∙ h)

pub where_met : (b : Bool) (cs : List Condition) (r : Refusal) → first_of (only b cs) ≡ refused r → (b ≡ true) × (first_of cs ≡ refused r)
where_met true cs r h = (refl, sym (first_here cs) ∙ h)
where_met false cs r h = let z = first_elsewhere cs in clash (cc)

is_accepted : (o : Result Leaders (SentBack ℕ)) → is_ok o ≡ true → (l : Leaders) × (o ≡ Ok l)
is_accepted (Ok l) h = (l, refl)
is_accepted (Err sent) h = clash (cc)

-- an edit gives one number
number_told : Result ℕ (SentBack ℕ) → ℕ
number_told (Ok n) = 0
number_told (Err sent) = number_of sent.refusal

pub one_number : {x : Result ℕ (SentBack ℕ)} {r s : Refusal} {p q : ℕ} → x ≡ Err (refused_at r p) → x ≡ Err (refused_at s q) → number_of r ≡ number_of s
unfolding number_told
one_number h k = sym (ap number_told h) ∙ ap number_told k

-- ---- where a refusal comes from

module _ (e : Edit) (buffer : List ℕ) (r : Refusal) (place : ℕ) where
  abbrev old : List (List ℕ)
  old = cards_in (held buffer)

  -- it is one of the old register's, 19 or 20, or the new card's
  pub data Source : Type 0 where
    of_old : first_of (conditions_at (held buffer) enough place) ≡ refused r → Source
    of_both : OldAccepted buffer → place ≡ 0 → first_of (of_edit e old (length buffer)) ≡ refused r → Source
    of_new : OldAccepted buffer → place ≡ new_place e old → first_of (of_brought e (last_before e old)) ≡ refused r → Source

  pub source : edit_of e buffer ≡ Err (refused_at r place) → Source
  unfolding edit_at edit_lines
  source q =
      let t : first_of (edit_at e buffer place) ≡ refused r = (subst (Told (edit_at e buffer)) q (edit_told e buffer)).0 in
      ⊎_elim of_old
      (λ k.
      let w = where_met (is_ok (outcome_of (held buffer) enough)) (edit_lines e old (length buffer) place) r k in
      let o = is_accepted (outcome_of (held buffer) enough) w.0 in
      ⊎_elim
      (λ u. let v = where_met (eqb place 0) (of_edit e old (length buffer)) r u in of_both o (eqb-true place 0 v.0) v.1)
      (λ u. let v = where_met (eqb place (new_place e old)) (of_brought e (last_before e old)) r u in of_new o (eqb-true place (new_place e old) v.0) v.1)
      (either_list (only (eqb place 0) (of_edit e old (length buffer))) (only (eqb place (new_place e old)) (of_brought e (last_before e old))) r w.1))
      (either_list (conditions_at (held buffer) enough place) (only (is_ok (outcome_of (held buffer) enough)) (edit_lines e old (length buffer) place)) r t)
