-- The first of some conditions that holds: one general law for every list of them.
-- Assumes nothing.
use Rattle.std.specs.Prelude.{ℕ, zero, suc, ◌<◌, ◌≡◌, refl, Bool, true, false, List, [], ◌∷◌, ◌++◌}
use Rattle.std.proofs.Common.{le_of_suc-le-suc, not-suc-le-zero, ◌∙◌, sym, ap}
use Rattle.search.specs.Laws.{clash}
use Rattle.refusals.specs.declared.Refusal.{Refusal}
use Rattle.conditions.specs.Conditions.{Condition, condition, only}

-- whether the condition in a line holds, lines counted from 0; behind the last line none does
abbrev pub holds_in : List Condition → ℕ → Bool
holds_in [] line = false
holds_in (condition r b ∷ rest) zero = b
holds_in (condition r b ∷ rest) (suc line) = holds_in rest line

-- the line is there and names the refusal
abbrev pub Names : List Condition → ℕ → Refusal → Type 0
Names [] line r = ⊥
Names (condition s b ∷ rest) zero r = s ≡ r
Names (condition s b ∷ rest) (suc line) r = Names rest line r

-- what some conditions come to: none holds, or the first that does
pub data Verdict : Type 0 where
  passed : Verdict
  refused : Refusal → Verdict

abbrev pub pick : Bool → Refusal → Verdict → Verdict
pick true r further = refused r
pick false r further = further

unfoldable pub first_of : List Condition → Verdict
first_of [] = passed
first_of (condition r b ∷ rest) = pick b r (first_of rest)

-- a line names the refusal, its condition holds, and no condition above it does
pub record Leading (cs : List Condition) (r : Refusal) : Type 0 where
  pub line : ℕ
  pub names : Names cs line r
  pub holds : holds_in cs line ≡ true
  pub above : (i : ℕ) → i < line → holds_in cs i ≡ true → ⊥

-- where none is first, none holds
pub none_holds : (cs : List Condition) → first_of cs ≡ passed → (i : ℕ) → holds_in cs i ≡ true → ⊥
unfolding first_of
none_holds [] e i h = clash (cc)
none_holds (condition r true ∷ rest) e i h = clash (cc)
none_holds (condition r false ∷ rest) e zero h = clash (cc)
none_holds (condition r false ∷ rest) e (suc i) h = none_holds rest e i h

-- the first leads
pub first_leads : (cs : List Condition) (r : Refusal) → first_of cs ≡ refused r → Leading cs r
unfolding first_of
first_leads [] r e = clash (cc)
first_leads (condition s true ∷ rest) r e =
    record { line = 0; names = named e; holds = refl; above = λ i h. absurd (not-suc-le-zero h) }
  where
    named : {a b : Refusal} → refused a ≡ refused b → a ≡ b
    named q = cc
first_leads (condition s false ∷ rest) r e =
    let l = first_leads rest r e in
    record { line = suc l.line; names = l.names; holds = l.holds; above = λ i. over l i }
  where
    over : (l : Leading rest r) (i : ℕ) → i < suc l.line → holds_in (condition s false ∷ rest) i ≡ true → ⊥
    over l zero h q = clash (cc)
    over l (suc i) h q = l.above i (le_of_suc-le-suc h) q

-- a line names one refusal
pub names_one : (cs : List Condition) (line : ℕ) (r s : Refusal) → Names cs line r → Names cs line s → r ≡ s
names_one [] line r s p q = absurd p
names_one (condition t b ∷ rest) zero r s p q = sym p ∙ q
names_one (condition t b ∷ rest) (suc line) r s p q = names_one rest line r s p q

-- two lists one after the other
abbrev pub after : Verdict → Verdict → Verdict
after passed v = v
after (refused r) v = refused r

pub after_passed : (v : Verdict) → after v passed ≡ v
after_passed passed = refl
after_passed (refused r) = refl

pub first_append : (xs ys : List Condition) → first_of (xs ++ ys) ≡ after (first_of xs) (first_of ys)
unfolding first_of
first_append [] ys = refl
first_append (condition r true ∷ rest) ys = refl
first_append (condition r false ∷ rest) ys = first_append rest ys

-- conditions that hold only where a test passes
pub first_here : (cs : List Condition) → first_of (only true cs) ≡ first_of cs
unfolding first_of only
first_here [] = refl
first_here (condition r b ∷ rest) = ap (pick b r) (first_here rest)

pub first_elsewhere : (cs : List Condition) → first_of (only false cs) ≡ passed
unfolding first_of only
first_elsewhere [] = refl
first_elsewhere (condition r b ∷ rest) = first_elsewhere rest
