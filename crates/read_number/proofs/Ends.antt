-- A CAS number by its three groups, as the code takes them, one read on from the other.
-- Assumes nothing.
use Rattle.std.specs.Prelude.{ℕ, ◌-◌, ◌≤◌, ◌≡◌, List, ◌++◌, length, take, drop, option_and_then}
use Rattle.std.proofs.Common.{arith, ap, ◌∙◌, le-leb, eq-eqb, length-drop}
use Rattle.std.proofs.Math.Seq.{take_all}
use Rattle.buffer.specs.Numbers.{byte_at}
use Rattle.numerals.specs.Numerals.{read_on, hyphened, unhyphened, cas_in}
use Rattle.numerals.proofs.Runs.{runs}

module _ (text : List ℕ) (long : 6 ≤ length text) where
  abbrev first : List ℕ
  first = take (length text - 5) text

  abbrev second : List ℕ
  second = take (length text - 2 - (length text - 4)) (drop (length text - 4) text)

  abbrev third : List ℕ
  third = take (length text - (length text - 1)) (drop (length text - 1) text)

  groups : unhyphened text ≡ first ++ (second ++ third)
  unfolding unhyphened
  groups =
      let two : length text - 2 - (length text - 4) ≡ 2 = omega arith in
      let all : third ≡ drop (length text - 1) text = take_all (length text - (length text - 1)) (drop (length text - 1) text) (omega (arith, length-drop (length text - 1) text)) in
      rw (two, all)

  pub cas_groups : byte_at text (length text - 5) ≡ 45 → byte_at text (length text - 2) ≡ 45
      → cas_in text ≡ option_and_then (λ v. option_and_then (λ w. read_on 4_294_967_295 w third) (read_on 4_294_967_295 v second)) (read_on 4_294_967_295 0 first)
  unfolding cas_in hyphened
  cas_groups e k =
      let digits : cas_in text ≡ read_on 4_294_967_295 0 (unhyphened text) =
      rw (le-leb 6 (length text) long, eq-eqb (byte_at text (length text - 5)) 45 e, eq-eqb (byte_at text (length text - 2)) 45 k, cas_in) in
      digits ∙ ap (read_on 4_294_967_295 0) groups ∙ simp runs
