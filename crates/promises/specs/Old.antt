-- Answers that are told as old (document 02, A7): none of an accepted register is, in whatever buffer. So a record that keeps answers from
-- before and from now can tell them apart.
-- Assumes nothing.
use Rattle.std.specs.Prelude.{ℕ, ◌*◌, ◌≤◌, ◌<◌, ◌≡◌, false, List, get_or, take, drop, Option, Some, None, Ok}
use Rattle.units.specs.declared.Miles.{Miles}
use Rattle.std.proofs.Common.{arith, ◌∙◌, sym, ap, ⊎_elim, get_or-take, get_or-drop, ne_eqb}
use Rattle.search.specs.Laws.{clash, lt_or_ge}
use Rattle.dispersion.specs.declared.Ground.{Ground}
use Rattle.dispersion.specs.Tables.{reading_of}
use Rattle.dispersion.proofs.Laws.{reading_none}
use Rattle.scenario.specs.declared.ToxicCard.{ToxicCard}
use Rattle.scenario.specs.declared.Scenario.{Scenario}
use Rattle.scenario.specs.Plan.{plan_of}
use Rattle.fields.specs.Layout.{fields_of}
use Rattle.seasons.specs.declared.Season.{Season}
use Rattle.seasons.specs.Seasons.{season_of}
use Rattle.meaning.specs.declared.Meaning.{Meaning}
use Rattle.meaning.specs.declared.Meaning.TheVariants as meaning
use Rattle.card.specs.declared.Answer.{Answer}
use Rattle.card.specs.Answers.{read_toxic, planned_answer, answer_by, answer_of}
use Rattle.card.specs.Number.{stocked}
use Rattle.buffer.specs.Numbers.{two_bytes, four_bytes}
use Rattle.encode.specs.Bytes.{answer_bytes, is_old}
use Rattle.farthest.specs.declared.Leaders.{Leaders}
use Rattle.header.specs.Header.{answer_size, count_of}
use Rattle.cards.specs.Register.{buffer_of}
use Rattle.ordering.specs.Order.{table_in}
use Rattle.ordering.specs.Claim.{Accepts}
use Rattle.promises.specs.Buffer.{buffer_at}

-- a table that answers is one of the first twelve
read_table : (g : Ground) (n : ℕ) (season : Season) (s : Scenario) {a : Answer} → read_toxic (reading_of s.table g s.rate.0 s.endpoint) n season s ≡ Ok a → a.table ≤ 12
read_table g n season s {a} e = ⊎_elim above (λ k. k) (lt_or_ge 12 a.table)
  where
    told : (x : Option Miles) → read_toxic x n season s ≡ Ok a → s.table ≡ a.table
    told (Some d) q = ap table_in q
    told None q = clash (cc)

    above : 12 < a.table → a.table ≤ 12
    above h =
        let same = told (reading_of s.table g s.rate.0 s.endpoint) e in
        let left = reading_none s.table g s.rate.0 s.endpoint (omega arith) in
        let sent : read_toxic None n season s ≡ Ok a = ap (λ x. read_toxic x n season s) (sym left) ∙ e in
        clash (cc)

plan_table : (p : Option Scenario) (n : ℕ) (season : Season) (card : ToxicCard) {a : Answer} → planned_answer p n season card ≡ Ok a → a.table ≤ 12
plan_table (Some s) n season card e = read_table card.topography n season s e
plan_table None n season card e = clash (cc)

meaning_table : (m : Meaning) (season : Season) (n : ℕ) {a : Answer} → answer_by m season n ≡ Ok a → a.table ≤ 12
meaning_table (meaning.Toxic card) season n e = plan_table (plan_of card) n season card e
meaning_table (meaning.Flammable card) season n e = let z = ap table_in e in omega arith

answer_table : (card : List ℕ) (last : ℕ) {a : Answer} → answer_of card last ≡ Ok a → a.table ≤ 12
answer_table card last e =
    let s = stocked card last e in
    meaning_table s.meaning (season_of card) (fields_of card).number s.answered

-- of an accepted register, the sixteen bytes of each answer in the buffer are told as new
pub none_old : (bytes out : List ℕ) (l : Leaders) → Accepts bytes out l → (i : ℕ) → i < count_of bytes
    → is_old (take answer_size (drop (answer_size * i) (buffer_of bytes out))) ≡ false
unfolding two_bytes four_bytes answer_bytes
none_old bytes out l e i h =
    let t = buffer_at bytes out l e i 5 h (omega arith) in
    let w = answer_table _ t.1 t.2 in
    let table : get_or (take 16 (drop (16 * i) (buffer_of bytes out))) 5 0 ≡ t.0.table =
    get_or-take 16 (drop (16 * i) (buffer_of bytes out)) 5 0 (omega arith) ∙ (get_or-drop (16 * i) (buffer_of bytes out) 5 0 ∙ t.3) in
    ne_eqb (get_or (take 16 (drop (16 * i) (buffer_of bytes out))) 5 0) 13
    (λ (z : get_or (take 16 (drop (16 * i) (buffer_of bytes out))) 5 0 ≡ 13). absurd (omega arith))
