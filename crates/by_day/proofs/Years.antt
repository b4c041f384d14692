-- The year: what the walk keeps of a register is what the definition says. The seasons of cards that are answered are good.
-- Assumes nothing.
use Rattle.std.specs.Prelude.{ℕ, zero, suc, ◌≡◌, refl, false, List, [], ◌∷◌, Result, Ok, Err}
use Rattle.std.proofs.Common.{◌∙◌, ap, subst}
use Rattle.search.specs.Laws.{clash}
use Rattle.refusals.specs.declared.Refusal.{Refusal}
use Rattle.seasons.specs.Seasons.{bad_season}
use Rattle.card.specs.declared.Class.TheVariants as class
use Rattle.card.specs.declared.Answer.{Answer}
use Rattle.card.specs.Answers.{answer_of}
use Rattle.card.specs.Number.{stocked, answer_season}
use Rattle.farthest.specs.Farthest.{leaders_after, leaders_from, leaders_of}
use Rattle.header.specs.Header.{enough, header_of, stored_in, cards_in}
use Rattle.cards.specs.Register.{Cards, answers, sent_back, then, cards_from, cards_of}
use Rattle.cards.proofs.Laws.{joined_is, settled_is}
use Rattle.tally.specs.Tally.{kept_after}
use Rattle.by_day.specs.declared.Year.{Year}
use Rattle.by_day.specs.Year.{year_from, result_year, year_behind, year_of}
use Rattle.by_day.specs.Kept.{before_year, year_after, kept_result, kept_behind, kept_of}
use Rattle.by_day.proofs.Earliest.{day_from}
use Rattle.by_day.proofs.Reached.{Good, walked_earliest}

-- ---- the seasons of answered cards

good_more : (a : Answer) (xs : List Answer) → bad_season a.season ≡ false → Good xs → Good (a ∷ xs)
good_more a xs here rest zero b h = ap (λ (y : Answer). bad_season y.season) h ∙ here
good_more a xs here rest (suc i) b h = rest i b h

good_from : (place last : ℕ) (cards : List (List ℕ)) (xs : List Answer) → cards_from place last cards ≡ answers xs → Good xs
unfolding cards_from
good_from place last [] [] e = λ i a h. absurd h
good_from place last [] (x ∷ xs) e = clash (cc)
good_from place last (card ∷ rest) xs e = go (answer_of card last) refl (λ a ys. good_from (suc place) a.number rest ys) e
  where
    go : (x : Result Answer Refusal) → answer_of card last ≡ x → ((a : Answer) (ys : List Answer) → cards_from (suc place) a.number rest ≡ answers ys → Good ys)
        → then x place (λ n. cards_from (suc place) n rest) ≡ answers xs → Good xs
    go (Ok a) q ih k =
        let j = joined_is a (cards_from (suc place) a.number rest) k in
        let here : bad_season a.season ≡ false = ap bad_season (answer_season card last q) ∙ (stocked card last q).season in
        subst Good j.2 (good_more a j.0 here (ih a j.0 j.1))
    go (Err r) q ih k = clash (cc)

-- of an accepted register no card has a day that is none of the year
pub good_seasons : (bytes : List ℕ) (xs : List Answer) → cards_of bytes ≡ answers xs → Good xs
unfolding cards_of
good_seasons bytes xs e = good_from 0 0 (cards_in bytes) xs (settled_is (stored_in bytes) (cards_from 0 0 (cards_in bytes)) e).0

-- ---- the walk

-- the leaders are those of all cards, and each class has its own day
year_kept : (xs : List Answer) (y : Year) → kept_after year_after y xs ≡ record {
  leaders = leaders_from y.leaders xs;
  toxic_day = day_from class.Toxic y.leaders.toxic y.toxic_day xs;
  flammable_day = day_from class.Flammable y.leaders.flammable y.flammable_day xs;
}
unfolding kept_after year_after leaders_from leaders_after
year_kept [] y = refl
year_kept (x ∷ xs) y = year_kept xs (year_after y x)

year_told : (xs : List Answer) → Good xs → kept_after year_after before_year xs ≡ year_from xs
unfolding year_from leaders_of
year_told xs good =
    year_kept xs before_year
    ∙ cc (walked_earliest class.Toxic xs good, walked_earliest class.Flammable xs good)

module _ (bytes : List ℕ) where
  cards_told : (c : Cards) → cards_of bytes ≡ c → kept_result year_after before_year c ≡ result_year c
  cards_told (answers xs) e = ap Ok (year_told xs (good_seasons bytes xs e))
  cards_told (sent_back r place) e = refl

  pub year_is : kept_of year_after before_year bytes ≡ year_of bytes
  unfolding kept_of year_of
  year_is = go (header_of bytes enough)
    where
      go : (h : Result ℕ Refusal) → kept_behind year_after before_year h bytes ≡ year_behind h bytes
      go (Ok n) = cards_told (cards_of bytes) refl
      go (Err r) = refl
