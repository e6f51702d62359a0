-- The first entries of a history, and what is possible of them.
use Rattle.std.proofs.Common.{◌≡◌, ℕ, zero, suc, ◌+◌, ◌<◌, ◌≤◌, List, [], ◌∷◌, Some, length, take, refl, sym, ap, ◌∙◌, subst, arith, slice_get}
use Rattle.std.proofs.lemmas.List.{length-take, take-take, take_min}
use Rattle.std.proofs.lemmas.Option.{none-some}
use Rattle.hep_replay.specs.Replays.{ArePossible, IsFirstImpossible, IsPossible}
use Rattle.hep_machine.specs.declared.event.Entry.{Entry}
use Rattle.hep_machine.specs.Words.{Units}

front-at : (k j : ℕ) (es : List Entry) → j < k → slice_get (take k es) j ≡ slice_get es j
front-at zero j es less = absurd (omega (arith, less))
front-at (suc k) j [] less = refl
front-at (suc k) zero (x ∷ es) less = refl
front-at (suc k) (suc j) (x ∷ es) less = front-at k j es (omega (arith, less))

-- of the first entries those at the front are the first ones
pub front-same : (k j : ℕ) (es : List Entry) → j < k → (slice_get (take k es) j ≡ slice_get es j) × (take j (take k es) ≡ take j es)
front-same k j es less = (front-at k j es less, take-take j k es (omega (arith, less)))

pub front-within : (k j : ℕ) (es : List Entry) (e : Entry) → slice_get (take k es) j ≡ Some e → j < k
front-within zero j es e at = absurd (none-some e at)
front-within (suc k) j [] e at = absurd (none-some e at)
front-within (suc k) zero (x ∷ es) e at = omega arith
front-within (suc k) (suc j) (x ∷ es) e at = omega (arith, front-within k j es e at)

-- so many are all of them
pub front-all : (k n : ℕ) (es : List Entry) → k ≡ length (take n es) → take k es ≡ take n es
front-all k n es all = ap (λ m. take m es) (all ∙ length-take n es) ∙ take_min n es

front-few : (n : ℕ) (es : List Entry) → length (take n es) ≤ n
front-few n es = omega (arith, length-take n es)

pub front-short : (n : ℕ) (es : List Entry) → length (take n es) ≤ length es
front-short n es = omega (arith, length-take n es)

module _ (program : Units) (cells k : ℕ) (entries : List Entry) where
  -- what is possible of them is possible
  pub possible-front : (m : ℕ) → m ≤ k → ArePossible program cells (take k entries) m → ArePossible program cells entries m
  possible-front m few possible j e less at =
      let same = front-same k j entries (omega (arith, few, less)) in
      subst (λ (es : List Entry). IsPossible program cells es e) same.1 (possible j e less (same.0 ∙ at))

  -- and what isn't is not
  pub first-of-front : (number : ℕ) → IsFirstImpossible program cells (take k entries) number → IsFirstImpossible program cells entries number
  first-of-front number bad =
      let less : bad.place < k = front-within k bad.place entries bad.entry bad.here in
      let same = front-same k bad.place entries less in
      record {
        place = bad.place;
        entry = bad.entry;
        counted = bad.counted;
        here = sym same.0 ∙ bad.here;
        before = possible-front bad.place (omega (arith, less)) bad.before;
        impossible = λ possible. bad.impossible (subst (λ (es : List Entry). IsPossible program cells es bad.entry) (sym same.1) possible);
      }

  -- what is possible among them is possible of them
  pub front-possible : (m : ℕ) → m ≤ length (take k entries) → ArePossible program cells entries m → ArePossible program cells (take k entries) m
  front-possible m few possible j e less at =
      let same = front-same k j entries (omega (arith, few, less, front-few k entries)) in
      subst (λ (es : List Entry). IsPossible program cells es e) (sym same.1) (possible j e less (sym same.0 ∙ at))

  -- and what isn't is not
  pub front-impossible : (number place : ℕ) (e : Entry) → number ≡ place + 1 → place < length (take k entries) → slice_get entries place ≡ Some e → ArePossible program cells entries place
      → (IsPossible program cells (take place entries) e → ⊥) → IsFirstImpossible program cells (take k entries) number
  front-impossible number place e counted less here before impossible =
      let same = front-same k place entries (omega (arith, less, front-few k entries)) in
      record {
        place = place;
        entry = e;
        counted = counted;
        here = same.0 ∙ here;
        before = front-possible place (omega (arith, less)) before;
        impossible = λ possible. impossible (subst (λ (es : List Entry). IsPossible program cells es e) same.1 possible);
      }
