-- A list of outcomes with one more, if it isn't there.
use Rattle.std.proofs.Common.{◌≡◌, ◌⊎◌, inl, inr, ℕ, zero, suc, ◌+◌, ◌<◌, ◌≤◌, Bool, true, false, true≢false, ◌||◌, if◌then◌else◌}
use Rattle.std.proofs.Common.{nat_eq, List}
use Rattle.std.proofs.Common.{[], ◌∷◌, ◌++◌, length, Some, refl, sym, ap, ◌∙◌, subst, arith, slice_get}
use Rattle.std.specs.List.{list_any}
use Rattle.std.specs.Str.{bytes_eq}
use Rattle.std.proofs.lemmas.Bool.{and_from, and_parts, cases_lt, eq-eqb, eqb-true}
use Rattle.std.proofs.lemmas.Option.{none-some, same_Some}
use Rattle.std.proofs.lemmas.Slice.Eq.{bytes_eq-Decides}
use Rattle.hep_source.proofs.Tests.{at-front, at-last}
use Rattle.hep_machine.specs.Words.{Units}
use Rattle.hep_explore.specs.Explored.{Found}
use Rattle.hep_explore.specs.Possible.{IsPossibleBy}
use Rattle.hep_explore.specs.FoundOutcomes.{AreListed, AreOutcomes, IsFoundBy, IsListed, IsOutcomeBy, KeepsFound, is_like, with_found}
use Rattle.hep_explore.specs.Searching.{IsPathTo, Known}
use Rattle.hep_fast.proofs.StepRows.{get-one-more}

-- ---- like outcomes

-- outcomes with the same status and lines are like each other
like_from : (a b : Found) → a.status ≡ b.status → a.lines ≡ b.lines → is_like a b ≡ true
like_from a b status lines =
    and_from (nat_eq a.status b.status) (bytes_eq a.lines b.lines) (eq-eqb a.status b.status status) (
    (bytes_eq-Decides a.lines b.lines).1 lines)

-- and those that are have them
like_is : (a b : Found) → is_like a b ≡ true → (a.status ≡ b.status) × (a.lines ≡ b.lines)
like_is a b like =
    let both = and_parts (nat_eq a.status b.status) (bytes_eq a.lines b.lines) like in
    (eqb-true a.status b.status both.0, (bytes_eq-Decides a.lines b.lines).0 both.1)

-- where one like it is among outcomes, it is at a place
like_among : (one : Found) (all : List Found) → list_any (is_like one) all ≡ true
    → (j : ℕ) × (found : Found) × (slice_get all j ≡ Some found) × (is_like one found ≡ true)
like_among one [] any = absurd (true≢false (sym any))
like_among one (f ∷ fs) any = by_first (is_like one f) refl (like_among one fs) any where
  by_first : (b : Bool) → is_like one f ≡ b
      → (list_any (is_like one) fs ≡ true → (j : ℕ) × (found : Found) × (slice_get fs j ≡ Some found) × (is_like one found ≡ true))
      → (b || list_any (is_like one) fs) ≡ true
      → (j : ℕ) × (found : Found) × (slice_get (f ∷ fs) j ≡ Some found) × (is_like one found ≡ true)
  by_first true like rest any = (0, f, refl, like)
  by_first false like rest any = let later = rest any in (suc later.0, later.1, later.2, later.3)

-- and else none of them is
none_among : (one : Found) (all : List Found) (j : ℕ) (found : Found) → list_any (is_like one) all ≡ false → slice_get all j ≡ Some found
    → is_like one found ≡ false
none_among one [] j found none here = absurd (none-some found here)
none_among one (f ∷ fs) j found none here =
    by_first (λ k any there. none_among one fs k found any there) (is_like one f) refl none j here
  where
    by_first : ((k : ℕ) → list_any (is_like one) fs ≡ false → slice_get fs k ≡ Some found → is_like one found ≡ false) → (b : Bool)
        → is_like one f ≡ b → (b || list_any (is_like one) fs) ≡ false → (j : ℕ) → slice_get (f ∷ fs) j ≡ Some found
        → is_like one found ≡ false
    by_first rest true like any j here = absurd (true≢false any)
    by_first rest false like any zero here = subst (λ x. is_like one x ≡ false) (same_Some f found here) like
    by_first rest false like any (suc j) here = rest j any here

-- ---- one more

module _ (program : Units) (cells : ℕ) (one : Found) (all : List Found) where
  -- the list with it, by whether one like it is there
  abbrev chosen : Bool → List Found
  chosen b = if b then all else all ++ one ∷ []

  -- the others stay
  pub with_kept : KeepsFound all (with_found one all)
  with_kept i found here = by_any (list_any (is_like one) all) where
    by_any : (b : Bool) → slice_get (chosen b) i ≡ Some found
    by_any true = here
    by_any false = at-front all (one ∷ []) i found here

  -- it, or one like it, is there
  pub with_there : (j : ℕ) × (found : Found) × (slice_get (with_found one all) j ≡ Some found) × (one.status ≡ found.status)
      × (one.lines ≡ found.lines)
  with_there = by_any (list_any (is_like one) all) refl where
    by_any : (b : Bool) → list_any (is_like one) all ≡ b
        → (j : ℕ) × (found : Found) × (slice_get (chosen b) j ≡ Some found) × (one.status ≡ found.status) × (one.lines ≡ found.lines)
    by_any true any =
        let there = like_among one all any in
        let same = like_is one there.1 there.3 in
        (there.0, there.1, there.2, same.0, same.1)
    by_any false any = (length all, one, at-last all one, refl, refl)

  -- they are outcomes still
  pub with_outcomes : IsFoundBy program cells one → AreOutcomes program cells all → AreOutcomes program cells (with_found one all)
  with_outcomes is are = by_any (list_any (is_like one) all) refl where
    different : list_any (is_like one) all ≡ false → (i j : ℕ) (a b : Found) → (slice_get all i ≡ Some a) ⊎ ((i ≡ length all) × (one ≡ a))
        → (slice_get all j ≡ Some b) ⊎ ((j ≡ length all) × (one ≡ b)) → a.status ≡ b.status → a.lines ≡ b.lines → i ≡ j
    different any i j a b (inl first) (inl second) status lines = are.different i j a b first second status lines
    different any i j a b (inl first) (inr new) status lines =
        absurd (true≢false (
        sym (like_from one a (ap (λ (f : Found). f.status) new.1 ∙ sym status) (ap (λ (f : Found). f.lines) new.1 ∙ sym lines))
        ∙ none_among one all i a any first))
    different any i j a b (inr new) (inl second) status lines =
        absurd (true≢false (
        sym (like_from one b (ap (λ (f : Found). f.status) new.1 ∙ status) (ap (λ (f : Found). f.lines) new.1 ∙ lines))
        ∙ none_among one all j b any second))
    different any i j a b (inr first) (inr second) status lines = first.0 ∙ sym second.0

    each : (i : ℕ) (found : Found) → (slice_get all i ≡ Some found) ⊎ ((i ≡ length all) × (one ≡ found)) → IsFoundBy program cells found
    each i found (inl was) = are.each i found was
    each i found (inr new) = subst (IsFoundBy program cells) new.1 is

    by_any : (b : Bool) → list_any (is_like one) all ≡ b → AreOutcomes program cells (chosen b)
    by_any true any = are
    by_any false any =
        record {
          each = λ i found here. each i found (get-one-more all one i found here);
          different = λ i j a b first second. different any i j a b (get-one-more all one i a first) (get-one-more all one j b second);
        }

-- there are none yet
pub no_outcomes : (program : Units) (cells : ℕ) → AreOutcomes program cells []
no_outcomes program cells = record {
  each = λ i found here. absurd (none-some found here);
  different = λ i j a b first. absurd (none-some a first);
}

-- ---- the outcomes of choices and of states

module _ (program : Units) (cells : ℕ) where
  -- the outcome of choices is among the others once it is added
  pub listed_by : (choices : List ℕ) (one : Found) (all : List Found) → one.choices ≡ choices → IsFoundBy program cells one
      → IsOutcomeBy program cells choices (with_found one all)
  listed_by choices one all by is =
      let there = with_there program cells one all in
      record {
        outcome = is.outcome;
        possible = subst (λ cs. IsPossibleBy program cells cs is.outcome) by is.possible;
        place = there.0;
        found = there.1;
        at = there.2;
        is_found = record { status = sym there.3 ∙ is.is_found.status; lines = sym there.4 ∙ is.is_found.lines };
      }

  -- what is listed stays listed
  by_on : (choices : List ℕ) (old new : List Found) → KeepsFound old new → IsOutcomeBy program cells choices old
      → IsOutcomeBy program cells choices new
  by_on choices old new keeps one =
      record {
        outcome = one.outcome;
        possible = one.possible;
        place = one.place;
        found = one.found;
        at = keeps one.place one.found one.at;
        is_found = one.is_found;
      }

  pub all_on : (s : Known) (n : ℕ) (old new : List Found) → KeepsFound old new → AreListed program cells s n old
      → AreListed program cells s n new
  all_on s n old new keeps listed k i less at =
      let one = listed k i less at in
      record { choices = one.choices; path = one.path; listed = by_on one.choices old new keeps one.listed }

  -- of the first states and the next one
  pub all_more : (s : Known) (n i : ℕ) (old new : List Found) → KeepsFound old new → AreListed program cells s n old
      → slice_get s.ended n ≡ Some i → (choices : List ℕ) → IsPathTo program s i choices → IsOutcomeBy program cells choices new
      → AreListed program cells s (n + 1) new
  all_more s n i old new keeps listed here choices path one k j less at = by_place (cases_lt k n) where
    by_place : (k < n) ⊎ (n ≤ k) → IsListed program cells s j new
    by_place (inl first) = all_on s n old new keeps listed k j first at
    by_place (inr last) =
        let same : n ≡ k = omega arith in
        let state : i ≡ j = same_Some i j (sym here ∙ (ap (slice_get s.ended) same ∙ at)) in
        subst (λ x. IsListed program cells s x new) state (record { choices = choices; path = path; listed = one })
