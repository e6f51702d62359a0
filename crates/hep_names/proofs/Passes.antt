-- Conditions of names, as one pass over a unit finds their violations.
use Rattle.std.proofs.Common.{◌≡◌, ◌<◌, ◌≤◌, get_or, arith, ℕ, zero, suc, Bool, true, false, Option, Some, None, List, [], ◌∷◌, ◌++◌, length, append-nil, refl, ap, sym, ◌∙◌, if◌then◌else◌, slice_get, MatchOption, IfSome}
use Rattle.std.specs.Bool.{◌==◌}
use Rattle.std.specs.Borrow.{Bor}
use Rattle.std.proofs.lemmas.Bool.Decides.{nat_tests}
use Rattle.std.specs.Option.{option_map, unwrap_or, option_copied}
use Rattle.std.specs.List.{flat_map}
use Rattle.hep_machine.specs.Words.{index_where, same_letters, letters_of, Tree, trees_of, Units, unit_at, dummies_of, names_of_occurrences, Occurrence, DataGroup, Form, Data, Assign, Purge, Statement}
use Rattle.std.proofs.lemmas.List.{length-map}
use Rattle.hep_conditions.specs.Words.{count_of, takes_actuals, targets_assigned, targets_in_data, targets_purged, targets_of_groups}
use Rattle.std.proofs.lemmas.Grind.{flat_map-append}
use Rattle.hep_names.specs.Parts.{takes_dummies, unknown_target, unknown_in_group, unknown_in_form}
use Rattle.std.proofs.lemmas.Option.{get_or_from_slice_get}

pub count_is_length : (ts : List Tree) → count_of (trees_of ts) ≡ length ts
count_is_length [] = refl
count_is_length (t ∷ ts) = ap suc (count_is_length ts)

pub takes_called : (program : Units) (o : Option ℕ) (n : ℕ) → takes_actuals program o n ≡ takes_dummies (option_map (unit_at program) o) n
takes_called program None n = refl
takes_called program (Some u) n = refl

-- the number that was found is one of an element
pub found-within : {A : Type 0} (test : A → Bool) (xs : List A) (k : ℕ) (d : A) → index_where test xs ≡ Some k → slice_get xs k ≡ Some (unwrap_or (slice_get xs k) d)
found-within test [] k d h = cc
found-within test (x ∷ xs) k d h = by (test x) (index_where test xs) h (λ j e. found-within test xs j d e)
  where
    later : (o : Option ℕ) (j : ℕ) → option_map suc o ≡ Some j → ((i : ℕ) → o ≡ Some i → slice_get xs i ≡ Some (unwrap_or (slice_get xs i) d)) → slice_get (x ∷ xs) j ≡ Some (unwrap_or (slice_get (x ∷ xs) j) d)
    later None j e f = cc
    later (Some i) j e f = let s : suc i ≡ j = cc in rw (← s) (f i refl)

    by : (b : Bool) (o : Option ℕ) → (if b then Some 0 else option_map suc o) ≡ Some k → ((i : ℕ) → o ≡ Some i → slice_get xs i ≡ Some (unwrap_or (slice_get xs i) d)) → slice_get (x ∷ xs) k ≡ Some (unwrap_or (slice_get (x ∷ xs) k) d)
    by true o e f = let s : 0 ≡ k = cc in rw (← s) refl
    by false o e f = later o k e f

groups-targets : (unit : List Statement) (line : ℕ) (gs : List DataGroup)
    → flat_map (unknown_in_group unit line) gs ≡ flat_map (unknown_target unit line) (targets_of_groups gs)
groups-targets unit line [] = refl
groups-targets unit line (g ∷ gs) =
    ap (λ vs. unknown_in_group unit line g ++ vs) (groups-targets unit line gs) ∙ sym (flat_map-append (unknown_target unit line) g.targets (targets_of_groups gs))

-- what is assigned, given a value or purged, form by form
pub unknown-targets : (unit : List Statement) (line : ℕ) (f : Form)
    → unknown_in_form unit line f ≡ flat_map (unknown_target unit line) (targets_assigned f ++ (targets_in_data f ++ targets_purged f))
unknown-targets unit line (Assign x t) = sym (append-nil (unknown_target unit line x))
unknown-targets unit line (Data gs) = groups-targets unit line gs ∙ ap (flat_map (unknown_target unit line)) (sym (append-nil (targets_of_groups gs)))
unknown-targets unit line (Purge ts) = refl
unknown-targets unit line _ = refl

pub dummies_counted : (ps : List Occurrence) (unit : List Statement) → names_of_occurrences ps ≡ dummies_of unit → length ps ≡ length (dummies_of unit)
dummies_counted ps unit h = sym (length-map ps (λ (p : Occurrence). p.name)) ∙ ap length h

-- ---- reading

pub within : {A : Type 0} (xs : List A) (k : ℕ) (u : A) → slice_get xs k ≡ Some u → k < length xs
within [] k u h = cc
within (x ∷ xs) zero u h = omega arith
within (x ∷ xs) (suc k) u h = let p = within xs k u h in omega arith

-- what was read is the element that is there
pub item-read : {A : Type 0} (P : Bor A → Type 0) (xs : List A) (k : ℕ) (r : Option (Bor A)) (u : A) → MatchOption r (length xs ≤ k) P
    → IfSome r (λ x. x.now ≡ get_or xs k x.now) → slice_get xs k ≡ Some u → option_copied r ≡ Some u
item-read P xs k None u m i h = let p = within xs k u h in absurd (omega arith)
item-read P xs k (Some x) u m i h = ap Some (i ∙ get_or_from_slice_get xs k u x.now h)

-- ---- letters

one-more : (n : ℕ) → (suc n == 0) ≡ false
one-more n = grind (arith, nat_tests)

pub empty-letters : (cs ws : List ℕ) → length cs < 1 → (length ws == 0) ≡ same_letters ws (letters_of cs)
empty-letters [] [] h = refl
empty-letters [] (w ∷ ws) h = one-more (length ws)
empty-letters (c ∷ cs) ws h = absurd (omega arith)
