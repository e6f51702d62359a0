-- 304, as one pass over a unit tells it.
use Rattle.std.proofs.Common.{◌≡◌, ◌<◌, get_or, drop, min, arith, ℕ, zero, suc, Bool, true, false, ◌&&◌, Option, Some, None, List, [], ◌∷◌, length, refl, ap, sym, ◌∙◌, if◌then◌else◌}
use Rattle.std.specs.Option.{option_map}
use Rattle.hep_machine.specs.Words.{Tree, Trees, with_list, Units, unit_at, dummies_of, names_of_occurrences, spelling, PureFunction, StateFunction, Occurrence, Statement, is_array, element, by_pure_function, word_in, pure_functions, state_functions}
use Rattle.hep_conditions.specs.Words.{FunctionTypes, KnownType, ActualClass, given_with_list, actual_class, all_given, fits_dummy, fit_dummies, fits_subroutine, is_asynchronous_scalar, type_of_tree}
use Rattle.hep_types.specs.CallPasses.{fits_unit}

pub fits_called : (functions : FunctionTypes) (program : Units) (unit : List Statement) (o : Option ℕ) (ts : List Tree)
    → fits_subroutine functions program unit o ts ≡ fits_unit functions unit (option_map (unit_at program) o) ts
fits_called functions program unit None ts = refl
fits_called functions program unit (Some u) ts = refl

pub fits_unit_called : (functions : FunctionTypes) (unit called : List Statement) (ps : List Occurrence) (ts : List Tree) → names_of_occurrences ps ≡ dummies_of called
    → fit_dummies called (names_of_occurrences ps) (all_given functions unit ts) ≡ fits_unit functions unit (Some called) ts
fits_unit_called functions unit called ps ts h = ap (λ xs. fit_dummies called xs (all_given functions unit ts)) h

-- only a name with a list that is an array's names an element
pub element_given : (functions : FunctionTypes) (unit : List Statement) (p : Occurrence) (ts : Trees)
    → is_asynchronous_scalar functions (actual_class functions unit (with_list p ts)) ≡ (p.name.asynchronous && is_array unit p.name)
element_given functions unit p ts =
    by (is_array unit p.name) (word_in pure_functions (spelling p.name)) (word_in state_functions (spelling p.name)) p.name.asynchronous (type_of_tree functions unit (with_list p ts))
  where
    by : (b : Bool) (o : Option PureFunction) (q : Option StateFunction) (a : Bool) (t : KnownType)
        → is_asynchronous_scalar functions (given_with_list functions unit (if b then element else by_pure_function o q) (record p.name { asynchronous = a }) t) ≡ (a && b)
    by true o q true t = refl
    by true o q false t = refl
    by false (Some f) q true t = refl
    by false (Some f) q false t = refl
    by false None (Some f) true t = refl
    by false None (Some f) false t = refl
    by false None None true None = refl
    by false None None true (Some t) = refl
    by false None None false None = refl
    by false None None false (Some t) = refl

-- ---- a loop over dummy and actual arguments

abbrev pub fit_from : FunctionTypes → List Statement → List Statement → List Occurrence → List Tree → ℕ → Bool
fit_from functions called unit ps ts n = fit_dummies called (names_of_occurrences (drop n ps)) (all_given functions unit (drop n ts))

turn : (functions : FunctionTypes) (called unit : List Statement) (ps : List Occurrence) (ts : List Tree) (n : ℕ) (p : Occurrence) (t : Tree)
    → n < length ps → n < length ts → p ≡ get_or ps n p → t ≡ get_or ts n t
    → fit_from functions called unit ps ts n ≡ (fits_dummy called p.name (actual_class functions unit t) && fit_from functions called unit ps ts (suc n))
turn functions called unit [] ts n p t a b e h = absurd (omega arith)
turn functions called unit (q ∷ ps) [] n p t a b e h = absurd (omega arith)
turn functions called unit (q ∷ ps) (u ∷ ts) zero p t a b e h = rw (e, h) refl
turn functions called unit (q ∷ ps) (u ∷ ts) (suc n) p t a b e h = turn functions called unit ps ts n p t (omega arith) (omega arith) e h

-- a turn of the loop, at the dummy argument p and the actual argument t, of which a test tells whether they fit
pub fit-turn : (functions : FunctionTypes) (called unit : List Statement) (ps : List Occurrence) (ts : List Tree) (n : ℕ) (p : Occurrence) (t : Tree) (g : ActualClass) (fits : Bool)
    → n < length ps → n < length ts → p ≡ get_or ps n p → t ≡ get_or ts n t → g ≡ actual_class functions unit t → fits ≡ fits_dummy called p.name g
    → fit_from functions called unit ps ts n ≡ (fits && fit_from functions called unit ps ts (suc n))
fit-turn functions called unit ps ts n p t g fits a b e h is_class is_fit =
    turn functions called unit ps ts n p t a b e h
    ∙ ap (λ f. f && fit_from functions called unit ps ts (suc n)) (sym (is_fit ∙ ap (fits_dummy called p.name) is_class))

-- the end, where there is no dummy or no actual argument more
pub fit-end : (functions : FunctionTypes) (called unit : List Statement) (ps : List Occurrence) (ts : List Tree) (n : ℕ) → n ≡ min (length ps) (length ts) → fit_from functions called unit ps ts n ≡ true
fit-end functions called unit [] ts zero e = refl
fit-end functions called unit [] ts (suc n) e = absurd (omega arith)
fit-end functions called unit (p ∷ ps) [] zero e = refl
fit-end functions called unit (p ∷ ps) [] (suc n) e = absurd (omega arith)
fit-end functions called unit (p ∷ ps) (t ∷ ts) zero e = absurd (omega arith)
fit-end functions called unit (p ∷ ps) (t ∷ ts) (suc n) e = fit-end functions called unit ps ts n (omega arith)
