-- What is stored leaves locations as they were that nothing which is named reaches.
use Rattle.std.specs.Result.{IfOk}
use Rattle.std.proofs.Common.{◌≡◌, ℕ, zero, suc, ◌+◌, ◌-◌, Bool, true, false, List, [], ◌∷◌, Some, Result, Ok, Err, refl, sym, ◌∙◌, subst, ◌&&◌, not}
use Rattle.std.proofs.lemmas.Bool.{cond_both}
use Rattle.hep_machine.specs.Words.{StateFunction, IsFull, IsEmpty, ValueOf, SetEmpty, WaitFull, Name, Value, Outcome, reading_asynchronous, setting_empty, waiting_full, signed_value, negated_value, combined_value, function_value}
use Rattle.hep_machine.specs.Words.{with_actual, with_actuals, is_array, is_nonempty, Redex, signing, negating, combining, applying, testing, Actual, evaluated, referred, Reference, Scope, element_of, location_in, location_of_name, storage_of}
use Rattle.hep_machine.specs.Words.{Cell, Location, Store, local, Answer, fails, answer_at, answer_of, answer_of_read_at, answer_of_test_at, by_result, store_after_both, store_after_purge, store_after_purge_at, store_after_purge_of, emptied_from, further, same_location, with_cell, with_empty}
use Rattle.hep_machine.specs.declared.event.Kind.{Kind}
use Rattle.hep_machine.specs.Access as access
use Rattle.hep_machine.specs.Evaluation.{reading}
use Rattle.hep_machine.specs.Step.{gives, waits}
use Rattle.hep_layout.proofs.Runs.{further-further}
use Rattle.hep_image.proofs.Variables.{further-none}

-- ---- further elements

module _ (Q : Location → Type 0) where
  -- what is stored there is the same in both
  abbrev pub Keeps : Store → Store → Type 0
  Keeps old new = (at : Location) → Q at → new at ≡ old at

  -- none of them is this location; nor is it further on in the same sequence
  abbrev pub Misses : Location → Type 0
  Misses at = (l : Location) → Q l → same_location l at ≡ false

  abbrev pub IsFree : Location → Type 0
  IsFree at = (k : ℕ) → Misses (further at k)

  free-here : (at : Location) → IsFree at → Misses at
  free-here at h = subst Misses (further-none at) (h 0)

  free-next : (at : Location) → IsFree at → IsFree (further at 1)
  free-next at h k = subst Misses (sym (further-further at 1 k)) (h (1 + k))

  pub keeps-all : (old : Store) → Keeps old old
  keeps-all old at q = refl

  pub keeps-with_cell : (old : Store) (at : Location) (cell : Cell) → Misses at → Keeps old (with_cell old at cell)
  keeps-with_cell old at cell h l q = rw (h l q) refl

  keeps-emptied : (count : ℕ) (at : Location) (old : Store) → IsFree at → Keeps old (emptied_from count at old)
  keeps-emptied zero at old h l q = refl
  keeps-emptied (suc count) at old h l q =
      keeps-emptied count (further at 1) (with_empty old at) (free-next at h) l q ∙ keeps-with_cell old at (access.purged_cell (old at)) (free-here at h) l q

  -- ---- values of actual arguments

  module _ (a : ℕ) (own : (x : Name) → Misses (local a x 1)) where
    keeps-with_actual : (old : Store) (x : Name) (y : Actual) → Keeps old (with_actual old a x y)
    keeps-with_actual old x (evaluated v) = keeps-with_cell old (local a x 1) (record { value = Some v; full = (old (local a x 1)).full }) (own x)
    keeps-with_actual old x (referred r) = keeps-all old

    pub keeps-with_actuals : (old : Store) (xs : List Name) (ys : List Actual) → Keeps old (with_actuals old a xs ys)
    keeps-with_actuals old [] ys l q = refl
    keeps-with_actuals old (x ∷ xs) [] l q = refl
    keeps-with_actuals old (x ∷ xs) (y ∷ ys) l q = keeps-with_actuals (with_actual old a x y) xs ys l q ∙ keeps-with_actual old x y l q

  -- ---- a redex

  abbrev pub GivesKept : Store → Answer → Type 0
  GivesKept old (gives v new) = Keeps old new
  GivesKept old (waits w) = Unit {0}
  GivesKept old (fails k) = Unit {0}

  abbrev pub OkMisses : Result Location Kind → Type 0
  OkMisses r = IfOk r Misses

  kept-by_result : (old : Store) (r : Result Value Kind) → GivesKept old (by_result r old)
  kept-by_result old (Ok v) = keeps-all old
  kept-by_result old (Err k) = tt

  pub kept-answer_at : (old : Store) (at : Location) (o : Outcome) → Misses at → GivesKept old (answer_at old at o)
  kept-answer_at old at (access.gives v) h = keeps-all old
  kept-answer_at old at (access.makes v cell) h = keeps-with_cell old at cell h
  kept-answer_at old at (access.waits full) h = tt
  kept-answer_at old at access.undefined h = tt

  kept-read : (asynchronous : Bool) (old : Store) (at : Result Location Kind) → OkMisses at → GivesKept old (answer_of_read_at asynchronous old at)
  kept-read asynchronous old (Err k) h = tt
  kept-read false old (Ok at) h = kept-answer_at old at (access.reading (old at)) h
  kept-read true old (Ok at) h = kept-answer_at old at (reading_asynchronous (old at)) h

  kept-test : (f : StateFunction) (old : Store) (at : Result Location Kind) → OkMisses at → GivesKept old (answer_of_test_at f old at)
  kept-test f old (Err k) h = tt
  kept-test IsFull old (Ok at) h = keeps-all old
  kept-test IsEmpty old (Ok at) h = keeps-all old
  kept-test ValueOf old (Ok at) h = kept-answer_at old at (access.reading (old at)) h
  kept-test SetEmpty old (Ok at) h = kept-answer_at old at (setting_empty (old at)) h
  kept-test WaitFull old (Ok at) h = kept-answer_at old at (waiting_full (old at)) h

  -- ---- where what names stand for is free

  module _ (scope : Scope) (free : (x : Name) → IsFree (storage_of scope x).start) where
    pub free-location : (x : Name) (subscripts : List Value) → OkMisses (location_of_name scope x subscripts)
    free-location x subscripts = by_element (element_of (storage_of scope x) subscripts) where
      by_element : (r : Result ℕ Kind) → OkMisses (location_in (storage_of scope x) r)
      by_element (Err k) = tt
      by_element (Ok m) = free x (m - 1)

    pub kept-answer : (old : Store) (r : Redex) → GivesKept old (answer_of scope old r)
    kept-answer old (reading r) = kept-read r.0.asynchronous old (location_of_name scope r.0 r.1) (free-location r.0 r.1)
    kept-answer old (signing s v) = kept-by_result old (signed_value s v)
    kept-answer old (negating v) = kept-by_result old (negated_value v)
    kept-answer old (combining o v w) = kept-by_result old (combined_value o v w)
    kept-answer old (applying f vs) = kept-by_result old (function_value f vs)
    kept-answer old (testing f r) = kept-test f old (location_of_name scope r.0 r.1) (free-location r.0 r.1)

    -- ---- PURGE

    abbrev pub OkKept : Store → Result Store Kind → Type 0
    OkKept old r = IfOk r (Keeps old)

    kept-purge_at : (old : Store) (at : Result Location Kind) → OkMisses at → OkKept old (store_after_purge_at old at)
    kept-purge_at old (Err k) h = tt
    kept-purge_at old (Ok at) h = keeps-with_cell old at (access.purged_cell (old at)) h

    kept-purge_of : (r : Reference) (old : Store) → OkKept old (store_after_purge_of scope r old)
    kept-purge_of r old =
        let all = storage_of scope r.0 in
        cond_both (is_array scope.unit r.0 && not (is_nonempty r.1)) (Ok (emptied_from all.rest all.start old)) (store_after_purge_at old (location_of_name scope r.0 r.1)) (OkKept old)
        (λ e. keeps-emptied all.rest all.start old (free r.0)) (λ e. kept-purge_at old (location_of_name scope r.0 r.1) (free-location r.0 r.1))

    pub kept-purge : (rs : List Reference) (first old : Store) → Keeps first old → OkKept first (store_after_purge scope rs old)
    kept-purge [] first old h = h
    kept-purge (r ∷ rs) first old h = by_first (store_after_purge_of scope r old) (kept-purge_of r old) (λ new k. kept-purge rs first new k) where
      by_first : (o : Result Store Kind) → OkKept old o → ((new : Store) → Keeps first new → OkKept first (store_after_purge scope rs new)) → OkKept first (store_after_both o (store_after_purge scope rs))
      by_first (Err k) l rest = tt
      by_first (Ok new) l rest = rest new (λ at q. l at q ∙ h at q)
