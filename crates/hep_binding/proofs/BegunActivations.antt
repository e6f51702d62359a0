-- The activation that a CALL, a CREATE or a reference makes, and what its dummy arguments stand for.
use Rattle.std.proofs.Common.{◌≡◌, ℕ, ◌+◌, ◌-◌, ◌<◌, Bool, true, false, List, [], ◌∷◌, length, Option, Some, None, Result, Ok, Err, refl, sym, ap, ◌∙◌, subst, arith, zero, suc, ◌++◌, if◌then◌else◌, nat_eq, eqb-true, eq-eqb, length-append}
use Rattle.hep_machine.specs.Words.{Name, Statement, Units, dummies_of, unit_at, Binding, binding_for, binding_with_shapes, bound_values, dummies_for, dummy_before, dummy_for, dummy_with_shape, first_element, from_element, with_actuals, with_shape, with_shapes, with_store, shape_by, is_array, Actual, evaluated}
use Rattle.hep_machine.specs.Words.{referred, Layout, Scope, storage_of, dummy_at, Bounds, fits, Dummy, State, Store, local, Activation, further, with_value, activation_of, unit_of, is_owned, next_activation, scope_of}
use Rattle.hep_machine.specs.declared.event.Kind.{Kind}
use Rattle.hep_machine.specs.declared.event.Kind.TheVariants.{Shape}
use Rattle.hep_layout.specs.Words.{RunsFrom, IsLaid, also, frame_from, is_stacked}
use Rattle.hep_layout.proofs.Passed.{IsMadeScope, made-further, made-storage}
use Rattle.hep_step.specs.declared.dummy_storage.DummyStorage.{DummyStorage}
use Rattle.hep_step.specs.declared.dummy_storage.DummyStorage.TheVariants as given
use Rattle.hep_binding.specs.Calling.{AreActualsPassed, AreAllKept, ArePassed, CallOf, IsPassed, layout_with, IsPassing, called_activation, state_before_call, state_begun, unit_begun}
use Rattle.hep_binding.specs.ActualArguments.{AreGiven, IsGiven, with_given}
use Rattle.hep_layout.proofs.Storages.{same-ok}
use Rattle.hep_image.proofs.Activations.{not-owned}
use Rattle.hep_machine.proofs.Ages.{aged, on_stack_made}
use Rattle.hep_layout.proofs.Memory.{activation-kept, activation-last, unmade}
use Rattle.hep_layout.proofs.Runs.{runs-entered}
use Rattle.hep_layout.proofs.FrameTree.{stacked-on, stacked-top}
use Rattle.hep_image.specs.BoundActivations.{AreKept}
use Rattle.hep_arena.specs.Gaps.{frame_among}
use Rattle.hep_layout.proofs.Frames.{among-with_frame}
use Rattle.hep_layout.proofs.References.{references-made, unset-ahead}
use Rattle.hep_layout.proofs.Stacks.{top-numbered}
use Rattle.hep_proc.specs.FrameTable.{IsBegun}
use Rattle.hep_binding.specs.FrameWriting.{IsBinding}
use Rattle.hep_code.specs.Sources.{IsNamedOnce}

-- ---- what a binding stores

pub given-stored : (program : Units) (s : State) (layout : Layout) (scope : Scope) (store : Store) (a : ℕ) (xs : List Name) (ys : List Actual) (gs : List DummyStorage) → AreActualsPassed program s layout scope ys gs → with_actuals store a xs ys ≡ with_given store a xs gs
given-stored program s layout scope store a [] ys gs h = refl
given-stored program s layout scope store a (x ∷ xs) [] [] h = refl
given-stored program s layout scope store a (x ∷ xs) (evaluated v ∷ ys) (given.Value w ∷ gs) h =
    given-stored program s layout scope (with_value store (local a x 1) (Some v)) a xs ys gs h.1 ∙ ap (λ z. with_given (with_value store (local a x 1) (Some z)) a xs gs) h.0
given-stored program s layout scope store a (x ∷ xs) (referred r ∷ ys) (given.Units first count ∷ gs) h = given-stored program s layout scope store a xs ys gs h.1
given-stored program s layout scope store a (x ∷ xs) (evaluated v ∷ ys) (given.Units first count ∷ gs) h = absurd h.0
given-stored program s layout scope store a (x ∷ xs) (referred r ∷ ys) (given.Value w ∷ gs) h = absurd h.0
given-stored program s layout scope store a (x ∷ xs) _ _ h = absurd h

pub bound-store : (scope : Scope) (store : Store) (unit : List Statement) (a : ℕ) (ys : List Actual) (b : Binding) → binding_for scope store unit a ys ≡ Ok b → b.store ≡ with_actuals store a (dummies_of unit) ys
bound-store scope store unit a ys b = by_dummies (dummies_for scope a (dummies_of unit) ys) where
  by_shapes : (new : Store) (ds : Result (List Dummy) Kind) → with_store new ds ≡ Ok b → b.store ≡ new
  by_shapes new (Err k) e = absurd cc
  by_shapes new (Ok ds) e = let same : record { dummies = ds; store = new } ≡ b = same-ok (record { dummies = ds; store = new }) b e in ap (λ (z : Binding). z.store) (sym same)

  by_dummies : (ds : Result (List Dummy) Kind) → binding_with_shapes unit a (with_actuals store a (dummies_of unit) ys) ds ≡ Ok b → b.store ≡ with_actuals store a (dummies_of unit) ys
  by_dummies (Err k) e = absurd cc
  by_dummies (Ok ds) e =
      let new = with_actuals store a (dummies_of unit) ys in
      by_shapes new (with_shapes (record { unit = unit; number = a; dummies = ds }) new (dummies_of unit) ds) e

-- ---- what its dummy arguments stand for

module _ (program : Units) (s : State) (layout : Layout) (scope : Scope) (n a : ℕ) (made : IsMadeScope n scope) (less : n < a) where
  abbrev IfGiven : List Name → List DummyStorage → Result (List Dummy) Kind → Type 0
  IfGiven xs gs (Err k) = Unit {0}
  IfGiven xs gs (Ok ds) = AreGiven program s layout a xs ds gs

  abbrev IfOneGiven : Name → DummyStorage → Result Dummy Kind → Type 0
  IfOneGiven x g (Err k) = Unit {0}
  IfOneGiven x g (Ok d) = IsGiven program s layout a x d g

  one-before : (x : Name) (xs : List Name) (g : DummyStorage) (gs : List DummyStorage) (d : Result Dummy Kind) (ds : Result (List Dummy) Kind) → IfOneGiven x g d → IfGiven xs gs ds → IfGiven (x ∷ xs) (g ∷ gs) (dummy_before d ds)
  one-before x xs g gs (Err k) ds h l = tt
  one-before x xs g gs (Ok d) (Err k) h l = tt
  one-before x xs g gs (Ok d) (Ok ds) h l = (h, l)

  -- before they have shapes
  one-given : (x : Name) (y : Actual) (g : DummyStorage) → IsPassed program s layout scope y g → IfOneGiven x g (dummy_for scope a x y)
  one-given x (evaluated v) (given.Value w) h = refl
  one-given x (referred r) (given.Units first count) h = by_element (first_element scope r) h.1 where
    by_element : (o : Result ℕ Kind) → ((d : Dummy) → from_element (storage_of scope r.0) o ≡ Ok d → (d.rest ≡ count) × RunsFrom program s layout d.start count first) → IfOneGiven x (given.Units first count) (from_element (storage_of scope r.0) o)
    by_element (Err k) runs = tt
    by_element (Ok m) runs =
        let begins = further (storage_of scope r.0).start (m - 1) in
        let there = runs (record { start = begins; rest = ((storage_of scope r.0).rest + 1) - m; shape = [] }) refl in
        (not-owned n a begins less (made-further n (storage_of scope r.0).start (m - 1) (made-storage n scope r.0 made)), h.0, there.0, there.1)
  one-given x (evaluated v) (given.Units first count) h = absurd h
  one-given x (referred r) (given.Value w) h = absurd h

  all-given : (xs : List Name) (ys : List Actual) (gs : List DummyStorage) → length ys ≡ length xs → AreActualsPassed program s layout scope ys gs → IfGiven xs gs (dummies_for scope a xs ys)
  all-given [] [] [] e h = tt
  all-given (x ∷ xs) (y ∷ ys) (g ∷ gs) e h =
      one-before x xs g gs (dummy_for scope a x y) (dummies_for scope a xs ys) (one-given x y g h.0) (all-given xs ys gs (omega (arith, e)) h.1)
  all-given [] (y ∷ ys) gs e h = absurd (omega (arith, e))
  all-given (x ∷ xs) [] gs e h = absurd (omega (arith, e))
  all-given _ _ _ e h = absurd h

  -- and once they have
  same-given : (x : Name) (d : Dummy) (bs : Bounds) (g : DummyStorage) → IsGiven program s layout a x d g → IsGiven program s layout a x (record d { shape = bs }) g
  same-given x d bs (given.Value v) h = h
  same-given x d bs (given.Units first count) h = h

  shaped-given : (x : Name) (d : Dummy) (o : Option Bounds) (g : DummyStorage) → IsGiven program s layout a x d g → IfOneGiven x g (dummy_with_shape d o)
  shaped-given x d None g h = tt
  shaped-given x d (Some bs) g h = by_fit (fits bs d.rest) where
    by_fit : (b : Bool) → IfOneGiven x g (if b then Ok (record d { shape = bs }) else Err Shape)
    by_fit true = same-given x d bs g h
    by_fit false = tt

  with-shape : (new : Scope) (store : Store) (x : Name) (d : Dummy) (g : DummyStorage) → IsGiven program s layout a x d g → IfOneGiven x g (with_shape new store x d)
  with-shape new store x d g h = by_kind (is_array new.unit x) where
    by_kind : (b : Bool) → IfOneGiven x g (if b then dummy_with_shape d (shape_by new.unit (bound_values new store) x) else Ok d)
    by_kind true = shaped-given x d (shape_by new.unit (bound_values new store) x) g h
    by_kind false = h

  with-shapes : (new : Scope) (store : Store) (xs : List Name) (ds : List Dummy) (gs : List DummyStorage) → AreGiven program s layout a xs ds gs → IfGiven xs gs (with_shapes new store xs ds)
  with-shapes new store [] [] [] h = tt
  with-shapes new store (x ∷ xs) (d ∷ ds) (g ∷ gs) h =
      one-before x xs g gs (with_shape new store x d) (with_shapes new store xs ds) (with-shape new store x d g h.0) (with-shapes new store xs ds gs h.1)
  with-shapes new store _ _ _ h = absurd h

  -- those of a binding
  pub bound-given : (store : Store) (unit : List Statement) (ys : List Actual) (gs : List DummyStorage) (b : Binding) → length ys ≡ length (dummies_of unit) → AreActualsPassed program s layout scope ys gs → binding_for scope store unit a ys ≡ Ok b
      → AreGiven program s layout a (dummies_of unit) b.dummies gs
  bound-given store unit ys gs b many h = by_dummies (dummies_for scope a (dummies_of unit) ys) (all-given (dummies_of unit) ys gs many h) where
    by_shapes : (new : Store) (ds : Result (List Dummy) Kind) → IfGiven (dummies_of unit) gs ds → with_store new ds ≡ Ok b → AreGiven program s layout a (dummies_of unit) b.dummies gs
    by_shapes new (Err k) l e = absurd cc
    by_shapes new (Ok ds) l e =
        let same : record { dummies = ds; store = new } ≡ b = same-ok (record { dummies = ds; store = new }) b e in
        subst (λ (z : Binding). AreGiven program s layout a (dummies_of unit) z.dummies gs) same l

    by_dummies : (ds : Result (List Dummy) Kind) → IfGiven (dummies_of unit) gs ds → binding_with_shapes unit a (with_actuals store a (dummies_of unit) ys) ds ≡ Ok b → AreGiven program s layout a (dummies_of unit) b.dummies gs
    by_dummies (Err k) l e = absurd cc
    by_dummies (Ok ds) l e =
        let new = with_actuals store a (dummies_of unit) ys in
        let inner : Scope = record { unit = unit; number = a; dummies = ds } in
        by_shapes new (with_shapes inner new (dummies_of unit) ds) (with-shapes inner new (dummies_of unit) ds gs l) e

-- ---- what dummy arguments stand for is still kept where the frame has entered

-- somewhere
abbrev KeptSomewhere : Units → State → Layout → Dummy → Type 0
KeptSomewhere program s layout d = (base : ℕ) × RunsFrom program s layout d.start d.rest base

-- what is given is others' storage units, or an expression's value, which is the activation's own
kept-one : (program : Units) (s : State) (layout : Layout) (a : ℕ) (x : Name) (d : Dummy) (g : DummyStorage) → IsGiven program s layout a x d g → is_owned a d.start ≡ false → KeptSomewhere program s layout d
kept-one program s layout a x d (given.Value v) h other = absurd (let both : true ≡ false = sym (ap (is_owned a) h ∙ eq-eqb a a refl) ∙ other in cc)
kept-one program s layout a x d (given.Units first count) h other = (first, subst (λ n. RunsFrom program s layout d.start n first) (sym h.2) h.3)

pub kept-given : (program : Units) (s : State) (layout : Layout) (a : ℕ) (xs : List Name) (ds : List Dummy) (gs : List DummyStorage) (k : ℕ) → AreGiven program s layout a xs ds gs → is_owned a (dummy_at ds k).start ≡ false → KeptSomewhere program s layout (dummy_at ds k)
kept-given program s layout a [] [] [] k h other = (0, λ i less. absurd (omega (arith, less)))
kept-given program s layout a (x ∷ xs) (d ∷ ds) (g ∷ gs) zero h other = kept-one program s layout a x d g h.0 other
kept-given program s layout a (x ∷ xs) (d ∷ ds) (g ∷ gs) (suc k) h other = kept-given program s layout a xs ds gs k h.1 other
kept-given program s layout a _ _ _ k h other = absurd h

module _ (call : CallOf) (t : State) (layout : Layout) (first cells : ℕ) (laid : IsLaid call.program (state_before_call call) cells layout) (more : t.activations ≡ (state_begun call).activations)
    (new : activation_of t (length t.activations) ≡ called_activation call) (kept : AreAllKept call.program (state_before_call call) layout) where
  abbrev program : Units
  program = call.program

  abbrev s : State
  s = state_before_call call

  abbrev x : Activation
  x = called_activation call

  entered : (d : Dummy) → KeptSomewhere program s layout d → KeptSomewhere program t (layout_with program t layout first) d
  entered d h = (h.0, runs-entered program s t x layout first cells d.start d.rest h.0 laid more h.1)

  abbrev KeptAs : ℕ → List Dummy → Type 0
  KeptAs a ds = (k : ℕ) → is_owned a (dummy_at ds k).start ≡ false → KeptSomewhere program t (layout_with program t layout first) (dummy_at ds k)

  pub kept-entered : (xs : List Name) (gs : List DummyStorage) → AreGiven call.program (state_before_call call) layout (length t.activations) xs call.binding.dummies gs
      → (a : ℕ) → also (length t.activations) (is_stacked (state_before_call call)) a ≡ true → AreKept call.program t (layout_with call.program t layout first) a
  kept-entered xs gs given_are a = by_number (nat_eq a (length t.activations)) refl where
    by_number : (b : Bool) → nat_eq a (length t.activations) ≡ b → (if b then true else is_stacked s a) ≡ true → AreKept program t (layout_with program t layout first) a
    by_number true e on =
        let n = length t.activations in
        subst (λ z. AreKept program t (layout_with program t layout first) z) (sym (eqb-true a n e)) (
        subst (λ (z : Activation). KeptAs n z.dummies) (sym new) (λ k other. entered (dummy_at x.dummies k) (kept-given program s layout n xs x.dummies gs k given_are other)))
    by_number false e on =
        let le = (on_stack_made s a (aged program call.choices) (stacked-on s a on)).1 in
        subst (λ (z : Activation). KeptAs a z.dummies) (sym (activation-kept s t x a more le)) (λ k other. entered (dummy_at (activation_of s a).dummies k) (kept a on k other))

-- ---- the new activation: it begins with nothing stored, and its dummy arguments stand for what is given

-- what was given stays where it is when the frame enters
module _ (program : Units) (s t : State) (x : Activation) (layout : Layout) (first cells : ℕ) (laid : IsLaid program s cells layout) (more : t.activations ≡ s.activations ++ x ∷ []) (a : ℕ) where
  given-stays : (y : Name) (d : Dummy) (g : DummyStorage) → IsGiven program s layout a y d g → IsGiven program t (layout_with program t layout first) a y d g
  given-stays y d (given.Value v) h = h
  given-stays y d (given.Units base count) h = (h.0, h.1, h.2, runs-entered program s t x layout first cells d.start count base laid more h.3)

  pub all-stay : (ys : List Name) (ds : List Dummy) (gs : List DummyStorage) → AreGiven program s layout a ys ds gs → AreGiven program t (layout_with program t layout first) a ys ds gs
  all-stay [] [] [] h = tt
  all-stay (y ∷ ys) (d ∷ ds) (g ∷ gs) h = (given-stays y d g h.0, all-stay ys ds gs h.1)
  all-stay _ _ _ h = absurd h

module _ (call : CallOf) where
  abbrev pub old : State
  old = state_before_call call

  abbrev pub made : Activation
  made = called_activation call

  abbrev scope : Scope
  scope = scope_of call.program old call.top.0.activation

  abbrev unit : List Statement
  unit = unit_at call.program call.unit

  pub one-more : length (state_begun call).activations ≡ suc (length (state_before_call call).activations)
  one-more = length-append old.activations (made ∷ []) ∙ omega arith

  pub begins : IsBegun (state_before_call call) (state_begun call) (called_activation call)
  begins = record { activations_are = refl; store_is = refl; unset = λ y i. unset-ahead call.program call.choices (length (state_begun call).activations) y i (omega (arith, one-more)) }

  scope-made : IsPassing call → IsMadeScope (length old.activations) scope
  scope-made h =
      let made = on_stack_made old call.top.0.activation (aged call.program call.choices) (stacked-top old call.process call.top (top-numbered old call.process call.top h.lives)) in
      (made.1, λ k. references-made call.program call.choices call.top.0.activation k made.1)

  number : next_activation old ≡ suc (length old.activations)
  number = omega arith

  -- ---- in a state that has it

  module _ (t : State) (more : t.activations ≡ (state_begun call).activations) where
    pub long : length t.activations ≡ suc (length (state_before_call call).activations)
    long = ap (λ (xs : List Activation). length xs) more ∙ one-more

    last : length t.activations ≡ next_activation old
    last = long ∙ sym number

    pub activation-is : activation_of t (length t.activations) ≡ called_activation call
    activation-is = ap (activation_of t) long ∙ activation-last old t made more

    pub unit-is : unit_of t (length t.activations) ≡ call.unit
    unit-is = ap (λ (z : Activation). z.unit) activation-is

    module _ (h : IsPassing call) (layout : Layout) (gs : List DummyStorage) (passed : ArePassed call layout gs) where
      pub stored : t.store ≡ call.binding.store → t.store ≡ with_given (state_before_call call).store (length t.activations) (dummies_of (unit_begun call.program t)) gs
      stored e =
          e
          ∙ (bound-store scope old.store unit (next_activation old) call.actuals call.binding h.bound
          ∙ (given-stored call.program old layout scope old.store (next_activation old) (dummies_of unit) call.actuals gs passed
          ∙ (λ i. with_given old.store (sym last i) (dummies_of (unit_at call.program (sym unit-is i))) gs)))

      pub given-before : AreGiven call.program (state_before_call call) layout (length t.activations) (dummies_of (unit_at call.program call.unit)) call.binding.dummies gs
      given-before =
          subst (λ n. AreGiven call.program old layout n (dummies_of unit) call.binding.dummies gs) (sym last)
          (bound-given call.program old layout scope (length old.activations) (next_activation old) (scope-made h) (omega arith) old.store unit call.actuals gs call.binding h.as_many passed h.bound)

      pub binding : (first cells : ℕ) → IsLaid call.program (state_before_call call) cells layout → IsBinding call.program t (layout_with call.program t layout first) (length t.activations) first gs
      binding first cells laid =
          let n = length t.activations in
          let frame = frame_from call.program t n first in
          record {
            frame = frame;
            framed = among-with_frame n layout frame (unmade call.program old t made layout first more laid) ∙ ap (λ c. if c then Some frame else frame_among n layout) (eq-eqb n n refl);
            begins = refl;
            distinct = subst (λ v. IsNamedOnce (dummies_of (unit_at call.program v))) (sym unit-is) h.distinct;
            given_are =
                subst (λ (z : Activation). AreGiven call.program t (layout_with call.program t layout first) n (dummies_of (unit_at call.program z.unit)) z.dummies gs) (sym activation-is)
                (all-stay call.program old t made layout first cells laid more n (dummies_of unit) call.binding.dummies gs given-before);
          }
