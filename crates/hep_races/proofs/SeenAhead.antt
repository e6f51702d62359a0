-- What is seen of a step before it, by the operation that comes next.
use Rattle.std.proofs.Common.{◌≡◌, ℕ, Bool, true, false, ◌&&◌, List, [], ◌∷◌, length, map, Option, Some, None, Result, Ok, Err, refl, sym}
use Rattle.std.proofs.Common.{ap, ◌∙◌, subst, if◌then◌else◌}
use Rattle.std.proofs.lemmas.Bool.{true≢false}
use Rattle.std.proofs.lemmas.Option.{none-some, same_Some}
use Rattle.std.specs.List.{filter}
use Rattle.std.specs.Option.{option_map, option_to_list}
use Rattle.hep_source.specs.declared.function.StateFunction.{StateFunction}
use Rattle.hep_source.specs.declared.function.StateFunction.TheVariants.{IsFull, IsEmpty, ValueOf, SetEmpty, WaitFull}
use Rattle.hep_code.specs.declared.instruction.Instruction.{Instruction}
use Rattle.hep_code.specs.declared.instruction.Operation.{Operation}
use Rattle.hep_code.specs.declared.instruction.Operation.TheVariants.{Purge}
use Rattle.hep_code.specs.declared.variable.Variable.{Variable}
use Rattle.hep_code.specs.Words.{Addressing, IsNext, ending_of, is_asynchronous}
use Rattle.hep_image.specs.Places.{variable_of as place_of_variable}
use Rattle.hep_layout.specs.Words.{address}
use Rattle.hep_machine.specs.declared.event.Kind.{Kind}
use Rattle.hep_machine.specs.Evaluation.{reading}
use Rattle.hep_machine.specs.Words.{Action, Level, Location, Name, Next, Process, Redex, Reference, State, Statement, Top, Units, Value}
use Rattle.hep_machine.specs.Words.{function_name, line_at}
use Rattle.hep_machine.specs.Words.{purges, run, unit_of, unit_on_top, variable_of}
use Rattle.hep_machine.specs.Words.{evaluating, referring, signing, negating, combining, applying, testing, wants, does, assigning}
use Rattle.hep_machine.specs.Words.{jumping, choosing, branching}
use Rattle.hep_machine.specs.Words.{testing_condition, entering_block, entering_loop, ending_loop, calling, creating, purging, printing}
use Rattle.hep_machine.specs.Words.{continuing, leaving, resuming, stopping}
use Rattle.hep_accesses.specs.Accesses.{Access, access_at, accesses_of_result, found, location_of, need_of_next, need_of_reference}
use Rattle.hep_accesses.specs.Accesses.{need_of_test, plain_access}
use Rattle.hep_accesses.specs.Exchanges.{BeginsNoActivation}
use Rattle.hep_event.specs.NamedVariables.{IsNamed}
use Rattle.hep_event.specs.Sites.{IsSite}
use Rattle.hep_event.specs.declared.sites.Site.{Site}
use Rattle.hep_step.specs.Simulation.{unit_addressed}
use Rattle.hep_trace.specs.References.{top_after}
use Rattle.hep_trace.specs.declared.reference.LiveProcess.{LiveProcess}
use Rattle.hep_views.specs.ListedProcesses.{place_of}
use Rattle.hep_views.specs.declared.place.Place.{Place}
use Rattle.hep_races.specs.StepChanges.{accesses_of_fault, accesses_unless_fault, as_read, change_of_reference, change_of_test}
use Rattle.hep_races.specs.StepChanges.{changes_of_next, is_full_before, located}
use Rattle.hep_races.specs.StepEvents.{HasNamedState, IsNamedUnit, access_by, access_found, access_named, access_seen, change_by, full_at}
use Rattle.hep_races.specs.StepEvents.{is_reset, is_wait}
use Rattle.hep_races.specs.StepEvents.{fault_access, need_by, place_found, place_named, read_seen}
use Rattle.hep_races.specs.declared.step_access.NamedUnit.{NamedUnit}
use Rattle.hep_races.specs.declared.step_access.SitedAccess.{SitedAccess}

module _ (cells : ℕ) (choices : List ℕ) (ahead : LiveProcess) (top : Level × Process) (operands : List Value) (index : ℕ) (o : Operation)
    (behind : List Instruction) (n : Option NamedUnit) where
  abbrev program : Units
  program = ahead.image.now

  abbrev t : Top
  t = top_after program choices ahead.process top

  abbrev s : State
  s = run program choices

  abbrev unit : List Statement
  unit = unit_on_top program t

  abbrev variables : Name → Variable
  variables = place_of_variable program unit

  -- this is what comes next
  abbrev IsAt : Next → Type 0
  IsAt x = IsNext (unit_addressed program (unit_of s top.0.activation)) top.0.statement top.0.work operands index x o behind

  -- and what is named is the one that it names
  abbrev pub IsNamedBy : Next → Type 0
  IsNamedBy next = (x : Reference) → IsNamed unit next x → (u : NamedUnit) × (n ≡ Some u) × IsNamedUnit cells choices ahead t x u

  abbrev place : Location → Place
  place = place_of program s

  -- ---- what an activation's end is

  -- what holds of RETURN and of the end of a function
  ends : {A : Type 0} (f : Operation → A) (x : A)
      → ((y : Option Name) → function_name unit ≡ y → f (ending_of (option_map variables y)) ≡ x) → IsAt (does leaving) → f o ≡ x
  ends f x h is = ap f is.operation ∙ h (function_name unit) refl

  -- ---- places

  module _ (addressing : Addressing) where
    placed : (site : Option Site) (at : Result Location Kind) → IsSite program s addressing site at → place_found site
        ≡ option_map place (found program t at)
    placed (Some site) (Ok at) h = ap (λ p. Some p) h.1
    placed None (Err k) h = refl
    placed (Some site) (Err k) h = absurd h
    placed None (Ok at) h = absurd h

    listed : (site : Option Site) (at : Result Location Kind) → IsSite program s addressing site at
        → option_to_list (place_found site) ≡ map place (located at)
    listed (Some site) (Ok at) h = ap (λ p. p ∷ []) h.1
    listed None (Err k) h = refl
    listed (Some site) (Err k) h = absurd h
    listed None (Ok at) h = absurd h

    -- where it is full
    reset-listed : (full : Bool) (site : Option Site) (at : Result Location Kind) → IsSite program s addressing site at → full
        ≡ full_at s.store at
        → option_to_list (if full then place_found site else None) ≡ map place (filter (is_full_before program t) (located at))
    reset-listed full (Some site) (Ok at) h e = ap (λ b. option_to_list (if b then Some site.place else None)) e ∙ by (s.store at).full
      where
        by : (b : Bool) → option_to_list (if b then Some site.place else None) ≡ map place (if b then at ∷ [] else [])
        by true = ap (λ p. p ∷ []) h.1
        by false = refl
    reset-listed true None (Err k) h e = refl
    reset-listed false None (Err k) h e = refl
    reset-listed full (Some site) (Err k) h e = absurd h
    reset-listed full None (Ok at) h e = absurd h

    -- an access, from a unit and a line
    accessed : (u line : ℕ) → u ≡ unit_of s top.0.activation → line ≡ line_at unit top.0.statement → (stores : Bool) (x y : Name) → y ≡ x
        → (site : Option Site) (at : Result Location Kind) → IsSite program s addressing site at
        → option_to_list (access_found stores y u line site) ≡ map (access_seen program s) (access_at program t x stores at)
    accessed u line from at_line stores x y named (Some site) (Ok at) h =
        λ i. record { at = h.1 i; stores = stores; site = record { unit = from i; line = at_line i; name = named i } } ∷ []
    accessed u line from at_line stores x y named None (Err k) h = refl
    accessed u line from at_line stores x y named (Some site) (Err k) h = absurd h
    accessed u line from at_line stores x y named None (Ok at) h = absurd h

  -- ---- the state that is needed

  reference-need : (r : Reference) (b : Bool) (u : NamedUnit) → n ≡ Some u → IsNamedUnit cells choices ahead t r u → b ≡ r.0.asynchronous
      → (if b then place_named n else None) ≡ option_map place (need_of_reference program t r)
  reference-need r b u e is same = ap (λ c. if c then place_named n else None) same ∙ by r.0.asynchronous
    where
      by : (c : Bool) → (if c then place_named n else None)
          ≡ option_map place (if c then found program t (location_of program t r) else None)
      by true = ap place_named e ∙ placed (address program s is.site.after.after.layout) u.unit (location_of program t r) is.site.site_is
      by false = refl

  test-need : (f : StateFunction) (r : Reference) (u : NamedUnit) → n ≡ Some u → IsNamedUnit cells choices ahead t r u
      → (if is_wait f then place_named n else None) ≡ option_map place (need_of_test program t f r)
  test-need IsFull r u e is = refl
  test-need IsEmpty r u e is = refl
  test-need ValueOf r u e is = refl
  test-need SetEmpty r u e is = refl
  test-need WaitFull r u e is = ap place_named e ∙ placed (address program s is.site.after.after.layout) u.unit (location_of program t r)
      is.site.site_is

  need-end : (y : Option Name) → need_by (ending_of (option_map variables y)) n ≡ None
  need-end None = refl
  need-end (Some y) = refl

  need-action : (a : Action) → IsAt (does a) → IsNamedBy (does a) → need_by o n ≡ option_map place (need_of_next program t (does a))
  need-action (assigning r v) is named =
      let u = named r refl in
      ap (λ q. need_by q n) is.operation ∙ reference-need r (is_asynchronous (variables r.0)) u.0 u.1 u.2 u.2.asynchronous
  need-action leaving is named = ends (λ q. need_by q n) None (λ y e. need-end y) is
  need-action (jumping l) is named = ap (λ q. need_by q n) is.operation
  need-action (choosing ls v) is named = ap (λ q. need_by q n) is.operation
  need-action (branching ls v) is named = ap (λ q. need_by q n) is.operation
  need-action (testing_condition v) is named = ap (λ q. need_by q n) is.operation
  need-action (entering_block v) is named = ap (λ q. need_by q n) is.operation
  need-action (entering_loop x a b c) is named = ap (λ q. need_by q n) is.operation
  need-action (ending_loop d) is named = ap (λ q. need_by q n) is.operation
  need-action (calling x ys) is named = ap (λ q. need_by q n) is.operation
  need-action (creating x ys) is named = ap (λ q. need_by q n) is.operation
  need-action (purging rs) is named = ap (λ q. need_by q n) is.operation
  need-action (printing items) is named = ap (λ q. need_by q n) is.operation
  need-action continuing is named = ap (λ q. need_by q n) is.operation
  need-action resuming is named = ap (λ q. need_by q n) is.operation
  need-action stopping is named = ap (λ q. need_by q n) is.operation

  need-redex : (q : Redex) → IsAt (wants (evaluating q)) → IsNamedBy (wants (evaluating q)) → need_by o n
      ≡ option_map place (need_of_next program t (wants (evaluating q)))
  need-redex (reading r) is named =
      let u = named r refl in
      ap (λ q. need_by q n) is.operation ∙ reference-need r (is_asynchronous (variables r.0)) u.0 u.1 u.2 u.2.asynchronous
  need-redex (testing f r) is named = let u = named r refl in ap (λ q. need_by q n) is.operation ∙ test-need f r u.0 u.1 u.2
  need-redex (signing g v) is named = ap (λ q. need_by q n) is.operation
  need-redex (negating v) is named = ap (λ q. need_by q n) is.operation
  need-redex (combining g v w) is named = ap (λ q. need_by q n) is.operation
  need-redex (applying f vs) is named = ap (λ q. need_by q n) is.operation

  pub needs-seen : (x : Next) → IsAt x → IsNamedBy x → need_by o n ≡ option_map place (need_of_next program t x)
  needs-seen (wants (evaluating q)) is named = need-redex q is named
  needs-seen (wants (referring x ys)) is named = ap (λ q. need_by q n) is.operation
  needs-seen (does a) is named = need-action a is named

  -- ---- what is purged

  -- the number of targets of an operation, and the targets of what comes next
  abbrev pub targets_passed : Operation → Option ℕ
  targets_passed (Purge count next) = Some count
  targets_passed _ = None

  abbrev pub targets_of : Next → Option (List Reference)
  targets_of (does (purging targets)) = Some targets
  targets_of _ = None

  targets-end : (y : Option Name) → targets_passed (ending_of (option_map variables y)) ≡ None
  targets-end None = refl
  targets-end (Some y) = refl

  targets-seen : (x : Next) → IsAt x → targets_passed o ≡ option_map (λ (ts : List Reference). length ts) (targets_of x)
  targets-seen (does leaving) is = ends targets_passed None (λ y e. targets-end y) is
  targets-seen (does _) is = ap targets_passed is.operation
  targets-seen (wants (evaluating q)) is = ap targets_passed is.operation
  targets-seen (wants (referring x ys)) is = ap targets_passed is.operation

  -- a PURGE in the code is one of as many targets
  pub purged-targets : (count next : ℕ) → o ≡ Purge count next → (x : Next) → IsAt x → (targets : List Reference)
      × (x ≡ does (purging targets)) × (count ≡ length targets)
  purged-targets count next e x is = by x (sym (ap targets_passed e) ∙ targets-seen x is)
    where
      by : (x : Next) → Some count ≡ option_map (λ (ts : List Reference). length ts) (targets_of x) → (targets : List Reference)
          × (x ≡ does (purging targets)) × (count ≡ length targets)
      by (does (purging targets)) f = (targets, refl, same_Some count (length targets) f)
      by _ f = absurd (none-some count (sym f))

  -- where it is none, no PURGE comes next
  pub purged-none : ((count next : ℕ) → o ≡ Purge count next → ⊥) → (x : Next) → IsAt x → purges x ≡ false
  purged-none none (does (purging targets)) is = absurd (none _ _ is.operation)
  purged-none none _ is = refl

  -- ---- what is changed

  abbrev changes : Operation → Bool → List Place
  changes q full = option_to_list (change_by q n full)

  reference-change : (r : Reference) (b : Bool) (u : NamedUnit) → n ≡ Some u → IsNamedUnit cells choices ahead t r u → b ≡ r.0.asynchronous
      → option_to_list (if b then place_named n else None) ≡ map place (change_of_reference program t r)
  reference-change r b u e is same = ap (λ c. option_to_list (if c then place_named n else None)) same ∙ by r.0.asynchronous
    where
      by : (c : Bool) → option_to_list (if c then place_named n else None) ≡ map place (if c then located (location_of program t r) else [])
      by true = ap (λ m. option_to_list (place_named m)) e
          ∙ listed (address program s is.site.after.after.layout) u.unit (location_of program t r) is.site.site_is
      by false = refl

  module _ (full : Bool) (state : HasNamedState ahead.machine.now n full) where
    reset-change : (r : Reference) (u : NamedUnit) → n ≡ Some u → IsNamedUnit cells choices ahead t r u
        → option_to_list (if full then place_named n else None)
        ≡ map place (filter (is_full_before program t) (located (location_of program t r)))
    reset-change r u e is =
        let own = subst (λ m. HasNamedState ahead.machine.now m full) e state in
        ap (λ m. option_to_list (if full then place_named m else None)) e
        ∙ reset-listed (address program s is.site.after.after.layout) full u.unit (location_of program t r) is.site.site_is
        (own program cells choices (location_of program t r) is.site)

    test-change : (f : StateFunction) (r : Reference) (u : NamedUnit) → n ≡ Some u → IsNamedUnit cells choices ahead t r u
        → option_to_list (if is_reset f && full then place_named n else None) ≡ map place (change_of_test program t f r)
    test-change IsFull r u e is = refl
    test-change IsEmpty r u e is = refl
    test-change ValueOf r u e is = refl
    test-change SetEmpty r u e is = reset-change r u e is
    test-change WaitFull r u e is = refl

    change-end : (y : Option Name) → changes (ending_of (option_map variables y)) full ≡ []
    change-end None = refl
    change-end (Some y) = refl

    change-action : (a : Action) → purges (does a) ≡ false → IsAt (does a) → IsNamedBy (does a) → changes o full
        ≡ map place (changes_of_next program t (does a))
    change-action (assigning r v) other is named =
        let u = named r refl in
        ap (λ q. changes q full) is.operation ∙ reference-change r (is_asynchronous (variables r.0)) u.0 u.1 u.2 u.2.asynchronous
    change-action leaving other is named = ends (λ q. changes q full) [] (λ y e. change-end y) is
    change-action (jumping l) other is named = ap (λ q. changes q full) is.operation
    change-action (choosing ls v) other is named = ap (λ q. changes q full) is.operation
    change-action (branching ls v) other is named = ap (λ q. changes q full) is.operation
    change-action (testing_condition v) other is named = ap (λ q. changes q full) is.operation
    change-action (entering_block v) other is named = ap (λ q. changes q full) is.operation
    change-action (entering_loop x a b c) other is named = ap (λ q. changes q full) is.operation
    change-action (ending_loop d) other is named = ap (λ q. changes q full) is.operation
    change-action (calling x ys) other is named = ap (λ q. changes q full) is.operation
    change-action (creating x ys) other is named = ap (λ q. changes q full) is.operation
    change-action (purging rs) other is named = absurd (true≢false other)
    change-action (printing items) other is named = ap (λ q. changes q full) is.operation
    change-action continuing other is named = ap (λ q. changes q full) is.operation
    change-action resuming other is named = ap (λ q. changes q full) is.operation
    change-action stopping other is named = ap (λ q. changes q full) is.operation

    change-redex : (q : Redex) → IsAt (wants (evaluating q)) → IsNamedBy (wants (evaluating q)) → changes o full
        ≡ map place (changes_of_next program t (wants (evaluating q)))
    change-redex (reading r) is named =
        let u = named r refl in
        ap (λ q. changes q full) is.operation ∙ reference-change r (is_asynchronous (variables r.0)) u.0 u.1 u.2 u.2.asynchronous
    change-redex (testing f r) is named = let u = named r refl in ap (λ q. changes q full) is.operation ∙ test-change f r u.0 u.1 u.2
    change-redex (signing g v) is named = ap (λ q. changes q full) is.operation
    change-redex (negating v) is named = ap (λ q. changes q full) is.operation
    change-redex (combining g v w) is named = ap (λ q. changes q full) is.operation
    change-redex (applying f vs) is named = ap (λ q. changes q full) is.operation

    pub changes-seen : (x : Next) → purges x ≡ false → IsAt x → IsNamedBy x → changes o full ≡ map place (changes_of_next program t x)
    changes-seen (wants (evaluating q)) other is named = change-redex q is named
    changes-seen (wants (referring x ys)) other is named = ap (λ q. changes q full) is.operation
    changes-seen (does a) other is named = change-action a other is named

  -- ---- what is accessed

  module _ (u line : ℕ) (from : u ≡ unit_of s top.0.activation) (at_line : line ≡ line_at unit top.0.statement) where
    abbrev seen : Access → SitedAccess
    seen = access_seen program s

    abbrev accesses : Operation → List SitedAccess
    accesses q = option_to_list (access_by q n u line)

    named-access : (stores : Bool) (r : Reference) (v : NamedUnit) → n ≡ Some v → IsNamedUnit cells choices ahead t r v
        → option_to_list (access_named (Some stores) n u line) ≡ map seen (access_at program t r.0 stores (location_of program t r))
    named-access stores r v e is =
        ap (λ m. option_to_list (access_named (Some stores) m u line)) e
        ∙ accessed (address program s is.site.after.after.layout) u line from at_line stores r.0 v.name is.name v.unit
        (location_of program t r) is.site.site_is

    reference-access : (stores : Bool) (r : Reference) (b : Bool) (v : NamedUnit) → n ≡ Some v → IsNamedUnit cells choices ahead t r v → b
        ≡ r.0.asynchronous
        → option_to_list (access_named (if b then None else Some stores) n u line) ≡ map seen (plain_access program t r stores)
    reference-access stores r b v e is same = ap (λ c. option_to_list (access_named (if c then None else Some stores) n u line)) same
        ∙ by r.0.asynchronous
      where
        by : (c : Bool) → option_to_list (access_named (if c then None else Some stores) n u line)
            ≡ map seen (if c then [] else access_at program t r.0 stores (location_of program t r))
        by true = refl
        by false = named-access stores r v e is

    access-end : IsNamedBy (does leaving) → (y : Option Name) → function_name unit ≡ y → accesses (ending_of (option_map variables y))
        ≡ map seen (accesses_of_result program t (function_name unit))
    access-end named None e = sym (ap (λ y. map seen (accesses_of_result program t y)) e)
    access-end named (Some y) e =
        let v = named (y, []) (y, e, refl) in
        named-access false (y, []) v.0 v.1 v.2 ∙ sym (ap (λ y. map seen (accesses_of_result program t y)) e)

    access-action : (a : Action) → BeginsNoActivation (does a) → IsAt (does a) → IsNamedBy (does a) → accesses o
        ≡ map seen (accesses_unless_fault program t (does a))
    access-action (assigning r w) b is named =
        let v = named r refl in
        ap accesses is.operation ∙ reference-access true r (is_asynchronous (variables r.0)) v.0 v.1 v.2 v.2.asynchronous
    access-action (entering_loop x i j k) b is named = let v = named (x, []) refl in ap accesses is.operation
        ∙ named-access true (x, []) v.0 v.1 v.2
    access-action (ending_loop d) b is named =
        let v = named (variable_of unit d, []) refl in
        ap accesses is.operation ∙ named-access true (variable_of unit d, []) v.0 v.1 v.2
    access-action leaving b is named = ends accesses (map seen (accesses_of_result program t (function_name unit))) (access-end named) is
    access-action (calling x ys) b is named = absurd b
    access-action (creating x ys) b is named = absurd b
    access-action (jumping l) b is named = ap accesses is.operation
    access-action (choosing ls v) b is named = ap accesses is.operation
    access-action (branching ls v) b is named = ap accesses is.operation
    access-action (testing_condition v) b is named = ap accesses is.operation
    access-action (entering_block v) b is named = ap accesses is.operation
    access-action (purging rs) b is named = ap accesses is.operation
    access-action (printing items) b is named = ap accesses is.operation
    access-action continuing b is named = ap accesses is.operation
    access-action resuming b is named = ap accesses is.operation
    access-action stopping b is named = ap accesses is.operation

    access-redex : (q : Redex) → IsAt (wants (evaluating q)) → IsNamedBy (wants (evaluating q)) → accesses o
        ≡ map seen (accesses_unless_fault program t (wants (evaluating q)))
    access-redex (reading r) is named =
        let v = named r refl in
        ap accesses is.operation ∙ reference-access false r (is_asynchronous (variables r.0)) v.0 v.1 v.2 v.2.asynchronous
    access-redex (testing f r) is named = ap accesses is.operation
    access-redex (signing g v) is named = ap accesses is.operation
    access-redex (negating v) is named = ap accesses is.operation
    access-redex (combining g v w) is named = ap accesses is.operation
    access-redex (applying f vs) is named = ap accesses is.operation

    pub accesses-seen : (x : Next) → BeginsNoActivation x → IsAt x → IsNamedBy x → accesses o ≡ map seen (accesses_unless_fault program t x)
    accesses-seen (wants (evaluating q)) b is named = access-redex q is named
    accesses-seen (wants (referring x ys)) b is named = absurd b
    accesses-seen (does a) b is named = access-action a b is named

  -- ---- after a fault

  reads-seen : (xs : List Access) (a : Option SitedAccess) → map (access_seen program s) xs ≡ option_to_list a
      → map (access_seen program s) (map as_read xs) ≡ option_to_list (option_map read_seen a)
  reads-seen xs a e = all xs ∙ ap (map read_seen) e ∙ one a
    where
      all : (xs : List Access) → map (access_seen program s) (map as_read xs) ≡ map read_seen (map (access_seen program s) xs)
      all [] = refl
      all (x ∷ xs) = ap (λ ys. read_seen (access_seen program s x) ∷ ys) (all xs)

      one : (a : Option SitedAccess) → map read_seen (option_to_list a) ≡ option_to_list (option_map read_seen a)
      one None = refl
      one (Some a) = refl

  module _ (xs : List Access) (a : Option SitedAccess) (same : map (access_seen program s) xs ≡ option_to_list a) where
    abbrev left : Operation → List SitedAccess
    left q = option_to_list (fault_access q a)

    left-end : (y : Option Name) → left (ending_of (option_map variables y)) ≡ option_to_list a
    left-end None = refl
    left-end (Some y) = refl

    abbrev IsLeft : Next → Type 0
    IsLeft x = map (access_seen program s) (accesses_of_fault x xs) ≡ left o

    fault-action : (b : Action) → IsAt (does b) → IsLeft (does b)
    fault-action (entering_loop x i j k) is = sym (ap left is.operation)
    fault-action (ending_loop d) is = reads-seen xs a same ∙ sym (ap left is.operation)
    fault-action leaving is = same ∙ sym (ends left (option_to_list a) (λ y e. left-end y) is)
    fault-action (assigning r v) is = same ∙ sym (ap left is.operation)
    fault-action (jumping l) is = same ∙ sym (ap left is.operation)
    fault-action (choosing ls v) is = same ∙ sym (ap left is.operation)
    fault-action (branching ls v) is = same ∙ sym (ap left is.operation)
    fault-action (testing_condition v) is = same ∙ sym (ap left is.operation)
    fault-action (entering_block v) is = same ∙ sym (ap left is.operation)
    fault-action (calling x ys) is = same ∙ sym (ap left is.operation)
    fault-action (creating x ys) is = same ∙ sym (ap left is.operation)
    fault-action (purging rs) is = same ∙ sym (ap left is.operation)
    fault-action (printing items) is = same ∙ sym (ap left is.operation)
    fault-action continuing is = same ∙ sym (ap left is.operation)
    fault-action resuming is = same ∙ sym (ap left is.operation)
    fault-action stopping is = same ∙ sym (ap left is.operation)

    pub fault-seen : (x : Next) → IsAt x → IsLeft x
    fault-seen (wants (evaluating r)) is = same ∙ sym (ap left is.operation)
    fault-seen (wants (referring x ys)) is = same ∙ sym (ap left is.operation)
    fault-seen (does b) is = fault-action b is
