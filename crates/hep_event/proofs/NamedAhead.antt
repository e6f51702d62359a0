-- What comes next of a process names a variable by its operation.
use Rattle.std.proofs.Common.{◌≡◌, ◌≢◌, ℕ, false, List, [], Option, Some, None, refl, sym, ap, ◌∙◌, subst}
use Rattle.std.specs.Option.{option_map}
use Rattle.hep_machine.specs.Evaluation.{reading}
use Rattle.hep_machine.specs.Words.{Action, Name, Next, Redex, Reference, Statement, Units, Value, does, evaluating, function_name, referring, signing, negating, combining, applying, testing, wants, variable_of as loop_variable, assigning, jumping, choosing, branching, testing_condition, entering_block, entering_loop, ending_loop, calling, creating, purging, printing, continuing, leaving, resuming, stopping}
use Rattle.hep_code.specs.declared.instruction.Operation.TheVariants.{Answer}
use Rattle.hep_code.specs.declared.instruction.Operation.{Operation}
use Rattle.hep_code.specs.declared.variable.Variable.{Variable}
use Rattle.hep_code.specs.declared.variable.Variable.TheVariants.{Absent}
use Rattle.hep_code.specs.Words.{ending_of, is_asynchronous}
use Rattle.hep_image.specs.Places.{variable_of}
use Rattle.hep_step.specs.Simulation.{RunningTop, addressed_on_top, unit_addressed, unit_running, variable_in}
use Rattle.hep_step.proofs.RunningActivations.{Comes, coming}
use Rattle.hep_state.specs.declared.core_state.CoreState.{CoreState}
use Rattle.hep_state.specs.Words.{HasLevels, IsMachineAfter, IsTopRunning, snapshot_of}
use Rattle.hep_event.specs.declared.next_operation.NextOperation.{NextOperation}
use Rattle.hep_event.specs.NextAccesses.{IsAccessed}
use Rattle.hep_event.specs.NextOperations.{IsNextOperation}
use Rattle.hep_event.proofs.Answered as answered
use Rattle.hep_event.proofs.TopPositions.{settled-there, settled-turn}
use Rattle.hep_event.specs.NamedVariables.{IsNamed, named_by}
use Rattle.hep_event.proofs.AccessedAhead.{names-accessed}

module _ {program : Units} {cells : ℕ} {choices : List ℕ} {p : ℕ} (m : CoreState) (after : IsMachineAfter program cells choices m) (running : m.halted ≡ false)
    (levels : HasLevels (snapshot_of m) p) (c : NextOperation) (k : IsNextOperation (unit_addressed program levels.level.unit) levels.operands levels.level.index c)
    (runs : IsTopRunning (settled-turn m after running levels c k) (settled-there m after running levels c k)) where
  abbrev r : RunningTop
  r = answered.r m after running levels c k runs

  abbrev unit : List Statement
  unit = unit_running r

  abbrev variables : Name → Variable
  variables = variable_of program unit

  abbrev operands : List Value
  operands = c.operands.items

  -- what is known of what it names
  pub record IsFound (x : Reference) : Type 0 where
    pub named : named_by c.operation operands ≡ Some (variables x.0, x.1)
    pub placed : variables x.0 ≢ Absent
    pub asynchronous : is_asynchronous (variables x.0) ≡ x.0.asynchronous

  found-by : (x : Reference) → named_by c.operation operands ≡ Some (variables x.0, x.1) → variable_in c.operation ≡ Some (variables x.0) → IsFound x
  found-by x named is =
      let placed : variables x.0 ≢ Absent = λ absent. runs.placed r.index c.line c.operation c.behind.now (answered.ahead m after running levels c k runs) (is ∙ ap Some absent) in
      let h = runs.addressed x.0 x.1 placed in
      record {
        named = named;
        placed = placed;
        asynchronous = h.0;
      }

  coming-so : (n : Next) → coming r ≡ n → Comes r n c.operation c.behind.now
  coming-so n next = subst (λ n. Comes r n c.operation c.behind.now) next (answered.comes m after running levels c k runs)

  accessed : (n : Next) (x : Reference) → coming r ≡ n → IsAccessed n x → named_by c.operation operands ≡ Some (variables x.0, x.1)
  accessed n x next = names-accessed (addressed_on_top program r.top) r.top.level.statement r.top.level.work operands r.index c.operation c.behind.now n x (coming-so n next)

  -- ---- a redex

  by-redex : (q : Redex) (x : Reference) → coming r ≡ wants (evaluating q) → IsNamed unit (wants (evaluating q)) x → IsFound x
  by-redex (reading y) x next same =
      let is = coming-so (wants (evaluating (reading y))) next in
      subst IsFound (sym same) (found-by y (accessed (wants (evaluating (reading y))) y next refl) (ap variable_in is.operation))
  by-redex (testing f y) x next same =
      let is = coming-so (wants (evaluating (testing f y))) next in
      subst IsFound (sym same) (found-by y (accessed (wants (evaluating (testing f y))) y next refl) (ap variable_in is.operation))
  by-redex (signing s v) x next h = absurd h
  by-redex (negating v) x next h = absurd h
  by-redex (combining o v w) x next h = absurd h
  by-redex (applying f vs) x next h = absurd h

  -- ---- an action

  by-action : (a : Action) (x : Reference) → coming r ≡ does a → IsNamed unit (does a) x → IsFound x
  by-action (assigning y v) x next same =
      let is = coming-so (does (assigning y v)) next in
      subst IsFound (sym same) (found-by y (accessed (does (assigning y v)) y next refl) (ap variable_in is.operation))
  by-action (entering_loop y v n i) x next same =
      let is = coming-so (does (entering_loop y v n i)) next in
      subst IsFound (sym same) (found-by (y, []) (ap (λ o. named_by o operands) is.operation) (ap variable_in is.operation))
  by-action (ending_loop d) x next same =
      let is = coming-so (does (ending_loop d)) next in
      subst IsFound (sym same) (found-by (loop_variable unit d, []) (ap (λ o. named_by o operands) is.operation) (ap variable_in is.operation))
  by-action leaving x next h =
      let is = coming-so (does leaving) next in
      let ends : c.operation ≡ Answer (variables h.0) = is.operation ∙ ap (λ f. ending_of (option_map variables f)) h.1 in
      subst IsFound (sym h.2) (found-by (h.0, []) (ap (λ o. named_by o operands) ends) (ap variable_in ends))
  by-action _ x next h = absurd h

  pub named-so : (n : Next) (x : Reference) → coming r ≡ n → IsNamed unit n x → IsFound x
  named-so (wants (evaluating q)) x next h = by-redex q x next h
  named-so (does a) x next h = by-action a x next h
  named-so _ x next h = absurd h

  -- ---- what names a variable

  abbrev pub IsNaming : Next → Type 0
  IsNaming n = (x : Reference) × IsNamed unit n x

  -- another operation names none
  other : {P : Type 0} (o : Operation) → c.operation ≡ o → named_by o operands ≡ None → named_by c.operation operands ≢ None → P
  other o is none some = absurd (some (ap (λ q. named_by q operands) is ∙ none))

  naming-redex : (q : Redex) → coming r ≡ wants (evaluating q) → named_by c.operation operands ≢ None → IsNaming (wants (evaluating q))
  naming-redex (reading y) next some = (y, refl)
  naming-redex (testing f y) next some = (y, refl)
  naming-redex (signing s v) next some = let is = coming-so (wants (evaluating (signing s v))) next in other _ is.operation refl some
  naming-redex (negating v) next some = let is = coming-so (wants (evaluating (negating v))) next in other _ is.operation refl some
  naming-redex (combining o v w) next some = let is = coming-so (wants (evaluating (combining o v w))) next in other _ is.operation refl some
  naming-redex (applying f vs) next some = let is = coming-so (wants (evaluating (applying f vs))) next in other _ is.operation refl some

  naming-end : (f : Option Name) → function_name unit ≡ f → c.operation ≡ ending_of (option_map variables f) → named_by c.operation operands ≢ None → IsNaming (does leaving)
  naming-end None is ends some = other _ ends refl some
  naming-end (Some y) is ends some = ((y, []), (y, is, refl))

  naming-action : (a : Action) → coming r ≡ does a → named_by c.operation operands ≢ None → IsNaming (does a)
  naming-action (assigning y v) next some = (y, refl)
  naming-action (entering_loop y v n i) next some = ((y, []), refl)
  naming-action (ending_loop d) next some = ((loop_variable unit d, []), refl)
  naming-action leaving next some = naming-end (function_name unit) refl (coming-so (does leaving) next).operation some
  naming-action (jumping l) next some = let is = coming-so (does (jumping l)) next in other _ is.operation refl some
  naming-action (choosing ls v) next some = let is = coming-so (does (choosing ls v)) next in other _ is.operation refl some
  naming-action (branching ls v) next some = let is = coming-so (does (branching ls v)) next in other _ is.operation refl some
  naming-action (testing_condition v) next some = let is = coming-so (does (testing_condition v)) next in other _ is.operation refl some
  naming-action (entering_block v) next some = let is = coming-so (does (entering_block v)) next in other _ is.operation refl some
  naming-action (calling x actuals) next some = let is = coming-so (does (calling x actuals)) next in other _ is.operation refl some
  naming-action (creating x actuals) next some = let is = coming-so (does (creating x actuals)) next in other _ is.operation refl some
  naming-action (purging targets) next some = let is = coming-so (does (purging targets)) next in other _ is.operation refl some
  naming-action (printing items) next some = let is = coming-so (does (printing items)) next in other _ is.operation refl some
  naming-action continuing next some = let is = coming-so (does continuing) next in other _ is.operation refl some
  naming-action resuming next some = let is = coming-so (does resuming) next in other _ is.operation refl some
  naming-action stopping next some = let is = coming-so (does stopping) next in other _ is.operation refl some

  pub naming : (n : Next) → coming r ≡ n → named_by c.operation operands ≢ None → IsNaming n
  naming (wants (evaluating q)) next some = naming-redex q next some
  naming (wants (referring x actuals)) next some = let is = coming-so (wants (referring x actuals)) next in other _ is.operation refl some
  naming (does a) next some = naming-action a next some
