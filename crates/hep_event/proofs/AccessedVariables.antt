-- An access that comes next names the variable of what is accessed, and replies by the cell of that.
use Rattle.std.proofs.Common.{◌≡◌, ℕ, false, List, Some, Result, Ok, Err, sym, ap, ◌∙◌, subst}
use Rattle.hep_machine.specs.declared.event.Kind.{Kind}
use Rattle.hep_machine.specs.Evaluation.{reading}
use Rattle.hep_machine.specs.Words.{Location, Name, Next, Outcome, Redex, Reference, Units, Value, assigning, does, evaluating, location_of_name, signing, negating, combining, applying, testing, wants}
use Rattle.hep_code.specs.declared.variable.Variable.{Variable}
use Rattle.hep_code.specs.Words.{Addressing, IsAction, IsAddressed, IsSame, Reply, accessing, reply_to_store}
use Rattle.hep_image.specs.Addressing.{cells_in}
use Rattle.hep_image.specs.Places.{variable_of}
use Rattle.hep_layout.specs.Words.{address}
use Rattle.hep_proc.specs.Nodes.{nodes_of}
use Rattle.hep_step.specs.Simulation.{RunningTop, addressed_on_top, found_in, unit_addressed, unit_running, variable_in}
use Rattle.hep_step.proofs.RunningActivations.{Comes, coming, found_running, scope_running}
use Rattle.hep_state.specs.declared.core_state.CoreState.{CoreState}
use Rattle.hep_state.specs.Words.{HasLevels, IsMachineAfter, IsTopRunning, node_under, snapshot_of}
use Rattle.hep_event.specs.declared.next_operation.NextOperation.{NextOperation}
use Rattle.hep_event.specs.NextAccesses.{IsAccessed, IsOfLocation, found_at, replied, replied_at}
use Rattle.hep_event.specs.NextOperations.{IsNextOperation}
use Rattle.hep_event.proofs.Answered as answered
use Rattle.hep_event.proofs.TopPositions.{settled-there, settled-turn}

-- an access to the cell at an address is by the cell of the location that has it
of-location : (addressing : Addressing) (access : ℕ → Outcome) (found : Result ℕ Kind) (at : Result Location Kind) → IsSame addressing found at
    → IsOfLocation addressing (accessing access found) at
of-location addressing access (Ok cell) (Ok at) h = h
of-location addressing access (Err k) (Err l) h = h
of-location addressing access _ _ h = absurd h

module _ {program : Units} {cells : ℕ} {choices : List ℕ} {p : ℕ} (m : CoreState) (after : IsMachineAfter program cells choices m) (running : m.halted ≡ false)
    (levels : HasLevels (snapshot_of m) p) (c : NextOperation) (k : IsNextOperation (unit_addressed program levels.level.unit) levels.operands levels.level.index c)
    (runs : IsTopRunning (settled-turn m after running levels c k) (settled-there m after running levels c k)) where
  abbrev r : RunningTop
  r = answered.r m after running levels c k runs

  abbrev variables : Name → Variable
  variables = variable_of program (unit_running r)

  abbrev addressing : Addressing
  addressing = address program r.top.state r.layout

  -- what is known of an access
  pub record IsFound (x : Reference) : Type 0 where
    pub variable : variable_in c.operation ≡ Some (variables x.0)
    pub addressed : IsAddressed addressing (scope_running r) (found_running r) variables x.0 x.1
    pub reply : Reply
    pub replied : replied_at program (snapshot_of m) levels.level c ≡ Some reply
    pub kept : IsOfLocation addressing reply (location_of_name (scope_running r) x.0 x.1)

  coming-so : (n : Next) → coming r ≡ n → Comes r n c.operation c.behind.now
  coming-so n next = subst (λ n. Comes r n c.operation c.behind.now) next (answered.comes m after running levels c k runs)

  -- ---- a redex

  by-redex : (q : Redex) (x : Reference) → coming r ≡ wants (evaluating q) → IsAccessed (wants (evaluating q)) x → IsFound x
  by-redex (reading y) x next same =
      let is = coming-so (wants (evaluating (reading y))) next in
      let h = answered.name-found m after running levels c k runs (reading y) is.operation in
      subst IsFound (sym same) (
      record {
        variable = ap variable_in is.operation;
        addressed = h;
        reply = answered.own-reply m after running levels c k runs (reading y) next;
        replied = answered.replied-so m after running levels c k runs (reading y) next;
        kept = of-location addressing _ (found_running r (variables y.0) y.1) (location_of_name (scope_running r) y.0 y.1) h.1;
      })
  by-redex (testing f y) x next same =
      let is = coming-so (wants (evaluating (testing f y))) next in
      let h = answered.name-found m after running levels c k runs (testing f y) is.operation in
      subst IsFound (sym same) (
      record {
        variable = ap variable_in is.operation;
        addressed = h;
        reply = answered.own-reply m after running levels c k runs (testing f y) next;
        replied = answered.replied-so m after running levels c k runs (testing f y) next;
        kept = of-location addressing _ (found_running r (variables y.0) y.1) (location_of_name (scope_running r) y.0 y.1) h.1;
      })
  by-redex (signing s v) x next h = absurd h
  by-redex (negating v) x next h = absurd h
  by-redex (combining o v w) x next h = absurd h
  by-redex (applying f vs) x next h = absurd h

  -- ---- an assignment

  module _ (y : Reference) (v : Value) (next : coming r ≡ does (assigning y v)) where
    action : IsAction (addressed_on_top program r.top) r.top.level.statement r.top.level.work r.operands r.index (assigning y v) c.operation c.behind.now
    action = coming-so (does (assigning y v)) next

    abbrev stored : Reply
    stored = reply_to_store (cells_in m.frames.arena.contents) (found_running r) (variables y.0) v y.1

    stored-so : replied_at program (snapshot_of m) levels.level c ≡ Some stored
    stored-so =
        let found = found_at program (snapshot_of m) levels.level in
        (λ i. replied (cells_in m.frames.arena.contents) found (action.operation i) (action.operands_are i))
        ∙ ap (λ u. Some (reply_to_store (cells_in m.frames.arena.contents) (found_in program u m.frames.arena.contents (node_under (nodes_of m.frames.nodes) levels.level.key).first) (variables y.0) v y.1))
        (sym (answered.unit-same m after running levels c k runs))

    assigned : IsFound y
    assigned =
        let h = runs.addressed y.0 y.1 (λ absent. runs.placed r.index c.line c.operation c.behind.now (answered.ahead m after running levels c k runs) (ap variable_in action.operation ∙ ap Some absent)) in
        record {
          variable = ap variable_in action.operation;
          addressed = h;
          reply = stored;
          replied = stored-so;
          kept = of-location addressing _ (found_running r (variables y.0) y.1) (location_of_name (scope_running r) y.0 y.1) h.1;
        }

  pub found-so : (n : Next) (x : Reference) → coming r ≡ n → IsAccessed n x → IsFound x
  found-so (wants (evaluating q)) x next h = by-redex q x next h
  found-so (does (assigning y v)) x next h = subst IsFound (sym h) (assigned y v next)
  found-so _ x next h = absurd h
