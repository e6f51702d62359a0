-- What an evaluation that comes next replies is what the source machine answers to the redex that comes next.
use Rattle.std.proofs.Common.{◌≡◌, ℕ, ◌-◌, false, List, ◌∷◌, drop, length, Option, Some, Result, sym, ap, ◌∙◌, subst}
use Rattle.std.proofs.Math.Seq.{drop-append_seam}
use Rattle.hep_machine.specs.declared.event.Kind.{Kind}
use Rattle.hep_machine.specs.Evaluation.{reading}
use Rattle.hep_machine.specs.Words.{Redex, Units, Value, answer_of, evaluating, testing, unit_of, wants}
use Rattle.hep_code.specs.declared.instruction.Instruction.TheVariants.{Step}
use Rattle.hep_code.specs.declared.instruction.Operation.{Operation}
use Rattle.hep_code.specs.declared.instruction.Operation.TheVariants.{Evaluate}
use Rattle.hep_code.specs.declared.variable.Variable.{Variable}
use Rattle.hep_code.specs.Words.{Answers, IsAddressedIn, IsRedex, Reply, arity, evaluation_of, operands_of_redex, reply_of}
use Rattle.hep_code.proofs.Replies.{reply_is}
use Rattle.hep_image.specs.Addressing.{cells_in}
use Rattle.hep_image.specs.Places.{variable_of}
use Rattle.hep_layout.specs.Words.{address}
use Rattle.hep_proc.specs.Nodes.{nodes_of}
use Rattle.hep_step.specs.Simulation.{RunningTop, addressed_on_top, code_ahead, found_in, unit_code, unit_running, variable_in}
use Rattle.hep_step.proofs.ReplySteps.{arity_is, in_front}
use Rattle.hep_step.proofs.RunningActivations.{Comes, cells_found, coming, found_running, next_is, scope_running}
use Rattle.hep_state.specs.declared.core_state.CoreState.{CoreState}
use Rattle.hep_state.specs.Words.{HasLevels, IsMachineAfter, IsTopRunning, node_under, running_top, snapshot_of}
use Rattle.hep_state.proofs.SilentTurns.{unit-is}
use Rattle.hep_event.specs.declared.next_operation.NextOperation.{NextOperation}
use Rattle.hep_event.specs.NextAccesses.{found_at, replied, replied_at}
use Rattle.hep_event.specs.NextOperations.{IsNextOperation}
use Rattle.hep_step.specs.Simulation.{unit_addressed}
use Rattle.hep_event.proofs.TopPositions.{settled-there, settled-turn}

module _ {program : Units} {cells : ℕ} {choices : List ℕ} {p : ℕ} (m : CoreState) (after : IsMachineAfter program cells choices m) (running : m.halted ≡ false)
    (levels : HasLevels (snapshot_of m) p) (c : NextOperation) (k : IsNextOperation (unit_addressed program levels.level.unit) levels.operands levels.level.index c)
    (runs : IsTopRunning (settled-turn m after running levels c k) (settled-there m after running levels c k)) where
  abbrev pub r : RunningTop
  r = running_top (settled-turn m after running levels c k) (settled-there m after running levels c k)

  pub unit-same : unit_of r.top.state r.top.level.activation ≡ levels.level.unit
  unit-same = unit-is (settled-there m after running levels c k)

  pub ahead : code_ahead r ≡ Step c.line c.operation ∷ c.behind.now
  ahead = ap (λ u. drop k.index (unit_code program u)) unit-same ∙ k.ahead

  pub comes : Comes r (coming r) c.operation c.behind.now
  comes = next_is r runs c.line c.operation c.behind.now ahead

  -- the variable of the redex, if it has one, is in the frame or in COMMON
  pub name-found : (q : Redex) → c.operation ≡ Evaluate (evaluation_of (variable_of program (unit_running r)) q)
      → IsAddressedIn (address program r.top.state r.layout) (scope_running r) (found_running r) (variable_of program (unit_running r)) q
  name-found (reading q) is = runs.addressed q.0 q.1 (λ absent. runs.placed r.index c.line c.operation c.behind.now ahead (ap variable_in is ∙ ap Some absent))
  name-found (testing g q) is = runs.addressed q.0 q.1 (λ absent. runs.placed r.index c.line c.operation c.behind.now ahead (ap variable_in is ∙ ap Some absent))
  name-found _ is = tt

  module _ (q : Redex) (next : coming r ≡ wants (evaluating q)) where
    redex : IsRedex (addressed_on_top program r.top) r.top.level.statement r.top.level.work r.operands r.index q c.operation
    redex = subst (λ n. Comes r n c.operation c.behind.now) next comes

    -- its operands are the last ones
    own-operands : drop (length r.operands - arity (evaluation_of (variable_of program (unit_running r)) q)) r.operands ≡ operands_of_redex q
    own-operands =
        let e = evaluation_of (variable_of program (unit_running r)) q in
        let front = in_front e r.operands redex.before (operands_of_redex q) (arity_is (variable_of program (unit_running r)) q) redex.operands_are in
        ap (λ n. drop n r.operands) front ∙ ap (drop (length redex.before)) redex.operands_are ∙ drop-append_seam redex.before (operands_of_redex q)

    abbrev pub own-reply : Reply
    own-reply = reply_of (cells_in m.frames.arena.contents) (found_running r) (evaluation_of (variable_of program (unit_running r)) q) (operands_of_redex q)

    abbrev replied_by : (Variable → List Value → Result ℕ Kind) → Operation → Option Reply
    replied_by found o = replied (cells_in m.frames.arena.contents) found o c.operands.items

    pub replied-so : replied_at program (snapshot_of m) levels.level c ≡ Some own-reply
    replied-so =
        let e = evaluation_of (variable_of program (unit_running r)) q in
        let found = found_at program (snapshot_of m) levels.level in
        ap (λ o. replied_by found o) redex.operation
        ∙ ap (λ vs. Some (reply_of (cells_in m.frames.arena.contents) found e vs)) own-operands
        ∙ ap (λ u. Some (reply_of (cells_in m.frames.arena.contents) (found_in program u m.frames.arena.contents (node_under (nodes_of m.frames.nodes) levels.level.key).first) e (operands_of_redex q))) (sym unit-same)

    pub answered : Answers (address program r.top.state r.layout) r.top.state.store own-reply (answer_of (scope_running r) r.top.state.store q)
    answered =
        reply_is (address program r.top.state r.layout) r.top.state.store (cells_in m.frames.arena.contents) (cells_found r runs) (scope_running r) (found_running r) (variable_of program (unit_running r)) q
        (name-found q redex.operation)
