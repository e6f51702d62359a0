use Rattle.std.proofs.Common.{◌≡◌, ℕ, List, sym, ap, ◌∙◌, vec_capacity, IfOk, OnErr}
use Rattle.hep_machine.specs.Words.{Value}
use Rattle.hep_code.specs.declared.instruction.Instruction.{Instruction}
use Rattle.hep_image.specs.declared.array.Array.{Array}
use Rattle.hep_proc.specs.Nodes.{nodes_of}
use Rattle.hep_step.specs.Effects.{effect_at, changed_at}
use Rattle.hep_step.specs.PerformedSteps as performed
use Rattle.hep_step.specs.PerformedSteps.{IsPerformed, snapshot}
use Rattle.hep_step.specs.StepReady.{IsReady}
use Rattle.hep_step.specs.Simulation.{unit_arrays, unit_code}
use Rattle.hep_proc.specs.declared.process.Local.{Local}
use Rattle.hep_proc.specs.Stacks.{stack_of, stack_with}
use Rattle.hep_proc.proofs.Levels.{operands-are, some-levels}
use Rattle.hep_state.specs.TopPlace.{node_under}
use Rattle.hep_state.proofs.CarriedOperands.{carry}
use Rattle.hep_state.proofs.top_place.advance.Goals.{After-stand_at}
use Rattle.hep_state.proofs.top_place.advance.Goals as goal

pub place-index-requires : goal.place-index-requires
place-index-requires c = let r = c.requires in (r.l, r.ls, r.operands, r.pending, r.stack, (r.inside, r.there))

-- what is ahead can be done, by the code, the arrays and the frame that were read
pub perform-performed-requires : goal.perform-performed-requires
perform-performed-requires c =
    let r = c.requires in
    let q = c.args.process.now in
    let at = c.place-index.ensures r.l r.ls r.operands r.pending r.stack in
    let code = sym (c.as_slice-code.ensures ∙ at.code.code) in
    let arrays = sym (c.as_slice-arrays.ensures ∙ at.code.arrays) in
    let taken = c.replace-operands.ensures.value in
    let vs = sym (ap (λ v. v.items) taken ∙ operands-are q r.l r.ls r.operands r.pending r.stack) in
    record { ready = carry (λ i. IsReady (code i) (arrays i) c.args.frames.now.arena (sym at.framed i) (vs i) (vec_capacity (sym taken i)) (sym at.at i)) r.ready }

pub stand_at-requires : goal.stand_at-requires
stand_at-requires c =
    let r = c.requires in
    some-levels c.args.process.now r.l r.ls r.operands r.pending r.stack

-- what the operation ahead of a level is about: by what was read, or by what the machine keeps
of-level : (c : After-stand_at) (l : Local) (ls : List Local) (operands pending : List Value) → stack_of c.args.process.now ≡ stack_with l ls operands pending → (P : List Instruction → List Array → ℕ → List Value → ℕ → Type 0)
    → P c.as_slice-code.result.now c.as_slice-arrays.result.now c.place-index.result.1.first c.replace-operands.result.items c.place-index.result.2
    → P (unit_code c.args.image.now l.unit) (unit_arrays c.args.image.now l.unit) (node_under (nodes_of c.args.frames.now.nodes) l.key).first operands l.index
of-level c l ls operands pending is P h =
    let at = c.place-index.ensures l ls operands pending is in
    let code = c.as_slice-code.ensures ∙ at.code.code in
    let arrays = c.as_slice-arrays.ensures ∙ at.code.arrays in
    let vs = ap (λ v. v.items) c.replace-operands.ensures.value ∙ operands-are c.args.process.now l ls operands pending is in
    carry (λ i. P (code i) (arrays i) (at.framed i).first (vs i) (at.at i)) h

-- what was left
abbrev left : After-stand_at → performed.Snapshot
left c = snapshot c.perform-performed.new.arena.contents c.perform-performed.new.standing.operands.items c.perform-performed.new.standing.index

stood : (c : After-stand_at) (l : Local) (ls : List Local) (operands pending : List Value) → stack_of c.args.process.now ≡ stack_with l ls operands pending
    → stack_of c.stand_at.new.self ≡ stack_with (record l { index = c.perform-performed.new.standing.index }) ls c.perform-performed.new.standing.operands.items pending
stood c l ls operands pending is = c.stand_at.ensures.stack l ls c.perform-performed.new.standing.operands.items pending (λ i. record { levels = (is i).levels; operands = c.perform-performed.new.standing.operands.items; pending = (is i).pending })

pub returns-clause-advanced : goal.returns-clause-advanced
returns-clause-advanced c l ls operands pending is =
    let at = (goal.at.returns-clause-advanced c).After-stand_at in
    let before = c.args.frames.now.arena in
    record {
      next = c.perform-performed.new.standing.index;
      left = c.perform-performed.new.standing.operands.items;
      stack = stood at l ls operands pending is;
      performed = of-level at l ls operands pending is (λ code arrays first ws index. IfOk c.perform-performed.result (λ effect. IsPerformed (effect_at code arrays first before.contents ws index) (changed_at code arrays first before.contents ws index) (snapshot before.contents ws index) effect (left at))) c.perform-performed.ensures.performed;
      refused = of-level at l ls operands pending is (λ code arrays first ws index. OnErr c.perform-performed.result (left at ≡ snapshot before.contents ws index)) c.perform-performed.ensures.refused;
    }
