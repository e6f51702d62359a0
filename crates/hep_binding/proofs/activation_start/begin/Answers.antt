use Rattle.std.proofs.Common.{◌≡◌, ℕ, List, length, Some, refl, sym, ap, ◌∙◌, subst, arith}
use Rattle.hep_machine.specs.Words.{frame_of, Activation, State}
use Rattle.hep_arena.specs.Space.{Space}
use Rattle.hep_arena.specs.Holes.{first_fit}
use Rattle.hep_layout.specs.Words.{Nodes, new_node, with_node}
use Rattle.hep_layout.proofs.Memory.{memory-fits}
use Rattle.hep_layout.proofs.References.{unset-ahead}
use Rattle.hep_proc.specs.FrameTable.{FramesOf, frames_begun, Keeps}
use Rattle.hep_proc.specs.Nodes.{nodes_of}
use Rattle.hep_proc.proofs.Slabs.{some-value}
use Rattle.hep_binding.specs.Calling.{called_activation, frames_before_call, frames_with, layout_with, state_before_call, state_begun}
use Rattle.hep_binding.specs.FrameWriting.{IsBinding}
use Rattle.hep_binding.proofs.BegunActivations.{begins, binding, long, stored}
use Rattle.hep_binding.proofs.Nodes.{block-inside, block-out, node-new}
use Rattle.hep_binding.proofs.activation_start.begin.Goals as goal
use Rattle.hep_proc.proofs.BegunActivations.{fit-there}

-- the frame has entered, where the activations are these
abbrev HasBegun : FramesOf → State → ℕ → List Activation → Space → Nodes → Type 0
HasBegun f s first xs arena nodes = Keeps (frames_begun f (record s { activations = xs }) first) arena nodes

-- the new node is under its key
node-there : (old new : Nodes) (key a u first cells parent : ℕ) → new ≡ with_node old key (new_node a u first cells parent) parent → new key ≡ Some (new_node a u first cells parent)
node-there old new key a u first cells parent e = ap (λ (z : Nodes). z key) e ∙ node-new old key (new_node a u first cells parent) parent

pub first-first-requires : goal.first-first-requires
first-first-requires c =
    let fit = fit-there (first_fit c.args.entrant.cells c.args.frames.now.arena.holes) c.requires.gap in
    let old = nodes_of c.args.frames.now.nodes in
    let new = nodes_of c.enter-key.new.self.nodes in
    some-value c.enter-key.new.self.nodes c.enter-key.result (new_node c.args.entrant.activation c.args.entrant.unit fit.0 c.args.entrant.cells c.args.entrant.parent) (
    node-there old new c.enter-key.result c.args.entrant.activation c.args.entrant.unit fit.0 c.args.entrant.cells c.args.entrant.parent (c.enter-key.ensures.nodes fit.0 fit.1))

pub bind-requires-clause-inside : goal.bind-requires-clause-inside
bind-requires-clause-inside c =
    let fit = fit-there (first_fit c.args.entrant.cells c.args.frames.now.arena.holes) c.requires.gap in
    let old = nodes_of c.args.frames.now.nodes in
    let new = nodes_of c.enter-key.new.self.nodes in
    let first = c.first-first.ensures (new_node c.args.entrant.activation c.args.entrant.unit fit.0 c.args.entrant.cells c.args.entrant.parent) (node-there old new c.enter-key.result c.args.entrant.activation c.args.entrant.unit fit.0 c.args.entrant.cells c.args.entrant.parent (c.enter-key.ensures.nodes fit.0 fit.1)) in
    let k = c.requires.kept in
    let inside = block-inside k.0 c.args.frames.now.arena c.enter-key.new.self.arena c.args.entrant.cells fit.0 (omega (arith, c.requires.many)) k.1.memory fit.1 (c.enter-key.ensures.taken fit.0 fit.1) in
    omega (arith, first, inside, c.requires.many)

pub bind-requires-clause-out : goal.bind-requires-clause-out
bind-requires-clause-out c p low high =
    let fit = fit-there (first_fit c.args.entrant.cells c.args.frames.now.arena.holes) c.requires.gap in
    let old = nodes_of c.args.frames.now.nodes in
    let new = nodes_of c.enter-key.new.self.nodes in
    let first = c.first-first.ensures (new_node c.args.entrant.activation c.args.entrant.unit fit.0 c.args.entrant.cells c.args.entrant.parent) (node-there old new c.enter-key.result c.args.entrant.activation c.args.entrant.unit fit.0 c.args.entrant.cells c.args.entrant.parent (c.enter-key.ensures.nodes fit.0 fit.1)) in
    let k = c.requires.kept in
    block-out k.0 c.args.frames.now.arena c.enter-key.new.self.arena c.args.entrant.cells fit.0 (omega (arith, c.requires.many)) k.1.memory fit.1 (c.enter-key.ensures.taken fit.0 fit.1) p (omega (arith, first, low)) (omega (arith, first, high, c.requires.many))

pub returns-clause-nodes : goal.returns-clause-nodes
returns-clause-nodes c first fit = c.bind.ensures.same.nodes ∙ c.enter-key.ensures.nodes first fit

pub returns-clause-written : goal.returns-clause-written
returns-clause-written c call t layout out n keeps at same pass passed more store act unit cells =
    let s = state_before_call call in
    let f = frames_before_call call out layout in
    let old = nodes_of c.args.frames.now.nodes in
    let new = nodes_of c.enter-key.new.self.nodes in
    let begun = c.enter-key.ensures.begun f (state_begun call) (called_activation call) n keeps at (begins call) (ap (λ z. Some z) (sym same)) (act ∙ ap (λ (xs : List Activation). length xs) more) unit (cells ∙ ap (λ (xs : List Activation). frame_of call.program (record s { activations = xs }) (length xs)) more) in
    let first = begun.0 in
    let fit : first_fit c.args.entrant.cells c.args.frames.now.arena.holes ≡ Some first = memory-fits call.program s layout c.args.frames.now.arena.contents c.args.frames.now.arena.holes c.args.entrant.cells keeps.memory (omega (arith, c.requires.many)) ∙ begun.1 in
    let result = c.first-first.ensures (new_node c.args.entrant.activation c.args.entrant.unit first c.args.entrant.cells c.args.entrant.parent) (node-there old new c.enter-key.result c.args.entrant.activation c.args.entrant.unit first c.args.entrant.cells c.args.entrant.parent (c.enter-key.ensures.nodes first fit)) in
    let entered : HasBegun f s first t.activations c.enter-key.new.self.arena new = subst (λ (xs : List Activation). HasBegun f s first xs c.enter-key.new.self.arena new) (sym more) begun.2 in
    let bound = subst (λ z. IsBinding call.program t (layout_with call.program t layout first) (length t.activations) z c.args.given.now) (sym result) (binding call t more pass layout c.args.given.now passed first (length c.args.frames.now.arena.contents) keeps.memory.laid) in (
      first,
      fit,
      begun.1,
      c.bind.ensures.bound (frames_with f t first) (record s { activations = t.activations }) (length t.activations) entered refl
          (stored call t more pass layout c.args.given.now passed store) (λ y. unset-ahead call.program call.choices (length t.activations) y 1 (let more_than = long call t more in omega (arith, more_than))) bound,
    )
