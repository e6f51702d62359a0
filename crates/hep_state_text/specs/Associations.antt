-- What the dummy arguments of activations on stacks are associated with: X3.9-1978, 15.9.3, and docs/MACHINE.md, "Layout".
use Rattle.std.specs.Prelude.{◌≡◌, ◌+◌, ℕ, true, List, [], Option, Some, None, slice_get}
use Rattle.hep_layout.specs.Words.{FrameNode, argument, first_of_part, is_stacked}
use Rattle.hep_machine.specs.Words.{Name, dummies_of, run, spelling, unit_at, unit_of}
use Rattle.hep_proc.specs.Nodes.{nodes_of}
use Rattle.hep_state.specs.Words.{IsMachineAfter}
use Rattle.hep_state_text.specs.Activations.{IsFrameAt}
use Rattle.hep_state_text.specs.Lines as lines
use Rattle.hep_state_text.specs.StoredVariables.{IsFrameOf}
use Rattle.hep_state_text.specs.WaitTexts.{place_seen}
use Rattle.hep_state_text.specs.declared.activations.NamedUnit.{NamedUnit}
use Rattle.hep_state_text.specs.declared.associations.StackedFrame.{StackedFrame}
use Rattle.hep_views.specs.declared.place.Place.{Place}

-- after these turns the machine keeps activation a, which is on a stack, and whose frame this is
pub record IsStackedUnder (frame : StackedFrame) (cells : ℕ) (choices : List ℕ) (a : ℕ) : Type 0 where
  pub after : IsMachineAfter frame.image.now cells choices frame.machine.now
  pub stacked : is_stacked (run frame.image.now choices) a ≡ true
  pub node : FrameNode
  pub there : nodes_of frame.machine.now.frames.nodes frame.key ≡ Some node
  pub activation : node.activation ≡ a
  pub is_of : IsFrameOf frame.image.now (run frame.image.now choices) after.after.layout a node.first frame.machine.now.frames.arena

-- it is an activation of this unit
pub record IsStackedAt (frame : StackedFrame) (unit : NamedUnit) (cells : ℕ) (choices : List ℕ) (a : ℕ) : Type 0 where
  pub under : IsStackedUnder frame cells choices a
  pub at : IsFrameAt frame.image.now (run frame.image.now choices) under.after.after.layout a unit under.node.first frame.machine.now.frames.arena

-- a cell is the first of the two of a dummy argument of it
pub record IsDummyAt (frame : StackedFrame) (cell cells : ℕ) (choices : List ℕ) (a : ℕ) (x : Name) : Type 0 where
  pub under : IsStackedUnder frame cells choices a
  pub index : ℕ
  pub named : slice_get (dummies_of (unit_at frame.image.now (unit_of (run frame.image.now choices) a))) index ≡ Some x
  pub cell_is : cell ≡ under.node.first + first_of_part (unit_at frame.image.now (unit_of (run frame.image.now choices) a)) (argument x)

-- its line, by the place of the first storage unit that it is associated with; none where it is associated with an expression
abbrev pub association_line : List (List ℕ) → Name → Option Place → List ℕ
association_line names x None = []
association_line names x (Some place) = lines.association_text (spelling x) (place_seen names place)
