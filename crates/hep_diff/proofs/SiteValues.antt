-- What a step finds at the site of the variable that its operation names.
use Rattle.std.proofs.Common.{◌≡◌, ◌≢◌, ℕ, List, Option, Some, Result, Ok, Err, sym, ap, ◌∙◌}
use Rattle.std.proofs.lemmas.Option.{same_Some}
use Rattle.hep_code.specs.declared.instruction.Operation.{Operation}
use Rattle.hep_code.specs.declared.variable.Variable.{Variable}
use Rattle.hep_code.specs.declared.variable.Variable.TheVariants.{Absent}
use Rattle.hep_code.specs.Words.{is_asynchronous}
use Rattle.hep_image.specs.Places.{variable_of}
use Rattle.hep_layout.specs.Words.{address}
use Rattle.hep_machine.specs.declared.event.Kind.{Kind}
use Rattle.hep_machine.specs.declared.slot.Slot.{Slot}
use Rattle.hep_machine.specs.Words.{Level, Location, Next, Process, Reference, State, Statement, Units, Value, living, run, StateFunction}
use Rattle.hep_proc.specs.FrameTable.{FramesOf, Keeps}
use Rattle.hep_proc.specs.Nodes.{nodes_of}
use Rattle.hep_state.specs.declared.core_state.CoreState.{CoreState}
use Rattle.hep_event.specs.NamedVariables.{IsNamed, named_by}
use Rattle.hep_event.specs.Sites.{IsSiteAfter, IsVariableOf}
use Rattle.hep_event.specs.declared.sites.Site.{Site}
use Rattle.hep_views.specs.ProcessPositions.{whereabouts_at, whereabouts_by, whereabouts_with}
use Rattle.hep_views.specs.declared.whereabouts.Whereabouts.{Whereabouts}
use Rattle.hep_diff.specs.ProcessSteps.{Question, answer_of, deed_at, found_at, found_of, question_of}
use Rattle.hep_diff.specs.declared.process_step.CellReading.{CellReading}
use Rattle.hep_diff.specs.CellReadings.{asked_by}
use Rattle.hep_diff.proofs.CellReadings.{asked-named, some-asked, way}

-- and what is found there is what the definition says
pub found-there : (program : Units) (cells : ℕ) (choices : List ℕ) (m : CoreState) (site : Site) (f : StateFunction) (at : Result Location Kind)
    → IsSiteAfter program cells choices m (Some site) at
    → (slot : Slot) (v : Option Value)
    → ((g : FramesOf) (place : Location) → Keeps g m.frames.arena (nodes_of m.frames.nodes) → address g.program g.state g.layout place ≡ Some site.cell → slot ≡ g.state.store place)
    → v ≡ answer_of f slot → ◌≡◌ {A = Option CellReading} (Some (record { place = site.place; value = v })) (found_at program (run program choices) f at)
found-there program cells choices m site f (Ok at) h slot v get is =
    let cell : slot ≡ (run program choices).store at = get _ at h.after.after.shows.keeps h.site_is.0 in
    λ i. Some (record { place = h.site_is.1 i; value = (is ∙ ap (answer_of f) cell) i })
found-there program cells choices m site f (Err k) h slot v get is = absurd h.site_is

-- the variable of an operation is that of the name of which it asks
pub found-variable : (program : Units) (unit : List Statement) (v : Variable) (vs : List Value) (x : Reference) → ◌≡◌ {A = Option (Variable × List Value)} (Some (v, vs)) (Some (variable_of program unit x.0, x.1))
    → variable_of program unit x.0 ≢ Absent → IsVariableOf program unit x.0 v × (vs ≡ x.1)
found-variable program unit v vs x e placed =
    let same = same_Some _ _ e in
    let one : v ≡ variable_of program unit x.0 = ap (λ (p : Variable × List Value). p.0) same in
    ((sym one, λ absent. placed (sym one ∙ absent)), ap (λ (p : Variable × List Value). p.1) same)

-- a step by where its process is and by what it finds
pub deed-is : (program : Units) (s : State) (p entry : ℕ) (top : Level × Process) (w : Whereabouts) (f : Option CellReading)
    → living s p ≡ Some top
    → whereabouts_by program p s ≡ Some w → f ≡ found_of program s top.0
    → record { entry = entry; unit = w.unit; line = w.line; found = f } ≡ deed_at program s entry top.0
deed-is program s p entry top w f lives where_is is =
    let same : w ≡ whereabouts_at program s p top.0 =
    same_Some w (whereabouts_at program s p top.0) (sym where_is ∙ ap (whereabouts_with program s p) lives) in
    λ i. record { entry = entry; unit = (same i).unit; line = (same i).line; found = is i }

-- the variable of an operation that asks, by the name in the source
pub asked-variable : (program : Units) (unit : List Statement) (n : Next) (o : Operation) (operands : List Value) (f : StateFunction) (v : Variable) (vs : List Value)
    → way (question_of unit n) ≡ asked_by o → asked_by o ≡ Some f
    → ((x : Reference) → IsNamed unit n x → (named_by o operands ≡ Some (variable_of program unit x.0, x.1)) × (variable_of program unit x.0 ≢ Absent)
    × (is_asynchronous (variable_of program unit x.0) ≡ x.0.asynchronous))
    → ◌≡◌ {A = Option (Variable × List Value)} (Some (v, vs)) (named_by o operands)
    → (q : Question) × (question_of unit n ≡ Some q) × (q.1 ≡ f) × IsVariableOf program unit q.0.0 v × (vs ≡ q.0.1)
asked-variable program unit n o operands f v vs asks asked names is =
    let q = some-asked (question_of unit n) f (asks ∙ asked) in
    let known = names q.0.0 (asked-named unit n q.0 q.1) in
    let found = found-variable program unit v vs q.0.0 (is ∙ known.0) known.1 in
    (q.0, q.1, q.2, found.0, found.1)
