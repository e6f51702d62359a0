use Rattle.std.proofs.Common.{◌≡◌, ◌≢◌, ◌∙◌, ◌∷◌, [], ℕ, List, Some, ap, sym}
use Rattle.std.specs.List.{list_any}
use Rattle.std.proofs.Math.Bool.{or-false}
use Rattle.std.proofs.lemmas.Option.{none-some}
use Rattle.hep_code.specs.declared.variable.Variable.TheVariants.{Absent}
use Rattle.hep_event.specs.declared.next_operation.NextOperation.{NextOperation}
use Rattle.hep_image.specs.Places.{variable_of}
use Rattle.hep_machine.specs.Words.{Level, Next, Process, Reference, Top, Units, Value, next_of, unit_on_top}
use Rattle.hep_trace.specs.References.{IsAhead, top_after}
use Rattle.hep_event.proofs.AccessedAhead.{is-named}
use Rattle.hep_event.specs.NamedVariables.{IsNamed, named_by}
use Rattle.hep_event.specs.AccessedNames.{has_name, references_of}
use Rattle.hep_trace.proofs.NextOperations.{accesses, purged, quiet}
use Rattle.hep_trace.proofs.next_operation.touches.Goals.{After-named}
use Rattle.hep_trace.proofs.next_operation.touches.Goals as goal

pub is_target-requires : goal.is_target-requires
is_target-requires c =
    let cells = c.requires.0 in
    let choices = c.requires.1 in
    let top = c.requires.2 in
    let ahead = c.requires.3 in
    let program = c.args.ahead.now.image.now in
    let coming = c.args.ahead.now.coming.now in
    let t : Top = top_after program choices c.args.ahead.now.process top in
    let come = c.operations_come_next.ensures program cells choices c.args.ahead.now.machine.now c.args.ahead.now.process top coming c.is_runnable.ensures.accepted c.is_runnable.ensures.main ahead.lives ahead.coming in
    let n = next_of (unit_on_top program t) top.0.work in
    let purge = purged program t coming.operands.items come.0 coming.operation coming.behind.now c.in-Purge.count c.in-Purge.next c.in-Purge.is n come.1 in
    (cells, choices, top, purge.0, ahead, purge.1, purge.2)

pub returns-in-Purge : goal.returns-in-Purge
returns-in-Purge c cells choices top ahead =
    let program = c.args.ahead.now.image.now in
    let coming = c.args.ahead.now.coming.now in
    let t : Top = top_after program choices c.args.ahead.now.process top in
    let come = c.operations_come_next.ensures program cells choices c.args.ahead.now.machine.now c.args.ahead.now.process top coming c.is_runnable.ensures.accepted c.is_runnable.ensures.main ahead.lives ahead.coming in
    let n = next_of (unit_on_top program t) top.0.work in
    let purge = purged program t coming.operands.items come.0 coming.operation coming.behind.now c.in-Purge.count c.in-Purge.next c.in-Purge.is n come.1 in
    c.is_target.ensures cells choices top purge.0 ahead purge.1 purge.2
    ∙ ap (λ m. list_any (has_name program t c.args.name.now) (references_of program t m)) (sym purge.1)

pub returns-then-not-is_access : goal.returns-then-not-is_access
returns-then-not-is_access c cells choices top ahead =
    let program = c.args.ahead.now.image.now in
    let coming = c.args.ahead.now.coming.now in
    let t : Top = top_after program choices c.args.ahead.now.process top in
    let come = c.operations_come_next.ensures program cells choices c.args.ahead.now.machine.now c.args.ahead.now.process top coming c.is_runnable.ensures.accepted c.is_runnable.ensures.main ahead.lives ahead.coming in
    let n = next_of (unit_on_top program t) top.0.work in
    let none = quiet program t coming.operands.items come.0 coming.operation coming.behind.now (sym c.is_access.ensures ∙ c.if-not-is_access.true) c.in_default.not-Purge n come.1 in
    ap (list_any (has_name program t c.args.name.now)) (sym none)

-- ---- an access, to a variable or an element that the operation names

module _ (c : After-named) (cells : ℕ) (choices : List ℕ) (top : Level × Process) (ahead : IsAhead cells choices c.args.ahead.now top) where
  abbrev program : Units
  program = c.args.ahead.now.image.now

  abbrev coming : NextOperation
  coming = c.args.ahead.now.coming.now

  abbrev t : Top
  t = top_after program choices c.args.ahead.now.process top

  abbrev n : Next
  n = next_of (unit_on_top program t) top.0.work

  access : (x : Reference) × IsNamed (unit_on_top program t) n x × (references_of program t n ≡ x ∷ [])
  access =
      let come = c.operations_come_next.ensures program cells choices c.args.ahead.now.machine.now c.args.ahead.now.process top coming c.is_runnable.ensures.accepted c.is_runnable.ensures.main ahead.lives ahead.coming in
      accesses program t coming.operands.items come.0 coming.operation coming.behind.now (sym c.is_access.ensures ∙ c.if-not-is_access.false) n come.1

  named : (named_by coming.operation coming.operands.items ≡ Some (variable_of program (unit_on_top program t) access.0.0, access.0.1))
      × (variable_of program (unit_on_top program t) access.0.0 ≢ Absent)
  named =
      let law = c.operations_name_variables.ensures.variables program cells choices c.args.ahead.now.machine.now c.args.ahead.now.process top coming access.0 c.is_runnable.ensures.accepted c.is_runnable.ensures.main ahead.lives ahead.coming access.1 in
      (law.0, law.1)

pub returns-in_default-named : goal.returns-in_default-named
returns-in_default-named c cells choices top ahead =
    let at = (goal.at.returns-in_default-named c).After-named in
    absurd (none-some _ (c.in_default-named.ensures ∙ ap (named_by c.args.ahead.now.coming.now.operation) c.deref.ensures.value ∙ (named at cells choices top ahead).0))

pub is_called-requires : goal.is_called-requires
is_called-requires c =
    let at = (goal.at.is_called-requires c).After-named in
    let cells = c.requires.0 in
    let choices = c.requires.1 in
    let top = c.requires.2 in
    let ahead = c.requires.3 in
    let program = c.args.ahead.now.image.now in
    let t : Top = top_after program choices c.args.ahead.now.process top in
    let x = (access at cells choices top ahead).0 in
    let law = named at cells choices top ahead in
    let own = is-named program (unit_on_top program t) x c.in-Some.variable c.in-Some.subscripts.now (c.in-Some.ensures ∙ ap (named_by c.args.ahead.now.coming.now.operation) c.deref.ensures.value ∙ law.0) law.1 in
    (cells, choices, top, x.0, ahead, own.variable)

pub returns : goal.returns
returns c cells choices top ahead =
    let at = (goal.at.returns c).After-named in
    let program = c.args.ahead.now.image.now in
    let t : Top = top_after program choices c.args.ahead.now.process top in
    let it = access at cells choices top ahead in
    let x = it.0 in
    let law = named at cells choices top ahead in
    let own = is-named program (unit_on_top program t) x c.in-Some.variable c.in-Some.subscripts.now (c.in-Some.ensures ∙ ap (named_by c.args.ahead.now.coming.now.operation) c.deref.ensures.value ∙ law.0) law.1 in
    c.is_called.ensures cells choices top x.0 ahead own.variable
    ∙ ap (λ (vs : List Value). has_name program t c.args.name.now (x.0, vs)) own.subscripts
    ∙ sym (or-false (has_name program t c.args.name.now x))
    ∙ ap (list_any (has_name program t c.args.name.now)) (sym it.2)
