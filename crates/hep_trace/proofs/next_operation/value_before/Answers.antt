use Rattle.std.proofs.Common.{◌≡◌, ◌≢◌, ◌∙◌, [], None, Ok, Err, Result, ap, refl, subst, sym}
use Rattle.std.proofs.lemmas.Option.{none-some}
use Rattle.hep_machine.specs.declared.event.Kind.{Kind}
use Rattle.hep_machine.specs.Words.{Location, Next, Store, Top, Units, location_of_name, next_of, unit_on_top}
use Rattle.hep_trace.specs.References.{top_after}
use Rattle.hep_event.specs.NamedVariables.{IsNamed, named_by}
use Rattle.hep_event.specs.Sites.{stored_at}
use Rattle.hep_event.specs.StepTexts.{own_scope, value_at}
use Rattle.hep_trace.specs.Observations.{HasReferredValue, IsSomeReference}
use Rattle.hep_trace.proofs.NextOperations.{answers, evaluates}
use Rattle.hep_trace.proofs.next_operation.value_before.Goals as goal

stored-is : (program : Units) (t : Top) (store : Store) (at : Result Location Kind) → stored_at store at ≡ value_at program t store at
stored-is program t store (Ok at) = refl
stored-is program t store (Err k) = refl

pub value_referred-requires : goal.value_referred-requires
value_referred-requires c =
    let cells = c.requires.0 in
    let choices = c.requires.1 in
    let top = c.requires.2 in
    let ahead = c.requires.3 in
    let ref = c.requires.4 in
    let program = c.args.ahead.now.image.now in
    let m = c.args.ahead.now.machine.now in
    let coming = c.args.ahead.now.coming.now in
    let named = ap (λ o. named_by o coming.operands.items) c.in-Answer.is in
    let some : named_by coming.operation coming.operands.items ≢ None = λ none. none-some (c.in-Answer.variable, []) (sym none ∙ named) in
    let x = c.operations_name_variables.ensures.names program cells choices m c.args.ahead.now.process top coming c.is_runnable.ensures.accepted c.is_runnable.ensures.main ahead.lives ahead.coming some in
    let found = ref x.0 x.1 in
    let t : Top = top_after program choices c.args.ahead.now.process top in
    subst (IsSomeReference m) (sym found.1) ((program, cells, choices, location_of_name (own_scope program t) x.0.0 x.0.1, found.2.site))

pub returns-in-Answer : goal.returns-in-Answer
returns-in-Answer c cells choices top ahead ref =
    let program = c.args.ahead.now.image.now in
    let coming = c.args.ahead.now.coming.now in
    let t : Top = top_after program choices c.args.ahead.now.process top in
    let come = c.operations_come_next.ensures program cells choices c.args.ahead.now.machine.now c.args.ahead.now.process top coming c.is_runnable.ensures.accepted c.is_runnable.ensures.main ahead.lives ahead.coming in
    let n = next_of (unit_on_top program t) top.0.work in
    record {
      redex = λ q next.
          let is = evaluates program t coming.operands.items come.0 coming.operation coming.behind.now n come.1 q next in
          let both = sym c.in-Answer.is ∙ is in
          absurd (cc);
      result = λ x next named.
          let is_named : IsNamed (unit_on_top program t) n (x, []) = subst (λ (m : Next). IsNamed (unit_on_top program t) m (x, [])) (sym next) ((x, named, refl)) in
          let found = ref (x, []) is_named in
          let has = subst (λ o. HasReferredValue c.args.ahead.now.machine.now o c.value_referred.result) found.1 c.value_referred.ensures in
          has program cells choices _ found.2.site ∙ stored-is program t t.state.store (location_of_name (own_scope program t) x []);
    }

pub returns-in_default : goal.returns-in_default
returns-in_default c cells choices top ahead ref =
    let program = c.args.ahead.now.image.now in
    let coming = c.args.ahead.now.coming.now in
    let t : Top = top_after program choices c.args.ahead.now.process top in
    let come = c.operations_come_next.ensures program cells choices c.args.ahead.now.machine.now c.args.ahead.now.process top coming c.is_runnable.ensures.accepted c.is_runnable.ensures.main ahead.lives ahead.coming in
    let n = next_of (unit_on_top program t) top.0.work in
    record {
      redex = λ q next. c.value_ahead.ensures cells choices top q ahead next;
      result = λ x next named. absurd (c.in_default.not-Answer _ (answers program t coming.operands.items come.0 coming.operation coming.behind.now n come.1 next x named));
    }
