use Rattle.std.proofs.Common.{◌≡◌, ◌+◌, ◌∙◌, ap, sym, drop}
use Rattle.std.specs.Option.{option_or}
use Rattle.indexmap.specs.IndexMap.{get}
use Rattle.hep_machine.specs.Words.{name_eq, declarator_among, declarators_in}
use Rattle.hep_names.specs.Statements.{rest_after}
use Rattle.hep_names.specs.Tables.{seen, first_in, declarator_by_form}
use Rattle.hep_names.proofs.ArraysAmong.{among_arrays}
use Rattle.hep_names.proofs.Notes.{or-assoc}
use Rattle.hep_names.proofs.specification.arrays.Goals as goal
use Rattle.hep_source.proofs.Tests.{drop_at}

pub loop-statement-preserved : goal.loop-statement-preserved
loop-statement-preserved c = λ x.
    let xs = c.args.unit.now in
    let i = c.loop-statement.statement-index in
    let s = c.statement-item.result in
    let says = declarator_by_form x in
    let old = seen (get name_eq c.loop-statement.arrays.map x) in
    let given : declarator_among x (rest_after c.deref.result.now) ≡ says s.form =
    ap (declarator_among x) (ap rest_after c.deref.ensures.value ∙ c.in_ok-declarators.ensures) ∙ among_arrays x (declarators_in s.form) in
    ap (λ o. option_or o (first_in says (drop (i + 1) xs))) (c.in_ok-note_arrays.ensures x ∙ ap (option_or old) given)
    ∙ (or-assoc old (says s.form) (first_in says (drop (i + 1) xs))
    ∙ (ap (λ ss. option_or old (first_in says ss)) (sym (drop_at xs i s c.loop-statement-test.true c.statement-item.is)) ∙ c.loop-statement.invariant x))
