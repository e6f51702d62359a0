use Rattle.std.proofs.Common.{◌∙◌, Err, IfErr, ap, subst, sym, take}
use Rattle.std.proofs.lemmas.Result.{err_from_is_err_and}
use Rattle.hep_core.specs.CoreValues.{CoreValue}
use Rattle.hep_replay.specs.HistoryPrefix.{first_of}
use Rattle.hep_why.specs.Replays.{IsUnmade}
use Rattle.hep_trace.proofs.EntriesLeft.{first-front, made-first, unmade-front}
use Rattle.hep_trace.proofs.trace.begin_after.Goals as goal

pub returns-clause-made : goal.returns-clause-made
returns-clause-made c =
    let all = c.args.entries.now.history.now.items in
    made-first c.in_ok-core.core.core c.args.image c.args.cells (take c.args.made all) (first_of c.args.entries.now) c.args.made c.in_ok-core.ensures.made
    (first-front c.args.made c.args.entries.now.count all c.requires.within) c.requires.within c.in_ok-core.ensures.possible c.headline.ensures.legal.within

pub returns-clause-same : goal.returns-clause-same
returns-clause-same c = (ap (λ (x : CoreValue). x.program) c.in_ok-core.ensures.made, ap (λ (x : CoreValue). x.cells) c.in_ok-core.ensures.made)

pub returns-in_err-core-clause-unmade : goal.returns-in_err-core-clause-unmade
returns-in_err-core-clause-unmade c =
    let all = c.args.entries.now.history.now.items in
    let told = err_from_is_err_and c.from_residual.result c.from_residual.ensures.1 in
    subst (λ r. IfErr r (IsUnmade c.args.image c.args.cells (first_of c.args.entries.now))) (sym (told.1 ∙ ap Err told.2)) (
    unmade-front c.args.image c.args.cells (take c.args.made all) c.args.made (first_of c.args.entries.now) c.in_err-core.field-0.0
    (first-front c.args.made c.args.entries.now.count all c.requires.within) c.in_err-core.ensures.unmade)
