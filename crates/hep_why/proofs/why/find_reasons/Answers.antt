use Rattle.std.proofs.Common.{◌∙◌, ap, subst, sym, List}
use Rattle.std.proofs.lemmas.Result.{IfOk-weaker}
use Rattle.hep_replay.specs.CoreValues.{state_of}
use Rattle.hep_replay.specs.HistoryPrefix.{first_of}
use Rattle.hep_why.specs.declared.watch.Watch.{Watch}
use Rattle.hep_why.specs.Watches.{AreWaiting, reasons_for}
use Rattle.hep_why.proofs.FoundReasons.{all-waiting, reasons-are}
use Rattle.hep_why.proofs.why.find_reasons.Goals as goal

pub reasons_for-requires : goal.reasons_for-requires
reasons_for-requires c =
    let core = c.args.core.now.core in
    subst (AreWaiting core) (sym c.deref.ensures.value)
    (all-waiting core (first_of c.args.entries.now) c.requires c.in_ok-found.found.items c.in_ok-found.ensures.found)

pub returns : goal.returns
returns c =
    let core = c.args.core.now.core in
    IfOk-weaker c.reasons_for.result _ _ (λ reasons told.
    told ∙ ap (λ (ws : List Watch). reasons_for core.program (state_of core) ws) c.deref.ensures.value
    ∙ reasons-are core (first_of c.args.entries.now) c.requires c.in_ok-watches.watches.items c.in_ok-found.found.items
    c.in_ok-watches.ensures.listed c.in_ok-found.ensures.same c.in_ok-found.ensures.found) c.reasons_for.ensures
