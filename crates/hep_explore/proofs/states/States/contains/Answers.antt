use Rattle.std.proofs.Common.{◌∙◌, ap, slice_get, sym}
use Rattle.hep_explore.proofs.FoundStates.{seen-words, unseen-words}
use Rattle.hep_explore.proofs.states.States.contains.Goals as goal

pub returns-clause-seen : goal.returns-clause-seen
returns-clause-seen c = λ is.
    let there = seen-words c.self.inside.keys.keys c.args.key.now (sym c.contains.ensures ∙ is) in
    (there.0, sym (ap (λ ws. slice_get ws there.0) c.self.view_is) ∙ there.1)

pub returns-clause-unseen : goal.returns-clause-unseen
returns-clause-unseen c = λ is i here.
    unseen-words c.self.inside.keys.keys c.args.key.now (sym c.contains.ensures ∙ is) i (
    ap (λ ws. slice_get ws i) c.self.view_is ∙ here)
