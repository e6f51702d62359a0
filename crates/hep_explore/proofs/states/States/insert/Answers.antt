use Rattle.std.proofs.Common.{◌∙◌, ◌∷◌, ◌++◌, [], length, slice_get, sym, ap}
use Rattle.hep_explore.proofs.FoundStates.{index-added, words-added, words-there, words-unseen}
use Rattle.hep_explore.proofs.states.States.insert.Goals as goal

pub returns-clause-there : goal.returns-clause-there
returns-clause-there c =
    let stored = c.in_ok-insert_full.ensures.stored in
    words-there c.insert_full.new.self.keys c.in_ok-insert_full.field-0.0 c.args.key stored.0 stored.1 stored.2

pub returns-clause-added : goal.returns-clause-added
returns-clause-added c = λ new.
    let old = c.self.inside.keys.keys in
    let after = c.insert_full.new.self.keys in
    let ensures = c.in_ok-insert_full.ensures in
    let view = c.self.view_is in
    let is-new = sym new ∙ ensures.added in (
      ensures.index ∙ index-added old after c.args.key is-new ensures.keys ∙ ap length view,
      words-added old after c.args.key is-new ensures.keys ∙ ap (λ ws. ws ++ c.args.key.bytes.items ∷ []) view,
    )

pub returns-clause-unseen : goal.returns-clause-unseen
returns-clause-unseen c = λ new i here.
    let old = c.self.inside.keys.keys in
    let after = c.insert_full.new.self.keys in
    let ensures = c.in_ok-insert_full.ensures in
    let is-new = sym new ∙ ensures.added in
    words-unseen old after c.args.key is-new ensures.keys i (ap (λ ws. slice_get ws i) c.self.view_is ∙ here)
