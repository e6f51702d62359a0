use Rattle.std.proofs.Common.{◌+◌, ◌++◌, ◌∙◌, List, ℕ, ap, append_assoc, codes, drop, length, sym}
use Rattle.std.proofs.lemmas.List.{append-nil, at_drop_all}
use Rattle.std.specs.List.{flat_map}
use Rattle.hep_source.proofs.Tests.{drop_at}
use Rattle.hep_explore.specs.Explored.{Found, deadlock_text, found_text, number_text, others_text, states_text}
use Rattle.hep_explore.proofs.found.text_of.Goals as goal

pub loop-found-preserved : goal.loop-found-preserved
loop-found-preserved c =
    let all : List Found = c.args.all.now in
    let i = c.loop-found.found-index in
    let f : Found = c.found-item.result in
    let text = c.loop-found.text.items in
    let rest = flat_map found_text (drop (i + 1) all) in
    ap (λ (l : List ℕ). l ++ rest) c.in_ok-append.ensures
    ∙ append_assoc text (found_text f) rest
    ∙ ap (λ (fs : List Found). text ++ flat_map found_text fs) (sym (drop_at all i f c.loop-found-test.true c.found-item.is))
    ∙ c.loop-found.invariant

pub returns : goal.returns
returns c =
    let all : List Found = c.args.all.now in
    let text = c.loop-found.text.items in
    let each = flat_map found_text all in
    let outcomes = number_text (length all) (codes " OUTCOME OF ") (codes " OUTCOMES OF ") in
    let states = states_text c.args.states in
    let deadlock = deadlock_text all c.args.complete in
    let others = others_text c.args.states c.args.complete in
    let done =
    sym (append-nil text)
    ∙ (sym (at_drop_all (λ (fs : List Found). text ++ flat_map found_text fs) all c.loop-found.found-index c.loop-found-test.false)
    ∙ c.loop-found.invariant)
    in
    let counts = c.in_ok-append_counted.ensures ∙ ap (λ (t : List ℕ). t ++ outcomes) done in
    let counted =
    c.in_ok-append_counted-2.ensures ∙ (ap (λ (t : List ℕ). t ++ states) counts ∙ append_assoc each outcomes states)
    in
    c.in_ok-append_others.ensures
    ∙ ap (λ (t : List ℕ). t ++ others) (c.in_ok-append_deadlock.ensures ∙ ap (λ (t : List ℕ). t ++ deadlock) counted)
