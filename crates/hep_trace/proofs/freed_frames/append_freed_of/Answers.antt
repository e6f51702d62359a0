use Rattle.std.proofs.Common.{◌≡◌, ◌≤◌, ◌++◌, ◌∙◌, ℕ, List, Some, append-nil, ap, arith, not, reverse, slice_get, subst, sym}
use Rattle.std.specs.List.{filter}
use Rattle.std.proofs.lemmas.Bool.Decides.{nat_tests}
use Rattle.std.proofs.lemmas.Result.{on_ok_weaker}
use Rattle.hep_core.specs.CoreValues.{state_of}
use Rattle.hep_machine.specs.Words.{is_held, living}
use Rattle.hep_event.specs.LineTexts as lines
use Rattle.hep_trace.specs.Ancestry.{activation_on}
use Rattle.hep_trace.specs.FreedFrames.{AreHeldUpwards}
use Rattle.hep_trace.proofs.Ancestors.{ancestry-first}
use Rattle.hep_trace.proofs.FreedFrames.{freeing}
use Rattle.hep_trace.proofs.freed_frames.append_freed_of.Goals as goal

pub returns-then-goes_on : goal.returns-then-goes_on
returns-then-goes_on c old top h =
    let core = c.args.core.now.core in
    let a = top.0.activation in
    let it = freeing old c.args.p top h.0 core h.2 in
    let first : slice_get c.args.activations.now 0 ≡ Some a = ap (λ (xs : List ℕ). slice_get xs 0) h.1 ∙ ancestry-first (state_of old) a it.some in
    let test = sym (c.goes_on.ensures a first) ∙ c.if-goes_on.true in
    let le : a ≤ activation_on (living (state_of core) c.args.p) = grind (arith, nat_tests, test) in
    sym (append-nil c.args.text.now.items) ∙ ap (λ ns. c.args.text.now.items ++ lines.all_freed_text ns) (sym (it.none le))

pub unheld-requires : goal.unheld-requires
unheld-requires c =
    let old = c.requires.0 in
    let top = c.requires.1 in
    let h = c.requires.2 in
    let core = c.args.core.now.core in
    subst (AreHeldUpwards (state_of core)) (sym h.1) (freeing old c.args.p top h.0 core h.2).upwards

pub returns : goal.returns
returns c =
    on_ok_weaker c.append_freed.result (λ told old top h.
    let it = freeing old c.args.p top h.0 c.args.core.now.core h.2 in
    told
    ∙ ap (λ ns. c.args.text.now.items ++ lines.all_freed_text ns) (c.deref.ensures.value ∙ c.in_ok-numbers.ensures
    ∙ ap (λ (xs : List ℕ). reverse (filter (λ a. not (is_held (state_of c.args.core.now.core) a)) xs)) h.1
    ∙ sym it.all)) c.append_freed.ensures
