use Rattle.std.proofs.Common.{◌+◌, ◌++◌, ◌∙◌, Bool, List, [], ap, codes, drop, if◌then◌else◌, sym, ℕ}
use Rattle.std.proofs.lemmas.List.{append-nil, at_drop_all}
use Rattle.hep_source.proofs.Tests.{drop_at}
use Rattle.hep_explore.specs.Explored.{Found, deadlock_text, has_waiting_line}
use Rattle.hep_explore.proofs.AppendedItems.{if_appended}
use Rattle.hep_explore.proofs.found.append_deadlock.Goals as goal

pub returns-then-has_waiting_line : goal.returns-then-has_waiting_line
returns-then-has_waiting_line c =
    let all : List Found = c.args.all.now in
    let complete = c.args.complete in
    let i = c.loop-found.found-index in
    let f : Found = c.found-item.result in
    let text = c.loop-found.text.items in
    let possible = codes "DEADLOCK IS POSSIBLE\n" in
    let rest = deadlock_text (drop (i + 1) all) complete in
    let lines = c.deref.ensures.value ∙ ap (λ (x : Found). x.lines) c.found.view_is in
    let waits = sym c.if-has_waiting_line.true ∙ (c.has_waiting_line.ensures ∙ ap has_waiting_line lines) in
    let whole =
    ap (λ (b : Bool). if b then possible else rest) waits
    ∙ (ap (λ (fs : List Found). deadlock_text fs complete) (sym (drop_at all i f c.loop-found-test.true c.found-item.is))
    ∙ c.loop-found.invariant.rest)
    in
    if_appended c.extend_from_slice.result c.extend_from_slice.new.self.items text possible _ c.extend_from_slice.ensures.items (
    ap (λ (t : List ℕ). t ++ possible) c.loop-found.invariant.same ∙ ap (λ (t : List ℕ). c.args.text.now.items ++ t) whole)

pub loop-found-preserved : goal.loop-found-preserved
loop-found-preserved c =
    let all : List Found = c.args.all.now in
    let complete = c.args.complete in
    let i = c.loop-found.found-index in
    let f : Found = c.found-item.result in
    let rest = deadlock_text (drop (i + 1) all) complete in
    let lines = c.deref.ensures.value ∙ ap (λ (x : Found). x.lines) c.found.view_is in
    let none = sym c.if-has_waiting_line.false ∙ (c.has_waiting_line.ensures ∙ ap has_waiting_line lines) in
    record {
      same = c.loop-found.invariant.same;
      rest = ap (λ (b : Bool). if b then codes "DEADLOCK IS POSSIBLE\n" else rest) none
          ∙ (ap (λ (fs : List Found). deadlock_text fs complete) (sym (drop_at all i f c.loop-found-test.true c.found-item.is))
          ∙ c.loop-found.invariant.rest);
    }

pub returns-then-complete : goal.returns-then-complete
returns-then-complete c =
    let all : List Found = c.args.all.now in
    let complete = c.args.complete in
    let text = c.loop-found.text.items in
    let impossible = codes "NO DEADLOCK IS POSSIBLE\n" in
    let none = at_drop_all (λ (fs : List Found). deadlock_text fs complete) all c.loop-found.found-index c.loop-found-test.false in
    let whole = ap (deadlock_text []) (sym c.if-complete.true) ∙ (sym none ∙ c.loop-found.invariant.rest) in
    let wrote = c.extend_from_slice-then-complete in
    if_appended wrote.result wrote.new.self.items text impossible _ wrote.ensures.items (
    ap (λ (t : List ℕ). t ++ impossible) c.loop-found.invariant.same ∙ ap (λ (t : List ℕ). c.args.text.now.items ++ t) whole)

pub returns : goal.returns
returns c =
    let all : List Found = c.args.all.now in
    let complete = c.args.complete in
    let text = c.args.text.now.items in
    let none = at_drop_all (λ (fs : List Found). deadlock_text fs complete) all c.loop-found.found-index c.loop-found-test.false in
    let nothing = ap (deadlock_text []) (sym c.if-complete.false) ∙ (sym none ∙ c.loop-found.invariant.rest) in
    c.loop-found.invariant.same ∙ (sym (append-nil text) ∙ ap (λ (t : List ℕ). text ++ t) nothing)
