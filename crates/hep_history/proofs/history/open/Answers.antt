use Rattle.std.proofs.Common.{◌≡◌, ◌≤◌, [], ap, arith, subst, sym, ◌∙◌, ◌++◌, ◌∷◌}
use Rattle.hep_history.specs.Runs.{AreFilled, AreRising, end_of_shorts, run_of_short, runs_in}
use Rattle.hep_history.proofs.InRuns.{AreFilled-left, AreRising-left, open_short}
use Rattle.hep_history.proofs.history.open.Goals as goal
use Rattle.hep_history.proofs.history.open.Goals.{After-end_of}
use Rattle.std.proofs.lemmas.List.{nil_from_length}

pub returns-in-Some-clause-runs : goal.returns-in-Some-clause-runs
returns-in-Some-clause-runs c = (AreFilled-left c.pop.new.self.items c.in-Some.run' (subst AreFilled c.in-Some.ensures.items c.requires.filled)).1

pub returns-in-Some-clause-filled : goal.returns-in-Some-clause-filled
returns-in-Some-clause-filled c = (AreFilled-left c.pop.new.self.items c.in-Some.run' (subst AreFilled c.in-Some.ensures.items c.requires.filled)).0

-- the runs in eight bytes that are left, and the one that was taken
split : (c : After-end_of) → AreRising 0 c.pop-2.new.self.items × (end_of_shorts 0 c.pop-2.new.self.items ≤ c.in_ok-short.short.end)
split c =
    let rest = AreRising-left 0 c.pop-2.new.self.items c.in_ok-short.short (subst (AreRising 0) c.in_ok-short.ensures.items c.requires.rising) in
    (rest.0, omega (arith, rest.1))

ends : (c : After-end_of) → c.end_of.result ≡ end_of_shorts 0 c.pop-2.new.self.items
ends c = c.end_of.ensures ∙ ap (λ ss. end_of_shorts 0 ss) c.deref.ensures.value

pub run-requires : goal.run-requires
run-requires c =
    let at = (goal.at.run-requires c).After-end_of in
    omega (arith, ends at, (split at).1)

pub returns-clause-runs : goal.returns-clause-runs
returns-clause-runs c =
    let at = (goal.at.returns-clause-runs c).After-end_of in
    let rest = AreRising-left 0 c.pop-2.new.self.items c.in_ok-short.short (subst (AreRising 0) c.in_ok-short.ensures.items c.requires.rising) in
    omega (arith, ap (λ run. run.count) c.run.ensures, ends at, rest.1)

pub returns-clause-taken : goal.returns-clause-taken
returns-clause-taken c =
    let at = (goal.at.returns-clause-taken c).After-end_of in
    let none = nil_from_length c.args.longs.now.items (sym c.args.longs.now.ok.0 ∙ c.in_default.ensures.cases.0) in
    let left = nil_from_length c.pop.new.self.items (sym c.pop.new.self.ok.0 ∙ c.in_default.ensures.cases.1) in
    open_short c.args.shorts.now.items c.pop-2.new.self.items c.args.longs.now.items c.in_ok-short.short c.in_ok-short.ensures.items none
    ∙ (λ i. runs_in c.pop-2.new.self.items ((none ∙ sym left) i) ++ (ap (λ n. run_of_short n c.in_ok-short.short) (sym (ends at)) ∙ sym c.run.ensures) i ∷ [])

pub returns-clause-rising : goal.returns-clause-rising
returns-clause-rising c = (split (goal.at.returns-clause-rising c).After-end_of).0
