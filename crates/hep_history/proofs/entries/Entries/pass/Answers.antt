use Rattle.std.proofs.Common.{◌≡◌, ◌-◌, ◌≤◌, ◌++◌, List, drop, replicate, ap, refl, sym, ◌∙◌, arith}
use Rattle.hep_history.specs.declared.run.Run.{Run}
use Rattle.hep_history.specs.Runs.{entries_of, entry_of}
use Rattle.hep_history.proofs.InRuns.{drop_past, drop_within}
use Rattle.hep_history.proofs.entries.Entries.pass.Goals as goal

pub loop-here-init : goal.loop-here-init
loop-here-init c = record { rest = ap (λ es. drop c.args.count es) c.self.view_is; here = refl }

pub loop-here-preserved : goal.loop-here-preserved
loop-here-preserved c =
    let run : Run = c.loop-here.self-inside.run in
    let left = c.loop-here.left in
    let same : c.loop-here.here ≡ run.count = c.loop-here.invariant.here in
    let past : run.count ≤ left = omega (arith, same, c.loop-here-test.true) in
    record {
      rest = ap (λ (rs : List Run). drop (left - c.loop-here.here) (entries_of rs)) (sym c.in-Some.ensures.next)
          ∙ ap (λ n. drop (left - n) (entries_of c.loop-here.self-inside.runs)) same
          ∙ sym (drop_past run.count left (entry_of run) (entries_of c.loop-here.self-inside.runs) past)
          ∙ c.loop-here.invariant.rest;
      here = refl;
    }

pub returns : goal.returns
returns c =
    let run : Run = c.loop-here.self-inside.run in
    let left = c.loop-here.left in
    let behind = entries_of c.loop-here.self-inside.runs in
    let same : c.loop-here.here ≡ run.count = c.loop-here.invariant.here in
    let fewer : left ≤ run.count = omega (arith, same, c.loop-here-test.false) in
    ap (λ n. replicate (n - left) (entry_of run) ++ behind) same
    ∙ sym (drop_within run.count left (entry_of run) behind fewer)
    ∙ c.loop-here.invariant.rest
