use Rattle.std.proofs.Common.{rules, ◌≡◌, ◌+◌, ◌-◌, ◌≤◌, ◌++◌, ℕ, List, ◌∷◌, drop, length, min, replicate, take, ap, ◌∙◌, arith, append_assoc}
use Rattle.hep_history.specs.declared.run.Run.{Run}
use Rattle.hep_history.specs.Runs.{entries_of, entry_of}
use Rattle.hep_fold.specs.Folds.{entries_until, turns_within}
use Rattle.hep_fold.specs.Turns.{turns_from}
use Rattle.hep_fold.proofs.Folding.{first-part, fold-both, fold-on, part-made, same-behind}
use Rattle.hep_fold.proofs.Ranges.{range-begins, range-ends, range-next, range-parts, range-unfinished}
use Rattle.hep_fold.proofs.history_fold.make_range.Goals as goal

pub loop-at-init : goal.loop-at-init
loop-at-init g c =
    let range = c.args.range.now in
    let items = range.history.now.items in
    let least : c.min-end.result ≡ min range.end (length items) = search rules in
    record {
      there = c.requires.ahead;
      folds = λ replay total left h. h;
      place = range-begins items c.runs-runs.result range.end c.min-end.result least c.runs-runs.ensures.entries;
      passed = omega arith;
      within = omega arith;
    }

pub unreachable-requires : goal.unreachable-requires
unreachable-requires g c =
    let range = c.args.range.now in
    let items = range.history.now.items in
    let least : c.min-end.result ≡ min range.end (length items) = search rules in
    range-unfinished items range.end c.min-end.result c.loop-at.at least c.loop-at.runs
    c.loop-at.invariant.place c.in_default.ensures.steps.0 c.loop-at-test.true

pub make_run-requires-clause-ahead : goal.make_run-requires-clause-ahead
make_run-requires-clause-ahead g c =
    let range = c.args.range.now in
    let items = range.history.now.items in
    let end = c.min-end.result in
    let at = c.loop-at.at in
    let made = c.loop-at.made in
    let run = c.in-Some.run' in
    let rest = c.next.new.self in
    let some = c.min-some.result in
    let more = c.saturating_sub-more.result in
    let least : end ≡ min range.end (length items) = search rules in
    let is : some ≡ min run.count (end - at) = search rules in
    let counted : more ≡ at + some - made = search rules in
    let place : drop at (entries_until range) ≡ take (end - at) (entries_of (run ∷ rest)) =
    c.loop-at.invariant.place ∙ ap (λ (rs : List Run). take (end - at) (entries_of rs)) c.in-Some.ensures.steps in
    let first : List (ℕ × ℕ) = turns_from (made + 1) (replicate more (entry_of run)) in
    let later : List (ℕ × ℕ) = turns_from (made + more + 1) (drop (made + more) (entries_until range)) in
    let parts = range-parts items range.end end at least run rest some is place made more counted (omega (arith, c.loop-at.invariant.passed)) in
    first-part (turns_from (made + 1) (drop made (entries_until range))) first later
    (λ left. ap (λ ts. ts ++ left) parts ∙ append_assoc first later left) c.loop-at.invariant.there

pub make_run-requires-clause-few : goal.make_run-requires-clause-few
make_run-requires-clause-few g c =
    let range = c.args.range.now in
    let least : c.min-end.result ≡ min range.end (length range.history.now.items) = search rules in
    let is : c.min-some.result ≡ min c.in-Some.run'.count (c.min-end.result - c.loop-at.at) = search rules in
    let counted : c.saturating_sub-more.result ≡ c.loop-at.at + c.min-some.result - c.loop-at.made = search rules in
    omega (arith, c.len-all.ensures.count, c.len-all.ensures.few, least, is, counted, c.loop-at.invariant.passed, c.loop-at.invariant.within, c.requires.order, c.requires.within)

pub loop-at-preserved : goal.loop-at-preserved
loop-at-preserved g c =
    let range = c.args.range.now in
    let items = range.history.now.items in
    let end = c.min-end.result in
    let at = c.loop-at.at in
    let made = c.loop-at.made in
    let run = c.in-Some.run' in
    let rest = c.next.new.self in
    let some = c.min-some.result in
    let more = c.saturating_sub-more.result in
    let inv = c.loop-at.invariant in
    let least : end ≡ min range.end (length items) = search rules in
    let is : some ≡ min run.count (end - at) = search rules in
    let counted : more ≡ at + some - made = search rules in
    let place : drop at (entries_until range) ≡ take (end - at) (entries_of (run ∷ rest)) =
    inv.place ∙ ap (λ (rs : List Run). take (end - at) (entries_of rs)) c.in-Some.ensures.steps in
    let first : List (ℕ × ℕ) = turns_from (made + 1) (replicate more (entry_of run)) in
    let later : List (ℕ × ℕ) = turns_from (made + more + 1) (drop (made + more) (entries_until range)) in
    let parts = range-parts items range.end end at least run rest some is place made more counted (omega (arith, inv.passed)) in
    let now : List (ℕ × ℕ) = turns_from (made + 1) (drop made (entries_until range)) in
    let next = part-made now first later (λ left. ap (λ ts. ts ++ left) parts ∙ append_assoc first later left) c.in_ok-make_run.ensures in
    record {
      there = fold-on now later next inv.there;
      folds = fold-both (turns_within range) now later inv.folds next;
      place = range-next items range.end end at least run rest some is place;
      passed = omega (arith, inv.passed, counted);
      within = omega (arith, inv.within, is, c.loop-at-test.true);
    }

pub returns : goal.returns
returns g c =
    let range = c.args.range.now in
    let items = range.history.now.items in
    let least : c.min-end.result ≡ min range.end (length items) = search rules in
    let past : c.min-end.result ≤ c.loop-at.made = omega (arith, c.loop-at.invariant.passed, c.loop-at-test.false) in
    same-behind (turns_within range) (range-ends items range.end c.min-end.result c.loop-at.at least c.loop-at.made past) c.loop-at.invariant.folds
