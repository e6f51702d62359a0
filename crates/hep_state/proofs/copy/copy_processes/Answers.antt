use Rattle.std.proofs.Common.{[], ◌∷◌, ◌++◌, ◌∙◌, List, ap, append_assoc, arith, subst, sym}
use Rattle.std.specs.List.{AllZip}
use Rattle.std.proofs.lemmas.List.{append-nil, drop_all}
use Rattle.hep_source.proofs.Tests.{drop_at}
use Rattle.hep_proc.specs.declared.process.Process.{Process}
use Rattle.hep_state.specs.Words.{IsProcessCopy}
use Rattle.hep_state.proofs.copy.copy_processes.Goals as goal

pub loop-process-preserved : goal.loop-process-preserved
loop-process-preserved c rest copies =
    let qs = c.args.processes.now in
    let done = c.loop-process.copies.items in
    let copy = c.in_ok-copy.field-0 in
    let made = c.in_ok-copy.ensures in
    let left = sym (drop_at qs c.loop-process.process-index c.process-item.result c.loop-process-test.true c.process-item.is) in
    let first : IsProcessCopy c.process-item.result copy = record { number = made.number; same = made.same; room = made.room } in
    let more = subst (λ (ps : List Process). AllZip IsProcessCopy ps (copy ∷ rest)) left (first, copies) in
    let items = ap (λ (cs : List Process). cs ++ rest) c.in_ok-push.ensures.items ∙ append_assoc done (copy ∷ []) rest in
    subst (AllZip IsProcessCopy qs) (sym items) (c.loop-process.invariant (copy ∷ rest) more)

pub returns : goal.returns
returns c =
    let qs = c.args.processes.now in
    let none = drop_all c.loop-process.process-index qs (omega (arith, c.loop-process-test.false)) in
    let whole = c.loop-process.invariant [] (subst (λ (ps : List Process). AllZip IsProcessCopy ps []) (sym none) tt) in
    subst (AllZip IsProcessCopy qs) (append-nil c.loop-process.copies.items) whole
