use Rattle.std.proofs.Common.{◌≡◌, ◌-◌, ◌≤◌, ◌∷◌, ◌++◌, List, [], Bool, true, false, not, nat_eq, length, length-drop, reverse, refl, sym, ap, ◌∙◌, arith, vec_len}
use Rattle.hep_proc.specs.declared.process.Local.{Local}
use Rattle.hep_proc.specs.declared.process.Process.{Process}
use Rattle.hep_proc.proofs.process.Process.take_value.Goals as goal
use Rattle.hep_proc.specs.Stacks.{operands_answered, pending_answered, Stack, stack_of, stack_with}
use Rattle.hep_proc.proofs.Levels.{has-levels, levels-by}

-- a process with levels has a top one
some-top : (q : Process) (none : Bool) → none ≡ nat_eq (vec_len q.levels) 0 → none ≡ false → (l : Local) × (ls : List Local) × (stack_of q ≡ stack_with l ls q.operands.items q.pending.items)
some-top q none is some = by_levels (reverse q.levels.items) refl (levels-by q.levels.items (vec_len q.levels) q.levels.ok.0 ∙ ap not (sym is ∙ some)) where
  by_levels : (ks : List Local) → reverse q.levels.items ≡ ks → has-levels ks ≡ true → (l : Local) × (ls : List Local) × (stack_of q ≡ stack_with l ls q.operands.items q.pending.items)
  by_levels [] e h = absurd cc
  by_levels (l ∷ ls) e h = (l, ls, λ i. record { levels = e i; operands = q.operands.items; pending = q.pending.items })

pub bring_back-requires-clause-room : goal.bring_back-requires-clause-room
bring_back-requires-clause-room c =
    let q = c.args.self.now in
    let top = some-top q c.is_empty.result c.is_empty.ensures c.if-is_empty.false in
    let same = ap (λ (l : Local). l.kept) (c.top-kept.ensures top.0 top.1 q.operands.items q.pending.items top.2) in
    omega (arith, same, c.requires.room top.0 top.1 q.operands.items q.pending.items top.2)

pub push_reserved-requires : goal.push_reserved-requires
push_reserved-requires c =
    let q = c.args.self.now in
    let top = some-top q c.is_empty.result c.is_empty.ensures c.if-is_empty.false in
    let same = ap (λ (l : Local). l.kept) (c.top-kept.ensures top.0 top.1 q.operands.items q.pending.items top.2) in
    let kept = c.top-kept.result.kept in
    let back = c.bring_back.new.operands in
    let many : length back.items ≤ kept = omega (arith, ap length c.bring_back.ensures.operands, length-drop (length q.pending.items - kept) q.pending.items) in
    omega (arith, same, many, back.ok.0, c.bring_back.ensures.capacity, c.requires.room top.0 top.1 q.operands.items q.pending.items top.2)

pub returns-clause-stack : goal.returns-clause-stack
returns-clause-stack c ls pending is =
    let q = c.args.self.now in
    let v = c.args.value in
    let top = some-top q c.is_empty.result c.is_empty.ensures c.if-is_empty.false in
    let l = top.0 in
    let same : c.top-kept.result ≡ l = c.top-kept.ensures l top.1 q.operands.items q.pending.items top.2 in
    let levels : l ∷ top.1 ≡ ls = ap (λ (k : Stack). k.levels) (sym top.2 ∙ is) in
    let waiting : q.pending.items ≡ pending = ap (λ (k : Stack). k.pending) is in
    λ i. record {
      levels = (ap (λ (k : Stack). k.levels) is) i;
      operands = (c.push_reserved.ensures.items ∙ (ap (λ vs. vs ++ v ∷ []) c.bring_back.ensures.operands ∙ (λ j. operands_answered (waiting j) (same j ∷ top.1) v) ∙ ap (λ ks. operands_answered pending ks v) levels)) i;
      pending = (c.bring_back.ensures.pending ∙ (λ j. pending_answered (waiting j) (same j ∷ top.1)) ∙ ap (pending_answered pending) levels) i;
    }
