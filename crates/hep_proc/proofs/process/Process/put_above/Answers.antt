use Rattle.std.proofs.Common.{arith, ◌≡◌, ◌≤◌, ◌+◌, List, subst, sym, vec_capacity, vec_len, [], ◌∷◌, ◌++◌, reverse, ap, ◌∙◌, take}
use Rattle.std.proofs.lemmas.List.{reverse-append}
use Rattle.hep_machine.specs.Words.{Value}
use Rattle.hep_proc.specs.declared.process.Local.{Local}
use Rattle.hep_proc.specs.declared.process.Process.{Process}
use Rattle.hep_proc.proofs.process.Process.put_above.Goals as goal
use Rattle.hep_proc.specs.Stacks.{Stack, stack_of, stack_with}

stack-is : (c : goal.After-push_reserved) (l : Local) (ls : List Local) (operands pending : List Value) → stack_of c.args.self.now ≡ stack_with l ls operands pending
    → stack_of (record c.put_top.new.self { levels = c.push_reserved.new.self; operands = c.keep_back.new.operands; pending = c.keep_back.new.pending }) ≡ stack_with c.args.level (record l { kept = c.args.kept; index = c.args.index } ∷ ls) [] (pending ++ take c.args.kept operands)
stack-is c l ls operands pending is =
    let same = ap (λ (k : Local). record k { kept = c.args.kept; index = c.args.index }) (c.top.ensures l ls operands pending is) in
    let below = c.put_top.ensures.stack l ls operands pending is in
    let above = ap reverse c.push_reserved.ensures.items ∙ reverse-append c.put_top.new.self.levels.items (c.args.level ∷ []) in
    λ i. record {
      levels = (above ∙ (ap (λ (k : Stack). c.args.level ∷ k.levels) below ∙ ap (λ k. c.args.level ∷ (k ∷ ls)) same)) i;
      operands = c.keep_back.ensures.none i;
      pending = (c.keep_back.ensures.pending ∙ ap (λ (k : Stack). k.pending ++ take c.args.kept k.operands) below) i;
    }

pub returns-clause-stack : goal.returns-clause-stack
returns-clause-stack c = stack-is c

pub keep_back-requires : goal.keep_back-requires
keep_back-requires c = record { few = subst (λ v. c.args.kept ≤ vec_len v) (sym (ap (λ (q : Process). q.operands) c.put_top.ensures.others)) c.requires.few; room = subst (λ v. vec_len v + c.args.kept ≤ vec_capacity v) (sym (ap (λ (q : Process). q.pending) c.put_top.ensures.others)) c.requires.pending }

pub push_reserved-requires : goal.push_reserved-requires
push_reserved-requires c = omega (arith, c.requires.levels.1, c.put_top.ensures.count, c.put_top.ensures.capacity)
