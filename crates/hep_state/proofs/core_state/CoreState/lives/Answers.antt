use Rattle.std.proofs.Common.{◌≡◌, ◌∙◌, inl, inr, Some, not, false, sym, ap, subst, is_some, vec_len}
use Rattle.hep_blocked.specs.Numbers.{AreRising}
use Rattle.hep_machine.specs.Words.{is_number_among, numbered}
use Rattle.hep_proc.specs.Stacks.{no_stack, stack_of}
use Rattle.hep_proc.proofs.Levels.{levels-by}
use Rattle.hep_state.specs.Words.{IsPlaceOf, numbers_of, snapshot_of}
use Rattle.hep_state.proofs.Processes.{numbered-absent, numbered-of, some-levels-of}
use Rattle.hep_state.proofs.TopActivations.{lives-by, none-lives}
use Rattle.hep_state.proofs.core_state.CoreState.lives.Goals.{After-is_empty, After-find}
use Rattle.hep_state.proofs.core_state.CoreState.lives.Goals as goal

pub find-requires : goal.find-requires
find-requires c = record { rising = (c.args.self.now.made, subst (λ qs. AreRising 1 c.args.self.now.made (numbers_of qs)) (sym c.deref.ensures.value) c.requires) }

-- the process that was found is process p
numbered-p : (c : After-is_empty) → numbered (snapshot_of c.args.self.now).processes c.args.p ≡ Some (stack_of c.index.result.now)
numbered-p c =
    let place = subst (λ qs. IsPlaceOf qs c.args.p c.in-Some.at) c.deref.ensures.value c.in-Some.ensures.found in
    numbered-of c.args.self.now c.args.p c.requires place c.index.ensures

pub returns-in-Some-clause-lives : goal.returns-in-Some-clause-lives
returns-in-Some-clause-lives c program cells choices h =
    let q = c.index.result.now in
    let at = numbered-p (goal.at.returns-in-Some-clause-lives c).After-is_empty in
    ap not c.is_empty.ensures ∙ (sym (levels-by q.levels.items (vec_len q.levels) q.levels.ok.0) ∙ sym (lives-by c.args.p h (stack_of q) at))

pub returns-in-Some-clause-levels : goal.returns-in-Some-clause-levels
returns-in-Some-clause-levels c some =
    let q = c.index.result.now in
    let at = numbered-p (goal.at.returns-in-Some-clause-levels c).After-is_empty in
    let found = some-levels-of (snapshot_of c.args.self.now).processes c.args.p q at (levels-by q.levels.items (vec_len q.levels) q.levels.ok.0 ∙ (ap not (sym c.is_empty.ensures) ∙ some)) in
    record { level = found.0; below = found.1; operands = q.operands.items; pending = q.pending.items; kept = found.2 }

pub returns-in-None-clause-lives : goal.returns-in-None-clause-lives
returns-in-None-clause-lives c program cells choices h =
    let none = subst (λ qs. is_number_among c.args.p (numbers_of qs) ≡ false) c.deref.ensures.value c.in-None.ensures.none in
    elim (numbered-absent c.args.self.now c.args.p none) [
      | inl past ↦ ap is_some (sym (none-lives c.args.p h past))
      | inr ended ↦ sym (lives-by c.args.p h no_stack ended)
    ]
