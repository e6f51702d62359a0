use Rattle.std.proofs.Common.{◌≡◌, ◌∙◌, ◌<◌, ◌≤◌, ℕ, false, true, None, Some, length, sym, ap, arith, rules, if◌then◌else◌, not}
use Rattle.hep_blocked.proofs.Members.{ready-rise}
use Rattle.hep_machine.specs.Words.{Progress, first_above, progress_after}
use Rattle.hep_core.specs.CoreValues.{CoreValue, free_of, ready_of}
use Rattle.hep_core.specs.Tickets.{is_out}
use Rattle.hep_core.proofs.FreeProcesses.{first-passing, is-above, none-passing}
use Rattle.hep_core.proofs.run_core.Core.free_above.Goals as goal

module _ (core : CoreValue) where
  abbrev x : Progress
  x = progress_after core.program core.history

  -- the first ready one above p, and what comes next where it is out
  next-free : (p q : ℕ) → first_above p (ready_of core) None ≡ Some q
      → first_above p (free_of core) None ≡ (if not (is_out q core.out) then Some q else first_above q (free_of core) None)
  next-free p q is = first-passing (λ r. not (is_out r core.out)) 1 (length x.state.processes) p q (ready_of core) (ready-rise x) is

  above : (p q : ℕ) → first_above p (ready_of core) None ≡ Some q → (p < q) × (q ≤ length x.state.processes)
  above p q is = is-above 1 (length x.state.processes) p q (ready_of core) (ready-rise x) is

  none-free : (p : ℕ) → first_above p (ready_of core) None ≡ None → first_above p (free_of core) None ≡ None
  none-free p is = none-passing (λ r. not (is_out r core.out)) p (ready_of core) is

pub returns-in_err-next : goal.returns-in_err-next
returns-in_err-next c =
    let none : first_above c.args.p (ready_of c.args.self.now.core) None ≡ None = sym c.in_err-next.ensures in
    c.from_residual.ensures ∙ sym (none-free c.args.self.now.core c.args.p none)

pub loop-next-init : goal.loop-next-init
loop-next-init c =
    let core = c.args.self.now.core in
    let found : first_above c.args.p (ready_of core) None ≡ Some c.in_ok-next.next = sym c.in_ok-next.ensures in
    (next-free core c.args.p c.in_ok-next.next found, (above core c.args.p c.in_ok-next.next found).1)

pub returns-in_err-next-2 : goal.returns-in_err-next-2
returns-in_err-next-2 c =
    let core = c.args.self.now.core in
    let none : first_above c.loop-next.next (ready_of core) None ≡ None = sym c.in_err-next-2.ensures in
    let is : is_out c.loop-next.next core.out ≡ true = search rules in
    c.from_residual-in_err-next-2.ensures
    ∙ sym (c.loop-next.invariant.0 ∙ ap (λ b. if not b then Some c.loop-next.next else first_above c.loop-next.next (free_of core) None) is ∙ none-free core c.loop-next.next none)

pub loop-next-smaller : goal.loop-next-smaller
loop-next-smaller c =
    let core = c.args.self.now.core in
    let found : first_above c.loop-next.next (ready_of core) None ≡ Some c.in_ok-next-2.next = sym c.in_ok-next-2.ensures in
    let more = above core c.loop-next.next c.in_ok-next-2.next found in
    omega (arith, more.0, more.1)

pub loop-next-preserved : goal.loop-next-preserved
loop-next-preserved c =
    let core = c.args.self.now.core in
    let found : first_above c.loop-next.next (ready_of core) None ≡ Some c.in_ok-next-2.next = sym c.in_ok-next-2.ensures in
    let is : is_out c.loop-next.next core.out ≡ true = search rules in
    let further = c.loop-next.invariant.0 ∙ ap (λ b. if not b then Some c.loop-next.next else first_above c.loop-next.next (free_of core) None) is in
    (further ∙ next-free core c.loop-next.next c.in_ok-next-2.next found, (above core c.loop-next.next c.in_ok-next-2.next found).1)

pub returns : goal.returns
returns c =
    let core = c.args.self.now.core in
    let is : is_out c.loop-next.next core.out ≡ false = search rules in
    sym (c.loop-next.invariant.0 ∙ ap (λ b. if not b then Some c.loop-next.next else first_above c.loop-next.next (free_of core) None) is)
