use Rattle.std.proofs.Common.{◌≡◌, ℕ, ◌+◌, suc, ◌<◌, ◌≤◌, Bool, true, false, length, sym, ap, ◌∙◌, arith, if◌then◌else◌}
use Rattle.hep_replay.proofs.Histories.{progress-state, state-is}
use Rattle.hep_machine.specs.Words.{State, progress_after, ready_in, state_after}
use Rattle.hep_why.proofs.ReadyCounts.{counted-next, none-left, ready_from}
use Rattle.hep_why.proofs.why.able_of.Goals.{else-is_ready, then-is_ready}
use Rattle.hep_why.proofs.why.able_of.Goals as goal

pub returns-then-machine : goal.returns-then-machine
returns-then-machine c =
    let core = c.args.core.now.core in
    let halted = sym (c.machine.ensures.after.after.shows.halted ∙ ap (λ s. s.halted) (sym (state-is core.program core.history))) ∙ c.if-machine.true in
    λ i. if sym halted i then 0 else length (ready_in (progress_after core.program core.history))

pub loop-index-init : goal.loop-index-init
loop-index-init c = record { few = omega arith; all = omega arith }

pub overflow_add-able : goal.overflow_add-able
overflow_add-able c = omega (arith, c.loop-index.invariant.few, c.loop-index-test.true)

pub loop-index-preserved : goal.loop-index-preserved
loop-index-preserved c =
    let core = c.args.core.now.core in
    let s = state_after core.program core.history in
    let i = c.loop-index.index in
    let less : i < length s.processes = omega (arith, c.loop-index-test.true, c.made-index-end.ensures) in
    let more : c.if-is_ready.able ≡ c.loop-index.able + (if c.is_ready.result then 1 else 0) =
    elim c.if-is_ready.branch [
      | then-is_ready w ↦ omega (arith, w.able-is, ap {B = ℕ} (λ b. if b then 1 else 0) w.if-is_ready.true)
      | else-is_ready w ↦ omega (arith, w.able-is, ap {B = ℕ} (λ b. if b then 1 else 0) w.if-is_ready.false)
    ] in
    record {
      few = omega (arith, more, c.loop-index.invariant.few, few c.is_ready.result);
      all =
          counted-next (progress_after core.program core.history).listed s i c.loop-index.able c.if-is_ready.able _ c.is_ready.result less
          c.is_ready.ensures more c.loop-index.invariant.all;
    }
  where
    few : (b : Bool) → (if b then 1 else 0) ≤ 1
    few true = omega arith
    few false = omega arith

pub returns : goal.returns
returns c =
    let core = c.args.core.now.core in
    let s = state_after core.program core.history in
    let x = progress_after core.program core.history in
    let running = sym (c.machine.ensures.after.after.shows.halted ∙ ap (λ t. t.halted) (sym (state-is core.program core.history))) ∙ c.if-machine.false in
    let none = none-left x.listed (suc c.loop-index.index) c.loop-index.index s.processes (omega (arith, c.loop-index-test.false, c.made-index-end.ensures)) in
    omega (arith, none, c.loop-index.invariant.all)
    ∙ ap (λ (t : State). ready_from x.listed 1 t.processes) (sym (progress-state core.program core.history))
    ∙ (λ i. if sym running i then 0 else length (ready_in x))
