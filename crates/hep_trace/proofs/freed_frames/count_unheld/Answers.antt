use Rattle.std.proofs.Common.{◌≡◌, ◌∙◌, ℕ, Bool, ap, arith, false, get_or, inl, inr, length, nat_eq, not, slice_get, subst, sym, true}
use Rattle.std.proofs.lemmas.Bool.{cases_Bool, eqb-false, eqb-true}
use Rattle.std.proofs.lemmas.List.{drop_all}
use Rattle.std.proofs.lemmas.Option.{same_Some, slice_get-get_or}
use Rattle.std.specs.List.{filter}
use Rattle.hep_core.specs.CoreValues.{state_of}
use Rattle.hep_core.proofs.Histories.{state-is}
use Rattle.hep_machine.specs.Words.{State, is_held, schedule_of}
use Rattle.hep_trace.proofs.FallingNumbers.{filter-front}
use Rattle.hep_trace.proofs.freed_frames.count_unheld.Goals as goal

pub is_held-requires : goal.is_held-requires
is_held-requires c = let core = c.args.core.now.core in (core.program, core.cells, schedule_of core.history, c.machine.ensures.after)

pub returns-then-is_held-clause-first : goal.returns-then-is_held-clause-first
returns-then-is_held-clause-first c =
    let core = c.args.core.now.core in
    let xs = c.args.activations.now in
    let i = c.loop-index.index in
    let a = get_or xs i 0 in
    let held : is_held (state_of core) a ≡ true = ap (λ (s : State). is_held s a) (state-is core.program core.history)
    ∙ (sym (c.is_held.ensures core.program core.cells (schedule_of core.history) c.machine.ensures.after) ∙ c.if-is_held.true) in
    filter-front (λ b. not (is_held (state_of core) b)) xs i (omega (arith, c.loop-index-test.true)) (λ k b less there. ap not (c.loop-index.invariant k b less there)) (
    c.requires i a (slice_get-get_or xs i 0 c.loop-index-test.true) held)

pub loop-index-preserved : goal.loop-index-preserved
loop-index-preserved c k a less there =
    let core = c.args.core.now.core in
    let xs = c.args.activations.now in
    let i = c.loop-index.index in
    let b = get_or xs i 0 in
    let off : is_held (state_of core) b ≡ false = ap (λ (s : State). is_held s b) (state-is core.program core.history)
    ∙ (sym (c.is_held.ensures core.program core.cells (schedule_of core.history) c.machine.ensures.after) ∙ c.if-is_held.false) in
    elim (cases_Bool (nat_eq k i)) [
      | inl t ↦
          let same : b ≡ a = same_Some b a (sym (slice_get-get_or xs i 0 c.loop-index-test.true) ∙ (ap (slice_get xs) (sym (eqb-true k i t)) ∙ there)) in
          subst (λ d. is_held (state_of core) d ≡ false) same off
      | inr t ↦
          let other = eqb-false k i t in
          c.loop-index.invariant k a (omega (arith, less, other)) there
    ]

pub returns-clause-first : goal.returns-clause-first
returns-clause-first c =
    let core = c.args.core.now.core in
    let xs = c.args.activations.now in
    let f : ℕ → Bool = λ b. not (is_held (state_of core) b) in
    filter-front f xs (length xs) (omega arith) (λ k b less there. ap not (c.loop-index.invariant k b (omega (arith, less, c.loop-index-test.false)) there)) (
    ap (filter f) (drop_all (length xs) xs (omega arith)))
