use Rattle.std.proofs.Common.{◌≡◌, ◌+◌, ◌<◌, ◌≤◌, OnOk, Result, Ok, Err, refl, sym, subst, ◌∙◌, reverse, vec_len, vec_capacity}
use Rattle.hep_proc.specs.declared.process.Process.{Process}
use Rattle.hep_proc.specs.Stacks.{stack_of}
use Rattle.hep_state.specs.Words.{snapshot_of}
use Rattle.hep_state.proofs.Processes.{is-there, process-at, room-reserved, stacks-set}
use Rattle.hep_state.proofs.Runs.{set-same}
use Rattle.hep_state.proofs.UnchangedStates.{rooms-set}
use Rattle.hep_state.proofs.core_state.CoreState.reserve_level.Goals as goal

-- three facts of one outcome
all-three : {A E P Q R S : Type 0} (r : Result A E) → (P → Q → R → S) → OnOk r P → OnOk r Q → OnOk r R → OnOk r S
all-three (Ok x) f p q r = f p q r
all-three (Err e) f p q r = tt

pub returns-clause-level : goal.returns-clause-level
returns-clause-level c =
    let m = c.args.self.now in
    let it = process-at m c.args.p c.requires.numbers c.place-at.ensures c.requires.living.kept c.index_mut.ensures.value in
    let here = is-there m c.args.p c.reserve-2.new.self c.requires.numbers it c.reserve-2.ensures.number in
    all-three c.reserve-2.result (λ level operands pending. record {
      node = c.in_ok-reserve.ensures.room;
      level = λ i q e own. subst (λ (z : Process). vec_len z.levels < vec_capacity z.levels) (here i q e own) level;
      operands = λ i q e own. subst (λ (z : Process). c.args.operands ≤ vec_capacity z.operands) (here i q e own) operands;
      pending = λ i q e own. subst (λ (z : Process). vec_len z.pending + c.args.kept ≤ vec_capacity z.pending) (here i q e own) pending;
    }) c.reserve-2.ensures.level c.reserve-2.ensures.operands c.reserve-2.ensures.pending

pub returns-clause-same : goal.returns-clause-same
returns-clause-same c =
    let m = c.args.self.now in
    let q = c.index_mut.result.now in
    let r = c.reserve-2.new.self in
    let made = c.reserve-2.ensures in
    let kept = c.requires.living.kept in
    let it = process-at m c.args.p c.requires.numbers c.place-at.ensures kept c.index_mut.ensures.value in
    let own : stack_of r ≡ stack_of q = λ i. record { levels = reverse (made.same.0 i); operands = made.same.1 i; pending = made.same.2 i } in
    let stacks = stacks-set m c.args.p r _ c.requires.numbers it made.number (own ∙ it.stack) ∙ sym (set-same (snapshot_of m).processes c.args.p _ kept) in
    record {
      shown = λ i. record (snapshot_of m) { arena = c.in_ok-reserve.ensures.arena i; nodes = c.in_ok-reserve.ensures.nodes i; processes = stacks i };
      made = refl;
      passing = refl;
      rooms = λ program cells h. rooms-set program cells m _ r it made.number refl refl refl (room-reserved program q r made.same.0 made.capacity (h.room c.place-at.result q it.there)) h;
    }
