use Rattle.std.proofs.Common.{◌≡◌, ℕ, suc, ◌-◌, ◌≤◌, Bool, true, length, Option, Some, None, sym, ap, ◌∙◌, subst, arith, if◌then◌else◌, is_some}
use Rattle.hep_machine.specs.Words.{is_number_among, run, schedule_of, state_after, progress_after, State}
use Rattle.hep_cells.specs.declared.want.Want.{Want}
use Rattle.hep_blocked.specs.Rosters.{want_of}
use Rattle.hep_blocked.proofs.LivingProcesses.{living-within, waits-live}
use Rattle.hep_blocked.specs.RosterUpdates.{IsBlocked}
use Rattle.hep_views.specs.declared.listed.Listed.{Listed}
use Rattle.hep_views.specs.ListedProcesses.{listed_by}
use Rattle.hep_core.specs.Invariant.{CoreInvariant}
use Rattle.hep_core.specs.CoreValues.{listed_after}
use Rattle.hep_core.specs.declared.run_core.Core.TheInside.{Inside}
use Rattle.hep_core.proofs.Histories.{listed-first, none-listed, state-is}
use Rattle.hep_core.proofs.run_core.Core.waiting_after.Goals as goal

-- one that is listed
there : (b : Bool) (o : Option Listed) (l : Listed) → b ≡ true → o ≡ Some l → (if b then o else None) ≡ Some l
there b o l e f = ap (λ c. if c then o else None) e ∙ f

module _ (i : Inside) (k : CoreInvariant i) where
  -- one that waits for nothing isn't listed
  unlisted : (q : ℕ) → want_of i.roster.waiting q ≡ None → listed_after i.image i.history.items q ≡ None
  unlisted q e = ap (λ b. if b then listed_by i.image q (state_after i.image i.history.items) else None) (k.listed.listed q ∙ ap is_some e)

  -- one that waits was made
  made : (q : ℕ) (w : Want) → IsBlocked i.image i.cells (schedule_of i.history.items) q w → q ≤ length (state_after i.image i.history.items).processes
  made q w blocked =
      let s : State = run i.image (schedule_of i.history.items) in
      subst (λ (t : State). q ≤ length t.processes) (sym (state-is i.image i.history.items)) (living-within s q (waits-live i.image q s blocked.1))

pub returns-in_err-next : goal.returns-in_err-next
returns-in_err-next c =
    let i = c.self.inside in
    let h = i.history.items in
    let p = c.args.p in
    rw (← c.self.view_is) (c.from_residual.ensures ∙ sym (none-listed i.image h (suc p) (length (state_after i.image h).processes - p) (λ q le. unlisted i c.self.invariant q (c.in_err-next.ensures.none q (omega (arith, le))))))

pub listed-requires : goal.listed-requires
listed-requires c =
    let i = c.self.inside in
    let k = c.self.invariant in
    (i.cells, schedule_of i.history.items, k.after, k.listed.blocked c.in_ok-next.next c.in_ok-want.want (sym c.in_ok-want.ensures))

pub returns : goal.returns
returns c =
    let i = c.self.inside in
    let h = i.history.items in
    let p = c.args.p in
    let k = c.self.invariant in
    let next = c.in_ok-next.next in
    let blocked = k.listed.blocked next c.in_ok-want.want (sym c.in_ok-want.ensures) in
    let among : is_number_among next (progress_after i.image h).listed ≡ true = k.listed.listed next ∙ ap is_some (sym c.in_ok-want.ensures) in
    let told = ap (listed_by i.image next) (state-is i.image h) ∙ c.listed.ensures i.cells (schedule_of h) k.after blocked in
    let is = there (is_number_among next (progress_after i.image h).listed) (listed_by i.image next (state_after i.image h)) c.listed.result among told in
    let found = c.in_ok-next.ensures.found in
    let within = made i k next c.in_ok-want.want blocked in
    rw (← c.self.view_is) (sym (listed-first i.image h (suc p) (length (state_after i.image h).processes - p) next c.listed.result (omega (arith, found.0)) (omega (arith, within, found.0)) (λ r a b. unlisted i k r (found.2 r (omega (arith, a)) b)) is))
