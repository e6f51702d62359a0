-- Where all that live wait no process has a step.
use Rattle.std.proofs.Common.{◌≡◌, ℕ, Bool, true, false, true≢false, ◌&&◌, not, List, [], ◌∷◌, Option, Some, None, is_some, refl, sym, ap, ◌∙◌, subst}
use Rattle.hep_machine.specs.declared.event.Entry.{Entry}
use Rattle.hep_machine.specs.Words.{Units, is_number_among, living, Level, Process, Progress, progress_after, ready_in, run, schedule_of, State, state_after, step}
use Rattle.hep_machine.proofs.Others.{dead_idle}
use Rattle.hep_cells.specs.declared.want.Want.{Want}
use Rattle.hep_blocked.specs.RosterUpdates.{AreListed}
use Rattle.hep_blocked.proofs.LivingProcesses.{waits-idle}
use Rattle.hep_blocked.proofs.Members.{among-ready}
use Rattle.hep_core.specs.CoreValues.{IsIdle, verdict_by}
use Rattle.hep_core.specs.declared.stop.ChoiceStop.{ChoiceStop}
use Rattle.hep_core.specs.declared.stop.Verdict.TheVariants.{Waiting}
use Rattle.hep_core.proofs.Histories.{state-is}

pub no-more-ready : (stop : Option ChoiceStop) (alive ready : List ℕ) → verdict_by stop alive ready ≡ Waiting → ready ≡ []
no-more-ready (Some stop) alive ready e = absurd cc
no-more-ready None [] ready e = absurd cc
no-more-ready None (p ∷ ps) [] e = refl
no-more-ready None (p ∷ ps) (q ∷ qs) e = absurd cc

listed-by : (listed lives : Bool) → (not listed && lives) ≡ false → lives ≡ true → listed ≡ true
listed-by true lives unready there = refl
listed-by false lives unready there = absurd (true≢false (sym there ∙ unready))

module _ (program : Units) (cells : ℕ) (history : List Entry) (waits : ℕ → Option Want) (ready : List ℕ)
    (listed : AreListed program cells (schedule_of history) (progress_after program history) waits ready) (none : ready_in (progress_after program history) ≡ []) where
  abbrev x : Progress
  x = progress_after program history

  abbrev now : State
  now = run program (schedule_of history)

  -- what lives waits
  waits-now : (p : ℕ) → is_some (living now p) ≡ true → is_some (waits p) ≡ true
  waits-now p lives =
      let there : is_some (living x.state p) ≡ true = ap (λ (s : State). is_some (living s p)) listed.state ∙ lives in
      sym (listed.listed p) ∙ listed-by (is_number_among p x.listed) (is_some (living x.state p)) (sym (among-ready x p) ∙ ap (is_number_among p) none) there

  by-want : (p : ℕ) (w : Option Want) → waits p ≡ w → is_some w ≡ true → step program p now ≡ None
  by-want p None e there = absurd (true≢false (sym there))
  by-want p (Some w) e there = waits-idle program p now (listed.blocked p w e).1

  by-top : (p : ℕ) (top : Option (Level × Process)) → living now p ≡ top → step program p now ≡ None
  by-top p None dead = dead_idle program p now dead
  by-top p (Some top) lives = by-want p (waits p) refl (waits-now p (ap is_some lives))

  pub idle : IsIdle program (state_after program history)
  idle p = subst (λ s. step program p s ≡ None) (sym (state-is program history)) (by-top p (living now p) refl)
