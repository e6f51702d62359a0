-- The processes of a core, one after the other.
use Rattle.std.proofs.Common.{◌≡◌, ℕ, suc, ◌+◌, ◌<◌, Bool, true, false, true≢false, List, [], ◌∷◌, ◌++◌, drop, length, Some, refl, sym, ap, ◌∙◌, subst, arith, is_some, get_or, if◌then◌else◌}
use Rattle.std.proofs.lemmas.List.{drop_more}
use Rattle.std.proofs.lemmas.Option.{slice_get-get_or}
use Rattle.hep_blocked.specs.RosterUpdates.{IsBlocked}
use Rattle.hep_cells.specs.declared.want.Want.{Want}
use Rattle.hep_machine.specs.declared.event.Entry.{Entry}
use Rattle.hep_machine.specs.Words.{Process, State, Units, is_number_among, living, numbered, run, schedule_of, state_after, top_of, wanted_by}
use Rattle.hep_state.specs.declared.core_state.CoreState.{CoreState}
use Rattle.hep_state.specs.Words.{HasLevels, IsMachineAfter, snapshot_of}
use Rattle.hep_views.proofs.WaitingPlaces.{living-top}
use Rattle.hep_state_text.specs.WaitTexts.{IsTextOfWait}
use Rattle.hep_state_text.specs.States as words

-- a process that has ended has no lines
pub ended : (program : Units) (s : State) (shown : ℕ → List ℕ) (p : ℕ) (listed : Bool) (q : Process) → numbered s.processes p ≡ Some q → is_some (living s p) ≡ false → [] ≡ words.process_text program s shown p listed q
ended program s shown p listed [] e none = refl
ended program s shown p listed (level ∷ levels) e none = absurd (true≢false (ap (λ o. is_some (top_of o)) (sym e) ∙ none))

module _ (program : Units) (s : State) (shown : ℕ → List ℕ) (listed : List ℕ) (i : ℕ) (less : i < length s.processes) where
  abbrev q : Process
  q = get_or s.processes i []

  pub process-there : numbered s.processes (i + 1) ≡ Some q
  process-there = ap (numbered s.processes) (let next : i + 1 ≡ suc i = omega arith in next) ∙ slice_get-get_or s.processes i [] less

  pub next-process : words.processes_text program s shown listed (suc i) (drop i s.processes)
      ≡ words.process_text program s shown (i + 1) (is_number_among (i + 1) listed) q ++ words.processes_text program s shown listed (suc (i + 1)) (drop (i + 1) s.processes)
  next-process =
      ap (words.processes_text program s shown listed (suc i)) (drop_more s.processes i [] less)
      ∙ ap (λ n. words.process_text program s shown n (is_number_among n listed) q ++ words.processes_text program s shown listed (suc n) (drop (i + 1) s.processes)) (let next : suc i ≡ i + 1 = omega arith in next)

-- ---- by a core's machine

-- the words of a wait are those of the state after the history
pub waits-so : (program : Units) (image : Units) (history : List Entry) (cells p : ℕ) (m : CoreState) (want : Want) (text : List ℕ) (listed : Bool) → image ≡ program
    → IsMachineAfter program cells (schedule_of history) m → IsBlocked program cells (schedule_of history) p want → IsTextOfWait image m p want text → true ≡ listed
    → text ≡ words.wait_text program (state_after program history) p listed
unfolding state_after
waits-so program image history cells p m want text listed same after blocked is found =
    subst (λ (us : Units). IsTextOfWait us m p want text) same is cells (schedule_of history) after blocked
    ∙ ap (λ (b : Bool). if b then words.waiting_text program (run program (schedule_of history)) (wanted_by program p (run program (schedule_of history))) else []) found

-- one that lives has levels
pub has-levels : (program : Units) (history : List Entry) (cells p : ℕ) (m : CoreState) → IsMachineAfter program cells (schedule_of history) m → is_some (living (state_after program history) p) ≡ true → HasLevels (snapshot_of m) p
unfolding state_after
has-levels program history cells p m after lives = (living-top program cells (schedule_of history) m after p lives).is_top.levels

-- the lines of a process are those of the state after the history
pub process-so : (program : Units) (image : Units) (shown : ℕ → List ℕ) (history : List Entry) (cells p : ℕ) (m : CoreState) (q : Process) (old new words_of waiting : List ℕ) (listed : Bool) → image ≡ program
    → IsMachineAfter program cells (schedule_of history) m → numbered (state_after program history).processes p ≡ Some q
    → ((n : ℕ) (choices : List ℕ) (r : Process) → IsMachineAfter image n choices m → numbered (run image choices).processes p ≡ Some r → new ≡ old ++ words.stack_text image (run image choices) shown p words_of r)
    → words_of ≡ waiting → waiting ≡ words.wait_text program (state_after program history) p listed
    → new ≡ old ++ words.process_text program (state_after program history) shown p listed q
unfolding state_after
process-so program image shown history cells p m q old new words_of waiting listed same after there text words_are waits =
    let all = subst (λ (us : Units). (n : ℕ) (choices : List ℕ) (r : Process) → IsMachineAfter us n choices m → numbered (run us choices).processes p ≡ Some r → new ≡ old ++ words.stack_text us (run us choices) shown p words_of r) same text in
    all cells (schedule_of history) q after there
    ∙ ap (λ (w : List ℕ). old ++ words.stack_text program (run program (schedule_of history)) shown p w q) (words_are ∙ waits)

-- the lines of COMMON and of the activations
pub after-history : (program : Units) (image : Units) (history : List Entry) (cells : ℕ) (m : CoreState) (P : Units → State → Type 0) → image ≡ program
    → IsMachineAfter program cells (schedule_of history) m → ((n : ℕ) (choices : List ℕ) → IsMachineAfter image n choices m → P image (run image choices)) → P program (state_after program history)
unfolding state_after
after-history program image history cells m P same after all =
    subst (λ (us : Units). (n : ℕ) (choices : List ℕ) → IsMachineAfter us n choices m → P us (run us choices)) same all cells (schedule_of history) after
