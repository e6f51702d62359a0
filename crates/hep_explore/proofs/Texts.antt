-- What a run writes once it is over is what is written of its ending.
use Rattle.std.proofs.Common.{◌≡◌, ℕ, suc, ◌+◌, Bool, true, false, true≢false, not, ◌&&◌, if◌then◌else◌, List, []}
use Rattle.std.proofs.Common.{◌∷◌, ◌++◌, map, length, Option, Some, None, is_some, refl, sym, ap, ◌∙◌, arith, slice_get}
use Rattle.std.proofs.lemmas.List.{append-nil}
use Rattle.std.specs.List.{flat_map}
use Rattle.hep_machine.specs.declared.event.Entry.{Entry}
use Rattle.hep_machine.specs.Words.{Level, Location, Process, Progress, State, Units, Wanted, common, is_number_among, line_at}
use Rattle.hep_machine.specs.Words.{living, living_from, local, progress_after, ready_in, state_after, top_of, unit_at, unit_of, wanted_by}
use Rattle.hep_machine.specs.Views.{ProcessView, process_views_from}
use Rattle.hep_blocked.proofs.LivingProcesses.{waits-live}
use Rattle.hep_blocked.proofs.Members.{among-ready}
use Rattle.hep_image.specs.Names.{names_in_order}
use Rattle.hep_views.specs.ListedProcesses.{listed_by, listed_with, place_of}
use Rattle.hep_views.specs.declared.place.Place.{Place}
use Rattle.hep_dump.specs.Faults.{faults_text}
use Rattle.hep_dump.specs.Waiting.{listed_text, process_text, told_text, waiting_text}
use Rattle.hep_core.proofs.Histories.{progress-state}
use Rattle.hep_core.specs.CoreValues.{listed_after, verdict_by}
use Rattle.hep_core.specs.declared.stop.ChoiceStop.TheVariants.{Halted}
use Rattle.hep_outcome.specs.declared.status.Status.{Status}
use Rattle.hep_outcome.specs.Outcome.{dump_text, outcome_of_end, status_of}
use Rattle.hep_explore.specs.Endings.{Blocked, blocked_of, ending_of, owner_of}
use Rattle.hep_explore.specs.Texts.{Shows, blocked_line, blocked_text, place_named, status_by_blocked}
use Rattle.hep_explore.proofs.Finished.{ListedWait}

-- ---- one process that waits

-- what is waited for has the same place
place_same : (program : Units) (s : State) (at : Location) → place_of program s at ≡ place_named program (owner_of s at) at
place_same program s (local a x i) = refl
place_same program s (common b i) = refl

module _ (program : Units) (s : State) where
  -- a process with this level on top
  view_at : ℕ → Level → ProcessView
  view_at p level =
      record {
        process = p;
        unit = unit_of s level.activation;
        line = line_at (unit_at program (unit_of s level.activation)) level.statement;
        wanted = wanted_by program p s;
      }

  -- its line
  process_same : (p : ℕ) (level : Level) (levels : Process)
      → process_text (told_text false program) (listed_with program s p (Some (level, levels)) (wanted_by program p s))
      ≡ blocked_text program (blocked_of s (view_at p level))
  unfolding view_at
  process_same p level levels = by_wanted (wanted_by program p s) where
    by_wanted : (w : Option Wanted) → process_text (told_text false program) (listed_with program s p (Some (level, levels)) w)
        ≡ blocked_line program (blocked_of s (record {
          process = p;
          unit = unit_of s level.activation;
          line = line_at (unit_at program (unit_of s level.activation)) level.statement;
          wanted = w;
        })) w
    by_wanted None = refl
    by_wanted (Some w) =
        ap (λ (place : Place). listed_text (names_in_order program) (record {
          process = p;
          unit = unit_of s level.activation;
          line = line_at (unit_at program (unit_of s level.activation)) level.statement;
          full = w.full;
          owner = place.owner;
          name = place.name;
          element = place.element;
        })) (place_same program s w.at)

-- ---- all of them

module _ (program : Units) (history : List Entry) where
  -- the state and the listed processes after it
  s : State
  s = state_after program history

  x : Progress
  x = progress_after program history

  module _ (wait : ListedWait program x) (none : ready_in x ≡ []) where
    -- those are listed that live
    listed_is : (p : ℕ) → is_number_among p x.listed ≡ is_some (living s p)
    unfolding s x
    listed_is p = by_listed (is_number_among p x.listed) refl where
      unready : (not (is_number_among p x.listed) && is_some (living x.state p)) ≡ false
      unready = sym (among-ready x p) ∙ ap (is_number_among p) none

      same : living x.state p ≡ living s p
      same = ap (λ (t : State). living t p) (progress-state program history)

      by_lives : (b : Bool) → (not false && b) ≡ false → false ≡ b
      by_lives true e = absurd (true≢false e)
      by_lives false e = refl

      by_listed : (b : Bool) → is_number_among p x.listed ≡ b → b ≡ is_some (living s p)
      by_listed true listed = sym (ap is_some (sym same) ∙ waits-live program p x.state (wait p listed))
      by_listed false unlisted =
          by_lives (is_some (living x.state p)) (ap (λ b. not b && is_some (living x.state p)) (sym unlisted) ∙ unready) ∙ ap is_some same

    -- the lines of processes from one on
    waiting_same : (j : ℕ) (qs : List Process) → ((i : ℕ) → slice_get qs i ≡ slice_get s.processes (j + i))
        → waiting_text (told_text false program) program history (suc j) (length qs)
        ≡ flat_map (blocked_text program) (map (blocked_of s) (process_views_from program s (suc j) qs))
    unfolding s x view_at
    waiting_same j [] at = refl
    waiting_same j (q ∷ qs) at =
        by_process q (here (at 0)) (waiting_same (suc j) qs (λ i. at (suc i) ∙ ap (slice_get s.processes) (next i)))
      where
        next : (i : ℕ) → j + suc i ≡ suc j + i
        next i = omega arith

        here : slice_get (q ∷ qs) 0 ≡ slice_get s.processes (j + 0) → living s (suc j) ≡ top_of (Some q)
        here e = sym (ap top_of (e ∙ ap (slice_get s.processes) (let e : j + 0 ≡ j = omega arith in e)))

        text : ℕ → List ℕ
        text n = waiting_text (told_text false program) program history (suc (suc j)) n

        by_process : (q : Process) → living s (suc j) ≡ top_of (Some q)
            → text (length qs) ≡ flat_map (blocked_text program) (map (blocked_of s) (process_views_from program s (suc (suc j)) qs))
            → process_text (told_text false program) (listed_after program history (suc j)) ++ text (length qs)
            ≡ flat_map (blocked_text program) (map (blocked_of s) (process_views_from program s (suc j) (q ∷ qs)))
        by_process [] dead rest =
            let unlisted : is_number_among (suc j) x.listed ≡ false = listed_is (suc j) ∙ ap is_some dead in
            ap (λ b. process_text (told_text false program) (if b then listed_by program (suc j) s else None) ++ text (length qs)) unlisted
            ∙ rest
        by_process (level ∷ levels) lives rest =
            let listed : is_number_among (suc j) x.listed ≡ true = listed_is (suc j) ∙ ap is_some lives in
            ap (λ b. process_text (told_text false program) (if b then listed_by program (suc j) s else None) ++ text (length qs)) listed
            ∙ ap (λ top. process_text (told_text false program) (listed_with program s (suc j) top (wanted_by program (suc j) s))
            ++ text (length qs)) lives
            ∙ ap (λ line. line ++ text (length qs)) (process_same program s (suc j) level levels)
            ∙ ap (λ lines. blocked_text program (blocked_of s (view_at program s (suc j) level)) ++ lines) rest

-- ---- a run that is over

-- nobody lives, or somebody does
Alike : List ℕ → List ProcessView → Type 0
Alike [] [] = Unit {0}
Alike (p ∷ ps) (v ∷ vs) = Unit {0}
Alike _ _ = ⊥

-- so many are seen as live
views_like : (program : Units) (s : State) (k : ℕ) (qs : List Process) → Alike (living_from k qs) (process_views_from program s k qs)
unfolding Alike
views_like program s k [] = tt
views_like program s k ([] ∷ qs) = views_like program s (suc k) qs
views_like program s k ((level ∷ levels) ∷ qs) = tt

-- nothing comes after them
without_more : (a b : List ℕ) → ((a ++ b) ++ []) ++ [] ≡ a ++ b
without_more a b = append-nil ((a ++ b) ++ []) ∙ append-nil (a ++ b)

module _ (program : Units) (cells : ℕ) (history : List Entry) where
  abbrev now : State
  now = state_after program history

  abbrev alive : List ℕ
  alive = living_from 1 now.processes

  abbrev seen : List ProcessView
  seen = process_views_from program now 1 now.processes

  abbrev left : List Blocked
  left = map (blocked_of now) seen

  abbrev faults : List ℕ
  faults = faults_text (names_in_order program) now.faults

  -- after a STOP
  pub shows_halted : now.halted ≡ true → Shows program (ending_of program now) (outcome_of_end false program cells history (Some Halted))
  shows_halted halted =
      let none : (if now.halted then [] else left) ≡ [] = ap (λ h. if h then [] else left) halted in
      record {
        output = refl;
        messages = without_more faults [] ∙ ap (λ bs. faults ++ flat_map (blocked_text program) bs) (sym none);
        status = ap (status_by_blocked now.faults) (sym none);
      }

  module _ (wait : ListedWait program (progress_after program history)) (none : ready_in (progress_after program history) ≡ [])
      (going : now.halted ≡ false) where
    -- where these processes are ready
    abbrev dump : List ℕ → List ℕ
    dump ready = dump_text false program history (verdict_by None alive ready)

    abbrev code : List ℕ → Status
    code ready = status_of (verdict_by None alive ready) now.faults

    -- the lines of processes that wait
    lines : dump (ready_in (progress_after program history)) ≡ flat_map (blocked_text program) left
    unfolding Alike s x
    lines = ap dump none ∙ by_alive alive seen refl (views_like program now 1 now.processes) where
      by_alive : (ps : List ℕ) (vs : List ProcessView) → seen ≡ vs → Alike ps vs
          → dump_text false program history (verdict_by None ps []) ≡ flat_map (blocked_text program) left
      by_alive [] [] e alike = sym (ap (λ vs. flat_map (blocked_text program) (map (blocked_of now) vs)) e)
      by_alive (p ∷ ps) (v ∷ vs) e alike =
          waiting_same program history wait none 0 now.processes (
          λ i. ap (slice_get now.processes) (let same : i ≡ 0 + i = omega arith in same))
      by_alive [] (v ∷ vs) e alike = absurd alike
      by_alive (p ∷ ps) [] e alike = absurd alike

    -- and the status
    coded : code (ready_in (progress_after program history)) ≡ status_by_blocked now.faults left
    unfolding Alike
    coded = ap code none ∙ by_alive alive seen refl (views_like program now 1 now.processes) where
      by_alive : (ps : List ℕ) (vs : List ProcessView) → seen ≡ vs → Alike ps vs
          → status_of (verdict_by None ps []) now.faults ≡ status_by_blocked now.faults left
      by_alive [] [] e alike = sym (ap (λ vs. status_by_blocked now.faults (map (blocked_of now) vs)) e)
      by_alive (p ∷ ps) (v ∷ vs) e alike = sym (ap (λ vs. status_by_blocked now.faults (map (blocked_of now) vs)) e)
      by_alive [] (v ∷ vs) e alike = absurd alike
      by_alive (p ∷ ps) [] e alike = absurd alike

    -- where no process is ready
    pub shows_over : Shows program (ending_of program now) (outcome_of_end false program cells history None)
    shows_over =
        let are : left ≡ (if now.halted then [] else left) = ap (λ h. if h then [] else left) (sym going) in
        record {
          output = refl;
          messages = without_more faults (dump (ready_in (progress_after program history)))
              ∙ ap (λ ds. faults ++ ds) (lines ∙ ap (flat_map (blocked_text program)) are);
          status = coded ∙ ap (status_by_blocked now.faults) are;
        }
