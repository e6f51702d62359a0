-- Of a legal history each step is there.
use Rattle.std.proofs.Common.{◌≡◌, inl, inr, ℕ, List, [], ◌∷◌, ◌++◌, refl, sym, ◌∙◌, subst, replicate}
use Rattle.hep_machine.specs.declared.event.Entry.{Entry}
use Rattle.hep_machine.specs.Words.{IsEntry, AreEntries, IsLegal, state_replayed, opening, state_after_turn, run_from, AreSteps, run, schedule_of_entry, schedule_of, state_after, State, Units}

-- steps before others
pub steps_before : (program : Units) (s : State) (ps qs : List ℕ) → AreSteps program s ps → AreSteps program (run_from program s ps) qs → AreSteps program s (ps ++ qs)
unfolding run_from
steps_before program s [] qs h more = more
steps_before program s (p ∷ ps) qs h more = (h.0, steps_before program (state_after_turn program p s) ps qs h.1 more)

steps_of_entry : (program : Units) (s : State) (e : Entry) → IsEntry program s e → AreSteps program s (schedule_of_entry e)
steps_of_entry program s e (inl h) = subst (λ n. AreSteps program s (replicate n e.process)) (sym h.0) tt
steps_of_entry program s e (inr h) = h.2

steps_of_entries : (program : Units) (s : State) (es : List Entry) → AreEntries program s es → AreSteps program s (schedule_of es)
unfolding schedule_of
steps_of_entries program s [] h = tt
steps_of_entries program s (e ∷ es) h =
    steps_before program s (schedule_of_entry e) (schedule_of es) (steps_of_entry program s e h.0) (steps_of_entries program (run_from program s (schedule_of_entry e)) es h.1)

pub legal_steps : (program : Units) (cells limit : ℕ) (history : List Entry) → IsLegal program cells limit history → AreSteps program (opening program) (schedule_of history)
legal_steps program cells limit history h = steps_of_entries program (opening program) history h.entries

-- a run by choices, and then by more, is the run by all of them
pub run_after : (program : Units) (s : State) (ps qs : List ℕ) → run_from program s (ps ++ qs) ≡ run_from program (run_from program s ps) qs
unfolding run_from
run_after program s [] qs = refl
run_after program s (p ∷ ps) qs = run_after program (state_after_turn program p s) ps qs

run_replayed : (program : Units) (s : State) (es : List Entry) → run_from program s (schedule_of es) ≡ state_replayed program s es
unfolding run_from schedule_of
run_replayed program s [] = refl
run_replayed program s (e ∷ es) = run_after program s (schedule_of_entry e) (schedule_of es) ∙ run_replayed program (run_from program s (schedule_of_entry e)) es

pub replayed : (program : Units) (history : List Entry) → state_after program history ≡ state_replayed program (opening program) history
unfolding state_after run
replayed program history = run_replayed program (opening program) history
