-- The history of a serial run is one that the machine can have, and what the run knows of its state, of its frames and of the
-- processes that wait is what the definitions say of that history.
use Rattle.std.proofs.Common.{◌≡◌, ℕ, zero, suc, ◌+◌, ◌≤◌, Bool, true, false, if◌then◌else◌, is_some, List, [], ◌∷◌, ◌++◌, length, replicate, reverse, Option, Some, None, Result, Ok, Err, arith, refl, ap, sym, subst, ◌∙◌, inl, inr}
use Rattle.std.specs.Option.{unwrap_or}
use Rattle.std.proofs.lemmas.Grind.{reverse_onto}
use Rattle.std.proofs.lemmas.List.{length-reverse}
use Rattle.hep_machine.specs.declared.event.Entry.{Entry}
use Rattle.hep_machine.specs.Words.{IsEntry, AreEntries, IsLegal, state_replayed, Layout, Placing, is_held, layout_after_step, opening_layout, placing_turn, placing_from, opening, state_after_turn, run_from, schedule_of_entry, schedule_of, Progress, progress_after_step, progress_after_entry, progress_from, progress_after, ready_in, last_process, next_of_ready, next_ready, State, StepResult, Wanted, stepped, waiting, absent, step_result_of, wanted_of, step, Units}
use Rattle.hep_worked.proofs.SerialRuns.{Course, Ending, halted, steps, last_of, with_step, with_turn, turned, next_of, if_next, if_turned, course_from, first_course, course_in, course}
use Rattle.hep_machine.proofs.Others.{step-is}

-- ---- one entry more

replayed_append : (program : Units) (s : State) (es : List Entry) (e : Entry) → state_replayed program s (es ++ e ∷ []) ≡ run_from program (state_replayed program s es) (schedule_of_entry e)
replayed_append program s [] e = refl
replayed_append program s (f ∷ es) e = replayed_append program (run_from program s (schedule_of_entry f)) es e

replayed_after : (program : Units) (es : List Entry) (e : Entry) → state_replayed program (opening program) (reverse (e ∷ es)) ≡ run_from program (state_replayed program (opening program) (reverse es)) (schedule_of_entry e)
replayed_after program es e = ap (state_replayed program (opening program)) (reverse_onto es e []) ∙ replayed_append program (opening program) (reverse es) e

entries_append : (program : Units) (s : State) (es : List Entry) (e : Entry) → AreEntries program s es → IsEntry program (state_replayed program s es) e → AreEntries program s (es ++ e ∷ [])
entries_append program s [] e h k = (k, tt)
entries_append program s (f ∷ es) e h k = (h.0, entries_append program (run_from program s (schedule_of_entry f)) es e h.1 k)

entries_after : (program : Units) (es : List Entry) (e : Entry) → AreEntries program (opening program) (reverse es) → IsEntry program (state_replayed program (opening program) (reverse es)) e → AreEntries program (opening program) (reverse (e ∷ es))
entries_after program es e h k =
    subst (AreEntries program (opening program)) (sym (reverse_onto es e [])) (entries_append program (opening program) (reverse es) e h k)

progress_append : (program : Units) (x : Progress) (es : List Entry) (e : Entry) → progress_from program x (es ++ e ∷ []) ≡ progress_after_entry program (progress_from program x es) e e.steps
unfolding progress_from
progress_append program x [] e = refl
progress_append program x (f ∷ es) e = progress_append program (progress_after_entry program x f f.steps) es e

progress_after_one : (program : Units) (es : List Entry) (e : Entry) → progress_after program (reverse (e ∷ es)) ≡ progress_after_entry program (progress_after program (reverse es)) e e.steps
progress_after_one program es e = ap (progress_after program) (reverse_onto es e []) ∙ progress_append program _ (reverse es) e

abbrev Frames : Type 0
Frames = State → ℕ → Bool

placing_append : (program : Units) (cells : ℕ) (has : Frames) (x : Placing) (ps qs : List ℕ) → placing_from program cells has x (ps ++ qs) ≡ placing_from program cells has (placing_from program cells has x ps) qs
unfolding placing_from
placing_append program cells has x [] qs = refl
placing_append program cells has x (p ∷ ps) qs = placing_append program cells has (placing_turn program cells has x p) ps qs

placing_entry : (program : Units) (cells : ℕ) (has : Frames) (x : Placing) (es : List Entry) (e : Entry) → placing_from program cells has x (schedule_of (es ++ e ∷ [])) ≡ placing_from program cells has (placing_from program cells has x (schedule_of es)) (replicate e.steps e.process)
unfolding placing_from schedule_of
placing_entry program cells has x [] e = placing_append program cells has x (replicate e.steps e.process) []
placing_entry program cells has x (f ∷ es) e =
    placing_append program cells has x (replicate f.steps f.process) (schedule_of (es ++ e ∷ []))
    ∙ (placing_entry program cells has (placing_from program cells has x (replicate f.steps f.process)) es e
    ∙ ap (λ y. placing_from program cells has y (replicate e.steps e.process)) (sym (placing_append program cells has x (replicate f.steps f.process) (schedule_of es))))

abbrev first_placing : Units → ℕ → Placing
first_placing program cells = record { state = opening program; layout = opening_layout program cells }

placing_after : (program : Units) (cells : ℕ) (has : Frames) (es : List Entry) (e : Entry) → placing_from program cells has (first_placing program cells) (schedule_of (reverse (e ∷ es))) ≡ placing_from program cells has (placing_from program cells has (first_placing program cells) (schedule_of (reverse es))) (replicate e.steps e.process)
placing_after program cells has es e =
    ap (λ es. placing_from program cells has (first_placing program cells) (schedule_of es)) (reverse_onto es e []) ∙ placing_entry program cells has _ (reverse es) e

-- ---- what holds after each entry

pub record Holds (program : Units) (cells : ℕ) (has : Frames) (c : Course) : Type 0 where
  pub progress : c.progress ≡ progress_after program (reverse c.history)
  state : state_replayed program (opening program) (reverse c.history) ≡ c.progress.state
  pub entries : AreEntries program (opening program) (reverse c.history)
  pub frames : placing_from program cells has (first_placing program cells) (schedule_of (reverse c.history)) ≡ record { state = c.progress.state; layout = Some c.layout }

-- what holds of a course where there is one
abbrev OnCourse : (Course → Type 0) → Result Course Ending → Type 0
OnCourse P (Ok d) = P d
OnCourse P (Err e) = Unit {0}

one_step : (program : Units) (s t : State) (p : ℕ) → step program p s ≡ Some t → IsEntry program s (steps p 1)
one_step program s t p e = inr (omega arith, omega arith, ((λ n. let both : Some t ≡ None = sym e ∙ n in cc), tt))

no_step : (program : Units) (s : State) (p : ℕ) (w : Wanted) → step_result_of program p s ≡ waiting w → IsEntry program s (steps p 0)
no_step program s p w e = inl (refl, ap (λ (u : StepResult). is_some (wanted_of u)) e)

step_holds : (program : Units) (cells : ℕ) (has : Frames) (c : Course) (p : ℕ) (s : State) (o : Option Layout) → Holds program cells has c → step program p c.progress.state ≡ Some s → layout_after_step program cells has c.progress.state s c.layout ≡ o → OnCourse (Holds program cells has) (with_step program c p s o)
unfolding placing_from run_from
step_holds program cells has c p s None h e l = tt
step_holds program cells has c p s (Some layout) h e l =
    let made : state_after_turn program p c.progress.state ≡ s = ap (λ (o : Option State). unwrap_or o c.progress.state) e in
    record {
      progress = ap (progress_after_step program c.progress p) (sym made) ∙ (ap (λ (x : Progress). progress_after_entry program x (steps p 1) 1) h.progress ∙ sym (progress_after_one program c.history (steps p 1)));
      state = replayed_after program c.history (steps p 1) ∙ (ap (λ (t : State). run_from program t (p ∷ [])) h.state ∙ made);
      entries = entries_after program c.history (steps p 1) h.entries (subst (λ (t : State). IsEntry program t (steps p 1)) (sym h.state) (one_step program c.progress.state s p e));
      frames = placing_after program cells has c.history (steps p 1) ∙ (ap (λ (x : Placing). placing_from program cells has x (p ∷ [])) h.frames
          ∙ (ap (λ (t : State). record { state = t; layout = layout_after_step program cells has c.progress.state t c.layout }) made
          ∙ ap (λ (o : Option Layout). record { state = s; layout = o }) l));
    }

turn_holds : (program : Units) (cells : ℕ) (has : Frames) (c : Course) (p : ℕ) (t : StepResult) → Holds program cells has c → c.progress.state.halted ≡ false → step_result_of program p c.progress.state ≡ t → OnCourse (Holds program cells has) (with_turn program cells has c p t)
unfolding placing_from run_from
turn_holds program cells has c p (stepped s) h running e =
    step_holds program cells has c p s (layout_after_step program cells has c.progress.state s c.layout) h (step-is program p c.progress.state s running e) refl
turn_holds program cells has c p (waiting w) h running e =
    record {
      progress = ap (λ (x : Progress). progress_after_entry program x (steps p 0) 0) h.progress ∙ sym (progress_after_one program c.history (steps p 0));
      state = replayed_after program c.history (steps p 0) ∙ h.state;
      entries = entries_after program c.history (steps p 0) h.entries (subst (λ (t : State). IsEntry program t (steps p 0)) (sym h.state) (no_step program c.progress.state p w e));
      frames = placing_after program cells has c.history (steps p 0) ∙ h.frames;
    }
turn_holds program cells has c p absent h running e = tt

-- ---- the process that comes next

last_append : (es : List Entry) (e : Entry) → last_process (es ++ e ∷ []) ≡ e.process
last_append [] e = refl
last_append (f ∷ []) e = refl
last_append (f ∷ g ∷ es) e = last_append (g ∷ es) e

last_reversed : (es : List Entry) → last_process (reverse es) ≡ last_of es
last_reversed [] = refl
last_reversed (e ∷ es) = ap last_process (reverse_onto es e []) ∙ last_append (reverse es) e

-- after the choices it is the one that is ready by the definitions
pub next_is_ready : (program : Units) (cells : ℕ) (has : Frames) (c : Course) → Holds program cells has c → next_of_ready (last_of c.history) (ready_in c.progress) ≡ next_ready program (reverse c.history)
next_is_ready program cells has c h =
    ap (λ n. next_of_ready n (ready_in c.progress)) (sym (last_reversed c.history))
    ∙ ap (λ (x : Progress). next_of_ready (last_process (reverse c.history)) (ready_in x)) h.progress

-- ---- one entry more in the history

abbrev IsOneLonger : Course → Course → Type 0
IsOneLonger c d = length d.history ≡ suc (length c.history)

step_longer : (program : Units) (c : Course) (p : ℕ) (s : State) (o : Option Layout) → OnCourse (IsOneLonger c) (with_step program c p s o)
step_longer program c p s None = tt
step_longer program c p s (Some layout) = refl

turn_longer : (program : Units) (cells : ℕ) (has : Frames) (c : Course) (p : ℕ) (t : StepResult) → OnCourse (IsOneLonger c) (with_turn program cells has c p t)
turn_longer program cells has c p (stepped s) = step_longer program c p s (layout_after_step program cells has c.progress.state s c.layout)
turn_longer program cells has c p (waiting w) = refl
turn_longer program cells has c p absent = tt

-- ---- whole runs

at_halt : (P : Course → Type 0) (b : Bool) (x y : Course × Ending) → P x.0 → (b ≡ false → P y.0) → P (if b then x else y).0
at_halt P true x y h f = h
at_halt P false x y h f = f refl

at_next : (P : Course → Type 0) (c : Course) (o : Option (ℕ × List ℕ)) (more : ℕ × List ℕ → Course × Ending) → P c → ((x : ℕ × List ℕ) → P (more x).0) → P (if_next c o more).0
at_next P c None more h f = h
at_next P c (Some x) more h f = f x

at_turned : (P Q : Course → Type 0) (c : Course) (r : Result Course Ending) (more : Course → Course × Ending) → P c → OnCourse Q r → ((d : Course) → Q d → P (more d).0) → P (if_turned c r more).0
at_turned P Q c (Err e) more h g f = h
at_turned P Q c (Ok d) more h g f = f d g

course_holds : (program : Units) (cells : ℕ) (has : Frames) (n : ℕ) (choices : List ℕ) (c : Course) → Holds program cells has c → Holds program cells has (course_from program cells has n choices c).0
unfolding course_from
course_holds program cells has zero choices c h =
    at_halt (Holds program cells has) c.progress.state.halted (c, halted) _ h (λ running. at_next (Holds program cells has) c (next_of c choices) _ h (λ x. h))
course_holds program cells has (suc n) choices c h =
    at_halt (Holds program cells has) c.progress.state.halted (c, halted) _ h (λ running. at_next (Holds program cells has) c (next_of c choices) _ h (λ x.
    at_turned (Holds program cells has) (Holds program cells has) c (turned program cells has c x.0) _ h (turn_holds program cells has c x.0 (step_result_of program x.0 c.progress.state) h running refl) (λ d g.
    course_holds program cells has n x.1 d g)))

abbrev IsWithin : ℕ → Course → Type 0
IsWithin n c = length c.history ≤ n

course_within : (program : Units) (cells : ℕ) (has : Frames) (limit n : ℕ) (choices : List ℕ) (c : Course) → length c.history + n ≤ limit → IsWithin limit (course_from program cells has n choices c).0
unfolding course_from
course_within program cells has limit zero choices c h =
    let within : length c.history ≤ limit = omega (arith, h) in
    at_halt (IsWithin limit) c.progress.state.halted (c, halted) _ within (λ running. at_next (IsWithin limit) c (next_of c choices) _ within (λ x. within))
course_within program cells has limit (suc n) choices c h =
    let within : length c.history ≤ limit = omega (arith, h) in
    at_halt (IsWithin limit) c.progress.state.halted (c, halted) _ within (λ running. at_next (IsWithin limit) c (next_of c choices) _ within (λ x.
    at_turned (IsWithin limit) (IsOneLonger c) c (turned program cells has c x.0) _ within (turn_longer program cells has c x.0 (step_result_of program x.0 c.progress.state)) (λ d g.
    let more : length d.history + n ≤ limit = omega (arith, h, g) in
    course_within program cells has limit n x.1 d more)))

first_holds : (program : Units) (cells : ℕ) (has : Frames) (layout : Layout) → opening_layout program cells ≡ Some layout → Holds program cells has (first_course program layout)
unfolding progress_from placing_from schedule_of
first_holds program cells has layout e = record {
  progress = refl;
  state = refl;
  entries = tt;
  frames = ap (λ (o : Option Layout). record { state = opening program; layout = o }) e;
}

legal_in : (program : Units) (cells limit : ℕ) (choices : List ℕ) (layout : Layout) → opening_layout program cells ≡ Some layout → IsLegal program cells limit (reverse (course_in program cells is_held limit choices (Some layout)).0.history)
legal_in program cells limit choices layout e =
    let c = (course_from program cells is_held limit choices (first_course program layout)).0 in
    let h = course_holds program cells is_held limit choices (first_course program layout) (first_holds program cells is_held layout e) in
    let w : length c.history ≤ limit = course_within program cells is_held limit limit choices (first_course program layout) (omega arith) in
    record {
      within = subst (λ n. n ≤ limit) (sym (length-reverse c.history)) w;
      room = ap (λ (x : Placing). is_some x.layout) h.frames;
      entries = h.entries;
    }

-- the history of a run whose first frame has a gap is legal for its arena and its limit
pub course_is_legal : (program : Units) (cells limit : ℕ) (choices : List ℕ) (layout : Layout) → opening_layout program cells ≡ Some layout → IsLegal program cells limit (reverse (course program cells is_held limit choices).0.history)
unfolding course
course_is_legal program cells limit choices layout e =
    subst (λ (o : Option Layout). IsLegal program cells limit (reverse (course_in program cells is_held limit choices o).0.history)) (sym e) (legal_in program cells limit choices layout e)
