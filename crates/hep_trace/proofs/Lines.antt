-- The line of a turn, by what was seen of the process before it.
use Rattle.std.proofs.Common.{◌≡◌, ℕ, Bool, true, false, List, [], ◌++◌, codes, Option, Some, None, refl, sym, ap, ◌∙◌, subst, append_assoc, if◌then◌else◌}
use Rattle.std.proofs.lemmas.Option.{none-some, same_Some}
use Rattle.hep_core.specs.CoreValues.{CoreValue, state_of}
use Rattle.hep_core.proofs.Histories.{progress-state}
use Rattle.hep_machine.specs.Words.{Level, Process, Progress, State, Top, Units, line_at, living, progress_after, step_result_of, unit_name, unit_on_top}
use Rattle.hep_trace.specs.FreedFrames.{top_in}
use Rattle.hep_event.specs.StepTexts.{deed_text}
use Rattle.hep_event.specs.LineTexts as lines
use Rattle.hep_event.specs.Traces.{freed, is_accessed, line_by, line_text, turn_text, woken}
use Rattle.hep_trace.specs.declared.observation.BeforeTurn.{BeforeTurn}
use Rattle.hep_trace.specs.declared.observation.Observation.{Observation}
use Rattle.hep_trace.specs.Observations.{IsBefore, IsShownBy, IsObservation, IsObservationOf}

-- ---- sights

-- something was seen: the process lives, and its turn is shown
pub record IsSeenOn (core : CoreValue) (p : ℕ) (cell : Option (List ℕ)) (b : BeforeTurn) (top : Level × Process) : Type 0 where
  pub lives : living (state_of core) p ≡ Some top
  pub accessed : is_accessed core.program cell (top_in core p top) ≡ true
  pub before : IsBefore core (top_in core p top) b

shown-so : (core : CoreValue) (p : ℕ) (cell : Option (List ℕ)) (b : BeforeTurn) (top : Level × Process) (shown : Bool) → living (state_of core) p ≡ Some top
    → is_accessed core.program cell (top_in core p top) ≡ shown → IsShownBy core (top_in core p top) (Some b) shown → IsSeenOn core p cell b top
shown-so core p cell b top false lives e h = absurd (none-some b (sym h))
shown-so core p cell b top true lives e h = record {
  lives = lives;
  accessed = e;
  before = subst (IsBefore core (top_in core p top)) (same_Some h.0 b (sym h.1)) h.2;
}

pub seen-on : (core : CoreValue) (p : ℕ) (cell : Option (List ℕ)) (s : Observation) (b : BeforeTurn) → IsObservation core p cell s → s.before ≡ Some b
    → (top : Level × Process) × IsSeenOn core p cell b top
seen-on core p cell s b h is = by (living (state_of core) p) refl (subst (λ o. IsObservationOf core p cell o (living (state_of core) p)) is h.1) where
  by : (o : Option (Level × Process)) → living (state_of core) p ≡ o → IsObservationOf core p cell (Some b) o → (top : Level × Process) × IsSeenOn core p cell b top
  by None e none = absurd (none-some b (sym none))
  by (Some top) e shown = (top, shown-so core p cell b top (is_accessed core.program cell (top_in core p top)) e refl shown)

-- ---- lines

module _ (program : Units) (cell : Option (List ℕ)) (entry p : ℕ) (x y : Progress) where
  abbrev top_with : State → Level × Process → Top
  top_with s top = record { state = s; process = p; level = top.0; below = top.1 }

  -- of a turn from one state to another
  abbrev pub line_between : State → State → Level × Process → List ℕ
  line_between s r top =
      lines.head_text entry p (unit_name (unit_on_top program (top_with s top))) (line_at (unit_on_top program (top_with s top)) top.0.statement)
      ++ deed_text program (top_with s top) (step_result_of program p s)
      ++ lines.woken_text (woken p x y) ++ lines.all_freed_text (freed s r) ++ codes "\n"

  pub line-is : (s r : State) (top : Level × Process) → x.state ≡ s → y.state ≡ r → living s p ≡ Some top → is_accessed program cell (top_with s top) ≡ true
      → line_text program cell entry p x y ≡ line_between s r top
  line-is s r top before after lives accessed =
      ap (line_by program cell entry p x y) (ap (λ z. living z p) before ∙ lives)
      ∙ ap (λ b. if b then turn_text program entry x y (top_with x.state top) else []) (ap (λ z. is_accessed program cell (top_with z top)) before ∙ accessed)
      ∙ (λ i. line_between (before i) (after i) top)

  -- of a process that doesn't live, or whose turn isn't shown
  pub line-none : (s : State) → x.state ≡ s → living s p ≡ None → line_text program cell entry p x y ≡ []
  line-none s before lives = ap (line_by program cell entry p x y) (ap (λ z. living z p) before ∙ lives)

  pub line-hidden : (s : State) (top : Level × Process) → x.state ≡ s → living s p ≡ Some top → is_accessed program cell (top_with s top) ≡ false
      → line_text program cell entry p x y ≡ []
  line-hidden s top before lives hidden =
      ap (line_by program cell entry p x y) (ap (λ z. living z p) before ∙ lives)
      ∙ ap (λ b. if b then turn_text program entry x y (top_with x.state top) else []) (ap (λ z. is_accessed program cell (top_with z top)) before ∙ hidden)

-- nothing was seen: there is no line
pub unseen : (core : CoreValue) (p : ℕ) (cell : Option (List ℕ)) (s : Observation) (entry : ℕ) (y : Progress) → IsObservation core p cell s → s.before ≡ None
    → line_text core.program cell entry p (progress_after core.program core.history) y ≡ []
unseen core p cell s entry y h is = by (living (state_of core) p) refl (subst (λ o. IsObservationOf core p cell o (living (state_of core) p)) is h.1) where
  x : Progress
  x = progress_after core.program core.history

  before : (progress_after core.program core.history).state ≡ state_of core
  before = progress-state core.program core.history

  hidden : (top : Level × Process) → living (state_of core) p ≡ Some top → (shown : Bool) → is_accessed core.program cell (top_in core p top) ≡ shown
      → IsShownBy core (top_in core p top) None shown → line_text core.program cell entry p (progress_after core.program core.history) y ≡ []
  hidden top lives false e none = line-hidden core.program cell entry p (progress_after core.program core.history) y (state_of core) top before lives e
  hidden top lives true e some = absurd (none-some some.0 some.1)

  by : (o : Option (Level × Process)) → living (state_of core) p ≡ o → IsObservationOf core p cell None o
      → line_text core.program cell entry p (progress_after core.program core.history) y ≡ []
  by None e none = line-none core.program cell entry p (progress_after core.program core.history) y (state_of core) before e
  by (Some top) e shown = hidden top e (is_accessed core.program cell (top_in core p top)) refl shown

-- ---- texts

-- parts that were appended one after the other
pub appended : (old head deed woken freed end first second third fourth fifth : List ℕ) → first ≡ old ++ head → second ≡ first ++ deed → third ≡ second ++ woken
    → fourth ≡ third ++ freed → fifth ≡ fourth ++ end → fifth ≡ old ++ ((((head ++ deed) ++ woken) ++ freed) ++ end)
appended old head deed woken freed end first second third fourth fifth a b c d e =
    e ∙ ap (λ t. t ++ end) (d ∙ ap (λ t. t ++ freed) (c ∙ ap (λ t. t ++ woken) (b ∙ ap (λ t. t ++ deed) a)))
    ∙ simp append_assoc
