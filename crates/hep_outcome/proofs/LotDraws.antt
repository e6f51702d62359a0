-- A run by lots: each choice that is drawn makes the history longer by one entry, until nothing is drawn or the run stops.
use Rattle.std.proofs.Common.{◌≡◌, ◌≢◌, ℕ, suc, ◌+◌, ◌<◌, Bool, false, List, [], ◌∷◌, ◌++◌, length, take, Some, None, Ok, Err, refl, sym, ap, ◌∙◌, subst, arith, inl, inr, slice_get, append-nil, length-append}
use Rattle.std.proofs.lemmas.Bool.{cases_lt}
use Rattle.std.proofs.lemmas.List.{length-map, take-append-le, take_all}
use Rattle.std.proofs.lemmas.Option.{none-some, slice_get_past}
use Rattle.std.proofs.Math.Seq.{take-append_seam}
use Rattle.hep_machine.specs.declared.event.Entry.{Entry}
use Rattle.hep_machine.specs.Words.{Units, last_process, living, next_of_ready, next_ready, IsLegal}
use Rattle.hep_replay.specs.ChoiceStop.{ChoiceStop}
use Rattle.hep_replay.specs.Turn.{Turn}
use Rattle.hep_replay.specs.ChooseFault.TheVariants.{Stopped}
use Rattle.hep_replay.specs.CoreValues.{CoreValue, IsChoice, IsStop, opening_of, ready_of, state_of}
use Rattle.hep_replay.proofs.ProcessesOut.{all_free}
use Rattle.hep_outcome.specs.LotDraws.{drawn, next_drawn, stay_of, word_of}
use Rattle.hep_outcome.specs.KeptLots.{LotsValue, lots_after, next_in}
use Rattle.hep_outcome.proofs.RunsByLots.{drawn-comes, drawn-none}
use Rattle.hep_outcome.specs.declared.options.LotOptions.{LotOptions}
use Rattle.hep_outcome.specs.Outcome.{Outcome, next_process, outcome_of_end}
use Rattle.hep_outcome.specs.RunProgress.{IsRunning}
use Rattle.hep_outcome.specs.RunsByLots.{AreDrawn, IsDrawing, IsDrawnBy, IsDrawnOut, choosing, processes_of}
use Rattle.hep_outcome.proofs.Outcomes.{outcome_over}
use Rattle.hep_outcome.proofs.Schedules.{choice_is_next, chosen, comes_lives, none_is_next, stopped, turned}
use Rattle.hep_machine.proofs.Others.{front_kept}

-- ---- choices in their order

many : (h : List Entry) → length (processes_of h) ≡ length h
many h = length-map h (λ (e : Entry). e.process)

processes-one : (h : List Entry) (e : Entry) → processes_of (h ++ e ∷ []) ≡ processes_of h ++ e.process ∷ []
processes-one [] e = refl
processes-one (x ∷ xs) e = ap (λ ps. x.process ∷ ps) (processes-one xs e)

processes-more : (h : List Entry) (e : Entry) (more : List ℕ) → processes_of (h ++ e ∷ []) ++ more ≡ processes_of h ++ e.process ∷ more
processes-more [] e more = refl
processes-more (x ∷ xs) e more = ap (λ ps. x.process ∷ ps) (processes-more xs e more)

get-here : (xs : List ℕ) (p : ℕ) (more : List ℕ) → slice_get (xs ++ p ∷ more) (length xs) ≡ Some p
get-here [] p more = refl
get-here (x ∷ xs) p more = get-here xs p more

-- the choice behind those of a history
choice-here : (h : List Entry) (p : ℕ) (more : List ℕ) → slice_get (processes_of h ++ p ∷ more) (length h) ≡ Some p
choice-here h p more = ap (slice_get (processes_of h ++ p ∷ more)) (sym (many h)) ∙ get-here (processes_of h) p more

-- ---- what is drawn

-- where nobody is out, the lots draw what the definition says
pub drawn-in : (options : LotOptions) (core : CoreValue) (lots : LotsValue) → IsDrawing options core → lots ≡ lots_after options.seed (length core.history) → next_in lots core ≡ next_drawn options.seed core.program core.history
drawn-in options core lots drawing is =
    ap (λ (l : LotsValue). next_in l core) is
    ∙ ap (drawn (stay_of options.seed) (word_of options.seed (length core.history)) (length (state_of core).processes) (last_process core.history)) (
    all_free (ready_of core) core.out (drawing.running []).out)

pub drawn-lives : (options : LotOptions) (core : CoreValue) (p : ℕ) → next_drawn options.seed core.program core.history ≡ Some p → living (state_of core) p ≢ None
drawn-lives options core p next =
    let comes = drawn-comes (stay_of options.seed) (word_of options.seed (length core.history)) (length (state_of core).processes) (last_process core.history) p (ready_of core) next in
    comes_lives core.program core.history comes.0 p comes.1

-- ---- the opening

pub drawing-opening : (options : LotOptions) (program : Units) → IsDrawing options (opening_of program options.arena options.steps)
drawing-opening options program = record {
  running = λ more. record { cells = refl; limit = refl; out = refl; scheduled = λ k e at. absurd (none-some e at); stop = tt };
  drawn = λ k less. absurd (omega (arith, less));
}

-- ---- a choice that was drawn

module _ (options : LotOptions) (old : CoreValue) (p : ℕ) (drawing : IsDrawing options old) (next : next_drawn options.seed old.program old.history ≡ Some p) where
  comes : (more : List ℕ) → (state_of old).halted ≡ false → next_process old.program (processes_of old.history ++ p ∷ more) old.history ≡ Some p
  comes more going = choice_is_next old.program (processes_of old.history ++ p ∷ more) old.history (length old.history) p going refl (choice-here old.history p more)

  -- it was drawn behind those of the history
  drawn-here : AreDrawn old.program options.seed (processes_of old.history ++ p ∷ []) old.history
  drawn-here k within = elim (cases_lt k (length old.history)) [
    | inl less ↦ front_kept (processes_of old.history) (p ∷ []) k (omega (arith, less, many old.history)) ∙ drawing.drawn k less
    | inr more ↦
        let is : k ≡ length old.history = omega (arith, within, more) in
        ap (slice_get (processes_of old.history ++ p ∷ [])) is ∙ choice-here old.history p [] ∙ sym next
        ∙ sym (ap (next_drawn options.seed old.program) (take_all k old.history more))
  ]

  -- a choice that was made
  module _ (new : CoreValue) (turn : Turn) (made : IsChoice old p (Ok turn) new) where
    entry : Entry
    entry = record { process = p; steps = (turned old new p turn.steps turn.blocked made.3).0 }

    grown : new.history ≡ old.history ++ entry ∷ []
    unfolding entry
    grown = ap (λ (v : CoreValue). v.history) (turned old new p turn.steps turn.blocked made.3).3

    pub same-program : new.program ≡ old.program
    same-program = ap (λ (v : CoreValue). v.program) (turned old new p turn.steps turn.blocked made.3).3

    pub same-limit : new.limit ≡ old.limit
    same-limit = ap (λ (v : CoreValue). v.limit) (turned old new p turn.steps turn.blocked made.3).3

    pub one-more : length new.history ≡ suc (length old.history)
    one-more = (chosen (choosing options (processes_of old.history ++ p ∷ [])) old new p turn made (drawing.running (p ∷ [])) (comes [] made.0.1)).entries ∙ omega arith

    running-more : (more : List ℕ) → IsRunning (choosing options (processes_of new.history ++ more)) new
    unfolding entry
    running-more more =
        let far = chosen (choosing options (processes_of old.history ++ p ∷ more)) old new p turn made (drawing.running (p ∷ more)) (comes more made.0.1) in
        subst (λ (cs : List ℕ). IsRunning (choosing options cs) new) (sym (ap (λ (h : List Entry). processes_of h ++ more) grown ∙ processes-more old.history entry more)) far.running

    drawn-grown : (k : ℕ) → k < length (old.history ++ entry ∷ []) → slice_get (processes_of (old.history ++ entry ∷ [])) k ≡ next_drawn options.seed old.program (take k (old.history ++ entry ∷ []))
    unfolding entry
    drawn-grown k within = elim (cases_lt k (length old.history)) [
      | inl less ↦
          ap (λ (ps : List ℕ). slice_get ps k) (processes-one old.history entry)
          ∙ drawn-here k (omega (arith, less))
          ∙ ap (next_drawn options.seed old.program) (sym (take-append-le k old.history (entry ∷ []) (omega (arith, less))))
      | inr more ↦
          let is : k ≡ length old.history = omega (arith, within, more, length-append old.history (entry ∷ [])) in
          ap (λ (ps : List ℕ). slice_get ps k) (processes-one old.history entry)
          ∙ (ap (slice_get (processes_of old.history ++ p ∷ [])) is ∙ choice-here old.history p [] ∙ sym next)
          ∙ sym (ap (next_drawn options.seed old.program) (ap (λ (j : ℕ). take j (old.history ++ entry ∷ [])) is ∙ take-append_seam old.history (entry ∷ [])))
    ]

    pub drawing-more : IsDrawing options new
    drawing-more = record {
      running = running-more;
      drawn = subst (λ (h : List Entry). (k : ℕ) → k < length h → slice_get (processes_of h) k ≡ next_drawn options.seed new.program (take k h)) (sym grown) (
          subst (λ (u : Units). (k : ℕ) → k < length (old.history ++ entry ∷ []) → slice_get (processes_of (old.history ++ entry ∷ [])) k ≡ next_drawn options.seed u (take k (old.history ++ entry ∷ []))) (sym same-program) drawn-grown);
    }

    pub room : length old.history < old.limit
    room = made.2

  -- a choice that met a stop
  module _ (new : CoreValue) (stop : ChoiceStop) (met : IsChoice old p (Err (Stopped stop)) new) where
    record IsLeft : Type 0 where
      program : new.program ≡ old.program
      history : new.history ≡ old.history
      met_stop : new.stop ≡ Some stop

    left : IsLeft
    left = elim met [
      | inl before ↦ record { program = ap (λ (v : CoreValue). v.program) before.1; history = ap (λ (v : CoreValue). v.history) before.1; met_stop = ap (λ (v : CoreValue). v.stop) before.1 ∙ before.0 }
      | inr now ↦ elim now [
        | inl limit ↦ record { program = ap (λ (v : CoreValue). v.program) limit.3; history = ap (λ (v : CoreValue). v.history) limit.3; met_stop = ap (λ (v : CoreValue). v.stop) limit.3 ∙ ap Some (sym limit.2) }
        | inr gap ↦ record { program = ap (λ (v : CoreValue). v.program) gap.4; history = ap (λ (v : CoreValue). v.history) gap.4; met_stop = ap (λ (v : CoreValue). v.stop) gap.4 ∙ ap Some (sym gap.3) }
      ]
    ]

    pub same-program-stopped : new.program ≡ old.program
    same-program-stopped = left.program

    pub drawn-out-stopped : IsDrawnOut options new (processes_of old.history ++ p ∷ [])
    drawn-out-stopped = record {
      running = stopped (choosing options (processes_of old.history ++ p ∷ [])) old new p stop met (drawing.running (p ∷ [])) (λ going. comes [] going.1);
      drawn = subst (λ (h : List Entry). AreDrawn new.program options.seed (processes_of old.history ++ p ∷ []) h) (sym left.history) (
          subst (λ (u : Units). AreDrawn u options.seed (processes_of old.history ++ p ∷ []) old.history) (sym left.program) drawn-here);
      over = λ none. absurd (let is : Some stop ≡ None = sym left.met_stop ∙ none in cc);
    }

-- ---- nothing is drawn

pub drawn-out-ended : (options : LotOptions) (core : CoreValue) → IsDrawing options core → next_drawn options.seed core.program core.history ≡ None → IsDrawnOut options core (processes_of core.history)
drawn-out-ended options core drawing none = record {
  running = subst (λ (cs : List ℕ). IsRunning (choosing options cs) core) (append-nil (processes_of core.history)) (drawing.running []);
  drawn = all_drawn;
  over = λ going. none_is_next core.program (processes_of core.history) core.history (omega (arith, many core.history)) nobody;
}
  where
    nobody : next_ready core.program core.history ≡ None
    nobody = ap (next_of_ready (last_process core.history)) (
        drawn-none (stay_of options.seed) (word_of options.seed (length core.history)) (length (state_of core).processes) (last_process core.history) (ready_of core) none)

    all_drawn : AreDrawn core.program options.seed (processes_of core.history) core.history
    all_drawn k within = elim (cases_lt k (length core.history)) [
      | inl less ↦ drawing.drawn k less
      | inr more ↦
          slice_get_past (processes_of core.history) k (omega (arith, more, many core.history)) ∙ sym none
          ∙ sym (ap (next_drawn options.seed core.program) (take_all k core.history more))
    ]

-- ---- what it comes to

pub drawn-outcome : (long : Bool) (options : LotOptions) (program : Units) (core : CoreValue) (choices : List ℕ) (o : Outcome) → core.program ≡ program → IsDrawnOut options core choices → IsLegal core.program core.cells core.limit core.history
    → IsStop core.program core.cells core.limit core.history core.stop → o ≡ outcome_of_end long core.program core.cells core.history core.stop → IsDrawnBy long program options choices o
drawn-outcome long options program core choices o same out legal named is = (
  outcome_over long (choosing options choices) program core o same out.running out.over legal named is,
  subst (λ (h : List Entry). AreDrawn program options.seed choices h) (sym (ap (λ (x : Outcome). x.history) is)) (
      subst (λ (u : Units). AreDrawn u options.seed choices core.history) same out.drawn),
)
