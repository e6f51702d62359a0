-- Turns and entries that are made one after the other, and their lines.
use Rattle.std.proofs.Common.{◌≡◌, ◌≢◌, ℕ, zero, suc, ◌+◌, ◌-◌, ◌<◌, ◌≤◌, Bool, true, false, List, [], ◌∷◌, ◌++◌, Option, Some, None, Result, Ok, Err, IfNone, IfOk, is_some, length, length-append, replicate, refl, sym, ap, ◌∙◌, subst, arith, append_assoc, append-nil, inl, true≢false}
use Rattle.std.proofs.lemmas.List.{length-replicate}
use Rattle.hep_core.specs.declared.stop.ChoiceStop.{ChoiceStop}
use Rattle.hep_core.specs.CoreValues.{CoreValue, HasNoStop, state_of}
use Rattle.hep_core.proofs.Histories.{progress-last}
use Rattle.hep_why.specs.Progress.{IsStanding, TurnMade, longer, turn_entry}
use Rattle.hep_why.specs.Replays.{most_entries}
use Rattle.hep_replay.proofs.ReplayTurns.{expand_ones, one, schedule_of-append, stopped_turns}
use Rattle.hep_machine.specs.Words.{Progress, Units, progress_after_entry, progress_after_step, schedule_of, state_after_turn}
use Rattle.hep_event.specs.Traces.{entry_text, line_text, steps_text}
use Rattle.hep_trace.specs.TraceProgress.{IsReplaying, progress_of, shown_lines}

-- what follows of two clauses on what was made
pub both-ok : {T E : Type 0} (r : Result T E) (P Q R : T → Type 0) → ((x : T) → P x → Q x → R x) → IfOk r P → IfOk r Q → IfOk r R
both-ok (Ok x) P Q R both p q = both x p q
both-ok (Err e) P Q R both p q = tt

-- ---- a turn

-- at a stop there is none
pub no-turn : (old : CoreValue) (p : ℕ) (waits : Bool) (r : Option ChoiceStop) → is_some r ≡ true → r ≡ old.stop → IsStanding old → TurnMade old p waits (Ok false) old
no-turn old p waits None some is standing = absurd (true≢false (sym some))
no-turn old p waits (Some stop) some is standing = stopped_turns old old p waits stop standing (inl (sym is, refl))

-- at none the machine hasn't halted
pub runs : (core : CoreValue) (r : Option ChoiceStop) → is_some r ≡ false → IfNone r (HasNoStop core) → (state_of core).halted ≡ false
runs core None none going = going.1
runs core (Some stop) none going = absurd (true≢false none)

-- ---- steps of one process

-- after so many there is room for what there was room for
pub still-replaying : (old mid : CoreValue) (p i : ℕ) → IsReplaying old → length old.history + i ≤ most_entries → mid ≡ longer old (replicate i (one p)) → IsReplaying mid
still-replaying old mid p i replaying room made =
    subst IsReplaying (sym made) (record {
      standing = refl;
      within = omega (arith, room, length-append old.history (replicate i (one p)), length-replicate i (one p));
      turns = omega (
        arith,
        replaying.turns,
        ap length (schedule_of-append old.history (replicate i (one p))),
        length-append (schedule_of old.history) (schedule_of (replicate i (one p))),
        ap length (expand_ones p i),
        length-replicate i p,
        length-append old.history (replicate i (one p)),
        length-replicate i (one p),
      );
    })

-- so many are left before one of them is made
pub count-left : (n i : ℕ) → i < n → n - i ≡ suc (n - (i + 1))
count-left n i less = omega (arith, less)

pub all-left : (n : ℕ) → n ≡ n - 0
all-left n = omega arith

-- ---- their lines

progress-step : (core : CoreValue) (p : ℕ) (new : CoreValue) → new ≡ longer core (one p ∷ [])
    → progress_of new ≡ progress_after_step core.program (progress_of core) p (state_after_turn core.program p (progress_of core).state)
progress-step core p new is = ap (λ (c : CoreValue). progress_of c) is ∙ progress-last core.program core.history (one p)

-- the line of a step, and those that are left
lines-on : (cell : Option (List ℕ)) (number p m : ℕ) (core new : CoreValue) (text text' all : List ℕ) → new ≡ longer core (one p ∷ [])
    → text' ≡ text ++ line_text core.program cell number p (progress_of core) (progress_of new)
    → text ++ steps_text core.program cell number p (progress_of core) (suc m) ≡ all
    → text' ++ steps_text new.program cell number p (progress_of new) m ≡ all
lines-on cell number p m core new text text' all is line told =
    let same : new.program ≡ core.program = ap (λ (c : CoreValue). c.program) is in
    let next = progress-step core p new is in
    let after : Progress = progress_after_step core.program (progress_of core) p (state_after_turn core.program p (progress_of core).state) in
    (λ i. line i ++ steps_text (same i) cell number p (progress_of new) m)
    ∙ ap (λ (x : Progress). (text ++ line_text core.program cell number p (progress_of core) x) ++ steps_text core.program cell number p x m) next
    ∙ append_assoc text (line_text core.program cell number p (progress_of core) after) (steps_text core.program cell number p after m)
    ∙ told

lines-end : (cell : Option (List ℕ)) (number p k : ℕ) (core : CoreValue) (text all : List ℕ) → k ≡ 0
    → text ++ steps_text core.program cell number p (progress_of core) k ≡ all → text ≡ all
lines-end cell number p k core text all none told =
    sym (append-nil text) ∙ ap (λ j. text ++ steps_text core.program cell number p (progress_of core) j) (sym none) ∙ told

-- ---- the line of an entry of no steps, and those of any other

progress-wait : (core : CoreValue) (p : ℕ) (new : CoreValue) → new ≡ longer core (turn_entry p true ∷ [])
    → progress_of new ≡ progress_after_entry core.program (progress_of core) (turn_entry p true) 0
progress-wait core p new is = ap (λ (c : CoreValue). progress_of c) is ∙ progress-last core.program core.history (turn_entry p true)

wait-line : (cell : Option (List ℕ)) (number p n : ℕ) (core new : CoreValue) (text text' : List ℕ) → n ≡ 0 → new ≡ longer core (turn_entry p true ∷ [])
    → text' ≡ text ++ line_text core.program cell number p (progress_of core) (progress_of new)
    → text' ≡ text ++ entry_text core.program cell number (progress_of core) (record { process = p; steps = n }) n
wait-line cell number p zero core new text text' none is line =
    line ∙ ap (λ (x : Progress). text ++ line_text core.program cell number p (progress_of core) x) (progress-wait core p new is)
wait-line cell number p (suc n) core new text text' none is line = absurd (omega (arith, none))

steps-lines : (program : Units) (cell : Option (List ℕ)) (number : ℕ) (x : Progress) (p n : ℕ) (text text' : List ℕ) → n ≢ 0
    → text' ≡ text ++ steps_text program cell number p x n → text' ≡ text ++ entry_text program cell number x (record { process = p; steps = n }) n
steps-lines program cell number x p zero text text' some told = absurd (some refl)
steps-lines program cell number x p (suc n) text text' some told = told

-- ---- lines, where they are shown

pub shown-so : (shown : Bool) (text text' lines : List ℕ) → shown ≡ true → text' ≡ text ++ lines → text' ≡ text ++ shown_lines shown lines
shown-so shown text text' lines is told = told ∙ ap (λ b. text ++ shown_lines b lines) (sym is)

pub hidden-so : (shown : Bool) (text lines : List ℕ) → shown ≡ false → text ≡ text ++ shown_lines shown lines
hidden-so shown text lines is = sym (append-nil text) ∙ ap (λ b. text ++ shown_lines b lines) (sym is)

pub shown-on : (shown : Bool) (cell : Option (List ℕ)) (number p m : ℕ) (core new : CoreValue) (text text' all : List ℕ) → new ≡ longer core (one p ∷ [])
    → text' ≡ text ++ shown_lines shown (line_text core.program cell number p (progress_of core) (progress_of new))
    → text ++ shown_lines shown (steps_text core.program cell number p (progress_of core) (suc m)) ≡ all
    → text' ++ shown_lines shown (steps_text new.program cell number p (progress_of new) m) ≡ all
shown-on true cell number p m core new text text' all is line told = lines-on cell number p m core new text text' all is line told
shown-on false cell number p m core new text text' all is line told = append-nil text' ∙ line ∙ told

pub shown-end : (shown : Bool) (cell : Option (List ℕ)) (number p k : ℕ) (core : CoreValue) (text all : List ℕ) → k ≡ 0
    → text ++ shown_lines shown (steps_text core.program cell number p (progress_of core) k) ≡ all → text ≡ all
shown-end true cell number p k core text all none told = lines-end cell number p k core text all none told
shown-end false cell number p k core text all none told = sym (append-nil text) ∙ told

pub shown-wait : (shown : Bool) (cell : Option (List ℕ)) (number p n : ℕ) (core new : CoreValue) (text text' : List ℕ) → n ≡ 0 → new ≡ longer core (turn_entry p true ∷ [])
    → text' ≡ text ++ shown_lines shown (line_text core.program cell number p (progress_of core) (progress_of new))
    → text' ≡ text ++ shown_lines shown (entry_text core.program cell number (progress_of core) (record { process = p; steps = n }) n)
shown-wait true cell number p n core new text text' none is line = wait-line cell number p n core new text text' none is line
shown-wait false cell number p n core new text text' none is line = line

pub shown-steps : (shown : Bool) (program : Units) (cell : Option (List ℕ)) (number : ℕ) (x : Progress) (p n : ℕ) (text text' : List ℕ) → n ≢ 0
    → text' ≡ text ++ shown_lines shown (steps_text program cell number p x n)
    → text' ≡ text ++ shown_lines shown (entry_text program cell number x (record { process = p; steps = n }) n)
shown-steps true program cell number x p n text text' some told = steps-lines program cell number x p n text text' some told
shown-steps false program cell number x p n text text' some told = told
