-- A choice makes a history longer by one entry, of the process that comes next.
use Rattle.std.proofs.Common.{◌≡◌, ℕ, zero, suc, ◌+◌, ◌<◌, ◌≤◌, Bool, true, false, List, [], ◌∷◌, ◌++◌, length, take, Option, Some, None, refl, sym, ap, ◌∙◌, subst, arith, inl, inr, Ok, Err, length-append, ◌≢◌, slice_get, nat_lt, not, cond, if◌then◌else◌}
use Rattle.std.specs.List.{filter}
use Rattle.hep_replay.specs.States.{HasNoGap}
use Rattle.hep_replay.specs.ChoiceStop.{ChoiceStop}
use Rattle.hep_replay.specs.ChoiceStop.TheVariants.{ArenaFull, Halted, StepLimit}
use Rattle.hep_replay.specs.ChooseFault.{ChooseFault}
use Rattle.hep_replay.specs.ChooseFault.TheVariants.{NoSuchProcess, Stopped}
use Rattle.std.proofs.lemmas.Bool.{cases_lt}
use Rattle.std.proofs.lemmas.List.{take-append-le}
use Rattle.std.proofs.Math.Seq.{take-append_seam}
use Rattle.std.proofs.lemmas.Option.{slice_get_within, slice_get_past}
use Rattle.hep_machine.specs.declared.event.Entry.{Entry}
use Rattle.hep_machine.specs.Words.{Units, State, Process, schedule_of, state_after, progress_after, living_from, ready_in, last_process, first_above, next_of_ready, next_ready, living, top_of, is_number_among}
use Rattle.hep_replay.specs.Turn.{Turn}
use Rattle.hep_replay.specs.Turns.{Turns}
use Rattle.hep_replay.specs.SilentChoices.{AreChoices, AreRounds, AreTurns, again, begun, goes_round, started}
use Rattle.hep_replay.proofs.Histories.{progress-state}
use Rattle.hep_replay.proofs.SilentChoices.{choices-began, rounds-going, rounds-none, unmoved}
use Rattle.hep_replay.proofs.ProcessesOut.{all_free}
use Rattle.hep_replay.specs.CoreValues.{CoreValue, state_of, core_after_choice, next_ready_of, ready_of, stop_after, HasNoStop, IsFree, IsTurn, IsChoice}
use Rattle.hep_outcome.specs.declared.options.Options.{Options}
use Rattle.hep_outcome.specs.declared.halt.Halt.TheVariants as halts
use Rattle.hep_outcome.specs.Outcome.{first_choice, next_process, IsNextEntry, IsScheduled}
use Rattle.hep_outcome.specs.RunProgress.{IsHaltedBy, IsStopOfRun, IsRunning}
use Rattle.hep_core.proofs.SilentChoices.{last-more}

-- without a STOP the choice comes next, or what is ready
pub next_is_chosen : (program : Units) (choices : List ℕ) (history : List Entry) → (state_after program history).halted ≡ false → next_process program choices history ≡ first_choice (slice_get choices (length history)) (next_ready program history)
next_is_chosen program choices history going =
    ap (λ b. if b then None else first_choice (slice_get choices (length history)) (next_ready program history)) going

-- while the choices are made it is the one with the number of the entries so far
pub choice_is_next : (program : Units) (choices : List ℕ) (history : List Entry) (i p : ℕ) → (state_after program history).halted ≡ false → length history ≡ i → slice_get choices i ≡ Some p → next_process program choices history ≡ Some p
choice_is_next program choices history i p going count here =
    next_is_chosen program choices history going
    ∙ ap (λ (k : ℕ). first_choice (slice_get choices k) (next_ready program history)) count
    ∙ ap (λ (o : Option ℕ). first_choice o (next_ready program history)) here

-- ---- entries

get_front : (xs ys : List Entry) (k : ℕ) → k < length xs → slice_get (xs ++ ys) k ≡ slice_get xs k
get_front [] ys k h = absurd (omega arith)
get_front (x ∷ xs) ys zero h = refl
get_front (x ∷ xs) ys (suc k) h = get_front xs ys k (omega arith)

get_last : (xs : List Entry) (y : Entry) → slice_get (xs ++ y ∷ []) (length xs) ≡ Some y
get_last [] y = refl
get_last (x ∷ xs) y = get_last xs y

one_more : (program : Units) (choices : List ℕ) (h : List Entry) (e : Entry) → IsScheduled program choices h → IsNextEntry program choices h e → IsScheduled program choices (h ++ e ∷ [])
one_more program choices h e so_far next k e' at = elim (cases_lt k (length h)) [ inl lt ↦ before lt | inr ge ↦ rest_after ge ]
  where
    before : k < length h → IsNextEntry program choices (take k (h ++ e ∷ [])) e'
    before lt =
        let le : k ≤ length h = omega arith in
        subst (λ (front : List Entry). IsNextEntry program choices front e') (sym (take-append-le k h (e ∷ []) le)) (so_far k e' (sym (get_front h (e ∷ []) k lt) ∙ at))

    rest_after : length h ≤ k → IsNextEntry program choices (take k (h ++ e ∷ [])) e'
    rest_after ge =
        let within = slice_get_within (h ++ e ∷ []) k e' at in
        let is : k ≡ length h = omega (arith, within, length-append h (e ∷ [])) in
        let same : Some e ≡ Some e' = sym (get_last h e) ∙ ap (slice_get (h ++ e ∷ [])) (sym is) ∙ at in
        let here : e ≡ e' = cc in
        let front : take k (h ++ e ∷ []) ≡ h = ap (λ (j : ℕ). take j (h ++ e ∷ [])) is ∙ take-append_seam h (e ∷ []) in
        subst (IsNextEntry program choices (take k (h ++ e ∷ []))) here (subst (λ (xs : List Entry). IsNextEntry program choices xs e) (sym front) next)

-- ---- choices

-- a choice that isn't refused leaves a core with one entry more, of one step at most
pub turned : (old new : CoreValue) (p steps : ℕ) (blocked : Bool) → IsTurn old p steps blocked new → (n : ℕ) × (n ≤ 1) × (s : State) × (new ≡ core_after_choice old p n s)
turned old new p zero true t = (0, omega arith, state_of old, t.1)
turned old new p zero false t = absurd t
turned old new p (suc zero) true t = absurd t
turned old new p (suc zero) false t = (1, omega arith, t.0, t.2)
turned old new p (suc (suc n)) blocked t = absurd t

no_stop : (options : Options) (core : CoreValue) (s : State) → IsStopOfRun options core (stop_after s)
no_stop options core s = elim s.halted as (λ b. IsStopOfRun options core (if b then Some Halted else None)) [ true ↦ tt | false ↦ tt ]

pub grown_running : (options : Options) (old : CoreValue) (p n : ℕ) (s : State) → n ≤ 1 → IsRunning options old → next_process old.program options.choices old.history ≡ Some p → IsRunning options (core_after_choice old p n s)
grown_running options old p n s few running next =
    record {
      cells = running.cells;
      limit = running.limit;
      out = running.out;
      scheduled = one_more old.program options.choices old.history (record { process = p; steps = n }) running.scheduled (next, few);
      stop = no_stop options (core_after_choice old p n s) s;
    }

-- what comes of so many choices
pub record IsLonger (options : Options) (old : CoreValue) (n : ℕ) (new : CoreValue) : Type 0 where
  pub running : IsRunning options new
  pub program : new.program ≡ old.program
  pub limit : new.limit ≡ old.limit
  pub entries : length new.history ≡ length old.history + n
  pub room : 1 ≤ n → length old.history < old.limit

longer : (options : Options) (old : CoreValue) (p n : ℕ) (s : State) → n ≤ 1 → length old.history < old.limit → IsRunning options old → next_process old.program options.choices old.history ≡ Some p → IsLonger options old 1 (core_after_choice old p n s)
longer options old p n s few room running next =
    record {
      running = grown_running options old p n s few running next;
      program = refl;
      limit = refl;
      entries = length-append old.history (record { process = p; steps = n } ∷ []);
      room = λ some. room;
    }

pub chosen : (options : Options) (old new : CoreValue) (p : ℕ) (state_after_turn : Turn) → IsChoice old p (Ok state_after_turn) new → IsRunning options old → next_process old.program options.choices old.history ≡ Some p → IsLonger options old 1 new
chosen options old new p state_after_turn c running next =
    let t = turned old new p state_after_turn.steps state_after_turn.blocked c.3 in
    subst (IsLonger options old 1) (sym t.3) (longer options old p t.0 t.2 t.1 c.2 running next)

-- and one more
one_longer : (options : Options) (old mid new : CoreValue) (n : ℕ) → (n ≡ 0 → old ≡ mid) → IsLonger options old n mid → IsLonger options mid 1 new → IsLonger options old (suc n) new
one_longer options old mid new n same before here =
    record {
      running = here.running;
      program = here.program ∙ before.program;
      limit = here.limit ∙ before.limit;
      entries = omega (arith, here.entries, before.entries);
      room = λ some. by_count n refl;
    }
  where
    by_count : (k : ℕ) → n ≡ k → length old.history < old.limit
    by_count zero is = subst (λ (v : CoreValue). length v.history < v.limit) (sym (same is)) (here.room (omega arith))
    by_count (suc k) is = before.room (omega (arith, is))

pub unlonger : (options : Options) (core : CoreValue) → IsRunning options core → IsLonger options core 0 core
unlonger options core running = record { running = running; program = refl; limit = refl; entries = omega arith; room = λ some. absurd (omega (arith, some)) }

-- ---- choices of one process in a row

-- a core that made some was at no stop
pub turns_began : (p : ℕ) (old : CoreValue) (turns : Turns) (new : CoreValue) → 1 ≤ turns.made → AreTurns old p turns new → HasNoStop old
turns_began p old turns new some (inl made) = (choices-began p old turns.made new some made.1).0
turns_began p old turns new some (inr made) = made.1.2.0

-- those that are named so, from this one on
module _ (options : Options) (p i : ℕ) (old : CoreValue) (running : IsRunning options old) (count : length old.history ≡ i) where
  abbrev pub AreNamed : ℕ → Type 0
  AreNamed n = (k : ℕ) → i ≤ k → k < i + n → slice_get options.choices k ≡ Some p

  choices_made : (n : ℕ) (new : CoreValue) → AreNamed n → AreChoices p old n new → IsLonger options old n new
  choices_made _ _ named (begun core) = unlonger options old running
  choices_made _ _ named (again old n core new before is) =
      let far = choices_made n core (λ k a b. named k a (omega (arith, b))) before in
      let comes = choice_is_next core.program options.choices core.history (i + n) p is.chosen.0.1 (omega (arith, far.entries, count)) (named (i + n) (omega arith) (omega arith)) in
      one_longer options old core new n (λ z. unmoved p old n core z before) far (chosen options core new p (record { steps = 1; blocked = false }) is.chosen far.running comes)

  pub named_turns : (turns : Turns) (new : CoreValue) → 1 ≤ turns.made → AreNamed turns.made → AreTurns old p turns new → IsLonger options old turns.made new
  named_turns turns new some named (inl made) = choices_made turns.made new named made.1
  named_turns turns new some named (inr made) =
      let comes = choice_is_next old.program options.choices old.history i p made.1.2.0.1 count (named i (omega arith) (omega (arith, made.0))) in
      subst (λ n. IsLonger options old n new) (sym made.0) (chosen options old new p made.1.0 made.1.2 running comes)

-- ---- what is ready lives

AllOf : (ℕ → Type 0) → List ℕ → Type 0
AllOf P [] = Unit {0}
AllOf P (x ∷ xs) = P x × AllOf P xs

all_map : (P Q : ℕ → Type 0) → ((x : ℕ) → P x → Q x) → (xs : List ℕ) → AllOf P xs → AllOf Q xs
unfolding AllOf
all_map P Q f [] all = tt
all_map P Q f (x ∷ xs) all = (f x all.0, all_map P Q f xs all.1)

-- the number p is that of a living process, k of them being before these
LivesFrom : ℕ → List Process → ℕ → Type 0
LivesFrom k qs p = (m : ℕ) × (p ≡ suc k + m) × (top_of (slice_get qs m) ≢ None)

later : (k : ℕ) (q : Process) (qs : List Process) (p : ℕ) → LivesFrom (suc k) qs p → LivesFrom k (q ∷ qs) p
unfolding LivesFrom
later k q qs p l = (suc l.0, omega (arith, l.1), l.2)

all_live : (k : ℕ) (qs : List Process) → AllOf (LivesFrom k qs) (living_from (suc k) qs)
unfolding AllOf LivesFrom
all_live k [] = tt
all_live k ([] ∷ qs) = all_map (LivesFrom (suc k) qs) (LivesFrom k ([] ∷ qs)) (later k [] qs) (living_from (suc (suc k)) qs) (all_live (suc k) qs)
all_live k ((level ∷ levels) ∷ qs) =
    ((0, omega arith, λ e. absurd cc), all_map (LivesFrom (suc k) qs) (LivesFrom k ((level ∷ levels) ∷ qs)) (later k (level ∷ levels) qs) (living_from (suc (suc k)) qs) (all_live (suc k) qs))

pick : (P : ℕ → Type 0) (b : Bool) (x p : ℕ) (rest : Option ℕ) → P x → (rest ≡ Some p → P p) → (if b then Some x else rest) ≡ Some p → P p
pick P true x p rest here rest_after e = let same : x ≡ p = cc in subst P same here
pick P false x p rest here rest_after e = rest_after e

first_of : (P : ℕ → Type 0) (n : ℕ) (xs : List ℕ) (other : Option ℕ) → AllOf P xs → ((p : ℕ) → other ≡ Some p → P p) → (p : ℕ) → first_above n xs other ≡ Some p → P p
unfolding AllOf
first_of P n [] other all o p e = o p e
first_of P n (x ∷ xs) other all o p e = pick P (nat_lt n x) x p (first_above n xs other) all.0 (first_of P n xs other all.1 o p) e

least_of : (P : ℕ → Type 0) (xs : List ℕ) → AllOf P xs → (p : ℕ) → slice_get xs 0 ≡ Some p → P p
unfolding AllOf
least_of P [] all p e = absurd cc
least_of P (x ∷ xs) all p e = let same : x ≡ p = cc in subst P same all.0

lives : (s : State) (p : ℕ) → LivesFrom 0 s.processes p → living s p ≢ None
unfolding LivesFrom
lives s p l = let is : suc l.0 ≡ p = omega (arith, l.1) in subst (λ (q : ℕ). living s q ≢ None) is l.2

kept_by : (P : ℕ → Type 0) (b : Bool) (x : ℕ) (xs : List ℕ) → P x → AllOf P xs → AllOf P (cond b (x ∷ xs) xs)
unfolding AllOf
kept_by P true x xs here all = (here, all)
kept_by P false x xs here all = all

all_kept : (P : ℕ → Type 0) (test : ℕ → Bool) (xs : List ℕ) → AllOf P xs → AllOf P (filter test xs)
unfolding AllOf
all_kept P test [] all = tt
all_kept P test (x ∷ xs) all = kept_by P (test x) x (filter test xs) all.0 (all_kept P test xs all.1)

-- one that comes next after any number lives
pub comes_lives : (program : Units) (history : List Entry) (n p : ℕ) → next_of_ready n (ready_in (progress_after program history)) ≡ Some p → living (state_after program history) p ≢ None
comes_lives program history n p e =
    let x = progress_after program history in
    let s = x.state in
    let ready = ready_in x in
    let all = all_kept (LivesFrom 0 s.processes) (λ q. not (is_number_among q x.listed)) (living_from 1 s.processes) (all_live 0 s.processes) in
    subst (λ (t : State). living t p ≢ None) (progress-state program history)
    (lives s p (first_of (LivesFrom 0 s.processes) n ready (slice_get ready 0) all (least_of (LivesFrom 0 s.processes) ready all) p e))

pub ready_lives : (program : Units) (history : List Entry) (p : ℕ) → next_ready program history ≡ Some p → living (state_after program history) p ≢ None
ready_lives program history p e = comes_lives program history (last_process history) p e

-- ---- once the choices are made

choice_or_ready : (program : Units) (choices : List ℕ) (history : List Entry) → length choices ≤ length history → first_choice (slice_get choices (length history)) (next_ready program history) ≡ next_ready program history
choice_or_ready program choices history h = ap (λ (o : Option ℕ). first_choice o (next_ready program history)) (slice_get_past choices (length history) h)

pub next_is_ready : (program : Units) (choices : List ℕ) (history : List Entry) → (state_after program history).halted ≡ false → length choices ≤ length history → next_process program choices history ≡ next_ready program history
next_is_ready program choices history going h = next_is_chosen program choices history going ∙ choice_or_ready program choices history h

-- where nothing is ready nothing comes next, whether a STOP was made or not
pub none_is_next : (program : Units) (choices : List ℕ) (history : List Entry) → length choices ≤ length history → next_ready program history ≡ None → next_process program choices history ≡ None
none_is_next program choices history h none =
    elim (state_after program history).halted as (λ b. (if b then None else first_choice (slice_get choices (length history)) (next_ready program history)) ≡ None)
    [ true ↦ refl | false ↦ choice_or_ready program choices history h ∙ none ]

-- what a choice is that was refused for this reason
pub refused_for : (old new : CoreValue) (p : ℕ) (fault reason : ChooseFault) → fault ≡ reason → IsChoice old p (Err fault) new → IsChoice old p (Err reason) new
refused_for old new p fault reason is c = subst (λ (f : ChooseFault). IsChoice old p (Err f) new) is c

-- a choice that meets a stop leaves the run at it
pub stopped : (options : Options) (old new : CoreValue) (p : ℕ) (stop : ChoiceStop) → IsChoice old p (Err (Stopped stop)) new → IsRunning options old → (HasNoStop old → next_process old.program options.choices old.history ≡ Some p) → IsRunning options new
stopped options old new p stop c running next = elim c [ inl before ↦ at_stop before | inr now ↦ elim now [ inl limit ↦ at_limit limit | inr gap ↦ at_gap gap ] ]
  where
    at_stop : (old.stop ≡ Some stop) × (new ≡ old) → IsRunning options new
    at_stop (is, same) = subst (IsRunning options) (sym same) running

    at_limit : IsFree old p × (length old.history ≡ old.limit) × (stop ≡ StepLimit) × (new ≡ record old { stop = Some StepLimit }) → IsRunning options new
    at_limit (free, full, is, same) =
        let cut : IsRunning options (record old { stop = Some StepLimit }) = record {
          cells = running.cells;
          limit = running.limit;
          out = running.out;
          scheduled = running.scheduled;
          stop = (full ∙ running.limit, p, next free.0, free.1);
        } in
        subst (IsRunning options) (sym same) cut

    at_gap : IsFree old p × (length old.history < old.limit) × HasNoGap old.program old.cells (schedule_of old.history) p × (stop ≡ ArenaFull) × (new ≡ record old { stop = Some ArenaFull }) → IsRunning options new
    at_gap (free, room, gap, is, same) =
        let full : IsRunning options (record old { stop = Some ArenaFull }) = record {
          cells = running.cells;
          limit = running.limit;
          out = running.out;
          scheduled = running.scheduled;
          stop = (omega (arith, room, running.limit), p, next free.0, subst (λ (n : ℕ). HasNoGap old.program n (schedule_of old.history) p) running.cells gap);
        } in
        subst (IsRunning options) (sym same) full

-- a choice of a process that doesn't live is refused by its number
pub nobody_chosen : (options : Options) (old new : CoreValue) (p i : ℕ) → IsChoice old p (Err NoSuchProcess) new → IsRunning options old → length old.history ≡ i → slice_get options.choices i ≡ Some p → IsHaltedBy options new (halts.NoSuchProcess (i + 1))
nobody_chosen options old new p i c running count here =
    let refused : IsHaltedBy options old (halts.NoSuchProcess (i + 1)) =
    (running, omega (arith, count), (c.0.1, p, subst (λ (k : ℕ). slice_get options.choices k ≡ Some p) (sym count) here, c.1)) in
    subst (λ (v : CoreValue). IsHaltedBy options v (halts.NoSuchProcess (i + 1))) (sym c.2) refused

-- where nobody is out, what comes next by itself is what is ready
pub comes_next : (options : Options) (core : CoreValue) → IsRunning options core → next_ready_of core ≡ next_ready core.program core.history
comes_next options core running = ap (next_of_ready (last_process core.history)) (all_free (ready_of core) core.out running.out)

-- ---- what is ready, again and again

-- once the choices are made: where it is chosen more than once, it came last before, so no other process is ready
module _ (options : Options) (p : ℕ) (old : CoreValue) (running : IsRunning options old) (past : length options.choices ≤ length old.history) (ready : next_ready old.program old.history ≡ Some p) where
  record HasGoneAlone (n : ℕ) (new : CoreValue) : Type 0 where
    far : IsLonger options old n new
    same : ready_of new ≡ ready_of old
    last : 1 ≤ n → last_process new.history ≡ p

  alone_next : (n : ℕ) (core : CoreValue) → (1 ≤ n → last_process old.history ≡ p) → (n ≡ 0 → old ≡ core) → HasGoneAlone n core → next_ready core.program core.history ≡ Some p
  alone_next zero core alone same gone = subst (λ (v : CoreValue). next_ready v.program v.history ≡ Some p) (same refl) ready
  alone_next (suc n) core alone same gone =
      ap (λ q. next_of_ready q (ready_of core)) (gone.last (omega arith) ∙ sym (alone (omega arith)))
      ∙ (ap (next_of_ready (last_process old.history)) gone.same ∙ ready)

  alone_made : (n : ℕ) (new : CoreValue) → (2 ≤ n → last_process old.history ≡ p) → AreChoices p old n new → HasGoneAlone n new
  alone_made _ _ alone (begun core) = record { far = unlonger options old running; same = refl; last = λ some. absurd (omega (arith, some)) }
  alone_made _ _ alone (again old n core new before is) =
      let gone = alone_made n core (λ two. alone (omega (arith, two))) before in
      let same : n ≡ 0 → old ≡ core = λ z. unmoved p old n core z before in
      let going = is.chosen.0.1 in
      let comes = next_is_ready core.program options.choices core.history going (omega (arith, past, gone.far.entries)) ∙ alone_next n core (λ some. alone (omega (arith, some))) same gone in
      let made = turned core new p 1 false is.chosen.3 in
      record {
        far = one_longer options old core new n same gone.far (chosen options core new p (record { steps = 1; blocked = false }) is.chosen gone.far.running comes);
        same = is.ready ∙ gone.same;
        last = λ some. ap (λ (v : CoreValue). last_process v.history) made.3 ∙ last-more core.history (record { process = p; steps = made.0 });
      }

  pub ready_turns : (turns : Turns) (new : CoreValue) → 1 ≤ turns.made → (2 ≤ turns.made → last_process old.history ≡ p) → AreTurns old p turns new → IsLonger options old turns.made new
  ready_turns turns new some alone (inl made) = (alone_made turns.made new alone made.1).far
  ready_turns turns new some alone (inr made) =
      let comes = next_is_ready old.program options.choices old.history made.1.2.0.1 past ∙ ready in
      subst (λ n. IsLonger options old n new) (sym made.0) (chosen options old new p made.1.0 made.1.2 running comes)

-- from a core that may be at a stop
pub ready_longer : (options : Options) (p : ℕ) (old : CoreValue) → IsRunning options old → (old.stop ≡ None → length options.choices ≤ length old.history) → next_ready old.program old.history ≡ Some p
    → (turns : Turns) (new : CoreValue) → 1 ≤ turns.made → (2 ≤ turns.made → last_process old.history ≡ p) → AreTurns old p turns new → IsLonger options old turns.made new
ready_longer options p old running past ready turns new some alone made = ready_turns options p old running (past (turns_began p old turns new some made).0) ready turns new some alone made

-- in rounds: each is the one that comes next
module _ (options : Options) (old : CoreValue) (running : IsRunning options old) (past : old.stop ≡ None → length options.choices ≤ length old.history) where
  pub rounds_made : (n : ℕ) (new : CoreValue) → AreRounds old n new → IsLonger options old n new
  rounds_made _ _ (started core) = unlonger options old running
  rounds_made _ _ (goes_round old n core new p before ready is) =
      let far = rounds_made n core before in
      let choice = is.chosen in
      let comes = next_is_ready core.program options.choices core.history choice.0.1 (omega (arith, past (rounds-going old n core before choice.0.0), far.entries)) ∙ (sym (comes_next options core far.running) ∙ ready) in
      one_longer options old core new n (λ z. rounds-none old n core z before) far (chosen options core new p (record { steps = 1; blocked = false }) choice far.running comes)
