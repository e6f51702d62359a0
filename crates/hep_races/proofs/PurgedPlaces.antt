-- The places of the storage units that a PURGE makes empty, one after another.
use Rattle.std.proofs.Common.{◌≡◌, ℕ, suc, ◌+◌, ◌-◌, ◌<◌, ◌≤◌, Bool, true, false, List, [], ◌∷◌, ◌++◌, append-nil, append_assoc, drop}
use Rattle.std.proofs.Common.{length, length-append, length-take, map, min, take, Option, Some, refl, sym, ap, ◌∙◌, arith, if◌then◌else◌}
use Rattle.std.proofs.Common.{slice_get}
use Rattle.std.specs.List.{filter, flat_map}
use Rattle.std.specs.Option.{option_map, option_to_list}
use Rattle.std.proofs.lemmas.List.{drop_all, length-map}
use Rattle.std.proofs.lemmas.Option.{same_Some, slice_get-map}
use Rattle.hep_accesses.specs.Accesses.{locations_from}
use Rattle.hep_code.specs.StatementCode.{referred_argument}
use Rattle.hep_code.specs.declared.instruction.Instruction.{Instruction}
use Rattle.hep_code.specs.declared.instruction.Instruction.TheVariants.{Pass}
use Rattle.hep_image.proofs.Variables.{further-none}
use Rattle.hep_image.specs.Places.{variable_of}
use Rattle.hep_layout.proofs.Runs.{further-further}
use Rattle.hep_machine.specs.Words.{Level, Location, Process, Reference, State, Units, Value, further, run, unit_at, unit_of}
use Rattle.hep_races.specs.FullUnits.{AreUnitsAt, full_places}
use Rattle.hep_races.specs.StepChanges.{units_of_target}
use Rattle.hep_state.specs.declared.core_state.CoreState.{CoreState}
use Rattle.hep_source.proofs.Tests.{at-front}
use Rattle.hep_step.specs.declared.closed_range.ClosedRange.{ClosedRange}
use Rattle.hep_trace.proofs.Entries.{rest-next, subscripts_of, target-ahead}
use Rattle.hep_trace.proofs.PurgedAhead.{AreTargets, taken, targets-are}
use Rattle.hep_trace.proofs.TargetTexts.{AreLawful, IsPurging, at-index, taken-at}
use Rattle.hep_trace.specs.References.{IsAhead, IsEntryOf, top_after}
use Rattle.hep_trace.specs.declared.reference.LiveProcess.{LiveProcess}
use Rattle.hep_views.specs.ListedProcesses.{place_of}
use Rattle.hep_views.specs.declared.place.Place.{Place}

module _ (program : Units) (s : State) where
  abbrev full : List Location → List Place
  full = full_places program s

  -- the first one, and those after it
  full-first : (at : Location) (rest : List Location) → full (at ∷ rest) ≡ full (at ∷ []) ++ full rest
  full-first at rest = by (s.store at).full (filter (λ l. (s.store l).full) rest)
    where
      by : (b : Bool) (others : List Location)
          → map (place_of program s) (if b then at ∷ others else others)
          ≡ map (place_of program s) (if b then at ∷ [] else []) ++ map (place_of program s) others
      by true others = refl
      by false others = refl

  -- those of two lists
  full-both : (xs ys : List Location) → full (xs ++ ys) ≡ full xs ++ full ys
  full-both [] ys = refl
  full-both (x ∷ xs) ys =
      full-first x (xs ++ ys) ∙ ap (λ ps. full (x ∷ []) ++ ps) (full-both xs ys) ∙ sym (append_assoc (full (x ∷ [])) (full xs) (full ys))
      ∙ ap (λ ps. ps ++ full ys) (sym (full-first x xs))

-- ---- in the cells of a range

-- from the storage unit at an index on, their places are still to be appended
abbrev pub AreAppended : Units → CoreState → ℕ → ClosedRange → ℕ → List Place → List Place → Type 0
AreAppended program m key range i places initial =
    (cells : ℕ) (choices : List ℕ) (units : List Location) (h : AreUnitsAt program cells choices m key range units)
    → places ++ full_places program (run program choices) (locations_from (range.cells - i) (further h.start i))
    ≡ initial ++ full_places program (run program choices) units

module _ (program : Units) (m : CoreState) (key : ℕ) (range : ClosedRange) where
  pub appended-first : (places : List Place) → AreAppended program m key range 0 places places
  appended-first places cells choices units h =
      let all : range.cells - 0 ≡ range.cells = omega arith in
      ap (λ us. places ++ full_places program (run program choices) us)
      (ap (λ n. locations_from n (further h.start 0)) all ∙ ap (locations_from range.cells) (further-none h.start) ∙ sym h.listed)

  pub appended-next : (i : ℕ) (old new initial : List Place) (o : Option Place) → i < range.cells
      → AreAppended program m key range i old initial
      → ((cells : ℕ) (choices : List ℕ) (units : List Location) (h : AreUnitsAt program cells choices m key range units)
      → option_to_list o ≡ full_places program (run program choices) (further h.start i ∷ []))
      → new ≡ old ++ option_to_list o → AreAppended program m key range (i + 1) new initial
  appended-next i old new initial o less so_far one grown cells choices units h =
      let s = run program choices in
      let left : range.cells - i ≡ suc (range.cells - (i + 1)) = omega (arith, less) in
      let rest = locations_from (range.cells - (i + 1)) (further h.start (i + 1)) in
      let split : locations_from (range.cells - i) (further h.start i) ≡ further h.start i ∷ rest =
      ap (λ n. locations_from n (further h.start i)) left
      ∙ ap (λ l. further h.start i ∷ locations_from (range.cells - (i + 1)) l) (further-further h.start i 1) in
      ap (λ ps. ps ++ full_places program s rest) (grown ∙ ap (λ ps. old ++ ps) (one cells choices units h))
      ∙ append_assoc old (full_places program s (further h.start i ∷ [])) (full_places program s rest)
      ∙ ap (λ ps. old ++ ps) (sym (full-first program s (further h.start i) rest) ∙ ap (full_places program s) (sym split))
      ∙ so_far cells choices units h

  pub appended-last : (i : ℕ) (places initial : List Place) → range.cells ≤ i → AreAppended program m key range i places initial
      → (cells : ℕ) (choices : List ℕ) (units : List Location) → AreUnitsAt program cells choices m key range units
      → places ≡ initial ++ full_places program (run program choices) units
  appended-last i places initial past so_far cells choices units h =
      let none : range.cells - i ≡ 0 = omega (arith, past) in
      sym (append-nil places)
      ∙ ap (λ n. places ++ full_places program (run program choices) (locations_from n (further h.start i))) (sym none)
      ∙ so_far cells choices units h

-- ---- of all targets

-- the storage units of targets
abbrev pub units_named : LiveProcess → List ℕ → Level × Process → List Reference → List Location
units_named ahead choices top targets = flat_map (units_of_target ahead.image.now (top_after ahead.image.now choices ahead.process top))
    targets

-- from the target at an index on, they are still to be appended, and these subscripts are left
abbrev pub AreAllAppended : LiveProcess → ℕ → ℕ → List Value → List Place → List Place → Type 0
AreAllAppended ahead count i rest places initial =
    (cells : ℕ) (choices : List ℕ) (top : Level × Process) (targets : List Reference) → IsPurging ahead count cells choices top targets
    → (rest ≡ subscripts_of (drop i targets))
    × (places ++ full_places ahead.image.now (run ahead.image.now choices) (units_named ahead choices top (drop i targets))
    ≡ initial ++ full_places ahead.image.now (run ahead.image.now choices) (units_named ahead choices top targets))

module _ (ahead : LiveProcess) (count : ℕ) (laws : AreLawful ahead.image.now) where
  abbrev program : Units
  program = ahead.image.now

  abbrev entries : List Instruction
  entries = ahead.coming.now.behind.now

  are : (cells : ℕ) (choices : List ℕ) (top : Level
      × Process) (targets : List Reference) (h : IsPurging ahead count cells choices top targets)
      → AreTargets cells choices ahead top h.is_ahead targets
  are cells choices top targets h = targets-are cells choices ahead top h.is_ahead targets laws.accepted laws.main laws.running
      laws.placed h.next

  pub all-first : (places : List Place) → AreAllAppended ahead count 0 ahead.coming.now.operands.items places places
  all-first places cells choices top targets h = ((are cells choices top targets h).operands, refl)

  module _ (i n : ℕ) (entry : Instruction) (at : slice_get (take n entries) i
      ≡ Some entry) (few : n ≤ count) (rest : List Value) (old initial : List Place)
      (so_far : AreAllAppended ahead count i rest old initial) where
    -- the target that the entry passes
    pub record HasTarget (choices : List ℕ) (top : Level × Process) (targets : List Reference) : Type 0 where
      pub target : Reference
      pub there : slice_get targets i ≡ Some target
      pub entry_is : IsEntryOf ahead choices top entry target

    pub it : (cells : ℕ) (choices : List ℕ) (top : Level × Process) (targets : List Reference)
        → IsPurging ahead count cells choices top targets
        → HasTarget choices top targets
    it cells choices top targets h =
        let t = are cells choices top targets h in
        let variables = variable_of program (unit_at program (unit_of (run program choices) top.0.activation)) in
        let pass : Reference → Instruction = λ x. Pass (referred_argument variables x) in
        let place = taken-at n entries i entry at in
        let found = at-index targets i (omega (arith, place.1, few, h.counted)) in
        let there : slice_get entries i ≡ Some (pass found.0) = ap (λ xs. slice_get xs i) t.entries
        ∙ at-front (map pass targets) t.more i (pass found.0) (slice_get-map pass targets i ∙ ap (option_map pass) found.1) in
        record {
          target = found.0;
          there = found.1;
          entry_is = (variables found.0.0, same_Some entry (pass found.0) (sym place.0 ∙ there), (refl, t.placed i found.0 found.1));
        }

    -- the first subscripts that are left are its own
    pub own-subscripts : (cells : ℕ) (choices : List ℕ) (top : Level
        × Process) (targets : List Reference) (h : IsPurging ahead count cells choices top targets)
        → take (length (it cells choices top targets h).target.1) rest ≡ (it cells choices top targets h).target.1
    own-subscripts cells choices top targets h =
        let r = it cells choices top targets h in
        ap (take (length r.target.1)) ((so_far cells choices top targets h).0
        ∙ ap subscripts_of (target-ahead targets i r.target r.there)) ∙ taken r.target (drop (i + 1) targets)

    pub all-next : (more : List Value) (new : List Place)
        → ((cells : ℕ) (choices : List ℕ) (top : Level × Process) (x : Reference) → IsAhead cells choices ahead top
        → IsEntryOf ahead choices top entry x
        → take (length x.1) rest ≡ x.1
        → new ≡ old ++ full_places program (run program choices) (units_of_target program (top_after program choices ahead.process top) x))
        → ((choices : List ℕ) (top : Level × Process) (x : Reference) → IsEntryOf ahead choices top entry x → more ≡ drop (length x.1) rest)
        → AreAllAppended ahead count (i + 1) more new initial
    all-next more new grown left cells choices top targets h =
        let s = run program choices in
        let r = it cells choices top targets h in
        let so = so_far cells choices top targets h in
        let one = units_of_target program (top_after program choices ahead.process top) r.target in
        let behind = units_named ahead choices top (drop (i + 1) targets) in (
          rest-next targets i r.target rest more r.there so.0 (left choices top r.target r.entry_is),
          ap (λ ps. ps ++ full_places program s behind) (grown cells choices top r.target h.is_ahead r.entry_is
              (own-subscripts cells choices top targets h))
              ∙ append_assoc old (full_places program s one) (full_places program s behind)
              ∙ ap (λ ps. old ++ ps) (sym (full-both program s one behind))
              ∙ ap (λ rs. old ++ full_places program s (units_named ahead choices top rs)) (sym (target-ahead targets i r.target r.there))
              ∙ so.1,
        )

  pub all-last : (i n : ℕ) (rest : List Value) (places initial : List Place) → length (take n entries) ≤ i → n ≡ min (length entries) count
      → AreAllAppended ahead count i rest places initial → (cells : ℕ) (choices : List ℕ) (top : Level × Process) (targets : List Reference)
      → IsPurging ahead count cells choices top targets
      → places ≡ initial ++ full_places program (run program choices) (units_named ahead choices top targets)
  all-last i n rest places initial past is so_far cells choices top targets h =
      let t = are cells choices top targets h in
      let pass : Reference → Instruction = λ x. Pass (referred_argument
      (variable_of program (unit_at program (unit_of (run program choices) top.0.activation))) x) in
      let many : length entries ≡ length targets + length t.more = ap length t.entries ∙ length-append (map pass targets) t.more
      ∙ ap (λ k. k + length t.more) (length-map targets pass) in
      let over : length targets ≤ i = omega (arith, past, is, h.counted, many, length-take n entries) in
      sym (append-nil places)
      ∙ ap (λ rs. places ++ full_places program (run program choices) (units_named ahead choices top rs)) (sym (drop_all i targets over))
      ∙ (so_far cells choices top targets h).1
