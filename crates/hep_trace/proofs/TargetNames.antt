-- The loop that looks for a name among the targets of a PURGE, whatever turns were made before it.
use Rattle.std.proofs.Common.{◌≡◌, ℕ, ◌+◌, ◌≤◌, ◌||◌, Bool, true, false, List, drop, length, length-append, length-take, map, min, take, Some, refl, sym, ap, ◌∙◌, arith, slice_get}
use Rattle.std.specs.List.{list_any}
use Rattle.std.specs.Option.{option_map}
use Rattle.std.proofs.lemmas.List.{drop_all, length-map}
use Rattle.std.proofs.lemmas.Option.{same_Some, slice_get-map}
use Rattle.hep_code.specs.declared.instruction.Instruction.{Instruction}
use Rattle.hep_code.specs.declared.instruction.Instruction.TheVariants.{Pass}
use Rattle.hep_code.specs.StatementCode.{referred_argument}
use Rattle.hep_image.specs.Places.{variable_of}
use Rattle.hep_machine.specs.Words.{Level, Process, Reference, Value, run, unit_at, unit_of}
use Rattle.hep_source.proofs.Tests.{at-front}
use Rattle.hep_event.specs.AccessedNames.{has_name}
use Rattle.hep_trace.specs.declared.reference.LiveProcess.{LiveProcess}
use Rattle.hep_trace.specs.References.{IsAhead, IsEntryOf, top_after}
use Rattle.hep_trace.proofs.Entries.{rest-next, subscripts_of, target-ahead}
use Rattle.hep_trace.proofs.PurgedAhead.{AreTargets, taken, targets-are}
use Rattle.hep_trace.proofs.TargetTexts.{AreLawful, IsPurging, at-index, taken-at}

-- a target goes by a name
abbrev pub is_named : LiveProcess → List ℕ → List ℕ → Level × Process → Reference → Bool
is_named ahead name choices top x = has_name ahead.image.now (top_after ahead.image.now choices ahead.process top) name x

-- so many targets don't, and these subscripts are left
abbrev pub AreSought : LiveProcess → ℕ → List ℕ → ℕ → List Value → Type 0
AreSought ahead count name i rest =
    (cells : ℕ) (choices : List ℕ) (top : Level × Process) (targets : List Reference) → IsPurging ahead count cells choices top targets
    → (rest ≡ subscripts_of (drop i targets)) × (list_any (is_named ahead name choices top) (drop i targets) ≡ list_any (is_named ahead name choices top) targets)

-- what an entry is told to be called
abbrev pub IsCalled : LiveProcess → List ℕ → Instruction → List Value → Bool → Type 0
IsCalled ahead name entry rest found =
    (cells : ℕ) (choices : List ℕ) (top : Level × Process) (x : Reference) → IsAhead cells choices ahead top → IsEntryOf ahead choices top entry x
    → found ≡ is_named ahead name choices top (x.0, take (length x.1) rest)

module _ (ahead : LiveProcess) (count : ℕ) (laws : AreLawful ahead.image.now) (name : List ℕ) where
  abbrev entries : List Instruction
  entries = ahead.coming.now.behind.now

  are : (cells : ℕ) (choices : List ℕ) (top : Level × Process) (targets : List Reference) (h : IsPurging ahead count cells choices top targets) → AreTargets cells choices ahead top h.is_ahead targets
  are cells choices top targets h = targets-are cells choices ahead top h.is_ahead targets laws.accepted laws.main laws.running laws.placed h.next

  pub sought-first : AreSought ahead count name 0 ahead.coming.now.operands.items
  sought-first cells choices top targets h = ((are cells choices top targets h).operands, refl)

  module _ (i n : ℕ) (entry : Instruction) (at : slice_get (take n entries) i ≡ Some entry) (few : n ≤ count) where
    -- the entry is that of a target
    pub record IsEntryAt (choices : List ℕ) (top : Level × Process) (targets : List Reference) : Type 0 where
      pub target : Reference
      pub there : slice_get targets i ≡ Some target
      pub entry_is : IsEntryOf ahead choices top entry target

    pub entry-at : (cells : ℕ) (choices : List ℕ) (top : Level × Process) (targets : List Reference) → IsPurging ahead count cells choices top targets → IsEntryAt choices top targets
    entry-at cells choices top targets h =
        let t = are cells choices top targets h in
        let place = taken-at n entries i entry at in
        let found = at-index targets i (omega (arith, place.1, few, h.counted)) in
        let r = found.0 in
        let unit = unit_at ahead.image.now (unit_of (run ahead.image.now choices) top.0.activation) in
        let pass : Reference → Instruction = λ x. Pass (referred_argument (variable_of ahead.image.now unit) x) in
        let there : slice_get entries i ≡ Some (pass r) = ap (λ xs. slice_get xs i) t.entries
        ∙ at-front (map pass targets) t.more i (pass r) (slice_get-map pass targets i ∙ ap (option_map pass) found.1) in
        let is : entry ≡ pass r = same_Some entry (pass r) (sym place.0 ∙ there) in
        record { target = r; there = found.1; entry_is = (variable_of ahead.image.now unit r.0, is, (refl, t.placed i r found.1)) }

    module _ (rest : List Value) (so_far : AreSought ahead count name i rest) (called : Bool) (told : IsCalled ahead name entry rest called)
        (cells : ℕ) (choices : List ℕ) (top : Level × Process) (targets : List Reference) (h : IsPurging ahead count cells choices top targets) where
      abbrev it : IsEntryAt choices top targets
      it = entry-at cells choices top targets h

      own : take (length it.target.1) rest ≡ it.target.1
      own =
          ap (take (length it.target.1)) ((so_far cells choices top targets h).0 ∙ ap subscripts_of (target-ahead targets i it.target it.there))
          ∙ taken it.target (drop (i + 1) targets)

      called-is : called ≡ is_named ahead name choices top it.target
      called-is = told cells choices top it.target h.is_ahead it.entry_is ∙ ap (λ vs. is_named ahead name choices top (it.target.0, vs)) own

      any-is : list_any (is_named ahead name choices top) targets ≡ (called || list_any (is_named ahead name choices top) (drop (i + 1) targets))
      any-is =
          sym (so_far cells choices top targets h).1
          ∙ ap (list_any (is_named ahead name choices top)) (target-ahead targets i it.target it.there)
          ∙ ap (λ b. b || list_any (is_named ahead name choices top) (drop (i + 1) targets)) (sym called-is)

      -- it is the one
      pub found-here : called ≡ true → true ≡ list_any (is_named ahead name choices top) targets
      found-here is = sym (any-is ∙ ap (λ b. b || list_any (is_named ahead name choices top) (drop (i + 1) targets)) is)

      -- it isn't
      pub behind-here : (more : List Value) → called ≡ false → more ≡ drop (length it.target.1) rest
          → (more ≡ subscripts_of (drop (i + 1) targets))
          × (list_any (is_named ahead name choices top) (drop (i + 1) targets) ≡ list_any (is_named ahead name choices top) targets)
      behind-here more other left = (
        rest-next targets i it.target rest more it.there (so_far cells choices top targets h).0 left,
        sym (any-is ∙ ap (λ b. b || list_any (is_named ahead name choices top) (drop (i + 1) targets)) other),
      )

    pub sought-next : (rest more : List Value) → AreSought ahead count name i rest → (called : Bool) → IsCalled ahead name entry rest called → called ≡ false
        → ((choices : List ℕ) (top : Level × Process) (x : Reference) → IsEntryOf ahead choices top entry x → more ≡ drop (length x.1) rest)
        → AreSought ahead count name (i + 1) more
    sought-next rest more so_far called told other left cells choices top targets h =
        let r = entry-at cells choices top targets h in
        behind-here rest so_far called told cells choices top targets h more other (left choices top r.target r.entry_is)

  pub sought-last : (i n : ℕ) (rest : List Value) → length (take n entries) ≤ i → n ≡ min (length entries) count → AreSought ahead count name i rest
      → (cells : ℕ) (choices : List ℕ) (top : Level × Process) (targets : List Reference) → IsPurging ahead count cells choices top targets
      → false ≡ list_any (is_named ahead name choices top) targets
  sought-last i n rest past is so_far cells choices top targets h =
      let t = are cells choices top targets h in
      let unit = unit_at ahead.image.now (unit_of (run ahead.image.now choices) top.0.activation) in
      let pass : Reference → Instruction = λ x. Pass (referred_argument (variable_of ahead.image.now unit) x) in
      let many : length entries ≡ length targets + length t.more = ap length t.entries ∙ (length-append (map pass targets) t.more ∙ ap (λ k. k + length t.more) (length-map targets pass)) in
      let over : length targets ≤ i = omega (arith, past, is, h.counted, many, length-take n entries) in
      ap (list_any (is_named ahead name choices top)) (sym (drop_all i targets over)) ∙ (so_far cells choices top targets h).1
