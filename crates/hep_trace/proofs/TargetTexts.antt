-- The loop over the entries of a PURGE, whatever turns were made before it.
use Rattle.std.proofs.Common.{◌≡◌, ℕ, zero, suc, ◌+◌, ◌<◌, ◌≤◌, ◌++◌, ◌∷◌, [], List, append-nil, codes, drop, length, length-append, length-take, map, min, take, Some, refl, sym, ap, ◌∙◌, arith, is_some, true, slice_get}
use Rattle.std.specs.Option.{option_map}
use Rattle.std.proofs.lemmas.List.{drop_all, length-map}
use Rattle.std.proofs.lemmas.Option.{none-some, same_Some, slice_get-map}
use Rattle.hep_accepted_laws.specs.Instructions.{variables_in}
use Rattle.hep_accepted_laws.specs.PlacedCode.{ArePlaced, code_in}
use Rattle.hep_code.specs.declared.instruction.Instruction.{Instruction}
use Rattle.hep_code.specs.declared.instruction.Instruction.TheVariants.{Pass}
use Rattle.hep_code.specs.StatementCode.{referred_argument}
use Rattle.hep_conditions.specs.Words.{IsAccepted}
use Rattle.hep_image.specs.Places.{variable_of}
use Rattle.hep_machine.specs.Words.{Level, Process, Reference, Units, Value, does, main_among, next_of, purging, run, spelling, unit_at, unit_of}
use Rattle.hep_state.specs.Words.{IsTopRunning, IsTurning, TurnOf}
use Rattle.hep_event.specs.LineTexts.{reference_text, references_text}
use Rattle.hep_trace.specs.declared.reference.LiveProcess.{LiveProcess}
use Rattle.hep_trace.specs.References.{IsAhead, IsEntryOf}
use Rattle.hep_trace.proofs.Entries.{rest-next, subscripts_of, target-next, written}
use Rattle.hep_trace.proofs.PurgedAhead.{AreTargets, targets-are}
use Rattle.hep_source.proofs.Tests.{at-front}

-- what the laws of the code say
pub record AreLawful (program : Units) : Type 0 where
  pub accepted : IsAccepted program
  pub main : is_some (main_among program) ≡ true
  pub running : (t : TurnOf) → IsAccepted t.program → is_some (main_among t.program) ≡ true → (turning : IsTurning t) → IsTopRunning t turning
  pub placed : (program : Units) (u i : ℕ) (x : Instruction) → IsAccepted program → u < length program → slice_get (code_in program u) i ≡ Some x → ArePlaced (variables_in x)

-- a PURGE of these targets comes next
pub record IsPurging (ahead : LiveProcess) (count cells : ℕ) (choices : List ℕ) (top : Level × Process) (targets : List Reference) : Type 0 where
  pub is_ahead : IsAhead cells choices ahead top
  pub next : next_of (unit_at ahead.image.now (unit_of (run ahead.image.now choices) top.0.activation)) top.0.work ≡ does (purging targets)
  pub counted : count ≡ length targets

-- so many targets are written behind what was there, and these subscripts are left
abbrev pub AreWritten : LiveProcess → ℕ → ℕ → List Value → List ℕ → List ℕ → Type 0
AreWritten ahead count i rest text initial =
    (cells : ℕ) (choices : List ℕ) (top : Level × Process) (targets : List Reference) → IsPurging ahead count cells choices top targets
    → (rest ≡ subscripts_of (drop i targets)) × (text ++ references_text (map written (drop i targets)) ≡ initial ++ references_text (map written targets))

-- ---- lists

pub taken-at : {A : Type 0} (n : ℕ) (xs : List A) (i : ℕ) (x : A) → slice_get (take n xs) i ≡ Some x → (slice_get xs i ≡ Some x) × (i < n)
taken-at zero xs i x e = absurd (none-some x e)
taken-at (suc n) [] i x e = absurd (none-some x e)
taken-at (suc n) (y ∷ ys) zero x e = (e, omega arith)
taken-at (suc n) (y ∷ ys) (suc i) x e = let found = taken-at n ys i x e in (found.0, omega (arith, found.1))

pub at-index : {A : Type 0} (xs : List A) (i : ℕ) → i < length xs → (x : A) × (slice_get xs i ≡ Some x)
at-index [] i less = absurd (omega (arith, less))
at-index (x ∷ xs) zero less = (x, refl)
at-index (x ∷ xs) (suc i) less = at-index xs i (omega (arith, less))

-- ---- the loop

module _ (ahead : LiveProcess) (count : ℕ) (laws : AreLawful ahead.image.now) where
  abbrev entries : List Instruction
  entries = ahead.coming.now.behind.now

  are : (cells : ℕ) (choices : List ℕ) (top : Level × Process) (targets : List Reference) (h : IsPurging ahead count cells choices top targets) → AreTargets cells choices ahead top h.is_ahead targets
  are cells choices top targets h = targets-are cells choices ahead top h.is_ahead targets laws.accepted laws.main laws.running laws.placed h.next

  pub written-first : (text : List ℕ) → AreWritten ahead count 0 ahead.coming.now.operands.items text text
  written-first text cells choices top targets h = ((are cells choices top targets h).operands, refl)

  pub written-next : (i n : ℕ) (entry : Instruction) (rest more : List Value) (text new initial : List ℕ) → slice_get (take n entries) i ≡ Some entry → n ≤ count → AreWritten ahead count i rest text initial
      → ((cells : ℕ) (choices : List ℕ) (top : Level × Process) (x : Reference) → IsAhead cells choices ahead top → IsEntryOf ahead choices top entry x
      → new ≡ text ++ (codes " " ++ reference_text (spelling x.0) (take (length x.1) rest)))
      → ((choices : List ℕ) (top : Level × Process) (x : Reference) → IsEntryOf ahead choices top entry x → more ≡ drop (length x.1) rest)
      → AreWritten ahead count (i + 1) more new initial
  written-next i n entry rest more text new initial at few so_far grown left cells choices top targets h =
      let t = are cells choices top targets h in
      let place = taken-at n entries i entry at in
      let found = at-index targets i (omega (arith, place.1, few, h.counted)) in
      let r = found.0 in
      let unit = unit_at ahead.image.now (unit_of (run ahead.image.now choices) top.0.activation) in
      let pass : Reference → Instruction = λ x. Pass (referred_argument (variable_of ahead.image.now unit) x) in
      let there : slice_get entries i ≡ Some (pass r) = ap (λ xs. slice_get xs i) t.entries
      ∙ at-front (map pass targets) t.more i (pass r) (slice_get-map pass targets i ∙ ap (option_map pass) found.1) in
      let is : entry ≡ pass r = same_Some entry (pass r) (sym place.0 ∙ there) in
      let own : IsEntryOf ahead choices top entry r = (variable_of ahead.image.now unit r.0, is, (refl, t.placed i r found.1)) in
      let so = so_far cells choices top targets h in (
        rest-next targets i r rest more found.1 so.0 (left choices top r own),
        target-next targets i r text new (initial ++ references_text (map written targets)) rest found.1 so.0 (grown cells choices top r h.is_ahead own) so.1,
      )

  pub written-last : (i n : ℕ) (rest : List Value) (text initial : List ℕ) → length (take n entries) ≤ i → n ≡ min (length entries) count → AreWritten ahead count i rest text initial
      → (cells : ℕ) (choices : List ℕ) (top : Level × Process) (targets : List Reference) → IsPurging ahead count cells choices top targets → text ≡ initial ++ references_text (map written targets)
  written-last i n rest text initial past is so_far cells choices top targets h =
      let t = are cells choices top targets h in
      let unit = unit_at ahead.image.now (unit_of (run ahead.image.now choices) top.0.activation) in
      let pass : Reference → Instruction = λ x. Pass (referred_argument (variable_of ahead.image.now unit) x) in
      let many : length entries ≡ length targets + length t.more = ap length t.entries ∙ (length-append (map pass targets) t.more ∙ ap (λ k. k + length t.more) (length-map targets pass)) in
      let over : length targets ≤ i = omega (arith, past, is, h.counted, many, length-take n entries) in
      sym (append-nil text)
      ∙ ap (λ rs. text ++ references_text (map written rs)) (sym (drop_all i targets over))
      ∙ (so_far cells choices top targets h).1
