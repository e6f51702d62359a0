-- Where memory may have been asked for.
use Rattle.std.proofs.Common.{◌≡◌, ℕ, Bool, true, false, true≢false, List, [], ◌++◌, codes, Ok, Result, Err, IfErr, length, nat_eq, refl, sym, ap, ◌∙◌, inl, inr}
use Rattle.std.proofs.lemmas.Bool.{and_parts, eqb-true}
use Rattle.std.specs.Fmt.{digits}
use Rattle.hep_text.specs.Reading.{Refusal, is_too_large, refusal, statements_of}
use Rattle.hep_text.specs.declared.statement.Stmt.{Stmt}
use Rattle.hep_text.proofs.Joining as text
use Rattle.hep_base.specs.declared.refusal.Refusal.{Refusal as Told}
use Rattle.hep_base.specs.declared.refusal.Refusal.TheVariants as told
use Rattle.hep_machine.specs.Words.{Units}
use Rattle.hep_run.specs.Memory.{IsWant, MayReadOn, tells_large}
use Rattle.hep_run.specs.Notes.{line_notes_when}
use Rattle.hep_outcome.proofs.Wanted.{none-there}
use Rattle.hep_run.specs.Outcome.{refused}
use Rattle.hep_run.specs.Refusals.{IsRefusal, noted}
use Rattle.hep_run.specs.Sources.{IsRefusedFor, IsSourceOf}
use Rattle.hep_run.specs.declared.refusal.SourceFault.{SourceFault}
use Rattle.hep_run.specs.declared.refusal.SourceFault.TheVariants.{NoMemory, Refused}
use Rattle.hep_outcome.specs.Texts.{refusal_text}
use Rattle.hep_run.proofs.Fronts.{unread, line_in}

number_in : Result (List Stmt) Refusal → ℕ
number_in (Ok statements) = 0
number_in (Err e) = e.number

-- a source that has statements isn't too large
pub read-small : (source : List ℕ) (statements : List Stmt) → statements_of source ≡ Ok statements → is_too_large source ≡ false
read-small source statements read = by-size (is_too_large source) refl where
  by-size : (large : Bool) → is_too_large source ≡ large → is_too_large source ≡ false
  by-size false e = e
  by-size true e = unread source statements (text.too_large source e) read

-- nor is that of a program
pub program-small : (Is : Units → Type 0) (source : List ℕ) (program : Units) → IsSourceOf Is source program → is_too_large source ≡ false
program-small Is source program (statements, read, reading, holds) = read-small source statements read

-- a source that is too large has this refusal alone
pub large-alone : (Is : Units → ℕ → ℕ → List ℕ → Type 0) (bytes : List ℕ) (number line : ℕ) (name notes : List ℕ) → statements_of bytes ≡ refusal 107 0 → IsRefusedFor Is bytes number line name → notes ≡ []
    → tells_large (Refused number line name notes) ≡ true
unfolding number_in line_in
large-alone Is bytes number line name notes large (inl (e, unnamed)) bare =
    let same = sym e ∙ large in
    let numbers : number ≡ 107 = ap number_in same in
    let lines : line ≡ 0 = ap line_in same in
    λ i. tells_large (Refused (numbers i) (lines i) (unnamed i) (bare i))
large-alone Is bytes number line name notes large (inr (inl (ss, e, first))) bare = unread bytes ss large e
large-alone Is bytes number line name notes large (inr (inr (ss, p, e, program, so))) bare = unread bytes ss large e

-- why a source isn't run is a refusal that needs memory to be told, or was found where memory was asked for
pub may-read-on : (long : Bool) (Is : Units → ℕ → ℕ → List ℕ → Type 0) (bytes : List ℕ) (fault : SourceFault)
    → IsRefusal Is long bytes fault → IsWant long bytes fault → tells_large fault ≡ false → MayReadOn long bytes
may-read-on true Is bytes fault why want other = inl refl
may-read-on false Is bytes NoMemory why want other = want refl
may-read-on false Is bytes (Refused number line name notes) why want other = by-size (is_too_large bytes) refl where
  by-size : (large : Bool) → is_too_large bytes ≡ large → MayReadOn false bytes
  by-size false e = inr e
  by-size true e = absurd (true≢false (sym (large-alone Is bytes number line name notes (text.too_large bytes e) why.0 why.1) ∙ other))

-- ---- refusals of the front

refused-memory : (notes : ℕ → ℕ → List ℕ → List ℕ) (said : Told) → noted notes said ≡ NoMemory → said ≡ told.NoMemory
refused-memory notes told.NoMemory e = refl
refused-memory notes (told.Refused number line name) e = absurd cc

-- want of memory that was told of a refusal without notes was that of the refusal
pub want-of : (long : Bool) (bytes : List ℕ) (said : Told) (fault : SourceFault) → (long ≡ false → fault ≡ noted (line_notes_when long bytes) said)
    → (said ≡ told.NoMemory → is_too_large bytes ≡ false) → IsWant long bytes fault
want-of true bytes said fault so small none = inl refl
want-of false bytes said fault so small none = inr (small (refused-memory (line_notes_when false bytes) said (sym (so refl) ∙ none)))

-- where a source isn't too large nothing more is to be shown
pub want-anyway : (long : Bool) (bytes : List ℕ) (fault : SourceFault) → is_too_large bytes ≡ false → IsWant long bytes fault
want-anyway long bytes fault small none = inr small

-- what holds anyway holds of a fault
pub wanted-anyway : {A : Type 0} (long : Bool) (bytes : List ℕ) (r : Result A SourceFault) → is_too_large bytes ≡ false → IfErr r (IsWant long bytes)
wanted-anyway long bytes (Ok x) small = tt
wanted-anyway long bytes (Err fault) small = want-anyway long bytes fault small

-- ---- texts that need no memory

-- the refusal of a source that is too large is this one
pub large-refused : (number line : ℕ) (name notes : List ℕ) → tells_large (Refused number line name notes) ≡ true → refused 107 0 [] [] ≡ refused number line name notes
large-refused number line name notes e =
    let a = and_parts (nat_eq number 107) _ e in
    let b = and_parts (nat_eq line 0) _ a.1 in
    let c = and_parts (nat_eq (length name) 0) _ b.1 in
    let numbers : 107 ≡ number = sym (eqb-true number 107 a.0) in
    let lines : 0 ≡ line = sym (eqb-true line 0 b.0) in
    let names : [] ≡ name = sym (none-there name c.0) in
    let all : [] ≡ notes = sym (none-there notes c.1) in
    λ i. refused (numbers i) (lines i) (names i) (all i)

pub large-text : refusal_text 107 0 [] ++ [] ≡ codes "REFUSED 107 LINE 0\n"
unfolding digits
large-text = refl
