-- A source of which only a front was read, since it is too long, has the outcome of that front.
use Rattle.std.proofs.Common.{◌≡◌, ◌⊎◌, ℕ, ◌<◌, ◌≤◌, Bool, true, false, List, [], ◌++◌, length, Option, Some, None, Result, Ok, Err, refl, sym, ap, ◌∙◌, subst, inl, inr, arith, append-nil, length-append, nat_lt}
use Rattle.std.proofs.lemmas.Bool.{cases_lt}
use Rattle.std.proofs.lemmas.Bool.Decides.{nat_tests}
use Rattle.std.specs.Io.KnownBytes.{Consumes, IsAtEnd}
use Rattle.hep_text.specs.Reading.{Refusal, statements_of, refusal}
use Rattle.hep_text.specs.declared.statement.Stmt.{Stmt}
use Rattle.hep_machine.specs.Words.{Units}
use Rattle.hep_text.specs.Refusals.{line_notes}
use Rattle.hep_run.specs.Notes.{AreNotes}
use Rattle.hep_run.specs.Sources.{IsRefusedFor, IsUnrunnableProgram}
use Rattle.hep_outcome.specs.Outcome.{Outcome}
use Rattle.hep_run.specs.Outcome.{ComesTo}
use Rattle.hep_run.specs.declared.options.Run.{Run}
use Rattle.hep_run.specs.Delivery.{IsOutcomeOf, LeavesOneOf, LeavesOfSource}

-- the test of a size that is too large
pub over : (n : ℕ) → 4194304 < n → nat_lt 4194304 n ≡ true
over n h = grind (arith, nat_tests)

too_long : (s : List ℕ) → 4194304 < length s → statements_of s ≡ refusal 107 0
unfolding statements_of
too_long s h = rw (over (length s) h) refl

pub refused_too : (Is : Units → ℕ → ℕ → List ℕ → Type 0) (s t : List ℕ) (number line : ℕ) (name : List ℕ) → statements_of s ≡ statements_of t → IsRefusedFor Is t number line name → IsRefusedFor Is s number line name
refused_too Is s t number line name same (inl (e, none)) = inl (same ∙ e, none)
refused_too Is s t number line name same (inr (inl (ss, e, first))) = inr (inl (ss, same ∙ e, first))
refused_too Is s t number line name same (inr (inr (ss, p, e, program, so))) = inr (inr (ss, p, same ∙ e, program, so))

-- the bytes that were read are all of them, or both are too long
front : (bytes rest : List ℕ) → (length bytes ≤ 4194304 → rest ≡ []) → (bytes ++ rest ≡ bytes) ⊎ ((statements_of (bytes ++ rest) ≡ refusal 107 0) × (statements_of bytes ≡ refusal 107 0))
front bytes rest end = elim (cases_lt 4194304 (length bytes)) [
  | inl over ↦ inr (too_long (bytes ++ rest) (omega (arith, over, length-append bytes rest)), too_long bytes over)
  | inr within ↦ inl (ap (λ (l : List ℕ). bytes ++ l) (end within) ∙ append-nil bytes)
]

-- the line of a refusal; 0 where there is none
unfoldable pub line_in : Result (List Stmt) Refusal → ℕ
line_in (Ok statements) = 0
line_in (Err e) = e.line

-- the notes at line 0 show no line of the source
notes_alike : (s t : List ℕ) (number line : ℕ) (name : List ℕ) → line ≡ 0 → line_notes t number line name ≡ line_notes s number line name
notes_alike s t number line name none = subst (λ (l : ℕ). line_notes t number l name ≡ line_notes s number l name) (sym none) refl

pub unread : {P : Type 0} (t : List ℕ) (statements : List Stmt) → statements_of t ≡ refusal 107 0 → statements_of t ≡ Ok statements → P
unread t statements refused read = let bad : refusal {A = List Stmt} 107 0 ≡ Ok statements = sym refused ∙ read in cc

pub refused_at_0 : (Is : Units → ℕ → ℕ → List ℕ → Type 0) (t : List ℕ) (number line : ℕ) (name : List ℕ) → statements_of t ≡ refusal 107 0 → IsRefusedFor Is t number line name → line ≡ 0
unfolding line_in
refused_at_0 Is t number line name refused (inl (e, none)) = ap line_in (sym e ∙ refused)
refused_at_0 Is t number line name refused (inr (inl (ss, e, first))) = unread t ss refused e
refused_at_0 Is t number line name refused (inr (inr (ss, p, e, program, so))) = unread t ss refused e

-- what is said of one source that is too long is said of another
notes_too : (long : Bool) (s t : List ℕ) (number line : ℕ) (name notes : List ℕ) → statements_of s ≡ refusal 107 0 → statements_of t ≡ refusal 107 0
    → AreNotes long t number line name notes → AreNotes long s number line name notes
notes_too false s t number line name notes short refused none = none
notes_too true s t number line name notes short refused (inl (r, e)) =
    inl (
      refused_too IsUnrunnableProgram s t number line name (short ∙ sym refused) r,
      e ∙ notes_alike s t number line name (refused_at_0 IsUnrunnableProgram t number line name refused r),
    )
notes_too true s t number line name notes short refused (inr (statements, program, v, read, is, first, same)) = unread t statements refused read

module _ (long : Bool) (IsRefused : Units → ℕ → ℕ → List ℕ → Type 0) (Holds : Units → Type 0) (Comes : List ℕ → Units → Outcome → Type 0) where
  -- what a source that is too long comes to is what each such source does
  pub same_outcome : (s t : List ℕ) (o : Outcome) → statements_of s ≡ refusal 107 0 → statements_of t ≡ refusal 107 0
      → ComesTo long IsRefused Holds (Comes t) t o → ComesTo long IsRefused Holds (Comes s) s o
  same_outcome s t o short refused (inl (number, line, name, notes, r, are, is)) =
      inl (number, line, name, notes, refused_too IsRefused s t number line name (short ∙ sym refused) r, notes_too long s t number line name notes short refused are, is)
  same_outcome s t o short refused (inr (p, (ss, e, program, holds), is)) = unread t ss refused e

-- outcomes that each source that is too long has, if one of them has it
module _ (Is : List ℕ → Outcome → Type 0) (same_for_long : (s t : List ℕ) (o : Outcome) → statements_of s ≡ refusal 107 0 → statements_of t ≡ refusal 107 0 → Is t o → Is s o) where
  outcome_of_whole : (bytes rest : List ℕ) (o : Outcome) → (bytes ++ rest ≡ bytes) ⊎ ((statements_of (bytes ++ rest) ≡ refusal 107 0) × (statements_of bytes ≡ refusal 107 0)) → Is bytes o → Is (bytes ++ rest) o
  outcome_of_whole bytes rest o (inl same) is = subst (λ (l : List ℕ). Is l o) (sym same) is
  outcome_of_whole bytes rest o (inr (short, refused)) is = same_for_long (bytes ++ rest) bytes o short refused is

  outcome_of_front : (known left : Option (List ℕ)) (bytes : List ℕ) (o : Outcome) → Consumes known left bytes → (length bytes ≤ 4194304 → IsAtEnd left) → Is bytes o → IsOutcomeOf Is known o
  outcome_of_front None left bytes o taken end is = (bytes, is)
  outcome_of_front (Some source) None bytes o taken end is = absurd taken
  outcome_of_front (Some source) (Some rest) bytes o taken end is =
      subst (λ (l : List ℕ). Is l o) (sym taken) (outcome_of_whole bytes rest o (front bytes rest end) is)

  -- what is left of the bytes that were read is left of the reader's bytes
  pub read_left : (known left : Option (List ℕ)) (bytes source : List ℕ) (run : Run) (output output' messages messages' : Option (List ℕ)) → source ≡ bytes → Consumes known left bytes → (length bytes ≤ 4194304 → IsAtEnd left) → LeavesOneOf (Is source) run output output' messages messages' → LeavesOfSource Is known left run output output' messages messages'
  read_left known left bytes source run output output' messages messages' same taken end (inl wants) = inr ((bytes, taken, end), inl wants)
  read_left known left bytes source run output output' messages messages' same taken end (inr (o, is, leaves)) =
      inr ((bytes, taken, end), inr (o, outcome_of_front known left bytes o taken end (subst (λ (l : List ℕ). Is l o) same is), leaves))
