-- Why a source isn't run, as lines for editors.
use Rattle.std.proofs.Common.{◌≡◌, ◌⊎◌, ◌∙◌, ℕ, Bool, List, Result, Ok, Err, IfErr, IsErr, IsErrAnd, refl, sym, subst, inl, inr}
use Rattle.hep_base.specs.declared.refusal.Refusal.{Refusal}
use Rattle.hep_base.specs.declared.refusal.Refusal.TheVariants.{NoMemory, Refused}
use Rattle.hep_lower.specs.Refusals as lower
use Rattle.hep_machine.specs.Words.{Units}
use Rattle.hep_parse.specs.Program.{IsTrueFault}
use Rattle.hep_outcome.specs.Outcome.{Outcome}
use Rattle.hep_text.specs.Reading.{refusal, statements_of}
use Rattle.hep_text.specs.declared.statement.Stmt.{Stmt}
use Rattle.hep_run.specs.Diagnostics.{AreErrors, IsDiagnosticsOutcome, IsDiagnosedRefusal, line_error}
use Rattle.hep_run.specs.declared.options.DiagnosticFormat.{DiagnosticFormat}
use Rattle.hep_run.specs.Refusals.{noted}
use Rattle.hep_run.specs.Sources.{IsAcceptedSource, IsRefusedFor, IsRefusedProgram, IsUnrunnableProgram, IsViolatingProgram}
use Rattle.hep_run.specs.declared.refusal.SourceFault.{SourceFault}
use Rattle.hep_run.specs.declared.refusal.SourceFault.TheVariants as source
use Rattle.hep_run.proofs.Fronts.{refused_at_0, refused_too, unread}
use Rattle.hep_run.proofs.RefusalNotes.{IsByLine, either, of_limit}

-- a fault of the statements
of_statements : (bytes : List ℕ) (statements : List Stmt) (r : Refusal) → statements_of bytes ≡ Ok statements
    → IsTrueFault statements r → IsByLine IsViolatingProgram bytes r
of_statements bytes statements NoMemory read is = tt
of_statements bytes statements (Refused number line name) read is = (inr (inl (statements, read, is)), inr (inl (statements, read, is)))

-- why a source isn't accepted is why it isn't run
not_run : (bytes : List ℕ) (number line : ℕ) (name : List ℕ) → IsRefusedFor IsViolatingProgram bytes number line name
    → IsRefusedFor IsRefusedProgram bytes number line name
not_run bytes number line name (inl text) = inl text
not_run bytes number line name (inr (inl first)) = inr (inl first)
not_run bytes number line name (inr (inr (statements, program, read, is, so))) = inr (inr (statements, program, read, is, inl so))

module _ (format : DiagnosticFormat) (file : List ℕ) where
  -- the line of a refusal by its line
  by_line : (Is : Units → ℕ → ℕ → List ℕ → Type 0) (bytes : List ℕ) (r : Refusal) → IsByLine Is bytes r
      → IsDiagnosedRefusal format file Is bytes (noted (line_error format file bytes) r)
  by_line Is bytes NoMemory h = tt
  by_line Is bytes (Refused number line name) h = (h.0, inl (h.1, refl))

  -- that of a limit
  pub limit_error : (bytes : List ℕ) (program : Units) (r : Refusal) (fault : SourceFault)
      → IsAcceptedSource bytes program → lower.Refuses program r
      → (fault ≡ source.NoMemory) ⊎ (fault ≡ noted (line_error format file bytes) r)
      → IsDiagnosedRefusal format file IsRefusedProgram bytes fault
  limit_error bytes program r fault accepted refuses is =
      either (IsDiagnosedRefusal format file IsRefusedProgram bytes) fault (noted (line_error format file bytes) r) tt
      (by_line IsRefusedProgram bytes r (of_limit bytes program r accepted refuses)) is

  -- the line of a fault of the statements
  pub statements_error : (bytes : List ℕ) (statements : List Stmt) (r : Refusal) (fault : SourceFault)
      → statements_of bytes ≡ Ok statements → IsTrueFault statements r
      → (fault ≡ source.NoMemory) ⊎ (fault ≡ noted (line_error format file bytes) r)
      → IsDiagnosedRefusal format file IsViolatingProgram bytes fault
  statements_error bytes statements r fault read is same =
      either (IsDiagnosedRefusal format file IsViolatingProgram bytes) fault (noted (line_error format file bytes) r) tt
      (by_line IsViolatingProgram bytes r (of_statements bytes statements r read is)) same

  -- the lines of why a source isn't accepted are those of why it isn't run
  unaccepted : (bytes : List ℕ) (fault : SourceFault) → IsDiagnosedRefusal format file IsViolatingProgram bytes fault
      → IsDiagnosedRefusal format file IsRefusedProgram bytes fault
  unaccepted bytes source.NoMemory is = tt
  unaccepted bytes (source.Refused number line name text) (refused, are) = (not_run bytes number line name refused, are)

  -- also where `?` hands them on
  pub handed_on : {T : Type 0} (bytes : List ℕ) (r : Result T SourceFault) (fault : SourceFault)
      → IsErr r × IsErrAnd r (λ other. other ≡ fault)
      → IsDiagnosedRefusal format file IsViolatingProgram bytes fault → IfErr r (IsDiagnosedRefusal format file IsRefusedProgram bytes)
  handed_on bytes (Ok x) fault is refused = tt
  handed_on bytes (Err other) fault is refused =
      subst (IsDiagnosedRefusal format file IsRefusedProgram bytes) (sym is.1) (unaccepted bytes fault refused)

  -- the line of a refusal at line 0 shows nothing of the source
  errors_alike : (s t : List ℕ) (number line : ℕ) (name : List ℕ) → line ≡ 0
      → line_error format file t number line name ≡ line_error format file s number line name
  errors_alike s t number line name none =
      subst (λ (l : ℕ). line_error format file t number l name ≡ line_error format file s number l name) (sym none) refl

  -- the lines of one source that is too long are those of another
  errors_too : (s t : List ℕ) (number line : ℕ) (name text : List ℕ)
      → statements_of s ≡ refusal 107 0 → statements_of t ≡ refusal 107 0
      → AreErrors format file t number line name text → AreErrors format file s number line name text
  errors_too s t number line name text short refused (inl (r, e)) =
      inl (
        refused_too IsUnrunnableProgram s t number line name (short ∙ sym refused) r,
        e ∙ errors_alike s t number line name (refused_at_0 IsUnrunnableProgram t number line name refused r),
      )
  errors_too s t number line name text short refused (inr (statements, program, v, read, is, first, same)) =
      unread t statements refused read

  -- and its outcome is that of each
  pub same_lines : (warn : Bool) (s t : List ℕ) (o : Outcome)
      → statements_of s ≡ refusal 107 0 → statements_of t ≡ refusal 107 0
      → IsDiagnosticsOutcome format warn file t o → IsDiagnosticsOutcome format warn file s o
  same_lines warn s t o short refused (inl (number, line, name, text, r, are, is)) =
      inl (
        number,
        line,
        name,
        text,
        refused_too IsRefusedProgram s t number line name (short ∙ sym refused) r,
        errors_too s t number line name text short refused are,
        is,
      )
  same_lines warn s t o short refused (inr (p, (ss, e, program, holds), is)) = unread t ss refused e
