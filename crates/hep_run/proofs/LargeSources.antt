-- A source that is too large is refused for that alone, whatever memory there is.
use Rattle.std.proofs.Common.{◌≡◌, ℕ, ◌<◌, ◌≤◌, Bool, true, false, true≢false, List, [], ◌++◌, length, Option, Some, None, Result, Ok, Err, IfOk, OnErr, refl, sym, ap, ◌∙◌, subst, inl, inr, append-nil}
use Rattle.std.proofs.lemmas.Bool.{cases_lt}
use Rattle.std.specs.Io.KnownBytes.{Consumes, IsAtEnd}
use Rattle.hep_text.specs.Reading.{is_too_large}
use Rattle.hep_text.proofs.Joining as text
use Rattle.hep_machine.specs.Words.{Units}
use Rattle.hep_run.specs.declared.options.Run.{Run}
use Rattle.hep_outcome.specs.declared.transcript.Transcript.{Transcript}
use Rattle.hep_run.specs.Delivery.{Leaves, status_alone}
use Rattle.hep_run.specs.Memory.{IsKnownLarge, MayReadOn, RefusesLarge, RefusesLargeSource}
use Rattle.hep_run.specs.Notes.{AreNotes}
use Rattle.hep_outcome.specs.Outcome.{Outcome}
use Rattle.hep_run.specs.Outcome.{ComesTo, refused}
use Rattle.hep_outcome.specs.Transcripts.{outcome_of}
use Rattle.hep_run.specs.Transcripts.{LeavesMade}
use Rattle.hep_run.proofs.NoHistory.{alone}
use Rattle.hep_run.proofs.Fronts.{unread, over}
use Rattle.hep_run.proofs.Wanted.{large-alone, large-refused}

bare : (long : Bool) (source : List ℕ) (number line : ℕ) (name notes : List ℕ) → long ≡ false → AreNotes long source number line name notes → notes ≡ []
bare false source number line name notes short are = are
bare true source number line name notes short are = absurd (true≢false short)

-- memory isn't asked for of a source that is too large
pub wanted-small : (long : Bool) (source : List ℕ) → long ≡ false → is_too_large source ≡ true → MayReadOn long source → ⊥
wanted-small long source short large (inl noted) = true≢false (sym noted ∙ short)
wanted-small long source short large (inr small) = true≢false (sym large ∙ small)

module _ (long : Bool) (IsRefused : Units → ℕ → ℕ → List ℕ → Type 0) (Holds : Units → Type 0) (Comes : Units → Outcome → Type 0) where
  -- it comes to its refusal alone
  pub large-outcome : (source : List ℕ) (o : Outcome) → long ≡ false → is_too_large source ≡ true → ComesTo long IsRefused Holds Comes source o → o ≡ refused 107 0 [] []
  large-outcome source o short large (inl (number, line, name, notes, why, are, is)) =
      is ∙ sym (large-refused number line name notes (large-alone IsRefused source number line name notes (text.too_large source large) why (bare long source number line name notes short are)))
  large-outcome source o short large (inr (program, (statements, read, reading, holds), is)) = unread source statements (text.too_large source large) read

  -- so this is left of its transcript
  pub large-delivered : (source : List ℕ) (t : Transcript) (run : Run) (output output' messages messages' : Option (List ℕ)) → ComesTo long IsRefused Holds Comes source (outcome_of t) → Leaves (outcome_of t) run output output' messages messages'
      → RefusesLarge long source run output output' messages messages'
  large-delivered source t run output output' messages messages' is left =
      λ short large. subst (λ (o : Outcome). Leaves o run output output' messages messages') (large-outcome source (outcome_of t) short large is) left

  -- and there is one
  pub large-left : {E : Type 0} (source : List ℕ) (r : Result Transcript E) (run : Run) (output output' messages messages' : Option (List ℕ)) → IfOk r (λ t. ComesTo long IsRefused Holds Comes source (outcome_of t)) → OnErr r (MayReadOn long source)
      → LeavesMade r run output output' messages messages' → RefusesLarge long source run output output' messages messages'
  large-left source (Ok t) run output output' messages messages' is may left = large-delivered source t run output output' messages messages' is left
  large-left source (Err e) run output output' messages messages' is may left = λ short large. absurd (wanted-small long source short large may)

-- it has no history
pub large-status : (long : Bool) (source : List ℕ) (run : Run) (output output' messages messages' : Option (List ℕ)) → RefusesLarge long source run output output' messages messages' → RefusesLarge long source (status_alone run.status) output output' messages messages'
large-status long source run output output' messages messages' left = λ short large. alone run output output' messages messages' (refused 107 0 [] []) refl (left short large)

-- ---- readers

many-large : (bytes : List ℕ) → 4194304 < length bytes → is_too_large bytes ≡ true
many-large bytes h = rw (over (length bytes) h) refl

-- the bytes that were read of a source that is too large are too large a source
large-read : (known left : Option (List ℕ)) (bytes : List ℕ) → IsKnownLarge known → Consumes known left bytes → (length bytes ≤ 4194304 → IsAtEnd left) → is_too_large bytes ≡ true
large-read None left bytes large taken end = absurd large
large-read (Some source) None bytes large taken end = absurd taken
large-read (Some source) (Some rest) bytes large taken end = elim (cases_lt 4194304 (length bytes)) [
  | inl many ↦ many-large bytes many
  | inr few ↦ subst (λ (l : List ℕ). is_too_large l ≡ true) (taken ∙ ap (λ (l : List ℕ). bytes ++ l) (end few) ∙ append-nil bytes) large
]

-- what is left of the bytes that were read is left of the reader's bytes
pub large-source : (long : Bool) (known left : Option (List ℕ)) (bytes source : List ℕ) (run : Run) (output output' messages messages' : Option (List ℕ)) → source ≡ bytes → Consumes known left bytes → (length bytes ≤ 4194304 → IsAtEnd left)
    → RefusesLarge long source run output output' messages messages' → RefusesLargeSource long known left run output output' messages messages'
large-source long known left bytes source run output output' messages messages' same taken end is =
    λ short large. inr (is short (subst (λ (l : List ℕ). is_too_large l ≡ true) (sym same) (large-read known left bytes large taken end)))
