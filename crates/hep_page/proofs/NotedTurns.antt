-- A turn that is made again, and what it changes.
use Rattle.std.proofs.Common.{◌≡◌, List, [], ◌∷◌, ◌++◌, refl, sym, ap, ◌∙◌, subst, append_assoc, ℕ}
use Rattle.hep_core.proofs.Histories.{progress-last}
use Rattle.hep_core.specs.CoreValues.{CoreValue}
use Rattle.hep_machine.specs.declared.event.Entry.{Entry}
use Rattle.hep_machine.specs.Words.{Progress, Units, progress_after, progress_after_entry}
use Rattle.hep_page.specs.Changes.{PartTexts, change_between, change_text, parts_of, texts_of}
use Rattle.hep_page.specs.ChangeLogs.{AreNext, IsNoting, changes_in, turns_text_from}
use Rattle.hep_page.specs.declared.change_log.ChangeLog.{ChangeLog}
use Rattle.hep_page.specs.declared.state_view.SourceNames.{SourceNames}
use Rattle.hep_replay.specs.Progress.{IsStanding, longer}
use Rattle.hep_state_text.specs.LineDisplay.{line_shown}

module _ (known : SourceNames) (old new : ChangeLog) (turn : Entry) (left : List Entry) (h : IsNoting known old (turn ∷ left))
    (made : new.core.core ≡ longer old.core.core (turn ∷ []))
    (read : texts_of new.parts ≡ parts_of new.core.core.program (line_shown known.lines.now) (progress_after new.core.core.program new.core.core.history)) where
  abbrev program : Units
  program = old.core.core.program

  abbrev shown : ℕ → List ℕ
  shown = line_shown known.lines.now

  -- what is known before the turn and after it
  abbrev x : Progress
  x = progress_after program old.core.core.history

  abbrev y : Progress
  y = progress_after_entry program x turn turn.steps

  at-next : {A : Type 0} (f : Units → Progress → A) → f new.core.core.program (progress_after new.core.core.program new.core.core.history) ≡ f program y
  at-next f = ap (λ (core : CoreValue). f core.program (progress_after core.program core.history)) made ∙ ap (f program) (progress-last program old.core.core.history turn)

  -- the turns left come next, and the parts are those of what everything holds
  pub along-next : IsNoting known new left
  along-next = record {
    standing = subst IsStanding (sym made) refl;
    next = subst (λ (core : CoreValue). AreNext core.program core.cells core.history left) (sym made) h.next.1;
    symbols = h.symbols ∙ ap (λ (core : CoreValue). core.program) (sym made);
    parts = read;
  }

  -- what the turn changes is noted
  pub noted-next : new.text.items ≡ old.text.items ++ change_text (change_between (texts_of old.parts) (texts_of new.parts))
      → new.text.items ++ changes_in known new left ≡ old.text.items ++ changes_in known old (turn ∷ left)
  noted-next text =
      let rest = changes_in known new left in
      ap (λ xs. xs ++ rest) text
      ∙ ap (λ (parts : PartTexts). (old.text.items ++ change_text (change_between parts (texts_of new.parts))) ++ rest) h.parts
      ∙ ap (λ (parts : PartTexts). (old.text.items ++ change_text (change_between (parts_of program shown x) parts)) ++ rest) (read ∙ at-next (λ us z. parts_of us shown z))
      ∙ ap (λ xs. (old.text.items ++ change_text (change_between (parts_of program shown x) (parts_of program shown y))) ++ xs) (at-next (λ us z. turns_text_from us shown z left))
      ∙ append_assoc old.text.items (change_text (change_between (parts_of program shown x) (parts_of program shown y))) (turns_text_from program shown y left)
