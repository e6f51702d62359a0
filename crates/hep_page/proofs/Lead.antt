-- What everything holds, and the changes of turns, lead to what everything holds after these.
use Rattle.std.proofs.Common.{◌≡◌, ℕ, zero, suc, List, [], ◌∷◌, ◌++◌, take, append_assoc, append-nil, refl, sym, ap, ◌∙◌}
use Rattle.hep_core.proofs.Histories.{progress-last, progress-state}
use Rattle.hep_page.proofs.Edits.{after-same}
use Rattle.hep_machine.specs.declared.event.Entry.{Entry}
use Rattle.hep_machine.specs.Words.{Progress, State, Units, progress_after, progress_after_entry, progress_from}
use Rattle.hep_state_text.specs.Lines.{head_text}
use Rattle.hep_state_text.specs.States.{contents_text, state_text}
use Rattle.hep_page.specs.Changes.{PartTexts, change_between, changes_from, parts_after, parts_after_all, parts_of, parts_text}

-- the change between two states leads from the one to the other
pub change-same : (old new : PartTexts) → parts_after (change_between old new) old
    ≡ record { processes = new.processes; common = new.common; activations = new.activations }
change-same old new = λ i. record {
  processes = after-same old.processes new.processes i;
  common = after-same old.common new.common i;
  activations = after-same old.activations new.activations i;
}

-- what is known after entries, and others after them
after-more : (program : Units) (before es : List Entry)
    → progress_after program (before ++ es) ≡ progress_from program (progress_after program before) es
unfolding progress_from
after-more program before [] = ap (progress_after program) (append-nil before)
after-more program before (e ∷ es) =
    ap (progress_after program) (sym (append_assoc before (e ∷ []) es)) ∙ after-more program (before ++ e ∷ []) es
    ∙ ap (λ (x : Progress). progress_from program x es) (progress-last program before e)

module _ (program : Units) (shown : ℕ → List ℕ) where
  -- the changes of the first k entries lead to what everything holds after these
  pub changes-lead : (k : ℕ) (x : Progress) (es : List Entry)
      → parts_after_all (take k (changes_from program shown x es)) (parts_of program shown x)
      ≡ parts_of program shown (progress_from program x (take k es))
  unfolding progress_from
  changes-lead zero x es = refl
  changes-lead (suc k) x [] = refl
  changes-lead (suc k) x (e ∷ es) =
      let y : Progress = progress_after_entry program x e e.steps in
      ap (parts_after_all (take k (changes_from program shown y es))) (change-same (parts_of program shown x) (parts_of program shown y))
      ∙ changes-lead k y es

  -- the text of a state is that of its parts
  pub state-parts : (n : ℕ) (history : List Entry)
      → state_text shown program n history ≡ head_text n ++ parts_text (parts_of program shown (progress_after program history))
  state-parts n history =
      ap (λ (s : State). head_text n ++ contents_text program s shown (progress_after program history).listed) (sym (progress-state program history))

  -- what everything holds after some entries, and the changes of the first k turns after them, lead to the text of the state after these
  pub states-lead : (n k : ℕ) (before es : List Entry)
      → head_text n ++ parts_text (parts_after_all (take k (changes_from program shown (progress_after program before) es))
      (parts_of program shown (progress_after program before)))
      ≡ state_text shown program n (before ++ take k es)
  states-lead n k before es =
      ap (λ (parts : PartTexts). head_text n ++ parts_text parts) (changes-lead k (progress_after program before) es
      ∙ ap (parts_of program shown) (sym (after-more program before (take k es))))
      ∙ sym (state-parts n (before ++ take k es))
