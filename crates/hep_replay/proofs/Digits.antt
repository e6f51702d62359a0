-- The lines of histories and of choices, each with one spelling.
use Rattle.std.proofs.Common.{◌≡◌, ℕ, List, [], ◌∷◌, ◌++◌, sym, ap, ◌∙◌, arith, append_assoc, length-append}
use Rattle.std.specs.Fmt.{decimal}
use Rattle.hep_machine.specs.declared.event.Entry.{Entry}
use Rattle.hep_replay.specs.Choices.{choice_text, IsProcess}
use Rattle.hep_replay.specs.Histories.{entry_text, IsAllowed}
use Rattle.hep_replay.specs.Lines.{AreApart}
use Rattle.hep_output.proofs.Digits.{marked, same_numbers}

-- ---- choices

pub choice_is : (p : ℕ) (more : List ℕ) → choice_text p ++ more ≡ marked p 10 more
choice_is p more = append_assoc (decimal p) (10 ∷ []) more

pub choices_apart : AreApart choice_text IsProcess
choices_apart = record {
  filled = λ p. omega (arith, length-append (decimal p) (10 ∷ []));
  apart = λ p q a b h k e. same_numbers p q 10 a b (omega arith) (omega arith) (omega arith) (sym (choice_is p a) ∙ e ∙ choice_is q b);
}

-- ---- entries

pub entry_is : (e : Entry) (more : List ℕ) → entry_text e ++ more ≡ marked e.process 32 (marked e.steps 10 more)
entry_is e more = simp append_assoc

same_entries : (e f : Entry) → e.process ≡ f.process → e.steps ≡ f.steps → e ≡ f
same_entries e f h k =
    ap (λ (p : ℕ). let x : Entry = record { process = p; steps = e.steps } in x) h ∙ ap (λ (n : ℕ). let x : Entry = record { process = f.process; steps = n } in x) k

pub entries_apart : AreApart entry_text IsAllowed
entries_apart = record {
  filled = λ e. omega (arith, length-append (decimal e.process ++ 32 ∷ [] ++ decimal e.steps) (10 ∷ []));
  apart = λ e f a b h k eq.
      let process = same_numbers e.process f.process 32 (marked e.steps 10 a) (marked f.steps 10 b) (omega arith) (omega arith) (omega arith) (sym (entry_is e a) ∙ eq ∙ entry_is f b) in
      let steps = same_numbers e.steps f.steps 10 a b (omega arith) (omega arith) (omega arith) process.1 in
      (same_entries e f process.0 steps.0, steps.1);
}
