use Rattle.std.proofs.Common.{inl, inr, sym}
use Rattle.hep_command.proofs.words.request_of.Goals as goal

pub returns-in-Some-overwriting-clause-mistake : goal.returns-in-Some-overwriting-clause-mistake
returns-in-Some-overwriting-clause-mistake c = elim c.of_text-in-Some-overwriting.ensures [
  | inl made ↦ inr (made.0, inr (c.in-Some.job, sym c.in-Some.ensures.job, inl c.in-Some-overwriting.ensures.over))
  | inr none ↦ inl none
]
