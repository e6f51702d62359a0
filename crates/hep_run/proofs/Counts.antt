-- Runs of a source that are counted: one more after others.
use Rattle.std.proofs.Common.{◌≡◌, ℕ, zero, suc, ◌+◌, ◌<◌, Bool, List, [], ◌∷◌, ◌++◌, length, length-append, Some, refl, sym, ap, ◌∙◌, subst, arith, inl, inr, slice_get}
use Rattle.std.proofs.lemmas.Bool.{cases_lt}
use Rattle.std.proofs.lemmas.Option.{same_Some, slice_get_within}
use Rattle.hep_outcome.specs.declared.options.SampleOptions.{SampleOptions}
use Rattle.hep_outcome.specs.Outcome.{Outcome}
use Rattle.hep_outcome.specs.Tallies.{Tally, counted, nth_seed, tallied, tally_of}
use Rattle.hep_outcome.proofs.Counts.{tallied-more}
use Rattle.hep_run.specs.Samples.{IsNthOutcome, IsTallied}

before : (xs : List Outcome) (y : Outcome) (k : ℕ) → k < length xs → slice_get (xs ++ y ∷ []) k ≡ slice_get xs k
before [] y k h = absurd (omega arith)
before (x ∷ xs) y zero h = refl
before (x ∷ xs) y (suc k) h = before xs y k (omega arith)

last : (xs : List Outcome) (y : Outcome) → slice_get (xs ++ y ∷ []) (length xs) ≡ Some y
last [] y = refl
last (x ∷ xs) y = last xs y

-- one run more
pub tallied-run : (long : Bool) (options : SampleOptions) (source : List ℕ) (n : ℕ) (ts : List Tally) (o : Outcome) → IsTallied long options source n ts
    → IsNthOutcome long options source n o → IsTallied long options source (n + 1) (counted (tally_of (nth_seed options.seed n) o) ts)
tallied-run long options source n ts o (os, are, is) run = (
  os ++ o ∷ [],
  record { count = length-append os (o ∷ []) ∙ omega (arith, are.count); each = every },
  ap (counted (tally_of (nth_seed options.seed n) o)) is
      ∙ ap (λ (k : ℕ). counted (tally_of (nth_seed options.seed k) o) (tallied options.seed os)) (omega (arith, are.count))
      ∙ sym (tallied-more options.seed 0 [] os o),
)
  where
    every : (i : ℕ) (x : Outcome) → slice_get (os ++ o ∷ []) i ≡ Some x → IsNthOutcome long options source i x
    every i x at = elim (cases_lt i (length os)) [
      | inl less ↦ are.each i x (sym (before os o i less) ∙ at)
      | inr more ↦
          let within = slice_get_within (os ++ o ∷ []) i x at in
          let here : i ≡ length os = omega (arith, within, more, length-append os (o ∷ [])) in
          let same : Some o ≡ Some x = sym (last os o) ∙ ap (slice_get (os ++ o ∷ [])) (sym here) ∙ at in
          let place : n ≡ i = omega (arith, here, are.count) in
          subst (λ (j : ℕ). IsNthOutcome long options source j x) place (subst (IsNthOutcome long options source n) (same_Some o x same) run)
    ]
