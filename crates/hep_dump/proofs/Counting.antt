-- Processes that are listed, one after the other.
use Rattle.std.proofs.Common.{◌≡◌, ℕ, zero, suc, ◌+◌, ◌-◌, ◌<◌, ◌≤◌, List, [], ◌++◌, Option, Some, None, refl, sym, ap, ◌∙◌, arith}
use Rattle.std.specs.Option.{option_or}
use Rattle.hep_machine.specs.declared.event.Entry.{Entry}
use Rattle.hep_machine.specs.Words.{Units}
use Rattle.hep_core.specs.Listed.{Listed}
use Rattle.hep_core.proofs.Histories.{number-listed}
use Rattle.hep_core.specs.CoreValues.{first_listed, listed_after}
use Rattle.hep_dump.specs.Waiting as words

or-none : (o r : Option Listed) → option_or o r ≡ None → (o ≡ None) × (r ≡ None)
or-none None r e = (refl, e)
or-none (Some l) r e = absurd cc

module _ (text : Listed → List ℕ) (program : Units) (history : List Entry) where
  -- where nobody of so many is listed, there are no lines
  pub no-lines : (p n : ℕ) → first_listed program history p n ≡ None → words.waiting_text text program history p n ≡ []
  no-lines p zero none = refl
  no-lines p (suc n) none =
      let both = or-none (listed_after program history p) (first_listed program history (suc p) n) none in
      ap (λ o. words.process_text text o ++ words.waiting_text text program history (suc p) n) both.0
      ∙ no-lines (suc p) n both.1

  -- the first of so many that is listed, with the lines from it on
  pub record IsFirst (p n : ℕ) (l : Listed) : Type 0 where
    pub least : p ≤ l.process
    pub most : l.process < p + n
    pub lines : words.waiting_text text program history p n
        ≡ text l ++ words.waiting_text text program history (suc l.process) (p + n - suc l.process)

  pub first-of : (p n : ℕ) (l : Listed) → first_listed program history p n ≡ Some l → IsFirst p n l
  first-of p zero l is = absurd cc
  first-of p (suc n) l is = by (listed_after program history p) refl is (λ later. first-of (suc p) n l later) where
    by : (o : Option Listed) → listed_after program history p ≡ o → option_or o (first_listed program history (suc p) n) ≡ Some l → (first_listed program history (suc p) n ≡ Some l → IsFirst (suc p) n l) → IsFirst p (suc n) l
    by None here later further =
        let rest = further later in
        record {
          least = omega (arith, rest.least);
          most = omega (arith, rest.most);
          lines =
              ap (λ o. words.process_text text o ++ words.waiting_text text program history (suc p) n) here
              ∙ rest.lines
              ∙ ap (λ m. text l ++ words.waiting_text text program history (suc l.process) (m - suc l.process)) (omega arith);
        }
    by (Some k) here now further =
        let it : listed_after program history p ≡ Some l = here ∙ now in
        let number : l.process ≡ p = number-listed program history p l it in
        let left : n ≡ p + suc n - suc l.process = omega (arith, number) in
        record {
          least = omega (arith, number);
          most = omega (arith, number);
          lines =
              ap (λ o. words.process_text text o ++ words.waiting_text text program history (suc p) n) it
              ∙ (λ j. text l ++ words.waiting_text text program history (suc (sym number j)) (left j));
        }
