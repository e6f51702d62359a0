-- One iteration of the loop that reads the conditions of logical IFs.
use Rattle.std.proofs.Common.{◌≡◌, ℕ, suc, ◌+◌, ◌-◌, ◌<◌, ◌≤◌, List, [], ◌∷◌, ◌++◌, Some, None, refl, sym, ap, ◌∙◌, arith, append-nil, append_assoc}
use Rattle.hep_source.specs.Tree.{Tree}
use Rattle.hep_expression.specs.declared.characters.Context.{Context}
use Rattle.hep_parse.specs.ReadingStatement.{logical_if, conditions}

-- after conditions that were read before
abbrev pub rest_after : List Tree → List Tree × List ℕ → List Tree × List ℕ
rest_after ts x = (ts ++ x.0, x.1)

-- n iterations are allowed, i of them are done, and what is read after the conditions so far gives the
-- whole
module _ (k : Context) (n i : ℕ) (ts : List Tree) (s : List ℕ) (whole : List Tree × List ℕ) where
  pub goes_on : (t : Tree) (r : List ℕ) → i < n → logical_if k s ≡ Some (t, r) → rest_after ts (conditions k (n - i) s) ≡ whole → rest_after (ts ++ t ∷ []) (conditions k (n - (i + 1)) r) ≡ whole
  unfolding conditions
  goes_on t r lt e so_far =
      let left : n - i ≡ suc (n - (i + 1)) = omega arith in
      let rest = conditions k (n - (i + 1)) r in
      let turn : conditions k (n - i) s ≡ (t ∷ rest.0, rest.1) = rw (left, e) refl in
      let same : rest_after (ts ++ t ∷ []) rest ≡ rest_after ts (t ∷ rest.0, rest.1) = ap (λ (l : List Tree). (l, rest.1)) (append_assoc ts (t ∷ []) rest.0) in
      same ∙ sym (ap (rest_after ts) turn) ∙ so_far

  pub ends : i < n → logical_if k s ≡ None → rest_after ts (conditions k (n - i) s) ≡ whole → whole ≡ (ts, s)
  unfolding conditions
  ends lt e so_far =
      let left : n - i ≡ suc (n - (i + 1)) = omega arith in
      let turn : conditions k (n - i) s ≡ ([], s) = rw (left, e) refl in
      sym so_far ∙ ap (rest_after ts) turn ∙ ap (λ (l : List Tree). (l, s)) (append-nil ts)

  pub is_over : n ≤ i → rest_after ts (conditions k (n - i) s) ≡ whole → whole ≡ (ts, s)
  unfolding conditions
  is_over le so_far =
      let left : n - i ≡ 0 = omega arith in
      let turn : conditions k (n - i) s ≡ ([], s) = rw left refl in
      sym so_far ∙ ap (rest_after ts) turn ∙ ap (λ (l : List Tree). (l, s)) (append-nil ts)
