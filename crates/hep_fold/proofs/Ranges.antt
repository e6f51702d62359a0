-- The entries of a range, run by run.
use Rattle.std.proofs.Common.{◌≡◌, ℕ, zero, suc, ◌+◌, ◌-◌, ◌<◌, ◌≤◌, List, [], ◌∷◌, ◌++◌, drop, length, min, replicate, take, refl, sym, ap, ◌∙◌, arith}
use Rattle.std.proofs.lemmas.List.{drop-drop, drop_all, length-drop, length-replicate, length-take, take_min}
use Rattle.hep_history.specs.declared.run.Run.{Run}
use Rattle.hep_history.specs.Runs.{entries_of, entry_of}
use Rattle.hep_machine.specs.declared.event.Entry.{Entry}
use Rattle.hep_fold.specs.Turns.{turns_from}
use Rattle.hep_fold.proofs.TurnRows.{turns-append}

-- ---- lists that begin with one element several times

module _ {X : Type 0} (x : X) where
  -- the first n of them
  take-alike : (n c k : ℕ) (rest : List X) → k ≡ min c n → take n (replicate c x ++ rest) ≡ replicate k x ++ take (n - k) rest
  take-alike zero c k rest least =
      let none : 0 ≡ k = omega (arith, least) in
      let left : 0 ≡ 0 - k = omega (arith, least) in
      (λ i. replicate (none i) x ++ take (left i) rest)
  take-alike (suc n) zero k rest least =
      let none : 0 ≡ k = omega (arith, least) in
      let left : suc n ≡ suc n - k = omega (arith, least) in
      (λ i. replicate (none i) x ++ take (left i) rest)
  take-alike (suc n) (suc c) zero rest least = absurd (omega (arith, least))
  take-alike (suc n) (suc c) (suc k) rest least =
      let left : n - k ≡ suc n - suc k = omega arith in
      ap (λ ys. x ∷ ys) (take-alike n c k rest (omega (arith, least)) ∙ ap (λ m. replicate k x ++ take m rest) left)

  -- those after the first m
  drop-alike : (m c : ℕ) (rest : List X) → m ≤ c → drop m (replicate c x ++ rest) ≡ replicate (c - m) x ++ rest
  drop-alike zero c rest few = let all : c ≡ c - 0 = omega arith in ap (λ k. replicate k x ++ rest) all
  drop-alike (suc m) zero rest few = absurd (omega (arith, few))
  drop-alike (suc m) (suc c) rest few =
      let same : c - m ≡ suc c - suc m = omega arith in
      drop-alike m c rest (omega (arith, few)) ∙ ap (λ k. replicate k x ++ rest) same

  -- the first k of them, and those that follow
  first-alike : (k c : ℕ) (rest : List X) → k ≤ c → replicate c x ++ rest ≡ replicate k x ++ drop k (replicate c x ++ rest)
  first-alike zero c rest few = refl
  first-alike (suc k) zero rest few = absurd (omega (arith, few))
  first-alike (suc k) (suc c) rest few = ap (λ ys. x ∷ ys) (first-alike k c rest (omega (arith, few)))

-- ---- a range

-- its first entries are the first of all runs
pub range-begins : (entries : List Entry) (runs : List Run) (last end : ℕ) → end ≡ min last (length entries) → entries_of runs ≡ entries
    → drop 0 (take last entries) ≡ take (end - 0) (entries_of runs)
range-begins entries runs last end least is =
    let all : min last (length entries) ≡ end - 0 = omega (arith, least) in
    sym (take_min last entries) ∙ (λ i. take (all i) (sym is i))

module _ (entries : List Entry) (last end at : ℕ) (least : end ≡ min last (length entries)) where
  abbrev inside : List Entry
  inside = take last entries

  pub range-unfinished : (runs : List Run) → drop at inside ≡ take (end - at) (entries_of runs) → runs ≡ [] → at < end → ⊥
  range-unfinished runs place none less =
      let empty : length (drop at inside) ≡ min (end - at) 0 =
      ap length (place ∙ ap (λ (rs : List Run). take (end - at) (entries_of rs)) none) ∙ length-take (end - at) (entries_of []) in
      omega (arith, empty, length-drop at inside, length-take last entries, least, less)

  -- nothing follows it
  pub range-ends : (made : ℕ) → end ≤ made → turns_from (made + 1) (drop made inside) ≡ []
  range-ends made past = ap (turns_from (made + 1)) (drop_all made inside (omega (arith, length-take last entries, least, past)))

  module _ (run : Run) (rest : List Run) (some : ℕ) (is : some ≡ min run.count (end - at))
      (place : drop at inside ≡ take (end - at) (entries_of (run ∷ rest))) where
    here : drop at inside ≡ replicate some (entry_of run) ++ take (end - at - some) (entries_of rest)
    here = place ∙ take-alike (entry_of run) (end - at) run.count some (entries_of rest) is

    -- the runs after the next one
    pub range-next : drop (at + some) inside ≡ take (end - (at + some)) (entries_of rest)
    range-next =
        let none : some - some ≡ 0 = omega arith in
        let left : end - at - some ≡ end - (at + some) = omega arith in
        sym (drop-drop some at inside) ∙ ap (drop some) here
        ∙ drop-alike (entry_of run) some some (take (end - at - some) (entries_of rest)) (omega arith)
        ∙ (λ i. replicate (none i) (entry_of run) ++ take (left i) (entries_of rest))

    -- k entries of the run after those that were made, and the entries after them
    module _ (made k : ℕ) where
      part : at ≤ made → made + k ≤ at + some → drop made inside ≡ replicate k (entry_of run) ++ drop (made + k) inside
      part before within =
          let further = made - at in
          let sum : at + further ≡ made = omega (arith, before) in
          let there : drop made inside ≡ replicate (some - further) (entry_of run) ++ take (end - at - some) (entries_of rest) =
          ap (λ n. drop n inside) (sym sum) ∙ sym (drop-drop further at inside) ∙ ap (drop further) here
          ∙ drop-alike (entry_of run) further some (take (end - at - some) (entries_of rest)) (omega (arith, within)) in
          there
          ∙ first-alike (entry_of run) k (some - further) (take (end - at - some) (entries_of rest)) (omega (arith, within, before))
          ∙ ap (λ es. replicate k (entry_of run) ++ drop k es) (sym there)
          ∙ ap (λ es. replicate k (entry_of run) ++ es) (drop-drop k made inside)

      turns-of-part : at ≤ made → made + k ≤ at + some
          → turns_from (made + 1) (drop made inside)
          ≡ turns_from (made + 1) (replicate k (entry_of run)) ++ turns_from (made + k + 1) (drop (made + k) inside)
      turns-of-part before within =
          let next : made + 1 + length (replicate k (entry_of run)) ≡ made + k + 1 = omega (arith, length-replicate k (entry_of run)) in
          ap (turns_from (made + 1)) (part before within)
          ∙ turns-append (replicate k (entry_of run)) (drop (made + k) inside) (made + 1)
          ∙ ap (λ n. turns_from (made + 1) (replicate k (entry_of run)) ++ turns_from n (drop (made + k) inside)) next

    -- as many as there are up to the end of the run
    pub range-parts : (made k : ℕ) → k ≡ at + some - made → at ≤ made
        → turns_from (made + 1) (drop made inside)
        ≡ turns_from (made + 1) (replicate k (entry_of run)) ++ turns_from (made + k + 1) (drop (made + k) inside)
    range-parts made zero counted before = let same : made ≡ made + 0 = omega arith in (λ i. turns_from (same i + 1) (drop (same i) inside))
    range-parts made (suc k) counted before = turns-of-part made (suc k) before (omega (arith, counted))
