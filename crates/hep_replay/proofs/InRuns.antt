-- Runs of entries that are left, and the places of their entries; and the lines of a run.
use Rattle.std.proofs.Common.{◌≡◌, ℕ, zero, suc, ◌+◌, ◌-◌, ◌<◌, List, [], ◌∷◌, ◌++◌, Some, length, min, replicate, drop, take, sym, ap, ◌∙◌, arith, slice_get, append_assoc}
use Rattle.std.proofs.lemmas.Grind.{flat_map-append}
use Rattle.std.proofs.lemmas.List.{append-nil, drop-drop, length-drop, replicate-append-replicate}
use Rattle.hep_machine.specs.declared.event.Entry.{Entry}
use Rattle.hep_history.specs.declared.run.Run.{Run}
use Rattle.hep_history.specs.Runs.{entries_of, entry_of}
use Rattle.hep_history.proofs.InRuns.{drop_past, run_has}
use Rattle.hep_replay.specs.Histories.{entry_text, history_text}
use Rattle.hep_source.proofs.Tests.{get-drop}

-- the first of the runs that are left, behind so many entries
module _ (entries : List Entry) (at : ℕ) (run : Run) (rest : List Run) (place : drop at entries ≡ entries_of (run ∷ rest)) where
  -- where its entries stand
  pub run_here : (k : ℕ) → k < run.count → slice_get entries (at + k) ≡ Some (entry_of run)
  run_here k lt = get-drop entries at k ∙ ap (λ es. slice_get es k) place ∙ run_has run.count k (entry_of run) (entries_of rest) lt

  -- what is left behind it
  pub run_after : drop (at + run.count) entries ≡ entries_of rest
  run_after =
      let none : run.count - run.count ≡ 0 = omega arith in
      sym (drop-drop run.count at entries)
      ∙ ap (λ es. drop run.count es) place
      ∙ drop_past run.count run.count (entry_of run) (entries_of rest) (omega arith)
      ∙ ap (λ k. drop k (entries_of rest)) none

-- where no run is left, no entry is
pub none_past : (entries : List Entry) (at : ℕ) (runs : List Run) → drop at entries ≡ entries_of runs → runs ≡ [] → at < length entries → ⊥
none_past entries at runs place none less =
    let left = length-drop at entries in
    let nothing : length (drop at entries) ≡ 0 = ap length (place ∙ ap (λ rs. entries_of rs) none) in
    omega (arith, left, nothing, less)

-- one line more
pub line_more : (n : ℕ) (e : Entry) → history_text (replicate n e) ++ entry_text e ≡ history_text (replicate (n + 1) e)
line_more n e =
    ap (λ text. history_text (replicate n e) ++ text) (sym (append-nil (entry_text e)))
    ∙ sym (flat_map-append entry_text (replicate n e) (e ∷ []))
    ∙ ap history_text (replicate-append-replicate n 1 e)

-- the lines of a run more, before those of the others
pub lines_more : (text : List ℕ) (run : Run) (rest : List Run) → (text ++ history_text (replicate run.count (entry_of run))) ++ history_text (entries_of rest) ≡ text ++ history_text (entries_of (run ∷ rest))
lines_more text run rest =
    append_assoc text (history_text (replicate run.count (entry_of run))) (history_text (entries_of rest))
    ∙ ap (λ lines. text ++ lines) (sym (flat_map-append entry_text (replicate run.count (entry_of run)) (entries_of rest)))

-- the first of an entry that stands several times, and of those behind it
in_both : {X : Type 0} (x : X) (xs : List X) (m m' l l' : ℕ) → m ≡ m' → l ≡ l' → replicate m x ++ take l xs ≡ replicate m' x ++ take l' xs
in_both x xs m m' l l' ms ls = ap (λ k. replicate k x ++ take l xs) ms ∙ ap (λ k. replicate m' x ++ take k xs) ls

take_run : {X : Type 0} (n c : ℕ) (x : X) (xs : List X) → take n (replicate c x ++ xs) ≡ replicate (min n c) x ++ take (n - min n c) xs
take_run zero zero x xs = in_both x xs 0 (min 0 0) 0 (0 - min 0 0) (omega arith) (omega arith)
take_run zero (suc c) x xs = in_both x xs 0 (min 0 (suc c)) 0 (0 - min 0 (suc c)) (omega arith) (omega arith)
take_run (suc n) zero x xs = in_both x xs 0 (min (suc n) 0) (suc n) (suc n - min (suc n) 0) (omega arith) (omega arith)
take_run (suc n) (suc c) x xs =
    ap (λ ys. x ∷ ys) (take_run n c x xs)
    ∙ in_both x xs (suc (min n c)) (min (suc n) (suc c)) (n - min n c) (suc n - min (suc n) (suc c)) (omega arith) (omega arith)

-- so many first entries of a run and of those behind it
pub front_cut : (run : Run) (rest : List Run) (n k : ℕ) → k ≡ min n run.count → take n (entries_of (run ∷ rest)) ≡ replicate k (entry_of run) ++ take (n - k) (entries_of rest)
front_cut run rest n k least =
    take_run n run.count (entry_of run) (entries_of rest) ∙ ap (λ j. replicate j (entry_of run) ++ take (n - j) (entries_of rest)) (sym least)
