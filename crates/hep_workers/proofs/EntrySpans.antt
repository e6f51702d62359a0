-- Lists to which entries are added.
use Rattle.std.proofs.Common.{◌≡◌, ℕ, zero, suc, ◌+◌, ◌<◌, true, List, [], ◌∷◌, ◌++◌, Some, get_or, length, map, replicate, refl, sym, ap, ◌∙◌, subst, arith, slice_get, slice_set}
use Rattle.std.proofs.lemmas.Bool.{and_parts}
use Rattle.std.proofs.lemmas.List.{length-append, map-append, map-set, replicate-append-replicate}
use Rattle.std.proofs.lemmas.Option.{slice_get-get_or}
use Rattle.std.proofs.Math.Logic.{∥∥₁_map}
use Rattle.std.specs.Global.{Vec}
use Rattle.hep_machine.specs.declared.event.Entry.{Entry}
use Rattle.hep_workers.specs.declared.spans.EntrySpan.{EntrySpan}
use Rattle.hep_workers.specs.EntrySpans.{all_inside, AreLogsOf, lists_of, logs_of, worker_numbers}
use Rattle.hep_workers.specs.Spans.{are_inside, log_of, with_entry}
use Rattle.hep_workers.proofs.GrowingHistories.{inside-longer, inside-noted, log_of-longer, log_of-noted, receipt_for}
use Rattle.hep_workers.proofs.AddedEntries.{logs-noted, no-logs}

pub one_more : (n : ℕ) (lists : List (Vec EntrySpan)) (v : Vec EntrySpan) → v.items ≡ [] → lists_of lists ≡ replicate n [] → lists_of (lists ++ v ∷ []) ≡ replicate (n + 1) []
one_more n lists v none is =
    map-append (λ (u : Vec EntrySpan). u.items) lists (v ∷ []) ∙ ap (λ ls. ls ++ v.items ∷ []) is ∙ ap (λ rs. replicate n [] ++ rs ∷ []) none ∙ replicate-append-replicate n 1 []

pub one_number : {S : Type 0} (f : S → ℕ) (n : ℕ) (ss : List S) (s : S) → f s ≡ n + 1 → map f ss ≡ worker_numbers n → map f (ss ++ s ∷ []) ≡ worker_numbers (n + 1)
one_number f n ss s at are =
    let next : n + 1 ≡ suc n = omega arith in
    map-append f ss (s ∷ []) ∙ ap (λ ns. ns ++ f s ∷ []) are ∙ ap (λ k. worker_numbers n ++ k ∷ []) (at ∙ next) ∙ ap worker_numbers (sym next)

-- ---- of no entries

blank-logs : (h : List Entry) (n w : ℕ) → logs_of h w (replicate n []) ≡ replicate n []
blank-logs h zero w = refl
blank-logs h (suc n) w = ap (λ ls. [] ∷ ls) (blank-logs h n (w + 1))

blank-inside : (count n : ℕ) → all_inside count (replicate n []) ≡ true
blank-inside count zero = refl
blank-inside count (suc n) = blank-inside count n

pub begun : (workers : ℕ) (h : List Entry) (lists : List (Vec EntrySpan)) → h ≡ [] → lists_of lists ≡ replicate workers [] → AreLogsOf workers h (logs_of h 1 (lists_of lists))
begun workers h lists none blank =
    subst (λ (es : List Entry). AreLogsOf workers es (logs_of es 1 (lists_of lists))) (sym none) (
    subst (AreLogsOf workers []) (sym (ap (logs_of [] 1) blank ∙ blank-logs [] workers 1)) (no-logs workers))

pub begun-inside : (workers count : ℕ) (lists : List (Vec EntrySpan)) → lists_of lists ≡ replicate workers [] → all_inside count (lists_of lists) ≡ true
begun-inside workers count lists blank = subst (λ ls. all_inside count ls ≡ true) (sym blank) (blank-inside count workers)

-- ---- one of them

others : (count : ℕ) (l : List EntrySpan) (ls : List (List EntrySpan)) → all_inside count (l ∷ ls) ≡ true → all_inside count ls ≡ true
others count l ls inside = (and_parts (are_inside count l) (all_inside count ls) inside).1

own : (count : ℕ) (l : List EntrySpan) (ls : List (List EntrySpan)) → all_inside count (l ∷ ls) ≡ true → are_inside count l ≡ true
own count l ls inside = (and_parts (are_inside count l) (all_inside count ls) inside).0

pub log-at : (h : List Entry) (w : ℕ) (lists : List (List EntrySpan)) (k : ℕ) (spans : List EntrySpan) → slice_get lists k ≡ Some spans → slice_get (logs_of h w lists) k ≡ Some (log_of h (w + k) spans)
log-at h w [] k spans at = cc
log-at h w (l ∷ ls) zero spans at =
    let same : l ≡ spans = cc in
    let first : w ≡ w + 0 = omega arith in
    ap (λ ss. Some (log_of h w ss)) same ∙ ap (λ n. Some (log_of h n spans)) first
log-at h w (l ∷ ls) (suc k) spans at =
    let next : (w + 1) + k ≡ w + suc k = omega arith in
    log-at h (w + 1) ls k spans at ∙ ap (λ n. Some (log_of h n spans)) next

pub inside-at : (count : ℕ) (lists : List (List EntrySpan)) (k : ℕ) (spans : List EntrySpan) → slice_get lists k ≡ Some spans → all_inside count lists ≡ true → are_inside count spans ≡ true
inside-at count [] k spans at inside = cc
inside-at count (l ∷ ls) zero spans at inside = let same : l ≡ spans = cc in subst (λ ss. are_inside count ss ≡ true) same (own count l ls inside)
inside-at count (l ∷ ls) (suc k) spans at inside = inside-at count ls k spans at (others count l ls inside)

logs-longer : (h es : List Entry) (w : ℕ) (lists : List (List EntrySpan)) → all_inside (length h) lists ≡ true → logs_of (h ++ es) w lists ≡ logs_of h w lists
logs-longer h es w [] inside = refl
logs-longer h es w (l ∷ ls) inside =
    ap (λ log. log ∷ logs_of (h ++ es) (w + 1) ls) (log_of-longer h es w l (own (length h) l ls inside)) ∙ ap (λ logs. log_of h w l ∷ logs) (logs-longer h es (w + 1) ls (others (length h) l ls inside))

all-longer : (few : ℕ) (lists : List (List EntrySpan)) → all_inside few lists ≡ true → all_inside (few + 1) lists ≡ true
all-longer few [] inside = refl
all-longer few (l ∷ ls) inside = rw (inside-longer few (few + 1) l (omega arith) (own few l ls inside)) (all-longer few ls (others few l ls inside))

-- ---- an entry more in it

pub logs-more : (h : List Entry) (e : Entry) (w : ℕ) (lists : List (List EntrySpan)) (k : ℕ) (spans : List EntrySpan) → slice_get lists k ≡ Some spans → all_inside (length h) lists ≡ true
    → logs_of (h ++ e ∷ []) w (slice_set lists k (with_entry spans (length h))) ≡ slice_set (logs_of h w lists) k (log_of h (w + k) spans ++ receipt_for (w + k) (length h) e ∷ [])
logs-more h e w [] k spans at inside = cc
logs-more h e w (l ∷ ls) zero spans at inside =
    let same : l ≡ spans = cc in
    let first : w ≡ w + 0 = omega arith in
    let mine : are_inside (length h) spans ≡ true = subst (λ ss. are_inside (length h) ss ≡ true) same (own (length h) l ls inside) in
    ap (λ log. log ∷ logs_of (h ++ e ∷ []) (w + 1) ls) (log_of-noted h e w spans mine ∙ ap (λ n. log_of h n spans ++ receipt_for n (length h) e ∷ []) first)
    ∙ ap (λ logs. (log_of h (w + 0) spans ++ receipt_for (w + 0) (length h) e ∷ []) ∷ logs) (logs-longer h (e ∷ []) (w + 1) ls (others (length h) l ls inside))
logs-more h e w (l ∷ ls) (suc k) spans at inside =
    let next : (w + 1) + k ≡ w + suc k = omega arith in
    ap (λ log. log ∷ logs_of (h ++ e ∷ []) (w + 1) (slice_set ls k (with_entry spans (length h)))) (log_of-longer h (e ∷ []) w l (own (length h) l ls inside))
    ∙ ap (λ logs. log_of h w l ∷ logs) (logs-more h e (w + 1) ls k spans at (others (length h) l ls inside))
    ∙ ap (λ n. log_of h w l ∷ slice_set (logs_of h (w + 1) ls) k (log_of h n spans ++ receipt_for n (length h) e ∷ [])) next

pub all-more : (count : ℕ) (lists : List (List EntrySpan)) (k : ℕ) (spans : List EntrySpan) → slice_get lists k ≡ Some spans → all_inside count lists ≡ true
    → all_inside (count + 1) (slice_set lists k (with_entry spans count)) ≡ true
all-more count [] k spans at inside = cc
all-more count (l ∷ ls) zero spans at inside =
    let same : l ≡ spans = cc in
    rw (inside-noted count spans (subst (λ ss. are_inside count ss ≡ true) same (own count l ls inside))) (all-longer count ls (others count l ls inside))
all-more count (l ∷ ls) (suc k) spans at inside =
    rw (inside-longer count (count + 1) l (omega arith) (own count l ls inside)) (all-more count ls k spans at (others count l ls inside))

-- ---- one of them under the lock

pub there : (lists : List (Vec EntrySpan)) (k : ℕ) (v : Vec EntrySpan) → slice_get lists k ≡ Some v → slice_get (lists_of lists) k ≡ Some v.items
there [] k v at = cc
there (x ∷ xs) zero v at = let same : x ≡ v = cc in ap (λ (u : Vec EntrySpan). Some u.items) same
there (x ∷ xs) (suc k) v at = there xs k v at

-- more room
roomier : (lists : List (Vec EntrySpan)) (k : ℕ) (v w : Vec EntrySpan) → slice_get lists k ≡ Some v → w.items ≡ v.items → lists_of (slice_set lists k w) ≡ lists_of lists
roomier [] k v w at items = cc
roomier (x ∷ xs) zero v w at items = let same : x ≡ v = cc in ap (λ rs. rs ∷ lists_of xs) (items ∙ ap (λ (u : Vec EntrySpan). u.items) (sym same))
roomier (x ∷ xs) (suc k) v w at items = ap (λ ls. x.items ∷ ls) (roomier xs k v w at items)

module _ (workers : ℕ) (old new : List Entry) (lists : List (Vec EntrySpan)) (k : ℕ) (v : Vec EntrySpan) (lt : k < length lists) (found : v ≡ get_or lists k v) (inside : all_inside (length old) (lists_of lists) ≡ true) where
  at : slice_get lists k ≡ Some v
  at = slice_get-get_or lists k v lt ∙ ap (λ (u : Vec EntrySpan). Some u) (sym found)

  -- its spans are those of entries that are there
  pub own-inside : (u : Vec EntrySpan) (index : ℕ) → u.items ≡ v.items → index ≡ length old → are_inside index u.items ≡ true
  own-inside u index same count =
      subst (λ n. are_inside n u.items ≡ true) (sym count) (
      subst (λ ss. are_inside (length old) ss ≡ true) (sym same) (inside-at (length old) (lists_of lists) k v.items (there lists k v at) inside))

  module _ (w : Vec EntrySpan) where
    -- an entry more of its, as the history has it
    module _ (e : Entry) (u : Vec EntrySpan) (index : ℕ) (more : new ≡ old ++ e ∷ []) (count : index ≡ length old) (same : u.items ≡ v.items) (items : w.items ≡ with_entry u.items index) where
      placed : lists_of (slice_set lists k w) ≡ slice_set (lists_of lists) k (with_entry v.items (length old))
      placed =
          map-set (λ (x : Vec EntrySpan). x.items) lists k w
          ∙ ap (slice_set (lists_of lists) k) (items ∙ ap (λ (ss : List EntrySpan). with_entry ss index) same ∙ ap (with_entry v.items) count)

      logged-now : AreLogsOf workers old (logs_of old 1 (lists_of lists)) → AreLogsOf workers new (logs_of new 1 (lists_of (slice_set lists k w)))
      logged-now are =
          let number : 1 + k ≡ k + 1 = omega arith in
          let logs : logs_of (old ++ e ∷ []) 1 (lists_of (slice_set lists k w)) ≡ slice_set (logs_of old 1 (lists_of lists)) k (log_of old (1 + k) v.items ++ receipt_for (1 + k) (length old) e ∷ [])
          = ap (logs_of (old ++ e ∷ []) 1) placed ∙ logs-more old e 1 (lists_of lists) k v.items (there lists k v at) inside in
          subst (λ h. AreLogsOf workers h (logs_of h 1 (lists_of (slice_set lists k w)))) (sym more) (
          subst (AreLogsOf workers (old ++ e ∷ [])) (sym logs) (
          logs-noted workers old (logs_of old 1 (lists_of lists)) k (log_of old (1 + k) v.items) (receipt_for (1 + k) (length old) e)
          (log-at old 1 (lists_of lists) k v.items (there lists k v at)) refl number are))

      pub noted : ∥ AreLogsOf workers old (logs_of old 1 (lists_of lists)) ∥₁ → ∥ AreLogsOf workers new (logs_of new 1 (lists_of (slice_set lists k w))) ∥₁
      noted logged = ∥∥₁_map logged logged-now

      pub noted-inside : all_inside (length new) (lists_of (slice_set lists k w)) ≡ true
      noted-inside =
          subst (λ ls. all_inside (length new) ls ≡ true) (sym placed) (
          subst (λ n. all_inside n (slice_set (lists_of lists) k (with_entry v.items (length old))) ≡ true) (sym (ap length more ∙ length-append old (e ∷ []))) (
          all-more (length old) (lists_of lists) k v.items (there lists k v at) inside))

    -- none
    module _ (kept : new ≡ old) (items : w.items ≡ v.items) where
      pub still : ∥ AreLogsOf workers old (logs_of old 1 (lists_of lists)) ∥₁ → ∥ AreLogsOf workers new (logs_of new 1 (lists_of (slice_set lists k w))) ∥₁
      still logged = ∥∥₁_map logged (λ are.
          subst (λ h. AreLogsOf workers h (logs_of h 1 (lists_of (slice_set lists k w)))) (sym kept) (
          subst (λ ls. AreLogsOf workers old (logs_of old 1 ls)) (sym (roomier lists k v w at items)) are))

      pub still-inside : all_inside (length new) (lists_of (slice_set lists k w)) ≡ true
      still-inside = subst (λ (h : List Entry). all_inside (length h) (lists_of (slice_set lists k w)) ≡ true) (sym kept) (subst (λ ls. all_inside (length old) ls ≡ true) (sym (roomier lists k v w at items)) inside)

-- ---- the same history

pub same-logged : (workers : ℕ) (old new : List Entry) (lists : List (List EntrySpan)) → new ≡ old → ∥ AreLogsOf workers old (logs_of old 1 lists) ∥₁ → ∥ AreLogsOf workers new (logs_of new 1 lists) ∥₁
same-logged workers old new lists same logged = ∥∥₁_map logged (λ are. subst (λ (h : List Entry). AreLogsOf workers h (logs_of h 1 lists)) (sym same) are)

pub same-inside : (old new : List Entry) (lists : List (List EntrySpan)) → new ≡ old → all_inside (length old) lists ≡ true → all_inside (length new) lists ≡ true
same-inside old new lists same inside = subst (λ (h : List Entry). all_inside (length h) lists ≡ true) (sym same) inside
