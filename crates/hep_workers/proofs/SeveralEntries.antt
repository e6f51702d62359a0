-- Several entries more, one behind the other, in the spans of one worker.
use Rattle.std.proofs.Common.{◌≡◌, ℕ, zero, suc, ◌+◌, ◌<◌, Bool, true, false, nat_eq, if◌then◌else◌, List, [], ◌∷◌, ◌++◌, Some, length, replicate, refl, sym, ap, ◌∙◌, subst, arith, get_or, slice_get, slice_set, append_assoc}
use Rattle.std.proofs.lemmas.Bool.Decides.{nat_tests}
use Rattle.std.proofs.lemmas.List.{append-nil, length-append, length-replicate, length-set, map-set, replicate-append-replicate}
use Rattle.std.proofs.lemmas.Option.{slice_get-get_or}
use Rattle.std.proofs.Math.Bool.{Bool-set}
use Rattle.std.proofs.Math.Logic.{∥∥₁_elim, ∥∥₁_map}
use Rattle.std.specs.Global.{Vec}
use Rattle.hep_machine.specs.declared.event.Entry.{Entry}
use Rattle.hep_workers.specs.declared.spans.EntrySpan.{EntrySpan}
use Rattle.hep_workers.specs.EntrySpans.{all_inside, AreLogsOf, lists_of, logs_of}
use Rattle.hep_workers.specs.Spans.{log_of, with_entries, with_entry}
use Rattle.hep_workers.proofs.GrowingHistories.{joined, receipt_for}
use Rattle.hep_workers.proofs.EntrySpans.{all-more, log-at, logs-more, there}
use Rattle.hep_workers.proofs.AddedEntries.{logs-noted}
use Rattle.hep_state.proofs.Runs.{set-again}

-- ---- lists

own-there : {A : Type 0} (xs : List A) (k : ℕ) (x y : A) → slice_get xs k ≡ Some x → slice_get (slice_set xs k y) k ≡ Some y
own-there [] k x y at = cc
own-there (z ∷ zs) zero x y at = refl
own-there (z ∷ zs) (suc k) x y at = own-there zs k x y at

set-own : {A : Type 0} (xs : List A) (k : ℕ) (x : A) → slice_get xs k ≡ Some x → slice_set xs k x ≡ xs
set-own [] k x at = refl
set-own (z ∷ zs) zero x at = let same : z ≡ x = cc in ap (λ y. y ∷ zs) (sym same)
set-own (z ∷ zs) (suc k) x at = ap (λ ys. z ∷ ys) (set-own zs k x at)

-- ---- the last span

pub there-is : (spans : List EntrySpan) (index : ℕ) → 0 < length (with_entry spans index)
there-is [] index = omega arith
there-is (s ∷ []) index = by (nat_eq (s.first + s.count) index) where
  by : (b : Bool) → 0 < length (if b then record { first = s.first; count = s.count + 1 } ∷ [] else s ∷ record { first = index; count = 1 } ∷ [])
  by true = omega arith
  by false = omega arith
there-is (s ∷ t ∷ ss) index = omega arith

-- an entry that was put behind others is the end of it
ends : (spans : List EntrySpan) (index k : ℕ) (last : EntrySpan) → slice_get (with_entry spans index) k ≡ Some last → k + 1 ≡ length (with_entry spans index) → last.first + last.count ≡ index + 1
ends [] index zero last at len = let same : record { first = index; count = 1 } ≡ last = cc in ap (λ (x : EntrySpan). x.first + x.count) (sym same)
ends [] index (suc k) last at len = absurd (omega (arith, len))
ends (s ∷ []) index k last at len = by k (nat_eq (s.first + s.count) index) refl at len where
  by : (k : ℕ) (b : Bool) → nat_eq (s.first + s.count) index ≡ b
      → slice_get (if b then record { first = s.first; count = s.count + 1 } ∷ [] else s ∷ record { first = index; count = 1 } ∷ []) k ≡ Some last
      → k + 1 ≡ length (if b then record { first = s.first; count = s.count + 1 } ∷ [] else s ∷ record { first = index; count = 1 } ∷ [])
      → last.first + last.count ≡ index + 1
  by zero true is at len =
      let here : s.first + s.count ≡ index = grind (arith, nat_tests) in
      let same : record { first = s.first; count = s.count + 1 } ≡ last = cc in
      let sum = ap (λ (x : EntrySpan). x.first + x.count) (sym same) in
      omega (arith, here, sum)
  by (suc k) true is at len = absurd (omega (arith, len))
  by zero false is at len = absurd (omega (arith, len))
  by (suc zero) false is at len = let same : record { first = index; count = 1 } ≡ last = cc in ap (λ (x : EntrySpan). x.first + x.count) (sym same)
  by (suc (suc k)) false is at len = absurd (omega (arith, len))
ends (s ∷ t ∷ ss) index zero last at len = absurd (omega (arith, len, there-is (t ∷ ss) index))
ends (s ∷ t ∷ ss) index (suc k) last at len = ends (t ∷ ss) index k last at (omega (arith, len))

module _ (spans : List EntrySpan) (index k : ℕ) (last : EntrySpan) (at : slice_get (with_entry spans index) k ≡ Some last) (len : k + 1 ≡ length (with_entry spans index)) where
  abbrev grown : ℕ → EntrySpan
  grown n = record { first = last.first; count = last.count + n }

  pub last-ends : last.first + last.count ≡ index + 1
  last-ends = ends spans index k last at len

  first-one : with_entries spans index 1 ≡ with_entry spans index
  first-one = let same : index + 0 ≡ index = omega arith in ap (with_entry spans) same

  -- the others stand right behind it
  pub all-grown : (n : ℕ) → slice_set (with_entry spans index) k (grown n) ≡ with_entries spans index (suc n)
  all-grown zero =
      let none : last.count + 0 ≡ last.count = omega arith in
      let same : grown 0 ≡ last = ap (λ c. record { first = last.first; count = c }) none in
      ap (slice_set (with_entry spans index) k) same ∙ set-own (with_entry spans index) k last at ∙ sym first-one
  all-grown (suc n) =
      let before : List EntrySpan = slice_set (with_entry spans index) k (grown n) in
      let there : slice_get before k ≡ Some (grown n) = own-there (with_entry spans index) k last (grown n) at in
      let long : k + 1 ≡ length before = len ∙ sym (length-set (with_entry spans index) k (grown n)) in
      let end : (grown n).first + (grown n).count ≡ index + suc n = omega (arith, last-ends) in
      let more : last.count + suc n ≡ last.count + n + 1 = omega arith in
      ap (λ c. slice_set (with_entry spans index) k (record { first = last.first; count = c })) more
      ∙ sym (set-again (with_entry spans index) k (grown n) (record { first = last.first; count = last.count + n + 1 }))
      ∙ joined before k (grown n) (index + suc n) there long end
      ∙ ap (λ (ss : List EntrySpan). with_entry ss (index + suc n)) (all-grown n)

-- ---- in the logs

one-noted : (workers : ℕ) (h : List Entry) (e : Entry) (lists : List (List EntrySpan)) (k : ℕ) (spans : List EntrySpan) → slice_get lists k ≡ Some spans → all_inside (length h) lists ≡ true
    → AreLogsOf workers h (logs_of h 1 lists) → AreLogsOf workers (h ++ e ∷ []) (logs_of (h ++ e ∷ []) 1 (slice_set lists k (with_entry spans (length h))))
one-noted workers h e lists k spans at inside are =
    let number : 1 + k ≡ k + 1 = omega arith in
    subst (AreLogsOf workers (h ++ e ∷ [])) (sym (logs-more h e 1 lists k spans at inside)) (
    logs-noted workers h (logs_of h 1 lists) k (log_of h (1 + k) spans) (receipt_for (1 + k) (length h) e) (log-at h 1 lists k spans at) refl number are)

-- all of so many entries are noted, and the spans are inside
pub record AreNoted (workers : ℕ) (h : List Entry) (lists : List (List EntrySpan)) : Type 0 where
  pub logged : AreLogsOf workers h (logs_of h 1 lists)
  pub inside : all_inside (length h) lists ≡ true

one-more : (workers : ℕ) (h : List Entry) (e : Entry) (lists : List (List EntrySpan)) (k : ℕ) (spans : List EntrySpan) → slice_get lists k ≡ Some spans → AreNoted workers h lists
    → AreNoted workers (h ++ e ∷ []) (slice_set lists k (with_entry spans (length h)))
one-more workers h e lists k spans at are =
    record {
      logged = one-noted workers h e lists k spans at are.inside are.logged;
      inside = subst (λ n. all_inside n (slice_set lists k (with_entry spans (length h))) ≡ true) (sym (length-append h (e ∷ []))) (all-more (length h) lists k spans at are.inside);
    }

module _ (workers : ℕ) (h : List Entry) (e : Entry) (lists : List (List EntrySpan)) (k : ℕ) (spans : List EntrySpan) (at : slice_get lists k ≡ Some spans) (are : AreNoted workers h lists) where
  abbrev lists-with : ℕ → List (List EntrySpan)
  lists-with n = slice_set lists k (with_entries spans (length h) n)

  pub all-noted : (n : ℕ) → AreNoted workers (h ++ replicate n e) (lists-with n)
  all-noted zero =
      subst (λ (es : List Entry). AreNoted workers es (lists-with 0)) (sym (append-nil h)) (
      subst (λ ls. AreNoted workers h ls) (sym (set-own lists k spans at)) are)
  all-noted (suc n) =
      let mid : List Entry = h ++ replicate n e in
      let count : length mid ≡ length h + n = length-append h (replicate n e) ∙ ap (λ m. length h + m) (length-replicate n e) in
      let next : n + 1 ≡ suc n = omega arith in
      let longer : mid ++ e ∷ [] ≡ h ++ replicate (suc n) e = append_assoc h (replicate n e) (e ∷ []) ∙ ap (λ es. h ++ es) (replicate-append-replicate n 1 e ∙ ap (λ m. replicate m e) next) in
      let placed : slice_set (lists-with n) k (with_entry (with_entries spans (length h) n) (length mid)) ≡ lists-with (suc n) =
      set-again lists k (with_entries spans (length h) n) (with_entry (with_entries spans (length h) n) (length mid))
      ∙ ap (λ m. slice_set lists k (with_entry (with_entries spans (length h) n) m)) count in
      subst (λ (es : List Entry). AreNoted workers es (lists-with (suc n))) longer (
      subst (λ ls. AreNoted workers (mid ++ e ∷ []) ls) placed (
      one-more workers mid e (lists-with n) k (with_entries spans (length h) n) (own-there lists k spans (with_entries spans (length h) n) at) (all-noted n)))

-- ---- under the lock

module _ (workers : ℕ) (old new : List Entry) (lists : List (Vec EntrySpan)) (k : ℕ) (v : Vec EntrySpan) (lt : k < length lists) (found : v ≡ get_or lists k v) (inside : all_inside (length old) (lists_of lists) ≡ true)
    (logged : ∥ AreLogsOf workers old (logs_of old 1 (lists_of lists)) ∥₁) (w : Vec EntrySpan) (e : Entry) (n : ℕ) (u : Vec EntrySpan) (index : ℕ) (more : new ≡ old ++ replicate n e) (count : index ≡ length old) (same : u.items ≡ v.items)
    (items : w.items ≡ with_entries u.items index n) where
  own : slice_get (lists_of lists) k ≡ Some v.items
  own = there lists k v (slice_get-get_or lists k v lt ∙ ap (λ (x : Vec EntrySpan). Some x) (sym found))

  placed : lists_of (slice_set lists k w) ≡ slice_set (lists_of lists) k (with_entries v.items (length old) n)
  placed =
      map-set (λ (x : Vec EntrySpan). x.items) lists k w
      ∙ ap (slice_set (lists_of lists) k) (items ∙ ap (λ (ss : List EntrySpan). with_entries ss index n) same ∙ ap (λ i. with_entries v.items i n) count)

  noted-now : AreLogsOf workers old (logs_of old 1 (lists_of lists)) → AreNoted workers new (lists_of (slice_set lists k w))
  noted-now are =
      subst (λ (h : List Entry). AreNoted workers h (lists_of (slice_set lists k w))) (sym more) (
      subst (λ (ls : List (List EntrySpan)). AreNoted workers (old ++ replicate n e) ls) (sym placed) (
      all-noted workers old e (lists_of lists) k v.items own (record { logged = are; inside = inside }) n))

  pub many-logged : ∥ AreLogsOf workers new (logs_of new 1 (lists_of (slice_set lists k w))) ∥₁
  many-logged = ∥∥₁_map logged (λ are. (noted-now are).logged)

  pub many-inside : all_inside (length new) (lists_of (slice_set lists k w)) ≡ true
  many-inside = ∥∥₁_elim logged (Bool-set _ _) (λ are. (noted-now are).inside)
