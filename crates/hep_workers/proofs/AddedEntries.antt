-- Logs to which a receipt is added as the history gets its entry.
use Rattle.std.proofs.Common.{◌≡◌, inl, inr, ℕ, zero, suc, ◌+◌, ◌<◌, ◌≤◌, true, List, [], ◌∷◌, ◌++◌, Some, length, replicate, refl, sym, ap, ◌∙◌, subst, arith, nat_eq, nat_lt, slice_get, slice_set}
use Rattle.std.proofs.lemmas.Bool.{cases_lt, and_parts}
use Rattle.std.proofs.lemmas.Bool.Decides.{nat_tests}
use Rattle.std.proofs.lemmas.List.{length-append, length-replicate, length-set}
use Rattle.std.proofs.lemmas.Option.{slice_get_within}
use Rattle.hep_machine.specs.declared.event.Entry.{Entry}
use Rattle.hep_workers.specs.declared.receipt.Receipt.{Receipt}
use Rattle.hep_workers.specs.Turns.{are_of, entry_of}
use Rattle.hep_workers.specs.Receipts.{AllName, AreEntries, Names, all_rise, are_numbered, one_where, receipts_of, rises, times_named}
use Rattle.hep_workers.specs.EntrySpans.{AreLogsOf}
use Rattle.hep_machine.proofs.Others.{front_kept}
use Rattle.hep_source.proofs.Tests.{get-second}

-- ---- what they name

named-append : (h : List Entry) (xs ys : List Receipt) → AllName h xs → AllName h ys → AllName h (xs ++ ys)
named-append h [] ys a b = b
named-append h (x ∷ xs) ys a b = (a.0, named-append h xs ys a.1 b)

named-left : (h : List Entry) (xs ys : List Receipt) → AllName h (xs ++ ys) → AllName h xs
named-left h [] ys a = tt
named-left h (x ∷ xs) ys a = (a.0, named-left h xs ys a.1)

named-right : (h : List Entry) (xs ys : List Receipt) → AllName h (xs ++ ys) → AllName h ys
named-right h [] ys a = a
named-right h (x ∷ xs) ys a = named-right h xs ys a.1

named-longer : (h : List Entry) (e : Entry) (rs : List Receipt) → AllName h rs → AllName (h ++ e ∷ []) rs
named-longer h e [] a = tt
named-longer h e (r ∷ rs) a = (front_kept h (e ∷ []) r.index (slice_get_within h r.index (entry_of r) a.0) ∙ a.0, named-longer h e rs a.1)

-- the first of the logs
own : (h : List Entry) (l log : List Receipt) (ls : List (List Receipt)) → l ≡ log → AllName h (l ++ receipts_of ls) → AllName h log
own h l log ls same a = subst (AllName h) same (named-left h l (receipts_of ls) a)

named-noted : (h : List Entry) (r : Receipt) (logs : List (List Receipt)) (k : ℕ) (log : List Receipt) → slice_get logs k ≡ Some log → AllName h (receipts_of logs) → Names h r
    → AllName h (receipts_of (slice_set logs k (log ++ r ∷ [])))
named-noted h r [] k log at a n = cc
named-noted h r (l ∷ ls) zero log at a n =
    let same : l ≡ log = cc in
    named-append h (log ++ r ∷ []) (receipts_of ls) (named-append h log (r ∷ []) (own h l log ls same a) (n, tt)) (named-right h l (receipts_of ls) a)
named-noted h r (l ∷ ls) (suc k) log at a n =
    named-append h l (receipts_of (slice_set ls k (log ++ r ∷ []))) (named-left h l (receipts_of ls) a) (named-noted h r ls k log at (named-right h l (receipts_of ls) a) n)

-- none of them names what isn't there
none-past : (h : List Entry) (rs : List Receipt) (i : ℕ) → length h ≤ i → AllName h rs → times_named i rs ≡ 0
none-past h [] i le named = refl
none-past h (r ∷ rs) i le named =
    let lt = slice_get_within h r.index (entry_of r) named.0 in
    let other : one_where i r.index ≡ 0 = grind (arith, nat_tests) in
    let rest = none-past h rs i le named.1 in
    omega arith

-- ---- how often

times-append : (i : ℕ) (xs ys : List Receipt) → times_named i (xs ++ ys) ≡ times_named i xs + times_named i ys
times-append i [] ys = omega arith
times-append i (x ∷ xs) ys = let rest = times-append i xs ys in omega arith

times-noted : (i : ℕ) (r : Receipt) (logs : List (List Receipt)) (k : ℕ) (log : List Receipt) → slice_get logs k ≡ Some log
    → times_named i (receipts_of (slice_set logs k (log ++ r ∷ []))) ≡ times_named i (receipts_of logs) + one_where i r.index
times-noted i r [] k log at = cc
times-noted i r (l ∷ ls) zero log at =
    let same : l ≡ log = cc in
    let all = times-append i (log ++ r ∷ []) (receipts_of ls) in
    let last = times-append i log (r ∷ []) in
    let before = times-append i l (receipts_of ls) in
    let own : times_named i l ≡ times_named i log = ap (times_named i) same in
    omega arith
times-noted i r (l ∷ ls) (suc k) log at =
    let all = times-append i l (receipts_of (slice_set ls k (log ++ r ∷ []))) in
    let before = times-append i l (receipts_of ls) in
    let others = times-noted i r ls k log at in
    omega arith

module _ (history : List Entry) (logs : List (List Receipt)) (k : ℕ) (log : List Receipt) (r : Receipt) (at : slice_get logs k ≡ Some log) (index : r.index ≡ length history) (are : AreEntries history (receipts_of logs)) where
  abbrev pub longer : List Entry
  longer = history ++ entry_of r ∷ []

  here : Names longer r
  here = ap (slice_get longer) index ∙ get-second history (entry_of r ∷ []) (length history) 0 (omega arith)

  once : (i : ℕ) → i < length longer → times_named i (receipts_of (slice_set logs k (log ++ r ∷ []))) ≡ 1
  once i lt =
      let times = times-noted i r logs k log at in
      let count = length-append history (entry_of r ∷ []) in
      elim (cases_lt i (length history)) [
        | inl less ↦ (let one = are.once i less in let other : one_where i r.index ≡ 0 = grind (arith, nat_tests) in omega arith)
        | inr le ↦ (let none = none-past history (receipts_of logs) i le are.named in let same : i ≡ r.index = omega arith in let one : one_where i r.index ≡ 1 = grind (arith, nat_tests) in omega arith)
      ]

  pub entries-noted : AreEntries longer (receipts_of (slice_set logs k (log ++ r ∷ [])))
  entries-noted = record { named = named-noted longer r logs k log at (named-longer history (entry_of r) (receipts_of logs) are.named) here; once = once }

-- ---- in their order

rises-noted : (h : List Entry) (log : List Receipt) (r : Receipt) → AllName h log → length h ≤ r.index → rises log ≡ true → rises (log ++ r ∷ []) ≡ true
rises-noted h [] r a le up = refl
rises-noted h (x ∷ []) r a le up = let lt = slice_get_within h x.index (entry_of x) a.0 in let less : nat_lt x.index r.index ≡ true = grind (arith, nat_tests) in rw less refl
rises-noted h (x ∷ y ∷ xs) r a le up =
    let parts = and_parts (nat_lt x.index y.index) (rises (y ∷ xs)) up in
    rw parts.0 (rises-noted h (y ∷ xs) r a.1 le parts.1)

rising-noted : (h : List Entry) (r : Receipt) (logs : List (List Receipt)) (k : ℕ) (log : List Receipt) → slice_get logs k ≡ Some log → AllName h (receipts_of logs) → length h ≤ r.index
    → all_rise logs ≡ true → all_rise (slice_set logs k (log ++ r ∷ [])) ≡ true
rising-noted h r [] k log at a le up = cc
rising-noted h r (l ∷ ls) zero log at a le up =
    let same : l ≡ log = cc in
    let parts = and_parts (rises l) (all_rise ls) up in
    rw (rises-noted h log r (own h l log ls same a) le (ap rises (sym same) ∙ parts.0)) parts.1
rising-noted h r (l ∷ ls) (suc k) log at a le up =
    let parts = and_parts (rises l) (all_rise ls) up in
    rw parts.0 (rising-noted h r ls k log at (named-right h l (receipts_of ls) a) le parts.1)

-- ---- and of their workers

of-noted : (w : ℕ) (log : List Receipt) (r : Receipt) → r.worker ≡ w → are_of w log ≡ true → are_of w (log ++ r ∷ []) ≡ true
of-noted w [] r is all = let same : nat_eq r.worker w ≡ true = grind (arith, nat_tests) in rw same refl
of-noted w (x ∷ xs) r is all =
    let parts = and_parts (nat_eq x.worker w) (are_of w xs) all in
    rw parts.0 (of-noted w xs r is parts.1)

numbered-noted : (r : Receipt) (w : ℕ) (logs : List (List Receipt)) (k : ℕ) (log : List Receipt) → slice_get logs k ≡ Some log → r.worker ≡ w + k
    → are_numbered w logs ≡ true → are_numbered w (slice_set logs k (log ++ r ∷ [])) ≡ true
numbered-noted r w [] k log at is all = cc
numbered-noted r w (l ∷ ls) zero log at is all =
    let same : l ≡ log = cc in
    let parts = and_parts (are_of w l) (are_numbered (w + 1) ls) all in
    rw (of-noted w log r (omega arith) (ap (are_of w) (sym same) ∙ parts.0)) parts.1
numbered-noted r w (l ∷ ls) (suc k) log at is all =
    let parts = and_parts (are_of w l) (are_numbered (w + 1) ls) all in
    rw parts.0 (numbered-noted r (w + 1) ls k log at (omega arith) parts.1)

-- ---- one more, and none

pub logs-noted : (workers : ℕ) (history : List Entry) (logs : List (List Receipt)) (k : ℕ) (log : List Receipt) (r : Receipt) → slice_get logs k ≡ Some log → r.index ≡ length history
    → r.worker ≡ k + 1 → AreLogsOf workers history logs → AreLogsOf workers (history ++ entry_of r ∷ []) (slice_set logs k (log ++ r ∷ []))
logs-noted workers history logs k log r at index worker are =
    let parts = and_parts (nat_eq (length logs) workers) (are_numbered 1 logs) are.numbered in
    let count = length-set logs k (log ++ r ∷ []) in
    let many : nat_eq (length (slice_set logs k (log ++ r ∷ []))) workers ≡ true = ap (λ n. nat_eq n workers) count ∙ parts.0 in
    record {
      entries = entries-noted history logs k log r at index are.entries;
      rising = rising-noted history r logs k log at are.entries.named (omega arith) are.rising;
      numbered = rw many (numbered-noted r 1 logs k log at (omega arith) parts.1);
    }

none-in : (n : ℕ) → receipts_of (replicate n []) ≡ []
none-in zero = refl
none-in (suc n) = none-in n

none-rise : (n : ℕ) → all_rise (replicate n []) ≡ true
none-rise zero = refl
none-rise (suc n) = none-rise n

none-numbered : (n w : ℕ) → are_numbered w (replicate n []) ≡ true
none-numbered zero w = refl
none-numbered (suc n) w = none-numbered n (w + 1)

no-entries : AreEntries [] []
no-entries = record { named = tt; once = λ i lt. absurd (omega arith) }

pub no-logs : (workers : ℕ) → AreLogsOf workers [] (replicate workers [])
no-logs workers =
    let none : List Receipt = [] in
    let count = length-replicate workers none in
    let many : nat_eq (length (replicate workers none)) workers ≡ true = grind (arith, nat_tests) in
    record {
      entries = subst (AreEntries []) (sym (none-in workers)) no-entries;
      rising = none-rise workers;
      numbered = rw many (none-numbered workers 1);
    }
