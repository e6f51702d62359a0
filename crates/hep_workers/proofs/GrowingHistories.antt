-- Spans to which entries are added, and their receipts as the history grows.
use Rattle.std.proofs.Common.{◌≡◌, ◌≢◌, inl, inr, ℕ, zero, suc, ◌+◌, ◌-◌, ◌<◌, ◌≤◌, Bool, true, false, nat_eq, nat_le, if◌then◌else◌, List, [], ◌∷◌, ◌++◌, Some, None, get_or, length, min, refl, sym, ap, ◌∙◌, subst, arith, slice_get, slice_set, append_assoc}
use Rattle.std.proofs.lemmas.Bool.{and_parts, cases_lt}
use Rattle.std.proofs.lemmas.Bool.Decides.{nat_tests}
use Rattle.std.proofs.lemmas.List.{append-nil}
use Rattle.std.proofs.lemmas.Option.{slice_get-get_or, slice_get_past}
use Rattle.hep_machine.specs.declared.event.Entry.{Entry}
use Rattle.hep_workers.specs.declared.receipt.Receipt.{Receipt}
use Rattle.hep_workers.specs.declared.spans.EntrySpan.{EntrySpan}
use Rattle.hep_workers.specs.Spans.{are_inside, log_of, receipt_at, receipt_of, receipts_in, with_entry}
use Rattle.hep_machine.proofs.Others.{front_kept}
use Rattle.hep_source.proofs.Tests.{get-second}

-- ---- spans that are inside

first-inside : (n : ℕ) (s : EntrySpan) (ss : List EntrySpan) → are_inside n (s ∷ ss) ≡ true → s.first + s.count ≤ n
first-inside n s ss inside = let here = (and_parts (nat_le (s.first + s.count) n) (are_inside n ss) inside).0 in grind (arith, nat_tests)

others-inside : (n : ℕ) (s : EntrySpan) (ss : List EntrySpan) → are_inside n (s ∷ ss) ≡ true → are_inside n ss ≡ true
others-inside n s ss inside = (and_parts (nat_le (s.first + s.count) n) (are_inside n ss) inside).1

one-inside : (n : ℕ) (s : EntrySpan) (ss : List EntrySpan) → s.first + s.count ≤ n → are_inside n ss ≡ true → are_inside n (s ∷ ss) ≡ true
one-inside n s ss le inside = let here : nat_le (s.first + s.count) n ≡ true = grind (arith, nat_tests) in rw here inside

-- ---- a longer history

receipts_in-longer : (h es : List Entry) (w first n : ℕ) → first + n ≤ length h → receipts_in (h ++ es) w first n ≡ receipts_in h w first n
receipts_in-longer h es w first zero le = refl
receipts_in-longer h es w first (suc n) le =
    let here : slice_get (h ++ es) (first + n) ≡ slice_get h (first + n) = front_kept h es (first + n) (omega (arith, le)) in
    ap (λ rs. rs ++ receipt_at (h ++ es) w (first + n)) (receipts_in-longer h es w first n (omega (arith, le)))
    ∙ ap (λ o. receipts_in h w first n ++ receipt_of w (first + n) o) here

-- spans inside have the same receipts
pub log_of-longer : (h es : List Entry) (w : ℕ) (spans : List EntrySpan) → are_inside (length h) spans ≡ true → log_of (h ++ es) w spans ≡ log_of h w spans
log_of-longer h es w [] inside = refl
log_of-longer h es w (s ∷ ss) inside =
    ap (λ rs. rs ++ log_of (h ++ es) w ss) (receipts_in-longer h es w s.first s.count (first-inside (length h) s ss inside))
    ∙ ap (λ rs. receipts_in h w s.first s.count ++ rs) (log_of-longer h es w ss (others-inside (length h) s ss inside))

-- and are inside still
pub inside-longer : (few many : ℕ) (spans : List EntrySpan) → few ≤ many → are_inside few spans ≡ true → are_inside many spans ≡ true
inside-longer few many [] le inside = refl
inside-longer few many (s ∷ ss) le inside =
    one-inside many s ss (omega (arith, le, first-inside few s ss inside)) (inside-longer few many ss le (others-inside few s ss inside))

-- ---- an entry more

-- the receipt of an entry
abbrev pub receipt_for : ℕ → ℕ → Entry → Receipt
receipt_for w index e = record { index = index; process = e.process; worker = w; steps = e.steps }

last_there : (h : List Entry) (e : Entry) (w : ℕ) → receipt_at (h ++ e ∷ []) w (length h) ≡ receipt_for w (length h) e ∷ []
last_there h e w = ap (receipt_of w (length h)) (get-second h (e ∷ []) (length h) 0 (omega arith))

-- behind a span that ends where the history did
behind : (h : List Entry) (e : Entry) (w first n : ℕ) → first + n ≡ length h → receipts_in (h ++ e ∷ []) w first (n + 1) ≡ receipts_in h w first n ++ receipt_for w (length h) e ∷ []
behind h e w first n ends =
    let next : n + 1 ≡ suc n = omega arith in
    ap (receipts_in (h ++ e ∷ []) w first) next
    ∙ ap (λ rs. rs ++ receipt_at (h ++ e ∷ []) w (first + n)) (receipts_in-longer h (e ∷ []) w first n (omega (arith, ends)))
    ∙ ap (λ k. receipts_in h w first n ++ receipt_at (h ++ e ∷ []) w k) ends
    ∙ ap (λ rs. receipts_in h w first n ++ rs) (last_there h e w)

-- in a span of its own
alone : (h : List Entry) (e : Entry) (w : ℕ) → receipts_in (h ++ e ∷ []) w (length h) 1 ≡ receipt_for w (length h) e ∷ []
alone h e w = let same : length h + 0 ≡ length h = omega arith in ap (receipt_at (h ++ e ∷ []) w) same ∙ last_there h e w

module _ (h : List Entry) (e : Entry) (w : ℕ) where
  abbrev more : List Receipt
  more = receipt_for w (length h) e ∷ []

  in-last : (s : EntrySpan) (b : Bool) → nat_eq (s.first + s.count) (length h) ≡ b → s.first + s.count ≤ length h
      → log_of (h ++ e ∷ []) w (if b then record { first = s.first; count = s.count + 1 } ∷ [] else s ∷ record { first = length h; count = 1 } ∷ []) ≡ log_of h w (s ∷ []) ++ more
  in-last s true is le =
      let ends : s.first + s.count ≡ length h = grind (arith, nat_tests) in
      let own : List Receipt = receipts_in h w s.first s.count in
      append-nil (receipts_in (h ++ e ∷ []) w s.first (s.count + 1)) ∙ behind h e w s.first s.count ends ∙ ap (λ rs. rs ++ more) (sym (append-nil own))
  in-last s false is le =
      let own : List Receipt = receipts_in h w s.first s.count in
      ap (λ rs. rs ++ (receipts_in (h ++ e ∷ []) w (length h) 1 ++ [])) (receipts_in-longer h (e ∷ []) w s.first s.count le)
      ∙ ap (λ rs. own ++ rs) (append-nil (receipts_in (h ++ e ∷ []) w (length h) 1) ∙ alone h e w)
      ∙ ap (λ rs. rs ++ more) (sym (append-nil own))

  -- there is one receipt more
  pub log_of-noted : (spans : List EntrySpan) → are_inside (length h) spans ≡ true → log_of (h ++ e ∷ []) w (with_entry spans (length h)) ≡ log_of h w spans ++ more
  log_of-noted [] inside = append-nil (receipts_in (h ++ e ∷ []) w (length h) 1) ∙ alone h e w
  log_of-noted (s ∷ []) inside = in-last s (nat_eq (s.first + s.count) (length h)) refl (first-inside (length h) s [] inside)
  log_of-noted (s ∷ t ∷ ss) inside =
      let own : List Receipt = receipts_in h w s.first s.count in
      ap (λ rs. rs ++ log_of (h ++ e ∷ []) w (with_entry (t ∷ ss) (length h))) (receipts_in-longer h (e ∷ []) w s.first s.count (first-inside (length h) s (t ∷ ss) inside))
      ∙ ap (λ rs. own ++ rs) (log_of-noted (t ∷ ss) (others-inside (length h) s (t ∷ ss) inside))
      ∙ sym (append_assoc own (log_of h w (t ∷ ss)) more)

inside-last : (n : ℕ) (s : EntrySpan) (b : Bool) → nat_eq (s.first + s.count) n ≡ b → s.first + s.count ≤ n
    → are_inside (n + 1) (if b then record { first = s.first; count = s.count + 1 } ∷ [] else s ∷ record { first = n; count = 1 } ∷ []) ≡ true
inside-last n s true is le = one-inside (n + 1) (record { first = s.first; count = s.count + 1 }) [] (omega (arith, le)) refl
inside-last n s false is le =
    let own : EntrySpan = record { first = n; count = 1 } in
    one-inside (n + 1) s (own ∷ []) (omega (arith, le)) (one-inside (n + 1) own [] (omega arith) refl)

-- the spans are inside of the longer history
pub inside-noted : (n : ℕ) (spans : List EntrySpan) → are_inside n spans ≡ true → are_inside (n + 1) (with_entry spans n) ≡ true
inside-noted n [] inside = one-inside (n + 1) (record { first = n; count = 1 }) [] (omega arith) refl
inside-noted n (s ∷ []) inside = inside-last n s (nat_eq (s.first + s.count) n) refl (first-inside n s [] inside)
inside-noted n (s ∷ t ∷ ss) inside =
    one-inside (n + 1) s (with_entry (t ∷ ss) n) (omega (arith, first-inside n s (t ∷ ss) inside)) (inside-noted n (t ∷ ss) (others-inside n s (t ∷ ss) inside))

-- ---- the last span

pub last-at : (spans : List EntrySpan) (k : ℕ) (last : EntrySpan) → k < length spans → last ≡ get_or spans k last → slice_get spans k ≡ Some last
last-at spans k last lt is = slice_get-get_or spans k last lt ∙ ap (λ (s : EntrySpan). Some s) (sym is)

-- it ends where the others' entries do, or before
pub last-inside : (n : ℕ) (spans : List EntrySpan) (k : ℕ) (last : EntrySpan) → slice_get spans k ≡ Some last → are_inside n spans ≡ true → last.first + last.count ≤ n
last-inside n [] k last at inside = cc
last-inside n (s ∷ ss) zero last at inside = let same : s ≡ last = cc in subst (λ (x : EntrySpan). x.first + x.count ≤ n) same (first-inside n s ss inside)
last-inside n (s ∷ ss) (suc k) last at inside = last-inside n ss k last at (others-inside n s ss inside)

-- the entry stands right behind it
pub joined : (spans : List EntrySpan) (k : ℕ) (last : EntrySpan) (index : ℕ) → slice_get spans k ≡ Some last → k + 1 ≡ length spans → last.first + last.count ≡ index
    → slice_set spans k (record { first = last.first; count = last.count + 1 }) ≡ with_entry spans index
joined [] k last index at len ends = cc
joined (s ∷ []) zero last index at len ends =
    let same : s ≡ last = cc in
    let here : s.first + s.count ≡ index = ap (λ (x : EntrySpan). x.first + x.count) same ∙ ends in
    let yes : nat_eq (s.first + s.count) index ≡ true = grind (arith, nat_tests) in
    rw yes (ap (λ (x : EntrySpan). record { first = x.first; count = x.count + 1 } ∷ []) (sym same))
joined (s ∷ []) (suc k) last index at len ends = absurd (omega (arith, len))
joined (s ∷ t ∷ ss) zero last index at len ends = absurd (omega (arith, len))
joined (s ∷ t ∷ ss) (suc k) last index at len ends = ap (λ (rs : List EntrySpan). s ∷ rs) (joined (t ∷ ss) k last index at (omega (arith, len)) ends)

-- the entry stands elsewhere
pub apart : (spans : List EntrySpan) (k : ℕ) (last : EntrySpan) (index : ℕ) → slice_get spans k ≡ Some last → k + 1 ≡ length spans → last.first + last.count ≢ index
    → spans ++ record { first = index; count = 1 } ∷ [] ≡ with_entry spans index
apart [] k last index at len ends = cc
apart (s ∷ []) zero last index at len ends =
    let same : s ≡ last = cc in
    let here : s.first + s.count ≢ index = subst (λ (x : EntrySpan). x.first + x.count ≢ index) (sym same) ends in
    let no : nat_eq (s.first + s.count) index ≡ false = grind (arith, nat_tests) in
    rw no refl
apart (s ∷ []) (suc k) last index at len ends = absurd (omega (arith, len))
apart (s ∷ t ∷ ss) zero last index at len ends = absurd (omega (arith, len))
apart (s ∷ t ∷ ss) (suc k) last index at len ends = ap (λ (rs : List EntrySpan). s ∷ rs) (apart (t ∷ ss) k last index at (omega (arith, len)) ends)

-- there is none
pub first-one : (spans : List EntrySpan) (index : ℕ) → length spans ≡ 0 → spans ++ record { first = index; count = 1 } ∷ [] ≡ with_entry spans index
first-one [] index none = refl
first-one (s ∷ ss) index none = absurd (omega (arith, none))

-- ---- how receipts are made

-- the next one is there
pub one_more : (h : List Entry) (w first n : ℕ) (e : Entry) (old rs : List Receipt) → slice_get h (first + n) ≡ Some e → rs ≡ old ++ receipts_in h w first n
    → rs ++ receipt_for w (first + n) e ∷ [] ≡ old ++ receipts_in h w first (n + 1)
one_more h w first n e old rs at is =
    let next : suc n ≡ n + 1 = omega arith in
    ap (λ qs. qs ++ receipt_for w (first + n) e ∷ []) is
    ∙ append_assoc old (receipts_in h w first n) (receipt_for w (first + n) e ∷ [])
    ∙ ap (λ o. old ++ (receipts_in h w first n ++ receipt_of w (first + n) o)) (sym at)
    ∙ ap (λ k. old ++ receipts_in h w first k) next

-- or isn't
pub none_more : (h : List Entry) (w first n : ℕ) (old rs : List Receipt) → slice_get h (first + n) ≡ None → rs ≡ old ++ receipts_in h w first n
    → rs ≡ old ++ receipts_in h w first (n + 1)
none_more h w first n old rs at is =
    let next : suc n ≡ n + 1 = omega arith in
    is
    ∙ ap (λ qs. old ++ qs) (sym (append-nil (receipts_in h w first n)))
    ∙ ap (λ o. old ++ (receipts_in h w first n ++ receipt_of w (first + n) o)) (sym at)
    ∙ ap (λ k. old ++ receipts_in h w first k) next

-- there are none behind the history's end
receipts_in-past : (h : List Entry) (w first k n : ℕ) → length h ≤ first + k → receipts_in h w first (k + n) ≡ receipts_in h w first k
receipts_in-past h w first k zero past = let same : k + 0 ≡ k = omega arith in ap (receipts_in h w first) same
receipts_in-past h w first k (suc n) past =
    let next : k + suc n ≡ suc (k + n) = omega arith in
    let none : slice_get h (first + (k + n)) ≡ None = slice_get_past h (first + (k + n)) (omega (arith, past)) in
    ap (receipts_in h w first) next
    ∙ ap (λ o. receipts_in h w first (k + n) ++ receipt_of w (first + (k + n)) o) none
    ∙ append-nil (receipts_in h w first (k + n))
    ∙ receipts_in-past h w first k n past

-- so those up to there are all
pub receipts_in-cut : (h : List Entry) (w first n k : ℕ) → k ≡ min n (length h - first) → receipts_in h w first k ≡ receipts_in h w first n
receipts_in-cut h w first n k is = elim (cases_lt k n) [
  | inl less ↦ (
      let sum : k + (n - k) ≡ n = omega (arith, less) in
      let past : length h ≤ first + k = omega (arith, is, less) in
      sym (ap (receipts_in h w first) (sym sum) ∙ receipts_in-past h w first k (n - k) past)
      )
  | inr le ↦ (let same : k ≡ n = omega (arith, is, le) in ap (receipts_in h w first) same)
]
