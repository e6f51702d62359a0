-- All entries are marked once just where the receipts are the history's entries, each once.
use Rattle.std.proofs.Common.{◌≡◌, ◌≢◌, inl, inr, ℕ, zero, suc, ◌+◌, ◌≤◌, ◌<◌, ◌&&◌, Bool, true, false, true≢false, List, [], ◌∷◌, ◌++◌, Option, Some, None, length, replicate, drop, get_or, refl, sym, ap, ◌∙◌, arith, if◌then◌else◌, MatchBool, option_and_then, slice_get, slice_set}
use Rattle.std.specs.List.{list_all}
use Rattle.std.proofs.lemmas.Bool.{cases_lt, and_parts}
use Rattle.std.proofs.lemmas.Bool.Decides.{nat_tests}
use Rattle.std.proofs.lemmas.Grind.{common_steps}
use Rattle.std.proofs.lemmas.List.{length-replicate, length-set}
use Rattle.std.proofs.lemmas.Option.{slice_get_within}
use Rattle.hep_machine.specs.declared.event.Entry.{Entry}
use Rattle.hep_workers.specs.declared.receipt.Receipt.{Receipt}
use Rattle.hep_workers.specs.ReceiptMarks.{is_named_by, is_unset, mark, marked}
use Rattle.hep_workers.specs.Receipts.{AllName, AreEntries, Names, one_where, receipts_of, times_named}
use Rattle.hep_workers.specs.Turns.{entry_of}
use Rattle.hep_state.proofs.Subroutines.{both-false}

-- ---- marks

-- 1 where there is a mark and it is set
abbrev pub marks_at : List Bool → ℕ → ℕ
marks_at [] i = 0
marks_at (b ∷ bs) zero = if b then 1 else 0
marks_at (b ∷ bs) (suc i) = marks_at bs i

one_further : (i k : ℕ) → one_where i k ≡ one_where (suc i) (suc k)
one_further i k = grind (arith, nat_tests)

one-here : (k : ℕ) → one_where k k ≡ 1
one-here k = grind (arith, nat_tests)

one-mark-more : (marks : List Bool) (k : ℕ) → slice_get marks k ≡ Some false → (i : ℕ) → marks_at (slice_set marks k true) i ≡ marks_at marks i + one_where i k
one-mark-more [] k unset i = cc
one-mark-more (b ∷ bs) zero unset zero = let off : b ≡ false = cc in rw off refl
one-mark-more (b ∷ bs) zero unset (suc i) = grind (arith, nat_tests)
one-mark-more (b ∷ bs) (suc k) unset zero = grind (arith, nat_tests)
one-mark-more (b ∷ bs) (suc k) unset (suc i) = one-mark-more bs k unset i ∙ ap (λ (n : ℕ). marks_at bs i + n) (one_further i k)

no-marks : (n i : ℕ) → marks_at (replicate n false) i ≡ 0
no-marks zero i = refl
no-marks (suc n) zero = refl
no-marks (suc n) (suc i) = no-marks n i

set-mark : (marks : List Bool) (k : ℕ) → slice_get marks k ≡ Some true → marks_at marks k ≡ 1
set-mark [] k is = cc
set-mark (b ∷ bs) zero is = let on : b ≡ true = cc in rw on refl
set-mark (b ∷ bs) (suc k) is = set-mark bs k is

all-marked : (marks : List Bool) (i : ℕ) → i < length marks → list_all (λ b. b) marks ≡ true → marks_at marks i ≡ 1
all-marked [] i lt all = absurd (omega arith)
all-marked (true ∷ bs) zero lt all = refl
all-marked (true ∷ bs) (suc i) lt all = all-marked bs i (omega arith) all
all-marked (false ∷ bs) i lt all = cc

each-marked : (marks : List Bool) → ((i : ℕ) → i < length marks → marks_at marks i ≡ 1) → list_all (λ b. b) marks ≡ true
each-marked [] each = refl
each-marked (true ∷ bs) each = each-marked bs (λ i lt. each (suc i) (omega arith))
each-marked (false ∷ bs) each = let first = each zero (omega arith) in cc

-- ---- one receipt

named-is : (r : Receipt) (o : Option Entry) → is_named_by r o ≡ true → o ≡ Some (entry_of r)
named-is r None is = cc
named-is r (Some e) is =
    let process : e.process ≡ r.process = grind (arith, nat_tests) in
    let steps : e.steps ≡ r.steps = grind (arith, nat_tests) in
    λ j. Some (record { process = process j; steps = steps j })

is-named : (r : Receipt) → is_named_by r (Some (entry_of r)) ≡ true
is-named r = grind (arith, nat_tests)

unset-is : (o : Option Bool) → is_unset o ≡ true → o ≡ Some false
unset-is None is = cc
unset-is (Some true) is = cc
unset-is (Some false) is = refl

set-is : (o : Option Bool) → is_unset o ≡ false → o ≢ None → o ≡ Some true
set-is None is some = absurd (some refl)
set-is (Some true) is some = refl
set-is (Some false) is some = cc

there : (marks : List Bool) (k : ℕ) → k < length marks → slice_get marks k ≢ None
there [] k lt none = absurd (omega arith)
there (b ∷ bs) zero lt none = cc
there (b ∷ bs) (suc k) lt none = there bs k (omega arith) none

-- ---- all receipts

module _ (history : List Entry) where
  -- the receipts name entries, and their marks were set, each as often as its entry is named
  pub record HasMarked (before after : List Bool) (receipts : List Receipt) : Type 0 where
    pub named : AllName history receipts
    pub counted : (i : ℕ) → marks_at after i ≡ marks_at before i + times_named i receipts
    pub size : length after ≡ length before

  module _ (before after : List Bool) (r : Receipt) (rs : List Receipt) where
    marked-first : (b : Bool) → (is_named_by r (slice_get history r.index) && is_unset (slice_get before r.index)) ≡ b
        → option_and_then (λ u. marked history u rs) (if b then Some (slice_set before r.index true) else None) ≡ Some after
        → ((u : List Bool) → marked history u rs ≡ Some after → HasMarked u after rs) → HasMarked before after (r ∷ rs)
    marked-first true is ended others =
        let rest = others (slice_set before r.index true) ended in
        let tests = and_parts (is_named_by r (slice_get history r.index)) (is_unset (slice_get before r.index)) is in
        record {
          named = (named-is r (slice_get history r.index) tests.0, rest.named);
          counted = λ i. let more = rest.counted i in let one = one-mark-more before r.index (unset-is (slice_get before r.index) tests.1) i in omega arith;
          size = rest.size ∙ length-set before r.index true;
        }
    marked-first false is ended others = cc

  pub has-marked : (before after : List Bool) (rs : List Receipt) → marked history before rs ≡ Some after → HasMarked before after rs
  has-marked before after [] ended =
      let same : before ≡ after = cc in
      record { named = tt; counted = λ i. ap (λ (u : List Bool). marks_at u i) (sym same) ∙ (let none : marks_at before i ≡ marks_at before i + 0 = omega arith in none); size = ap length (sym same) }
  has-marked before after (r ∷ rs) ended =
      marked-first before after r rs (is_named_by r (slice_get history r.index) && is_unset (slice_get before r.index)) refl ended (λ u e. has-marked u after rs e)

  module _ (marks : List Bool) (r : Receipt) (rs : List Receipt) (size : length marks ≡ length history) (named : Names history r) (few : (i : ℕ) → marks_at marks i + times_named i (r ∷ rs) ≤ 1) where
    unmarked-first : (b : Bool) → (is_named_by r (slice_get history r.index) && is_unset (slice_get marks r.index)) ≡ b
        → option_and_then (λ u. marked history u rs) (if b then Some (slice_set marks r.index true) else None) ≡ None
        → ((u : List Bool) → length u ≡ length history → marked history u rs ≡ None → ((i : ℕ) → marks_at u i + times_named i rs ≤ 1) → ⊥) → ⊥
    unmarked-first true is failed others =
        let tests = and_parts (is_named_by r (slice_get history r.index)) (is_unset (slice_get marks r.index)) is in
        others (slice_set marks r.index true) (length-set marks r.index true ∙ size) failed
        (λ i. let one = one-mark-more marks r.index (unset-is (slice_get marks r.index) tests.1) i in let f = few i in omega arith)
    unmarked-first false is failed others =
        let name : is_named_by r (slice_get history r.index) ≡ true = ap (is_named_by r) named ∙ is-named r in
        let within : r.index < length marks = let lt = slice_get_within history r.index (entry_of r) named in omega arith in
        let set = set-is (slice_get marks r.index) (both-false (is_named_by r (slice_get history r.index)) (is_unset (slice_get marks r.index)) is name) (there marks r.index within) in
        let one = set-mark marks r.index set in
        let f = few r.index in
        let here = one-here r.index in
        omega arith

  can-be-marked : (marks : List Bool) (rs : List Receipt) → length marks ≡ length history → marked history marks rs ≡ None → AllName history rs → ((i : ℕ) → marks_at marks i + times_named i rs ≤ 1) → ⊥
  can-be-marked marks [] size failed named few = cc
  can-be-marked marks (r ∷ rs) size failed named few =
      unmarked-first marks r rs size named.0 few (is_named_by r (slice_get history r.index) && is_unset (slice_get marks r.index)) refl failed
      (λ u s f g. can-be-marked u rs s f named.1 g)

  -- ---- from no marks on

  none-past : (rs : List Receipt) (i : ℕ) → length history ≤ i → AllName history rs → times_named i rs ≡ 0
  none-past [] i le named = refl
  none-past (r ∷ rs) i le named =
      let lt = slice_get_within history r.index (entry_of r) named.0 in
      let other : one_where i r.index ≡ 0 = grind (arith, nat_tests) in
      let rest = none-past rs i le named.1 in
      omega arith

  module _ (rs : List Receipt) (marks : List Bool) (new : marks ≡ replicate (length history) false) where
    unset-at : (i : ℕ) → marks_at marks i ≡ 0
    unset-at i = ap (λ (u : List Bool). marks_at u i) new ∙ no-marks (length history) i

    long : length marks ≡ length history
    long = ap length new ∙ length-replicate (length history) false

    pub refused : marked history marks rs ≡ None → AreEntries history rs → ⊥
    refused failed are = can-be-marked marks rs long failed are.named (λ i. elim (cases_lt i (length history)) [
      | inl lt ↦ (let one = are.once i lt in let none = unset-at i in omega arith)
      | inr le ↦ (let one = none-past rs i le are.named in let none = unset-at i in omega arith)
    ])

    pub told : (after : List Bool) (all : Bool) → marked history marks rs ≡ Some after → list_all (λ b. b) after ≡ all → MatchBool all (AreEntries history rs) (AreEntries history rs → ⊥)
    told after true ended all =
        let has = has-marked marks after rs ended in
        record {
          named = has.named;
          once = λ i lt.
              let one = all-marked after i (let s = has.size in let l = long in omega arith) all in
              let counted = has.counted i in
              let none = unset-at i in
              omega arith;
        }
    told after false ended all = λ are.
        let has = has-marked marks after rs ended in
        let each = each-marked after (λ i lt.
        let one = are.once i (let s = has.size in let l = long in omega arith) in
        let counted = has.counted i in
        let none = unset-at i in
        omega arith) in
        true≢false (sym each ∙ all)

  -- ---- several logs

  next-step : (o : Option (List Bool)) (rs qs : List Receipt) → ((u : List Bool) → marked history u (rs ++ qs) ≡ option_and_then (λ v. marked history v qs) (marked history u rs))
      → option_and_then (λ u. marked history u (rs ++ qs)) o ≡ option_and_then (λ v. marked history v qs) (option_and_then (λ u. marked history u rs) o)
  next-step None rs qs each = refl
  next-step (Some u) rs qs each = each u

  marked-append : (marks : List Bool) (rs qs : List Receipt) → marked history marks (rs ++ qs) ≡ option_and_then (λ v. marked history v qs) (marked history marks rs)
  marked-append marks [] qs = refl
  marked-append marks (r ∷ rs) qs = next-step (mark history marks r) rs qs (λ u. marked-append u rs qs)

  pub next-log : (marks : List Bool) (logs : List (List Receipt)) (i : ℕ) (log : List Receipt) → i < length logs → log ≡ get_or logs i log
      → marked history marks (receipts_of (drop i logs)) ≡ option_and_then (λ v. marked history v (receipts_of (drop (i + 1) logs))) (marked history marks log)
  next-log marks logs i log lt at =
      let first : drop i logs ≡ log ∷ drop (i + 1) logs = grind (arith, common_steps) in
      ap (λ ls. marked history marks (receipts_of ls)) first ∙ marked-append marks log (receipts_of (drop (i + 1) logs))
