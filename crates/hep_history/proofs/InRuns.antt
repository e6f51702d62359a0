-- Runs of entries that get one more, and where an entry stands.
use Rattle.std.proofs.Common.{◌≡◌, ℕ, zero, suc, ◌+◌, ◌-◌, ◌<◌, ◌≤◌, List, [], ◌∷◌, ◌++◌, Some, None, length, length-append, replicate, take, drop, get_or, refl, sym, ap, ◌∙◌, subst, arith, slice_get, append_assoc}
use Rattle.std.proofs.lemmas.List.{append-nil, get_or-replicate, length-replicate, replicate-append-replicate, take_all, take_more}
use Rattle.std.proofs.lemmas.Option.{get_or_from_slice_get, slice_get-get_or, slice_get_past, slice_get_within}
use Rattle.std.proofs.Math.Seq.{drop-cons}
use Rattle.std.proofs.lemmas.List.Concat.{flat_map-append}
use Rattle.hep_machine.specs.declared.event.Entry.{Entry}
use Rattle.hep_history.specs.declared.run.Run.{Run}
use Rattle.hep_history.specs.declared.run.ShortRun.{ShortRun}
use Rattle.hep_history.specs.Runs.{AreFilled, AreRising, end_of_shorts, entries_of, entry_of, run_of_short, runs_in, runs_of_shorts}
use Rattle.hep_machine.proofs.Others.{front_kept}
use Rattle.hep_source.proofs.Tests.{get-second}

pub runs_of_shorts-push : (from : ℕ) (shorts : List ShortRun) (s : ShortRun)
    → runs_of_shorts from (shorts ++ s ∷ []) ≡ runs_of_shorts from shorts ++ run_of_short (end_of_shorts from shorts) s ∷ []
runs_of_shorts-push from [] s = refl
runs_of_shorts-push from (short ∷ shorts) s = ap (λ rs. run_of_short from short ∷ rs) (runs_of_shorts-push short.end shorts s)

pub AreRising-push : (from : ℕ) (shorts : List ShortRun) (s : ShortRun) → AreRising from shorts → end_of_shorts from shorts < s.end → AreRising from (shorts ++ s ∷ [])
AreRising-push from [] s rising above = (above, tt)
AreRising-push from (short ∷ shorts) s rising above = (rising.0, AreRising-push short.end shorts s rising.1 above)

pub AreFilled-push : (runs : List Run) (r : Run) → AreFilled runs → 0 < r.count → AreFilled (runs ++ r ∷ [])
AreFilled-push [] r filled some = (some, tt)
AreFilled-push (run ∷ runs) r filled some = (filled.0, AreFilled-push runs r filled.1 some)

-- runs in eight bytes have as many entries as there are up to their end
pub shorts_length : (from : ℕ) (shorts : List ShortRun) → AreRising from shorts → from + length (entries_of (runs_of_shorts from shorts)) ≡ end_of_shorts from shorts
shorts_length from [] rising = omega arith
shorts_length from (short ∷ shorts) rising =
    let run : Run = run_of_short from short in
    let begins : from < short.end = rising.0 in
    omega (arith, shorts_length short.end shorts rising.1, length-append (replicate run.count (entry_of run)) (entries_of (runs_of_shorts short.end shorts)), length-replicate run.count (entry_of run))

-- and so where the last one ends there are as many as all
pub short_end : (shorts : List ShortRun) (longs : List Run) (closed : ℕ) → longs ≡ [] → AreRising 0 shorts → closed ≡ length (entries_of (runs_in shorts longs)) → closed ≡ end_of_shorts 0 shorts
short_end shorts longs closed none rising counted =
    let alone : runs_in shorts longs ≡ runs_of_shorts 0 shorts = ap (λ ls. runs_of_shorts 0 shorts ++ ls) none ∙ append-nil (runs_of_shorts 0 shorts) in
    omega (arith, counted, ap (λ rs. length (entries_of rs)) alone, shorts_length 0 shorts rising)

-- a run in eight bytes behind the others, where there are no longer ones
pub close_short : (shorts : List ShortRun) (longs : List Run) (closed : ℕ) (run : Run) (s : ShortRun)
    → longs ≡ [] → AreRising 0 shorts → closed ≡ length (entries_of (runs_in shorts longs)) → run_of_short closed s ≡ run
    → runs_in (shorts ++ s ∷ []) longs ≡ runs_in shorts longs ++ run ∷ []
close_short shorts longs closed run s none rising counted same =
    let ends : closed ≡ end_of_shorts 0 shorts = short_end shorts longs closed none rising counted in
    let here : run_of_short (end_of_shorts 0 shorts) s ≡ run = subst (λ n. run_of_short n s ≡ run) ends same in
    ap (λ ls. runs_of_shorts 0 (shorts ++ s ∷ []) ++ ls) none
    ∙ append-nil (runs_of_shorts 0 (shorts ++ s ∷ []))
    ∙ runs_of_shorts-push 0 shorts s
    ∙ ap (λ r. runs_of_shorts 0 shorts ++ r ∷ []) here
    ∙ sym (ap (λ ls. (runs_of_shorts 0 shorts ++ ls) ++ run ∷ []) none ∙ ap (λ rs. rs ++ run ∷ []) (append-nil (runs_of_shorts 0 shorts)))

-- a run behind the others
pub entries-push : (runs : List Run) (run : Run) → entries_of (runs ++ run ∷ []) ≡ entries_of runs ++ replicate run.count (entry_of run)
entries-push runs run =
    flat_map-append (λ (r : Run). replicate r.count (entry_of r)) runs (run ∷ [])
    ∙ ap (λ es. entries_of runs ++ es) (append-nil (replicate run.count (entry_of run)))

pub entries-in : (shorts : List ShortRun) (longs : List Run) → entries_of (runs_in shorts longs) ≡ entries_of (runs_of_shorts 0 shorts) ++ entries_of longs
entries-in shorts longs = flat_map-append (λ (r : Run). replicate r.count (entry_of r)) (runs_of_shorts 0 shorts) longs

-- the last run gets more entries
pub run_grows : (runs : List Run) (run more : Run) (n : ℕ) → entry_of more ≡ entry_of run → more.count ≡ run.count + n
    → entries_of (runs ++ more ∷ []) ≡ entries_of (runs ++ run ∷ []) ++ replicate n (entry_of run)
run_grows runs run more n same count =
    entries-push runs more
    ∙ ap (λ es. entries_of runs ++ es) (ap (λ e. replicate more.count e) same ∙ ap (λ k. replicate k (entry_of run)) count ∙ sym (replicate-append-replicate run.count n (entry_of run)))
    ∙ sym (append_assoc (entries_of runs) (replicate run.count (entry_of run)) (replicate n (entry_of run)))
    ∙ ap (λ es. es ++ replicate n (entry_of run)) (sym (entries-push runs run))

abbrev pub no_short : ShortRun
no_short = record { who = 0; end = 0 }

-- in a run, and behind it
pub run_has : (n k : ℕ) (e : Entry) (es : List Entry) → k < n → slice_get (replicate n e ++ es) k ≡ Some e
run_has n k e es lt =
    front_kept (replicate n e) es k (omega (arith, length-replicate n e, lt))
    ∙ slice_get-get_or (replicate n e) k e (omega (arith, length-replicate n e, lt))
    ∙ ap (λ x. Some x) (get_or-replicate n k e e lt)

pub run_past : (n k j : ℕ) (e : Entry) (es : List Entry) → k ≡ n + j → slice_get (replicate n e ++ es) k ≡ slice_get es j
run_past n k j e es is = get-second (replicate n e) es k j (omega (arith, length-replicate n e, is))

-- where some first entries of a run are left out, or all of it and some behind it
pub drop_within : (n k : ℕ) (e : Entry) (es : List Entry) → k ≤ n → drop k (replicate n e ++ es) ≡ replicate (n - k) e ++ es
drop_within n zero e es le = let same : n ≡ n - 0 = omega arith in ap (λ i. replicate i e ++ es) same
drop_within zero (suc k) e es le = absurd (omega (arith, le))
drop_within (suc n) (suc k) e es le =
    let same : n - k ≡ suc n - suc k = omega arith in
    drop_within n k e es (omega (arith, le)) ∙ ap (λ i. replicate i e ++ es) same

pub drop_past : (n k : ℕ) (e : Entry) (es : List Entry) → n ≤ k → drop k (replicate n e ++ es) ≡ drop (k - n) es
drop_past zero k e es le = let same : k ≡ k - 0 = omega arith in ap (λ i. drop i es) same
drop_past (suc n) zero e es le = absurd (omega (arith, le))
drop_past (suc n) (suc k) e es le =
    let same : k - n ≡ suc k - suc n = omega arith in
    drop_past n k e es (omega (arith, le)) ∙ ap (λ i. drop i es) same

pub end_of_shorts-push : (from : ℕ) (shorts : List ShortRun) (s : ShortRun) → end_of_shorts from (shorts ++ s ∷ []) ≡ s.end
end_of_shorts-push from [] s = refl
end_of_shorts-push from (short ∷ shorts) s = end_of_shorts-push short.end shorts s

pub end_of_shorts-take : (from k : ℕ) (shorts : List ShortRun) → k < length shorts → end_of_shorts from (take (k + 1) shorts) ≡ (get_or shorts k no_short).end
end_of_shorts-take from k shorts lt =
    ap (λ ss. end_of_shorts from ss) (take_more shorts k no_short lt) ∙ end_of_shorts-push from (take k shorts) (get_or shorts k no_short)

pub end_above : (from k : ℕ) (shorts : List ShortRun) → AreRising from shorts → from ≤ end_of_shorts from (take k shorts)
end_above from zero shorts rising = omega arith
end_above from (suc k) [] rising = omega arith
end_above from (suc k) (short ∷ shorts) rising = omega (arith, end_above short.end k shorts rising.1, rising.0)

-- an entry that isn't before the end of the runs before this one, and before its end
pub short_here : (from j k : ℕ) (shorts : List ShortRun) → AreRising from shorts → k < length shorts → end_of_shorts from (take k shorts) ≤ from + j → from + j < (get_or shorts k no_short).end
    → slice_get (entries_of (runs_of_shorts from shorts)) j ≡ Some (entry_of (run_of_short 0 (get_or shorts k no_short)))
short_here from j k [] rising lt before here = absurd (omega arith)
short_here from j zero (short ∷ shorts) rising lt before here =
    run_has (short.end - from) j (entry_of (run_of_short 0 short)) (entries_of (runs_of_shorts short.end shorts)) (omega (arith, here))
short_here from j (suc k) (short ∷ shorts) rising lt before here =
    let above : short.end ≤ end_of_shorts short.end (take k shorts) = end_above short.end k shorts rising.1 in
    let begins : from < short.end = rising.0 in
    let past : short.end ≤ from + j = omega (arith, before) in
    let rest : ℕ = j - (short.end - from) in
    let sum : short.end + rest ≡ from + j = omega arith in
    run_past (short.end - from) j rest (entry_of (run_of_short 0 short)) (entries_of (runs_of_shorts short.end shorts)) (omega arith)
    ∙ short_here short.end rest k shorts rising.1 (omega (arith, lt)) (omega (arith, before, sum)) (omega (arith, here, sum))

-- the last entry is that of the last run
pub last_entry : (runs : List Run) (run : Run) → 0 < run.count → slice_get (entries_of (runs ++ run ∷ [])) (length (entries_of (runs ++ run ∷ [])) - 1) ≡ Some (entry_of run)
last_entry runs run some =
    let all = entries-push runs run in
    let place : length (entries_of (runs ++ run ∷ [])) - 1 ≡ length (entries_of runs) + (run.count - 1) =
    omega (arith, ap (λ es. length es) all, length-append (entries_of runs) (replicate run.count (entry_of run)), length-replicate run.count (entry_of run)) in
    ap (λ k. slice_get (entries_of (runs ++ run ∷ [])) k) place
    ∙ ap (λ es. slice_get es (length (entries_of runs) + (run.count - 1))) all
    ∙ get-second (entries_of runs) (replicate run.count (entry_of run)) (length (entries_of runs) + (run.count - 1)) (run.count - 1) refl
    ∙ ap (λ es. slice_get es (run.count - 1)) (sym (append-nil (replicate run.count (entry_of run))))
    ∙ run_has run.count (run.count - 1) (entry_of run) [] (omega arith)

pub end_of_last : (shorts : List ShortRun) (s : ShortRun) → Some s ≡ slice_get shorts (length shorts - 1) → s.end ≡ end_of_shorts 0 shorts
end_of_last shorts s is =
    let k : ℕ = length shorts - 1 in
    let within : k < length shorts = slice_get_within shorts k s (sym is) in
    let found : get_or shorts k no_short ≡ s = get_or_from_slice_get shorts k s no_short (sym is) in
    let whole : take (k + 1) shorts ≡ shorts = take_all (k + 1) shorts (omega arith) in
    sym (ap (λ ss. end_of_shorts 0 ss) (sym whole) ∙ end_of_shorts-take 0 k shorts within ∙ ap (λ (x : ShortRun). x.end) found)

-- where a search by halves ends
pub short_found : (shorts : List ShortRun) (index low high : ℕ) → AreRising 0 shorts → high ≡ low → low < length shorts → end_of_shorts 0 (take low shorts) ≤ index
    → (high < length shorts → index < (get_or shorts high no_short).end)
    → slice_get (entries_of (runs_of_shorts 0 shorts)) index ≡ Some (entry_of (run_of_short 0 (get_or shorts low no_short)))
short_found shorts index low high rising same lt before here =
    let ends : index < (get_or shorts low no_short).end = subst (λ h. h < length shorts → index < (get_or shorts h no_short).end) same here lt in
    short_here 0 index low shorts rising lt (omega (arith, before)) (omega (arith, ends))

pub short_none : (shorts : List ShortRun) (index low : ℕ) → AreRising 0 shorts → length shorts ≤ low → end_of_shorts 0 (take low shorts) ≤ index
    → slice_get (entries_of (runs_of_shorts 0 shorts)) index ≡ None
short_none shorts index low rising past before =
    let whole : end_of_shorts 0 (take low shorts) ≡ end_of_shorts 0 shorts = ap (λ ss. end_of_shorts 0 ss) (take_all low shorts past) in
    slice_get_past (entries_of (runs_of_shorts 0 shorts)) index (omega (arith, before, whole, shorts_length 0 shorts rising))

abbrev pub no_run : Run
no_run = record { process = 0; steps = 0; count = 0 }

pub drop_next : (longs : List Run) (i : ℕ) → i < length longs → drop i longs ≡ get_or longs i no_run ∷ drop (i + 1) longs
drop_next longs i lt = let next : suc i ≡ i + 1 = omega arith in drop-cons longs i no_run lt ∙ ap (λ k. get_or longs i no_run ∷ drop k longs) next

-- in the first of the runs that are left, and behind it
pub long_here : (longs : List Run) (i k : ℕ) → i < length longs → k < (get_or longs i no_run).count → slice_get (entries_of (drop i longs)) k ≡ Some (entry_of (get_or longs i no_run))
long_here longs i k lt here =
    let run : Run = get_or longs i no_run in
    ap (λ rs. slice_get (entries_of rs) k) (drop_next longs i lt) ∙ run_has run.count k (entry_of run) (entries_of (drop (i + 1) longs)) here

pub long_past : (longs : List Run) (i k : ℕ) → i < length longs → (get_or longs i no_run).count ≤ k
    → slice_get (entries_of (drop i longs)) k ≡ slice_get (entries_of (drop (i + 1) longs)) (k - (get_or longs i no_run).count)
long_past longs i k lt past =
    let run : Run = get_or longs i no_run in
    ap (λ rs. slice_get (entries_of rs) k) (drop_next longs i lt)
    ∙ run_past run.count k (k - run.count) (entry_of run) (entries_of (drop (i + 1) longs)) (omega (arith, past))

-- the entry of a history that is in a run in eight bytes, in another, or in the last
pub in_shorts : (shorts : List ShortRun) (longs : List Run) (run : Run) (i : ℕ) → AreRising 0 shorts → i < end_of_shorts 0 shorts
    → slice_get (entries_of (runs_in shorts longs ++ run ∷ [])) i ≡ slice_get (entries_of (runs_of_shorts 0 shorts)) i
in_shorts shorts longs run i rising lt =
    let S : List Entry = entries_of (runs_of_shorts 0 shorts) in
    let few : i < length S = omega (arith, lt, shorts_length 0 shorts rising) in
    ap (λ es. slice_get es i) (entries-push (runs_in shorts longs) run)
    ∙ ap (λ es. slice_get (es ++ replicate run.count (entry_of run)) i) (entries-in shorts longs)
    ∙ front_kept (S ++ entries_of longs) (replicate run.count (entry_of run)) i (omega (arith, few, length-append S (entries_of longs)))
    ∙ front_kept S (entries_of longs) i few

pub in_longs : (shorts : List ShortRun) (longs : List Run) (run : Run) (i j : ℕ) → AreRising 0 shorts → i ≡ end_of_shorts 0 shorts + j → i < length (entries_of (runs_in shorts longs))
    → slice_get (entries_of (runs_in shorts longs ++ run ∷ [])) i ≡ slice_get (entries_of longs) j
in_longs shorts longs run i j rising is lt =
    let S : List Entry = entries_of (runs_of_shorts 0 shorts) in
    ap (λ es. slice_get es i) (entries-push (runs_in shorts longs) run)
    ∙ front_kept (entries_of (runs_in shorts longs)) (replicate run.count (entry_of run)) i lt
    ∙ ap (λ es. slice_get es i) (entries-in shorts longs)
    ∙ get-second S (entries_of longs) i j (omega (arith, is, shorts_length 0 shorts rising))

pub in_last : (runs : List Run) (run : Run) (i j : ℕ) → i ≡ length (entries_of runs) + j → slice_get (entries_of (runs ++ run ∷ [])) i ≡ slice_get (replicate run.count (entry_of run)) j
in_last runs run i j is = ap (λ es. slice_get es i) (entries-push runs run) ∙ get-second (entries_of runs) (replicate run.count (entry_of run)) i j is

pub last_here : (run : Run) (j : ℕ) → j < run.count → slice_get (replicate run.count (entry_of run)) j ≡ Some (entry_of run)
last_here run j lt = ap (λ es. slice_get es j) (sym (append-nil (replicate run.count (entry_of run)))) ∙ run_has run.count j (entry_of run) [] lt

pub last_past : (run : Run) (j : ℕ) → run.count ≤ j → slice_get (replicate run.count (entry_of run)) j ≡ None
last_past run j past = slice_get_past (replicate run.count (entry_of run)) j (omega (arith, past, length-replicate run.count (entry_of run)))

-- no run is empty
pub AreFilled-append : (runs others : List Run) → AreFilled runs → AreFilled others → AreFilled (runs ++ others)
AreFilled-append [] others filled more = more
AreFilled-append (run ∷ runs) others filled more = (filled.0, AreFilled-append runs others filled.1 more)

pub shorts_filled : (from : ℕ) (shorts : List ShortRun) → AreRising from shorts → AreFilled (runs_of_shorts from shorts)
shorts_filled from [] rising = tt
shorts_filled from (short ∷ shorts) rising = (omega (arith, rising.0), shorts_filled short.end shorts rising.1)

-- ---- the last one of the runs is taken

pub AreRising-left : (from : ℕ) (shorts : List ShortRun) (s : ShortRun) → AreRising from (shorts ++ s ∷ []) → AreRising from shorts × (end_of_shorts from shorts < s.end)
AreRising-left from [] s rising = (tt, rising.0)
AreRising-left from (short ∷ shorts) s rising = let rest = AreRising-left short.end shorts s rising.1 in ((rising.0, rest.0), rest.1)

pub AreFilled-left : (runs : List Run) (r : Run) → AreFilled (runs ++ r ∷ []) → AreFilled runs × (0 < r.count)
AreFilled-left [] r filled = (tt, filled.0)
AreFilled-left (run ∷ runs) r filled = let rest = AreFilled-left runs r filled.1 in ((filled.0, rest.0), rest.1)

-- one in eight bytes, where there are no longer ones
pub open_short : (shorts left : List ShortRun) (longs : List Run) (s : ShortRun) → shorts ≡ left ++ s ∷ [] → longs ≡ []
    → runs_in shorts longs ≡ runs_in left longs ++ run_of_short (end_of_shorts 0 left) s ∷ []
open_short shorts left longs s all none =
    let alone : (ss : List ShortRun) → runs_in ss longs ≡ runs_of_shorts 0 ss = λ ss. ap (λ ls. runs_of_shorts 0 ss ++ ls) none ∙ append-nil (runs_of_shorts 0 ss) in
    alone shorts
    ∙ ap (λ ss. runs_of_shorts 0 ss) all
    ∙ runs_of_shorts-push 0 left s
    ∙ ap (λ rs. rs ++ run_of_short (end_of_shorts 0 left) s ∷ []) (sym (alone left))
