-- Turns in a row, turns of entries, and the processes of turns.
use Rattle.std.proofs.Common.{◌≡◌, ℕ, zero, suc, ◌+◌, ◌-◌, ◌<◌, ◌≤◌, Bool, true, false, List, [], ◌∷◌, ◌++◌, length, replicate, refl, sym, ap, ◌∙◌, arith, append_assoc}
use Rattle.std.proofs.lemmas.List.{map-append}
use Rattle.hep_history.specs.declared.run.Run.{Run}
use Rattle.hep_history.specs.Runs.{entry_of}
use Rattle.hep_machine.specs.declared.event.Entry.{Entry}
use Rattle.hep_machine.specs.Words.{schedule_of}
use Rattle.hep_fold.specs.declared.turn_row.TurnRow.{TurnRow}
use Rattle.hep_fold.specs.Observers.{later_row, row_turns}
use Rattle.hep_fold.specs.Turns.{next_number, number_after, processes, turns_from, turns_in_row, turns_of}

-- ---- the numbers of entries

-- no turn later
number-here : (apart : Bool) (number : ℕ) → number ≡ number_after apart number 0
number-here true number = omega arith
number-here false number = refl

-- some turns after the next one
number-next : (apart : Bool) (number m : ℕ) → number_after apart (next_number apart number) m ≡ number_after apart number (suc m)
number-next true number m = omega arith
number-next false number m = refl

-- some turns later, and then more
number-later : (apart : Bool) (number m n : ℕ) → number_after apart (number_after apart number m) n ≡ number_after apart number (m + n)
number-later true number m n = omega arith
number-later false number m n = refl

-- ---- turns in a row

-- the first ones, and those after them
pub row-split : (apart : Bool) (m n number p : ℕ) → m ≤ n
    → turns_in_row apart number p n ≡ turns_in_row apart number p m ++ turns_in_row apart (number_after apart number m) p (n - m)
row-split apart zero n number p few =
    let all : n ≡ n - 0 = omega arith in
    (λ i. turns_in_row apart (number-here apart number i) p (all i))
row-split apart (suc m) zero number p few = absurd (omega (arith, few))
row-split apart (suc m) (suc n) number p few =
    let next = next_number apart number in
    let left : n - m ≡ suc n - suc m = omega arith in
    ap (λ ts. (number, p) ∷ ts) (
    row-split apart m n next p (omega (arith, few))
    ∙ (λ i. turns_in_row apart next p m ++ turns_in_row apart (number-next apart number m i) p (left i)))

-- none was made
pub row-whole : (row : TurnRow) → row_turns row ≡ row_turns (later_row row 0)
row-whole row =
    let count : row.count ≡ row.count - 0 = omega arith in
    (λ i. turns_in_row row.apart (number-here row.apart row.entry i) row.process (count i))

-- some were made, and more of them
pub row-further : (row : TurnRow) (made more : ℕ) → row_turns (later_row (later_row row made) more) ≡ row_turns (later_row row (made + more))
row-further row made more =
    let count : row.count - made - more ≡ row.count - (made + more) = omega arith in
    (λ i. turns_in_row row.apart (number-later row.apart row.entry made more i) row.process (count i))

-- those of one entry
pub row-alike : (n number p : ℕ) → turns_in_row false number p n ≡ replicate n (number, p)
row-alike zero number p = refl
row-alike (suc n) number p = ap (λ ts. (number, p) ∷ ts) (row-alike n number p)

-- ---- turns of entries

-- of entries of one step each
pub row-of : (n number : ℕ) (e : Entry) → e.steps ≡ 1 → turns_from number (replicate n e) ≡ turns_in_row true number e.process n
row-of zero number e one = refl
row-of (suc n) number e one = (λ i. replicate (one i) (number, e.process) ++ row-of n (suc number) e one i)

-- of a run of them
pub row-of-run : (run : Run) (number : ℕ) → run.steps ≡ 1
    → turns_from number (replicate run.count (entry_of run)) ≡ turns_in_row true number run.process run.count
row-of-run run number one = row-of run.count number (entry_of run) one

-- of equal entries, none of which was made
pub run-whole : (n number : ℕ) (e : Entry) → turns_from number (replicate n e) ≡ turns_from (number + 0) (replicate (n - 0) e)
run-whole n number e =
    let at : number ≡ number + 0 = omega arith in
    let count : n ≡ n - 0 = omega arith in
    (λ i. turns_from (at i) (replicate (count i) e))

-- of the next one of them, and of those after it
pub run-next : (n i number : ℕ) (e x : Entry) (left : List (ℕ × ℕ)) → i < n → x ≡ e
    → turns_from (number + i) (replicate (n - i) e) ++ left
    ≡ turns_of (number + i) x ++ (turns_from (number + (i + 1)) (replicate (n - (i + 1)) e) ++ left)
run-next n i number e x left less is =
    let count : n - i ≡ suc (n - (i + 1)) = omega (arith, less) in
    let at : suc (number + i) ≡ number + (i + 1) = omega arith in
    ap (λ k. turns_from (number + i) (replicate k e) ++ left) count
    ∙ append_assoc (turns_of (number + i) e) (turns_from (suc (number + i)) (replicate (n - (i + 1)) e)) left
    ∙ (λ j. turns_of (number + i) (sym is j) ++ (turns_from (at j) (replicate (n - (i + 1)) e) ++ left))

-- of entries, and of those after them
pub turns-append : (es fs : List Entry) (number : ℕ)
    → turns_from number (es ++ fs) ≡ turns_from number es ++ turns_from (number + length es) fs
turns-append [] fs number = let at : number ≡ number + 0 = omega arith in ap (λ k. turns_from k fs) at
turns-append (e ∷ es) fs number =
    let at : suc number + length es ≡ number + length (e ∷ es) = omega arith in
    ap (λ ts. turns_of number e ++ ts) (turns-append es fs (suc number) ∙ ap (λ k. turns_from (suc number) es ++ turns_from k fs) at)
    ∙ sym (append_assoc (turns_of number e) (turns_from (suc number) es) (turns_from (number + length (e ∷ es)) fs))

-- ---- the processes of turns

-- of turns, and of those after them
pub processes-append : (ts us : List (ℕ × ℕ)) → processes (ts ++ us) ≡ processes ts ++ processes us
processes-append ts us = map-append (λ (t : ℕ × ℕ). t.1) ts us

-- of n turns of one entry
processes-alike : (n k p : ℕ) → processes (replicate n (k, p)) ≡ replicate n p
processes-alike zero k p = refl
processes-alike (suc n) k p = ap (λ ps. p ∷ ps) (processes-alike n k p)

-- of the entries of a history
pub processes-all : (k : ℕ) (es : List Entry) → processes (turns_from k es) ≡ schedule_of es
unfolding schedule_of
processes-all k [] = refl
processes-all k (e ∷ es) =
    processes-append (replicate e.steps (k, e.process)) (turns_from (suc k) es)
    ∙ (λ i. processes-alike e.steps k e.process i ++ processes-all (suc k) es i)

-- of a row
pub row-processes : (apart : Bool) (n number p : ℕ) → processes (turns_in_row apart number p n) ≡ replicate n p
row-processes apart zero number p = refl
row-processes apart (suc n) number p = ap (λ ps. p ∷ ps) (row-processes apart n (next_number apart number) p)

-- ---- the turns of more entries

-- n entries of one step
schedule-ones : (p n : ℕ) → schedule_of (replicate n (record { process = p; steps = 1 })) ≡ replicate n p
unfolding schedule_of
schedule-ones p zero = refl
schedule-ones p (suc n) = ap (λ ps. p ∷ ps) (schedule-ones p n)

-- and those after others
pub schedule-many : (es : List Entry) (p n : ℕ)
    → schedule_of (es ++ replicate n (record { process = p; steps = 1 })) ≡ schedule_of es ++ replicate n p
unfolding schedule_of
schedule-many [] p n = schedule-ones p n
schedule-many (e ∷ es) p n =
    ap (λ ps. replicate e.steps e.process ++ ps) (schedule-many es p n)
    ∙ sym (append_assoc (replicate e.steps e.process) (schedule_of es) (replicate n p))
