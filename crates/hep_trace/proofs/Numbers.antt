-- Processes that wait, by their numbers, one after the other.
use Rattle.std.proofs.Common.{◌≡◌, ℕ, ◌-◌, Bool, true, false, List, [], ◌∷◌, length, refl, ap, ◌∙◌, if◌then◌else◌, nat_eq, not, ◌&&◌}
use Rattle.std.specs.List.{filter}
use Rattle.hep_core.specs.CoreValues.{CoreValue}
use Rattle.hep_machine.specs.Words.{is_number_among, progress_after}
use Rattle.hep_event.specs.Traces.{numbers_from, woken}
use Rattle.hep_trace.specs.WokenProcesses.{listed_numbers}

-- ---- what a test leaves of a list

-- both tests of two
filter-both : (first second third : ℕ → Bool) (xs : List ℕ) → filter (λ q. second q && third q) (filter first xs) ≡ filter (λ q. (first q && second q) && third q) xs
filter-both first second third [] = refl
filter-both first second third (x ∷ xs) = by (first x) (filter-both first second third xs) where
  by : (t : Bool) → filter (λ q. second q && third q) (filter first xs) ≡ filter (λ q. (first q && second q) && third q) xs
      → filter (λ q. second q && third q) (if t then x ∷ filter first xs else filter first xs)
      ≡ (if (t && second x) && third x then x ∷ filter (λ q. (first q && second q) && third q) xs else filter (λ q. (first q && second q) && third q) xs)
  by true rest = ap (λ ys. if second x && third x then x ∷ ys else ys) rest
  by false rest = rest

pub filter-both-of-two : (first second : ℕ → Bool) (xs : List ℕ) → filter second (filter first xs) ≡ filter (λ q. first q && second q) xs
filter-both-of-two first second [] = refl
filter-both-of-two first second (x ∷ xs) = by (first x) (filter-both-of-two first second xs) where
  by : (t : Bool) → filter second (filter first xs) ≡ filter (λ q. first q && second q) xs
      → filter second (if t then x ∷ filter first xs else filter first xs)
      ≡ (if t && second x then x ∷ filter (λ q. first q && second q) xs else filter (λ q. first q && second q) xs)
  by true rest = ap (λ ys. if second x then x ∷ ys else ys) rest
  by false rest = rest

-- ---- those that a turn has woken

pub woken-are : (p : ℕ) (old new : CoreValue) (waiting : List ℕ) → waiting ≡ listed_numbers old
    → filter (λ q. not (is_number_among q (progress_after new.program new.history).listed) && not (nat_eq p q)) waiting
    ≡ woken p (progress_after old.program old.history) (progress_after new.program new.history)
woken-are p old new waiting is =
    let x = progress_after old.program old.history in
    let y = progress_after new.program new.history in
    ap (filter (λ q. not (is_number_among q y.listed) && not (nat_eq p q))) is
    ∙ filter-both (λ q. is_number_among q x.listed) (λ q. not (is_number_among q y.listed)) (λ q. not (nat_eq p q)) (numbers_from 1 (length x.state.processes))
