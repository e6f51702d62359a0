-- Sums of cells, as loops add them up.
use Rattle.std.proofs.Common.{◌≡◌, ℕ, ◌+◌, ◌*◌, ◌≤◌, List, [], ◌∷◌, length, drop, ap, sym, ◌∙◌, arith, Bool, true, false, cond, if◌then◌else◌}
use Rattle.std.proofs.lemmas.List.{drop_all}
use Rattle.std.specs.List.{filter}
use Rattle.hep_machine.specs.Words.{dummies_of, names_of_occurrences, Name, Occurrence, Statement, cells_of, cells_of_all, adjustable_dimensions, locals_of, is_do, do_statements, adjustable_dimensions_of_all, frame_cells}
use Rattle.hep_source.proofs.Statements.{names-length}

-- one term more
next-sum : (sum n term rest all whole : ℕ) → sum + all ≡ whole → n ≡ term → all ≡ term + rest → (sum + n) + rest ≡ whole
next-sum sum n term rest all whole h e d = omega (arith, h, e, d)

pub cells-turn : (unit : List Statement) (sum n whole : ℕ) (x : Name) (xs ys : List Name) → sum + cells_of_all unit xs ≡ whole → n ≡ cells_of unit x → xs ≡ x ∷ ys
    → (sum + n) + cells_of_all unit ys ≡ whole
cells-turn unit sum n whole x xs ys h e d = next-sum sum n (cells_of unit x) (cells_of_all unit ys) (cells_of_all unit xs) whole h e (ap (cells_of_all unit) d)

abbrev pub adjustable_of : List Statement → List Occurrence → ℕ
adjustable_of unit ps = adjustable_dimensions_of_all unit (names_of_occurrences ps)

pub adjustable-turn : (unit : List Statement) (sum n whole : ℕ) (p : Occurrence) (ps qs : List Occurrence) → sum + adjustable_of unit ps ≡ whole → n ≡ adjustable_dimensions unit p.name → ps ≡ p ∷ qs
    → (sum + n) + adjustable_of unit qs ≡ whole
adjustable-turn unit sum n whole p ps qs h e d = next-sum sum n (adjustable_dimensions unit p.name) (adjustable_of unit qs) (adjustable_of unit ps) whole h e (ap (adjustable_of unit) d)

-- a DO counts one
loops-counted : (s : Statement) (ss : List Statement) → do_statements (s ∷ ss) ≡ (if is_do s.form then 1 else 0) + do_statements ss
loops-counted s ss = by (is_do s.form)
  where
    by : (t : Bool) → length (cond t (s ∷ filter (λ (r : Statement). is_do r.form) ss) (filter (λ (r : Statement). is_do r.form) ss)) ≡ (if t then 1 else 0) + do_statements ss
    by true = omega arith
    by false = omega arith

pub loops-turn : (sum n whole : ℕ) (s : Statement) (ss ts : List Statement) → sum + do_statements ss ≡ whole → n ≡ (if is_do s.form then 1 else 0) → ss ≡ s ∷ ts
    → (sum + n) + do_statements ts ≡ whole
loops-turn sum n whole s ss ts h e d =
    next-sum sum n (if is_do s.form then 1 else 0) (do_statements ts) (do_statements ss) whole h e (ap do_statements d ∙ loops-counted s ts)

pub at-most-one : (n : ℕ) (t : Bool) → n ≡ (if t then 1 else 0) → n ≤ 1
at-most-one n true e = omega (arith, e)
at-most-one n false e = omega (arith, e)

-- a sum of which no term is left
pub nothing-left : {A : Type 0} (sum : ℕ) (total : List A → ℕ) (xs : List A) (i : ℕ) → length xs ≤ i → sum + total (drop i xs) ≡ total xs → total [] ≡ 0 → sum ≡ total xs
nothing-left sum total xs i k h z =
    let e : total (drop i xs) ≡ 0 = ap total (drop_all i xs k) ∙ z in
    omega (arith, h, e)

pub dummies-counted : (unit : List Statement) (ps : List Occurrence) → names_of_occurrences ps ≡ dummies_of unit → length ps ≡ length (dummies_of unit)
dummies-counted unit ps e = sym (names-length ps) ∙ ap length e

-- a frame from its parts
pub frame : (unit : List Statement) (dummies locals loops dimensions : ℕ) → dummies ≡ length (dummies_of unit) → locals ≡ cells_of_all unit (locals_of unit)
    → loops ≡ do_statements unit → dimensions ≡ adjustable_dimensions_of_all unit (dummies_of unit)
    → 1 + (2 * dummies + (locals + (2 * loops + 2 * dimensions))) ≡ frame_cells unit
frame unit dummies locals loops dimensions d l k a = λ i. 1 + (2 * d i + (l i + (2 * k i + 2 * a i)))
