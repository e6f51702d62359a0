-- Cutting a text into lines, each with its line feed.
use Rattle.std.proofs.Common.{◌≡◌, ℕ, zero, suc, ◌+◌, ◌<◌, ◌≤◌, true, false, Bool, List, [], ◌∷◌, length, take, drop, get_or, refl, sym, ap, ◌∙◌, arith, add-one, if◌then◌else◌}
use Rattle.std.proofs.Math.Seq.{take-length, drop-length}
use Rattle.std.proofs.lemmas.List.{take_all, drop_all}
use Rattle.std.specs.Prelude.{nat_eq}
use Rattle.std.specs.List.{concat, onto_first}
use Rattle.hep_page.specs.Edits.{lines_in}

-- a byte in front of the first of some lines
onto-joins : (c : ℕ) (ls : List (List ℕ)) → concat (onto_first c ls) ≡ c ∷ concat ls
onto-joins c [] = refl
onto-joins c (l ∷ ls) = refl

-- a line feed ends a line, and another byte doesn't
line-joins : (c : ℕ) (ls : List (List ℕ)) (b : Bool) → concat (if b then (c ∷ []) ∷ ls else onto_first c ls) ≡ c ∷ concat ls
line-joins c ls true = refl
line-joins c ls false = onto-joins c ls

-- the lines of a text, one after the other, are the text
pub lines-join : (text : List ℕ) → concat (lines_in text) ≡ text
lines-join [] = refl
lines-join (c ∷ s) = line-joins c (lines_in s) (nat_eq c 10) ∙ ap (λ t. c ∷ t) (lines-join s)

-- bytes in front of the first of some lines
abbrev pub with_bytes : List ℕ → List (List ℕ) → List (List ℕ)
with_bytes [] ls = ls
with_bytes (c ∷ cs) ls = onto_first c (with_bytes cs ls)

-- a byte that is no line feed goes on with the line
step : (s : List ℕ) (i : ℕ) → i < length s → nat_eq (get_or s i 0) 10 ≡ false
    → with_bytes (take i s) (lines_in (drop i s)) ≡ with_bytes (take (suc i) s) (lines_in (drop (suc i) s))
step [] i h e = absurd (omega arith)
step (c ∷ s) zero h e = rw e refl
step (c ∷ s) (suc i) h e = ap (onto_first c) (step s i (omega arith) e)

-- the line goes on with the byte at i
pub goes_on : (s : List ℕ) (i : ℕ) → i < length s → nat_eq (get_or s i 0) 10 ≡ false
    → lines_in s ≡ with_bytes (take i s) (lines_in (drop i s))
    → lines_in s ≡ with_bytes (take (i + 1) s) (lines_in (drop (i + 1) s))
goes_on s i h e so_far = rw add-one (so_far ∙ step s i h e)

-- the line before a line feed at i, with it
at-feed : (s : List ℕ) (i : ℕ) → i < length s → nat_eq (get_or s i 0) 10 ≡ true
    → with_bytes (take i s) (lines_in (drop i s)) ≡ take (suc i) s ∷ lines_in (drop (suc i) s)
at-feed [] i h e = absurd (omega arith)
at-feed (c ∷ s) zero h e = rw e refl
at-feed (c ∷ s) (suc i) h e = ap (onto_first c) (at-feed s i (omega arith) e)

-- the line ends with the line feed at i
pub ends : (s : List ℕ) (i : ℕ) → i < length s → nat_eq (get_or s i 0) 10 ≡ true → lines_in s ≡ with_bytes (take i s) (lines_in (drop i s))
    → lines_in s ≡ take (i + 1) s ∷ lines_in (drop (i + 1) s)
ends s i h e so_far = rw add-one (so_far ∙ at-feed s i h e)

-- bytes in front of no lines are one line
one-line : (s : List ℕ) → 0 < length s → with_bytes s [] ≡ s ∷ []
one-line [] h = absurd (omega arith)
one-line (c ∷ []) h = refl
one-line (c ∷ d ∷ s) h = ap (onto_first c) (one-line (d ∷ s) (omega arith))

-- a text without a line feed is one line
pub is_last : (s : List ℕ) (i : ℕ) → 0 < length s → length s ≤ i → lines_in s ≡ with_bytes (take i s) (lines_in (drop i s))
    → lines_in s ≡ take (length s) s ∷ lines_in (drop (length s) s)
is_last [] i h le so_far = absurd (omega arith)
is_last (c ∷ s) i h le so_far =
    so_far ∙ ap (λ (w : List ℕ). with_bytes w (lines_in (drop i (c ∷ s)))) (take_all i (c ∷ s) le)
    ∙ ap (λ (w : List ℕ). with_bytes (c ∷ s) (lines_in w)) (drop_all i (c ∷ s) le) ∙ one-line (c ∷ s) h
    ∙ sym (ap (λ (w : List ℕ). w ∷ lines_in (drop (length (c ∷ s)) (c ∷ s))) (take-length (c ∷ s))
    ∙ ap (λ (w : List ℕ). (c ∷ s) ∷ lines_in w) (drop-length (c ∷ s)))
