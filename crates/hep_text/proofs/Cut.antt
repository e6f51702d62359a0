-- Cutting a text into lines.
use Rattle.std.proofs.Common.{◌≡◌, ℕ, zero, suc, ◌+◌, ◌<◌, ◌≤◌, true, false, List, [], ◌∷◌, length, take, drop, get_or, refl, sym, ap, ◌∙◌, arith, add-one}
use Rattle.std.specs.Prelude.{nat_eq, ◌-◌, ◌&&◌}
use Rattle.std.proofs.Math.Seq.{take-length, drop-length}
use Rattle.std.proofs.lemmas.List.{length-drop, take_all, drop_all}
use Rattle.std.specs.List.{onto_first}
use Rattle.hep_text.specs.Line.{lines}
use Rattle.std.proofs.lemmas.Bool.{and_parts}

-- bytes in front of the first of some lines
abbrev pub with_bytes : List ℕ → List (List ℕ) → List (List ℕ)
with_bytes [] ls = ls
with_bytes (c ∷ cs) ls = onto_first c (with_bytes cs ls)

step : (s : List ℕ) (i : ℕ) → i < length s → nat_eq (get_or s i 0) 10 ≡ false → (nat_eq (get_or s i 0) 13 && nat_eq (get_or s (suc i) 32) 10) ≡ false → with_bytes (take i s) (lines (drop i s)) ≡ with_bytes (take (suc i) s) (lines (drop (suc i) s))
step [] i h e f = absurd (omega arith)
step (c ∷ s) zero h e f = rw (e, f) refl
step (c ∷ s) (suc i) h e f = ap (onto_first c) (step s i (omega arith) e f)

pub goes_on : (s : List ℕ) (i : ℕ) → i < length s → nat_eq (get_or s i 0) 10 ≡ false → (nat_eq (get_or s i 0) 13 && nat_eq (get_or s (i + 1) 32) 10) ≡ false → lines s ≡ with_bytes (take i s) (lines (drop i s)) → lines s ≡ with_bytes (take (i + 1) s) (lines (drop (i + 1) s))
goes_on s i h e f so_far = let g = rw add-one at f in rw add-one (so_far ∙ step s i h e g)

-- what `&s[n..]` is
rest_is : (s : List ℕ) (n : ℕ) → take (length s - n) (drop n s) ≡ drop n s
rest_is s n = ap (λ (k : ℕ). take k (drop n s)) (sym (length-drop n s)) ∙ take-length (drop n s)

at_feed : (s : List ℕ) (i : ℕ) → i < length s → nat_eq (get_or s i 0) 10 ≡ true → with_bytes (take i s) (lines (drop i s)) ≡ take i s ∷ lines (drop (suc i) s)
at_feed [] i h e = absurd (omega arith)
at_feed (c ∷ s) zero h e = rw e refl
at_feed (c ∷ s) (suc i) h e = ap (onto_first c) (at_feed s i (omega arith) e)

pub ends : (s : List ℕ) (i : ℕ) → i < length s → nat_eq (get_or s i 0) 10 ≡ true → lines s ≡ with_bytes (take i s) (lines (drop i s)) → lines s ≡ take i s ∷ lines (take (length s - (i + 1)) (drop (i + 1) s))
ends s i h e so_far = rw rest_is (rw add-one (so_far ∙ at_feed s i h e))

after_return : (c : ℕ) (s : List ℕ) → nat_eq c 10 ≡ false → nat_eq c 13 ≡ true → nat_eq (get_or s 0 32) 10 ≡ true → lines (c ∷ s) ≡ [] ∷ lines (drop 1 s)
after_return c [] e f g = absurd (cc (g))
after_return c (d ∷ s) e f g = rw (e, f, g) refl

at_return : (s : List ℕ) (i : ℕ) → i < length s → nat_eq (get_or s i 0) 10 ≡ false → nat_eq (get_or s i 0) 13 ≡ true → nat_eq (get_or s (suc i) 32) 10 ≡ true → with_bytes (take i s) (lines (drop i s)) ≡ take i s ∷ lines (drop (suc (suc i)) s)
at_return [] i h e f g = absurd (omega arith)
at_return (c ∷ s) zero h e f g = after_return c s e f g
at_return (c ∷ s) (suc i) h e f g = ap (onto_first c) (at_return s i (omega arith) e f g)

pub ends_at_return : (s : List ℕ) (i : ℕ) → i < length s → nat_eq (get_or s i 0) 10 ≡ false → (nat_eq (get_or s i 0) 13 && nat_eq (get_or s (i + 1) 32) 10) ≡ true → lines s ≡ with_bytes (take i s) (lines (drop i s)) → lines s ≡ take i s ∷ lines (take (length s - (i + 2)) (drop (i + 2) s))
ends_at_return s i h e f so_far =
    let g : (nat_eq (get_or s i 0) 13 ≡ true) × (nat_eq (get_or s (suc i) 32) 10 ≡ true) = and_parts _ _ (rw add-one at f) in
    let two : i + 2 ≡ suc (suc i) = omega arith in
    rw rest_is (rw two (so_far ∙ at_return s i h e g.0 g.1))

whole : (c : ℕ) (s : List ℕ) → with_bytes (c ∷ s) [] ≡ (c ∷ s) ∷ []
whole c [] = refl
whole c (d ∷ s) = ap (onto_first c) (whole d s)

pub is_last : (s : List ℕ) (i : ℕ) → 0 < length s → length s ≤ i → lines s ≡ with_bytes (take i s) (lines (drop i s)) → lines s ≡ s ∷ lines (take (length s - length s) (drop (length s) s))
is_last [] i h le so_far = absurd (omega arith)
is_last (c ∷ s) i h le so_far =
    let all : with_bytes (take i (c ∷ s)) (lines (drop i (c ∷ s))) ≡ (c ∷ s) ∷ [] = ap (λ (w : List ℕ). with_bytes w (lines (drop i (c ∷ s)))) (take_all i (c ∷ s) le) ∙ ap (λ (w : List ℕ). with_bytes (c ∷ s) (lines w)) (drop_all i (c ∷ s) le) ∙ whole c s in
    let rest : take (length (c ∷ s) - length (c ∷ s)) (drop (length (c ∷ s)) (c ∷ s)) ≡ [] = rest_is (c ∷ s) (length (c ∷ s)) ∙ drop-length (c ∷ s) in
    so_far ∙ all ∙ ap (λ (w : List ℕ). (c ∷ s) ∷ lines w) (sym rest)
