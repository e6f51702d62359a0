-- A statement's text, character by character.
use Rattle.std.proofs.Common.{◌≡◌, ℕ, zero, suc, ◌+◌, ◌-◌, ◌<◌, ◌≤◌, List, [], ◌∷◌, ◌++◌, get_or, drop, Option, Some, None, refl, sym, ap, ◌∙◌, arith, add-one, append_assoc}
use Rattle.std.specs.Prelude.{map}
use Rattle.std.proofs.lemmas.List.{append-nil}
use Rattle.hep_text.specs.declared.statement.Span.{Span}
use Rattle.hep_text.specs.Constant.{Character, kept_character, next, text_from, scanner_after, with_kept}
use Rattle.hep_text.specs.Progress.{Started, longer}
use Rattle.hep_text.specs.Reading.{columns, character}

abbrev bytes : List Character → List ℕ
bytes xs = map (λ x. x.byte) xs

abbrev spans : List Character → List Span
spans xs = map (λ x. x.span) xs

bytes_share : (o : Option ℕ) (s : Span) (t : List ℕ) (xs : List Character) → t ++ bytes (with_kept o s xs) ≡ (t ++ bytes (with_kept o s [])) ++ bytes xs
bytes_share None s t xs = ap (λ (w : List ℕ). w ++ bytes xs) (sym (append-nil t))
bytes_share (Some c) s t xs = sym (append_assoc t (c ∷ []) (bytes xs))

spans_share : (o : Option ℕ) (s : Span) (t : List Span) (xs : List Character) → t ++ spans (with_kept o s xs) ≡ (t ++ spans (with_kept o s [])) ++ spans xs
spans_share None s t xs = ap (λ (w : List Span). w ++ spans xs) (sym (append-nil t))
spans_share (Some c) s t xs = sym (append_assoc t (s ∷ []) (spans xs))

-- one character, and those after it
pub longer_one : (p : Started) (x : Character) (xs : List Character) → longer p (x ∷ xs) ≡ longer (longer p (x ∷ [])) xs
longer_one p x xs =
    let t = bytes_share (kept_character p.scanner x.byte) x.span p.text (text_from (next p.scanner x.byte) xs) in
    let s = spans_share (kept_character p.scanner x.byte) x.span p.spans (text_from (next p.scanner x.byte) xs) in
    λ i. record { line = p.line; label = p.label; continued = p.continued; text = t i; spans = s i; scanner = scanner_after (next p.scanner x.byte) xs }

pub longer_none : (p : Started) → longer p [] ≡ p
longer_none p =
    let t = append-nil p.text in
    let s = append-nil p.spans in
    λ i. record { line = p.line; label = p.label; continued = p.continued; text = t i; spans = s i; scanner = p.scanner }

pub longer_twice : (p : Started) (xs ys : List Character) → longer p (xs ++ ys) ≡ longer (longer p xs) ys
longer_twice p [] ys = ap (λ (q : Started). longer q ys) (sym (longer_none p))
longer_twice p (x ∷ xs) ys =
    longer_one p x (xs ++ ys) ∙ longer_twice (longer p (x ∷ [])) xs ys ∙ ap (λ (q : Started). longer q ys) (sym (longer_one p x xs))

front_of : (i : ℕ) (b : List ℕ) → get_or (drop i b) 0 32 ≡ get_or b i 32
front_of zero b = refl
front_of (suc i) [] = refl
front_of (suc i) (c ∷ b) = front_of i b

after_of : (i : ℕ) (b : List ℕ) → drop 1 (drop i b) ≡ drop (suc i) b
after_of zero b = refl
after_of (suc i) [] = refl
after_of (suc i) (c ∷ b) = after_of i b

column_of : (m i n : ℕ) (b : List ℕ) → columns (suc m) n (i + 7) (drop i b) ≡ character (get_or b i 32) n (i + 7) ∷ columns m n (i + 1 + 7) (drop (i + 1) b)
unfolding columns
column_of m i n b =
    let next : i + 7 + 1 ≡ i + 1 + 7 = omega arith in
    rw (front_of, after_of, next, add-one) refl

-- one column more
pub one_column : (p q : Started) (i n : ℕ) (b : List ℕ) (whole : Started) → i < 66 → q ≡ longer p (character (get_or b i 32) n (i + 7) ∷ []) → longer p (columns (66 - i) n (i + 7) (drop i b)) ≡ whole → longer q (columns (66 - (i + 1)) n (i + 1 + 7) (drop (i + 1) b)) ≡ whole
one_column p q i n b whole h e so_far =
    let m : 66 - i ≡ suc (66 - (i + 1)) = omega arith in
    let c = ap (λ (k : ℕ). longer p (columns k n (i + 7) (drop i b))) m ∙ ap (longer p) (column_of (66 - (i + 1)) i n b) ∙ longer_one p (character (get_or b i 32) n (i + 7)) (columns (66 - (i + 1)) n (i + 1 + 7) (drop (i + 1) b)) in
    ap (λ (r : Started). longer r (columns (66 - (i + 1)) n (i + 1 + 7) (drop (i + 1) b))) e ∙ sym c ∙ so_far

no_columns : (k n j : ℕ) (b : List ℕ) → k ≡ 0 → columns k n j b ≡ []
unfolding columns
no_columns zero n j b h = refl
no_columns (suc k) n j b h = absurd (omega arith)

-- all of them
pub all_columns : (p : Started) (i n : ℕ) (b : List ℕ) (whole : Started) → 66 ≤ i → longer p (columns (66 - i) n (i + 7) (drop i b)) ≡ whole → p ≡ whole
all_columns p i n b whole h so_far =
    sym (longer_none p) ∙ ap (longer p) (sym (no_columns (66 - i) n (i + 7) (drop i b) (omega arith))) ∙ so_far
