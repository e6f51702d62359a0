-- The number of a label, digit by digit.
use Rattle.std.proofs.Common.{◌≡◌, ℕ, zero, suc, ◌+◌, ◌-◌, ◌*◌, ◌<◌, ◌≤◌, Bool, true, false, cond, List, [], ◌∷◌, ◌++◌, length, get_or, take, Some, refl, ap, ◌∙◌, arith, add-one}
use Rattle.std.specs.Prelude.{unwrap_or, if◌then◌else◌}
use Rattle.std.specs.List.{filter}
use Rattle.std.proofs.Math.Seq.{take-suc}
use Rattle.std.proofs.lemmas.List.{append-nil}
use Rattle.std.proofs.lemmas.List.Elements.{filter-append}
use Rattle.std.proofs.lemmas.List.Sums.{fold-append}
use Rattle.hep_text.specs.Line.{is_digit, label_of, label}

-- one more than the largest number that so many digits write
abbrev pub limit : ℕ → ℕ
limit zero = 1
limit (suc k) = 10 * limit k

-- five digits come to less than a hundred thousand
pub limit_five : (k : ℕ) → k < 5 → 10 * limit k ≤ 100000
limit_five zero h = omega arith
limit_five (suc zero) h = omega arith
limit_five (suc (suc zero)) h = omega arith
limit_five (suc (suc (suc zero))) h = omega arith
limit_five (suc (suc (suc (suc zero)))) h = omega arith
limit_five (suc (suc (suc (suc (suc k))))) h = absurd (omega arith)

label_push : (ds : List ℕ) (d : ℕ) → label_of (ds ++ d ∷ []) ≡ Some (10 * unwrap_or (label_of ds) 0 + (d - 48))
label_push [] d = refl
label_push (e ∷ ds) d = ap Some (fold-append (λ (n c : ℕ). 10 * n + (c - 48)) 0 (e ∷ ds) (d ∷ []))

filter_one : (b : Bool) (ds : List ℕ) (d : ℕ) → label_of (ds ++ cond b (d ∷ []) []) ≡ cond b (Some (10 * unwrap_or (label_of ds) 0 + (d - 48))) (label_of ds)
filter_one true ds d = label_push ds d
filter_one false ds d = ap label_of (append-nil ds)

-- the label with one more column
pub label_more : (s : List ℕ) (i : ℕ) → i < length s → label (take (i + 1) s) ≡ (if is_digit (get_or s i 0) then Some (10 * unwrap_or (label (take i s)) 0 + (get_or s i 0 - 48)) else label (take i s))
label_more s i h =
    let d = get_or s i 0 in
    let front : take (i + 1) s ≡ take i s ++ d ∷ [] = rw add-one (take-suc s i 0 h) in
    ap label front ∙ ap label_of (filter-append is_digit (take i s) (d ∷ [])) ∙ filter_one (is_digit d) (filter is_digit (take i s)) d
