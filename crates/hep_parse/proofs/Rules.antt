-- The search for `=` in a text.
use Rattle.std.proofs.Common.{◌≡◌, ℕ, suc, ◌+◌, ◌≤◌, ◌<◌, Bool, true, false, List, ◌∷◌, length, drop, get_or, sym, ap, ◌∙◌, arith, drop-cons, nat_eq, ◌&&◌, not, if◌then◌else◌}
use Rattle.hep_parse.specs.declared.rule.Scan.{Scan}
use Rattle.hep_parse.specs.Rules.{after_character, scanned}

-- the first of the characters that are left
split : (i : ℕ) (s : List ℕ) → i < length s → drop i s ≡ get_or s i 0 ∷ drop (i + 1) s
split i s lt =
    let next : suc i ≡ i + 1 = omega arith in
    drop-cons s i 0 lt ∙ ap (λ (k : ℕ). get_or s i 0 ∷ drop k s) next

pub scan_goes_on : (x whole : Scan) (i : ℕ) (s : List ℕ) → i < length s → scanned x (drop i s) ≡ whole → scanned (after_character x (get_or s i 0)) (drop (i + 1) s) ≡ whole
scan_goes_on x whole i s lt so_far = sym (ap (scanned x) (split i s lt)) ∙ so_far

one_more : (b : Bool) (n : ℕ) → (if b then suc n else n) ≤ n + 1
one_more true n = omega arith
one_more false n = omega arith

pub opened_more : (x : Scan) (c : ℕ) → (after_character x c).opened ≤ x.opened + 1
opened_more x c = one_more (nat_eq c 40 && not x.quoted) x.opened

pub closed_more : (x : Scan) (c : ℕ) → (after_character x c).closed ≤ x.closed + 1
closed_more x c = one_more (nat_eq c 41 && not x.quoted) x.closed
