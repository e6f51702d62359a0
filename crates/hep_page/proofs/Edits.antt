-- An edit leads from the lines of which it was made to the others.
use Rattle.std.proofs.Common.{◌≡◌, ℕ, zero, suc, Bool, true, false, Some, None, List, [], ◌∷◌, ◌++◌, take, drop, length, map, reverse, refl, sym, ap, ◌∙◌, if◌then◌else◌}
use Rattle.std.specs.Prelude.{◌-◌}
use Rattle.std.proofs.lemmas.List.{take-append-drop, reverse-append, reverse-reverse, length-drop, length-map, length-reverse, take-map, drop-map}
use Rattle.std.proofs.lemmas.Slice.Eq.{bytes_eq-Decides}
use Rattle.std.proofs.Math.Seq.{drop-append_seam, take-append_seam, take-length}
use Rattle.std.specs.List.{concat}
use Rattle.std.specs.Str.{bytes_eq}
use Rattle.hep_page.specs.Edits.{edit_after, edit_between, edit_of, edited, edits_along, last_state, lines_in, same_end, same_front, text_after, text_after_all, without_last}
use Rattle.hep_page.proofs.Joined.{lines-join}

-- where the first lines are the same or not, as the test says
fronts-by : (x y : List ℕ) (xs ys : List (List ℕ)) (b : Bool) → bytes_eq x y ≡ b → take (same_front xs ys) xs ≡ take (same_front xs ys) ys
    → take (if b then suc (same_front xs ys) else 0) (x ∷ xs) ≡ take (if b then suc (same_front xs ys) else 0) (y ∷ ys)
fronts-by x y xs ys true is rest = ap (λ z. z ∷ take (same_front xs ys) xs) ((bytes_eq-Decides x y).0 is) ∙ ap (λ zs. y ∷ zs) rest
fronts-by x y xs ys false is rest = refl

-- the lines at the front that are counted as the same are the same
fronts-same : (xs ys : List (List ℕ)) → take (same_front xs ys) xs ≡ take (same_front xs ys) ys
fronts-same [] [] = refl
fronts-same [] (y ∷ ys) = refl
fronts-same (x ∷ xs) [] = refl
fronts-same (x ∷ xs) (y ∷ ys) = fronts-by x y xs ys (bytes_eq x y) refl (fronts-same xs ys)

-- the last n lines
abbrev last : ℕ → List (List ℕ) → List (List ℕ)
last n xs = reverse (take n (reverse xs))

-- all lines but the last n, and the last n
ends-join : (n : ℕ) (xs : List (List ℕ)) → without_last n xs ++ last n xs ≡ xs
ends-join n xs = sym (reverse-append (take n (reverse xs)) (drop n (reverse xs))) ∙ ap reverse (take-append-drop n (reverse xs))
    ∙ reverse-reverse xs

-- what follows all lines but the last n
ends-drop : (n : ℕ) (xs : List (List ℕ)) → drop (length (without_last n xs)) xs ≡ last n xs
ends-drop n xs = ap (drop (length (without_last n xs))) (sym (ends-join n xs)) ∙ drop-append_seam (without_last n xs) (last n xs)

-- how many lines are left without the last n
without-length : (n : ℕ) (xs : List (List ℕ)) → length (without_last n xs) ≡ length xs - n
without-length n xs = length-reverse (drop n (reverse xs)) ∙ length-drop n (reverse xs) ∙ ap (λ (k : ℕ). k - n) (length-reverse xs)

-- and which ones
without-takes : (n : ℕ) (xs : List (List ℕ)) → without_last n xs ≡ take (length xs - n) xs
without-takes n xs =
    sym (take-append_seam (without_last n xs) (last n xs)) ∙ ap (take (length (without_last n xs))) (ends-join n xs)
    ∙ ap (λ (k : ℕ). take k xs) (without-length n xs)

-- the edit of lines by how many are the same at both ends
pub edit-parts : {X : Type 0} (f : X → List ℕ) (old new : List X) (front end : ℕ) → front ≡ same_front (map f old) (map f new)
    → end ≡ same_end (map f (drop front old)) (map f (drop front new))
    → record { stay = front; go = length (drop front old) - end; come = map f (take (length (drop front new) - end) (drop front new)) }
    ≡ edit_of (map f old) (map f new)
edit-parts f old new front end a b =
    ap (λ (n : ℕ). record { stay = front; go = n; come = map f (take (length (drop front new) - end) (drop front new)) })
    (ap (λ (n : ℕ). n - end) (sym (length-map (drop front old) f)) ∙ sym (without-length end (map f (drop front old))))
    ∙ ap (λ (ys : List (List ℕ)). record { stay = front; go = length (without_last end (map f (drop front old))); come = ys })
    (sym (take-map f (length (drop front new) - end) (drop front new))
    ∙ ap (λ (n : ℕ). take (n - end) (map f (drop front new))) (sym (length-map (drop front new) f))
    ∙ sym (without-takes end (map f (drop front new))))
    ∙ ap (λ (n : ℕ). record { stay = front; go = length (without_last n (map f (drop front old))); come = without_last n (map f (drop front new)) })
    b
    ∙ ap (λ (xs : List (List ℕ)). edit_after front xs (map f (drop front new))) (sym (drop-map f front old))
    ∙ ap (λ (ys : List (List ℕ)). edit_after front (drop front (map f old)) ys) (sym (drop-map f front new))
    ∙ ap (λ (n : ℕ). edit_after n (drop n (map f old)) (drop n (map f new))) a

-- the lines that come, and then those that stay at the end, are the new lines
ends-same : (xs ys : List (List ℕ)) → without_last (same_end xs ys) ys ++ drop (length (without_last (same_end xs ys) xs)) xs ≡ ys
ends-same xs ys =
    let n = same_end xs ys in
    ap (λ zs. without_last n ys ++ zs) (ends-drop n xs ∙ ap reverse (fronts-same (reverse xs) (reverse ys))) ∙ ends-join n ys

-- the edit from lines to others leads from those to these
pub edited-same : (old new : List (List ℕ)) → edited (edit_of old new) old ≡ new
edited-same old new =
    let n = same_front old new in
    ap (λ zs. take n old ++ zs) (ends-same (drop n old) (drop n new)) ∙ ap (λ zs. zs ++ drop n new) (fronts-same old new)
    ∙ take-append-drop n new

-- where two texts are the same or not, as the test says
after-by : (old new : List ℕ) (b : Bool) → bytes_eq old new ≡ b
    → text_after (if b then None else Some (edit_of (lines_in old) (lines_in new))) old ≡ new
after-by old new true is = (bytes_eq-Decides old new).0 is
after-by old new false is = ap concat (edited-same (lines_in old) (lines_in new)) ∙ lines-join new

-- the edit from a text to another one leads from the one to the other
pub after-same : (old new : List ℕ) → text_after (edit_between old new) old ≡ new
after-same old new = after-by old new (bytes_eq old new) refl

-- the part of a slice from an index on
pub from-index : {X : Type 0} (xs : List X) (n : ℕ) → take (length xs - n) (drop n xs) ≡ drop n xs
from-index xs n = ap (λ (k : ℕ). take k (drop n xs)) (sym (length-drop n xs)) ∙ take-length (drop n xs)

-- the first k edits along states lead from the text of the first state to that of the state k steps later
pub edits-lead : {X : Type 0} (text : X → List ℕ) (k : ℕ) (x : X) (ys : List X)
    → text_after_all (take k (edits_along text x ys)) (text x) ≡ text (last_state x (take k ys))
edits-lead text zero x ys = refl
edits-lead text (suc k) x [] = refl
edits-lead text (suc k) x (y ∷ ys) = ap (text_after_all (take k (edits_along text y ys))) (after-same (text x) (text y)) ∙ edits-lead text k y ys
