-- Run-length encoded lists, item by item.
use Rattle.std.specs.Prelude.{ℕ, zero, suc, Bool, true, ◌&&◌, List, [], ◌∷◌}
use Rattle.hep_machine.specs.Words.{Repeated}

-- an item repeated n times, before others
abbrev pub repeat_before : {A : Type 0} → ℕ → A → List A → List A
repeat_before zero x xs = xs
repeat_before (suc n) x xs = x ∷ repeat_before n x xs

-- the list with each item repeated
abbrev pub spread : {A : Type 0} → List (Repeated A) → List A
spread [] = []
spread (r ∷ rs) = repeat_before r.count r.item (spread rs)

-- whether the items at each index that both lists have pass the test
abbrev pub agree_as_far : {A B : Type 0} → (A → B → Bool) → List A → List B → Bool
agree_as_far test [] ys = true
agree_as_far test (x ∷ xs) [] = true
agree_as_far test (x ∷ xs) (y ∷ ys) = test x y && agree_as_far test xs ys
