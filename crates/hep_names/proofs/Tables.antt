-- What tables of names hold, as the lists that contracts see.
use Rattle.std.proofs.Common.{◌≡◌, Bool, true, false, cond, if◌then◌else◌, Some, None, is_some, List, [], ◌∷◌, ◌++◌, reverse, refl, ap, sym, ◌∙◌}
use Rattle.std.specs.List.{list_any}
use Rattle.std.proofs.lemmas.List.{reverse-append}
use Rattle.std.specs.Map.{lookup}
use Rattle.hep_machine.specs.Words.{Name, same_name, is_among, Value, Constants, value_among, name_eq}
use Rattle.hep_source.proofs.NameTests.{name_eq-is, same_name-turned, among-is}
use Rattle.indexmap.specs.IndexMap.{insert_entry}
use Rattle.indexmap.proofs.MapLemmas.{insert_entry-absent, absent_from_lookup}

-- the value that a table gets
pub value-found : (x : Name) (es : Constants) → lookup (name_eq x) es ≡ value_among es x
value-found x [] = refl
value-found x (e ∷ es) = ap (λ b. cond b (Some e.1) (lookup (name_eq x) es)) (name_eq-is x e.0 ∙ same_name-turned x e.0) ∙ by (same_name e.0 x) (value-found x es)
  where
    by : (b : Bool) → lookup (name_eq x) es ≡ value_among es x → cond b (Some e.1) (lookup (name_eq x) es) ≡ (if b then Some e.1 else value_among es x)
    by true h = refl
    by false h = h

-- ---- names, the last one first

among-append : (x : Name) (xs ys : List Name) → is_among x (xs ++ ys) ≡ (if is_among x xs then true else is_among x ys)
among-append x [] ys = refl
among-append x (y ∷ xs) ys = by (same_name x y) (among-append x xs ys)
  where
    by : (b : Bool) → is_among x (xs ++ ys) ≡ (if is_among x xs then true else is_among x ys)
        → (if b then true else is_among x (xs ++ ys)) ≡ (if (if b then true else is_among x xs) then true else is_among x ys)
    by true h = refl
    by false h = h

among-reversed : (x : Name) (xs : List Name) → is_among x (reverse xs) ≡ is_among x xs
among-reversed x [] = refl
among-reversed x (y ∷ xs) =
    ap (is_among x) (reverse-append (y ∷ []) xs)
    ∙ (among-append x (reverse xs) (y ∷ [])
    ∙ (ap (λ b. if b then true else is_among x (y ∷ [])) (among-reversed x xs) ∙ by (same_name x y) (is_among x xs)))
  where
    by : (a b : Bool) → (if b then true else (if a then true else false)) ≡ (if a then true else b)
    by true true = refl
    by true false = refl
    by false true = refl
    by false false = refl

pub among-found : (x : Name) (xs : List Name) → list_any (name_eq x) xs ≡ is_among x (reverse xs)
among-found x xs = among-is x xs ∙ sym (among-reversed x xs)

pub last-first : (x : Name) (xs : List Name) → reverse (if list_any (name_eq x) xs then xs else xs ++ x ∷ []) ≡ (if is_among x (reverse xs) then reverse xs else x ∷ reverse xs)
last-first x xs = ap (λ b. reverse (if b then xs else xs ++ x ∷ [])) (among-found x xs) ∙ by (is_among x (reverse xs))
  where
    by : (b : Bool) → reverse (if b then xs else xs ++ x ∷ []) ≡ (if b then reverse xs else x ∷ reverse xs)
    by true = refl
    by false = reverse-append xs (x ∷ [])

-- ---- names that get a value

pub given-last : (x : Name) (v : Value) (es : Constants) → lookup (name_eq x) es ≡ None → insert_entry name_eq es x v ≡ (if is_some (value_among es x) then es else es ++ (x, v) ∷ [])
given-last x v es h =
    insert_entry-absent name_eq x v es (absent_from_lookup (name_eq x) es h)
    ∙ ap (λ o. if is_some o then es else es ++ (x, v) ∷ []) (sym h ∙ value-found x es)

pub given-before : (x : Name) (v : Value) (es : Constants) → is_some (lookup (name_eq x) es) ≡ true → es ≡ (if is_some (value_among es x) then es else es ++ (x, v) ∷ [])
given-before x v es h = ap (λ b. if b then es else es ++ (x, v) ∷ []) (sym h ∙ ap is_some (value-found x es))
