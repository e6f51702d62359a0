-- Names: X3.9-1978, 2.2.
use Rattle.std.specs.Prelude.{ℕ, suc, Bool, true, false, not, ◌&&◌, nat_eq, if◌then◌else◌, List, [], ◌∷◌, ◌++◌, Option, Some, None}
use Rattle.std.specs.Option.{option_map}
use Rattle.std.specs.Cmp.Lexicographic.{pointwise}
use mathlib.Core.Bool.{beq}
use Rattle.hep_source.specs.declared.name.Name.{Name}

abbrev pub same_logical : Bool → Bool → Bool
same_logical true b = b
same_logical false b = not b

abbrev pub same_letters : List ℕ → List ℕ → Bool
same_letters [] [] = true
same_letters [] (d ∷ ds) = false
same_letters (c ∷ cs) [] = false
same_letters (c ∷ cs) (d ∷ ds) = nat_eq c d && same_letters cs ds

-- whether two names have the same letters, and both or neither have `$`
abbrev pub same_name : Name → Name → Bool
same_name x y = same_logical x.asynchronous y.asynchronous && same_letters x.letters y.letters

-- the same test as the code's `==` computes it; tables look names up by it
abbrev pub name_eq : Name → Name → Bool
name_eq x y = beq x.asynchronous y.asynchronous && pointwise nat_eq x.letters y.letters

-- the letters without the blanks
abbrev pub letters_of : List ℕ → List ℕ
letters_of [] = []
letters_of (c ∷ cs) = if nat_eq c 32 then letters_of cs else c ∷ letters_of cs

-- a name as it is written
abbrev pub spelling : Name → List ℕ
spelling x = (if x.asynchronous then 36 ∷ [] else []) ++ letters_of x.letters

-- a common block as it is written between slashes; blank COMMON has no name: 8.3
abbrev pub block_spelling : Option Name → List ℕ
block_spelling None = []
block_spelling (Some x) = spelling x

-- ---- lists of names: docs/MACHINE.md, "Variables and frames"

abbrev pub is_among : Name → List Name → Bool
is_among x [] = false
is_among x (y ∷ ys) = if same_name x y then true else is_among x ys

-- the index of the first element of a list that passes a test; none where no element does
abbrev pub index_where : {A : Type 0} → (A → Bool) → List A → Option ℕ
index_where test [] = None
index_where test (x ∷ xs) = if test x then Some 0 else option_map suc (index_where test xs)

abbrev pub index_among : Name → List Name → Option ℕ
index_among x xs = index_where (same_name x) xs

-- the names with one more at the end, unless it is among them
abbrev pub with_name : List Name → Name → List Name
with_name xs x = if is_among x xs then xs else xs ++ x ∷ []

abbrev pub with_names : List Name → List Name → List Name
with_names xs [] = xs
with_names xs (y ∷ ys) = with_names (with_name xs y) ys
