-- Tests of names, and lists that they make.
use Rattle.std.proofs.Common.{if◌then◌else◌, ◌≡◌, ℕ, zero, suc, Option, Some, None, is_some, Bool, true, false, List, [], ◌∷◌, ◌++◌, refl, ap, sym, ◌∙◌}
use Rattle.std.proofs.lemmas.Bool.{and_parts, eqb-true, eq-eqb}
use Rattle.std.specs.Prelude.{◌&&◌, ◌||◌, nat_eq}
use Rattle.std.specs.List.{list_any}
use Rattle.std.specs.Option.{option_map}
use mathlib.Core.Bool.{beq}
use lib.Pointwise.{pointwise}
use Rattle.hep_source.specs.declared.name.Name.{Name}
use Rattle.hep_source.specs.Names.{index_among, name_eq, same_logical, same_name, same_letters, is_among, with_name, with_names}
use Rattle.hep_source.proofs.Tests.{some-mapped}

-- ---- names are the same where they are equal

pub equal_logicals : (a b : Bool) → same_logical a b ≡ true → a ≡ b
equal_logicals true true e = refl
equal_logicals true false e = absurd cc
equal_logicals false true e = absurd cc
equal_logicals false false e = refl

equal_letters : (cs ds : List ℕ) → same_letters cs ds ≡ true → cs ≡ ds
equal_letters [] [] e = refl
equal_letters [] (d ∷ ds) e = absurd cc
equal_letters (c ∷ cs) [] e = absurd cc
equal_letters (c ∷ cs) (d ∷ ds) e =
    let h = and_parts (nat_eq c d) (same_letters cs ds) e in
    ap (λ x. x ∷ cs) (eqb-true c d h.0) ∙ ap (λ xs. d ∷ xs) (equal_letters cs ds h.1)

pub equal_names : (x y : Name) → same_name x y ≡ true → x ≡ y
equal_names x y e =
    let h = and_parts (same_logical x.asynchronous y.asynchronous) (same_letters x.letters y.letters) e in
    let t = equal_logicals x.asynchronous y.asynchronous h.0 in
    let l = equal_letters x.letters y.letters h.1 in
    λ i. record { asynchronous = t i; letters = l i }

-- same_logical finds a truth value equal to itself
pub same_logical-self : (a : Bool) → same_logical a a ≡ true
same_logical-self true = refl
same_logical-self false = refl

same_letters-self : (cs : List ℕ) → same_letters cs cs ≡ true
same_letters-self [] = refl
same_letters-self (c ∷ cs) = rw (eq-eqb c c refl) (same_letters-self cs)

pub same_name-self : (x : Name) → same_name x x ≡ true
same_name-self x = rw (same_logical-self x.asynchronous) (same_letters-self x.letters)

-- names are compared in either order
pub same_name-turned : (x y : Name) → same_name x y ≡ same_name y x
same_name-turned x y = by (same_name x y) (same_name y x) refl refl
  where
    by : (a b : Bool) → same_name x y ≡ a → same_name y x ≡ b → a ≡ b
    by true true p q = refl
    by false false p q = refl
    by true false p q = sym (same_name-self x) ∙ (ap (λ z. same_name z x) (equal_names x y p) ∙ q)
    by false true p q = sym p ∙ (ap (same_name x) (equal_names y x q) ∙ same_name-self x)

-- ---- the test that a table of names makes is the definitions' test

logicals : (a b : Bool) → beq a b ≡ same_logical a b
logicals true true = refl
logicals true false = refl
logicals false true = refl
logicals false false = refl

letters : (cs ds : List ℕ) → pointwise nat_eq cs ds ≡ same_letters cs ds
letters [] [] = refl
letters [] (d ∷ ds) = refl
letters (c ∷ cs) [] = refl
letters (c ∷ cs) (d ∷ ds) = ap (λ b. nat_eq c d && b) (letters cs ds)

pub name_eq-is : (x y : Name) → name_eq x y ≡ same_name x y
name_eq-is x y = ap (λ b. b && pointwise nat_eq x.letters y.letters) (logicals x.asynchronous y.asynchronous) ∙ ap (λ b. same_logical x.asynchronous y.asynchronous && b) (letters x.letters y.letters)

or-is : (a b : Bool) → (a || b) ≡ (if a then true else b)
or-is true b = refl
or-is false b = refl

pub among-is : (x : Name) (xs : List Name) → list_any (name_eq x) xs ≡ is_among x xs
among-is x [] = refl
among-is x (y ∷ ys) = ap (λ b. b || list_any (name_eq x) ys) (name_eq-is x y) ∙ ap (λ b. same_name x y || b) (among-is x ys) ∙ or-is (same_name x y) (is_among x ys)

-- a set of names after one name more
pub inserted : (xs : List Name) (x : Name) → (if list_any (name_eq x) xs then xs else xs ++ x ∷ []) ≡ with_name xs x
inserted xs x = ap (λ b. if b then xs else xs ++ x ∷ []) (among-is x xs)

-- ---- lists of names one after the other

pub with_names-append : (xs ys zs : List Name) → with_names xs (ys ++ zs) ≡ with_names (with_names xs ys) zs
with_names-append xs [] zs = refl
with_names-append xs (y ∷ ys) zs = with_names-append (with_name xs y) ys zs

-- ---- the index of a name

-- a name has an index in a list where it is among the list
pub index_there : (x : Name) (xs : List Name) → is_some (index_among x xs) ≡ is_among x xs
index_there x [] = refl
index_there x (y ∷ ys) = by (same_name x y) (some-mapped suc (index_among x ys) ∙ index_there x ys)
  where
    by : (b : Bool) → is_some (option_map suc (index_among x ys)) ≡ is_among x ys
        → is_some (if b then Some 0 else option_map suc (index_among x ys)) ≡ (if b then true else is_among x ys)
    by true h = refl
    by false h = h

-- a name with an index in a list is among the list
pub among-index : (x : Name) (xs : List Name) (k : ℕ) → index_among x xs ≡ Some k → is_among x xs ≡ true
among-index x xs k e = sym (index_there x xs) ∙ ap is_some e
