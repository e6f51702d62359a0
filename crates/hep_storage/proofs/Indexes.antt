-- The index at which a table has a key is that of the first element that is the same.
use Rattle.std.proofs.Common.{◌≡◌, ℕ, suc, ◌+◌, arith, Bool, true, false, not, cond, List, [], ◌∷◌, length, Some, None, refl, ap, ◌∙◌, if◌then◌else◌, nat_lt}
use Rattle.std.specs.List.{position, position_or_len}
use Rattle.std.specs.Option.{option_eq, option_map}
use Rattle.std.proofs.lemmas.Bool.Decides.{nat_tests}
use Rattle.hep_machine.specs.Words.{Name, index_among, index_where, name_eq, same_name, BlockName, same_block}
use Rattle.hep_source.proofs.NameTests.{name_eq-is}
use Rattle.hep_names.proofs.BlockNames.{block_eq-is}

pub position-is : {A : Type 0} (test : A → Bool) (xs : List A) → position test xs ≡ index_where test xs
position-is test [] = refl
position-is {A} test (x ∷ xs) = by (test x) (position-is test xs) where
  n : ℕ
  n = position_or_len test xs

  by : (b : Bool) → position test xs ≡ index_where test xs
      → cond (nat_lt (cond (not b) (1 + n) 0) (length (x ∷ xs))) (Some (cond (not b) (1 + n) 0)) None ≡ (if b then Some 0 else option_map suc (index_where test xs))
  by true rest = let some : nat_lt 0 (length (x ∷ xs)) ≡ true = grind (arith, nat_tests) in rw some refl
  by false rest = behind (nat_lt n (length xs)) refl ∙ ap (option_map suc) rest where
    behind : (t : Bool) → nat_lt n (length xs) ≡ t → cond (nat_lt (1 + n) (length (x ∷ xs))) (Some (1 + n)) None ≡ option_map suc (position test xs)
    behind true t =
        let more : nat_lt (1 + n) (length (x ∷ xs)) ≡ true = grind (arith, nat_tests) in
        let next : 1 + n ≡ suc n = omega arith in
        rw (t, more) (ap (λ k. Some k) next)
    behind false t = let more : nat_lt (1 + n) (length (x ∷ xs)) ≡ false = grind (arith, nat_tests) in rw (t, more) refl

where-same : {A : Type 0} (p q : A → Bool) → ((x : A) → p x ≡ q x) → (xs : List A) → index_where p xs ≡ index_where q xs
where-same p q same [] = refl
where-same p q same (x ∷ xs) = (λ i. if same x i then Some 0 else option_map suc (where-same p q same xs i))

pub name-index : (x : Name) (xs : List Name) → position (name_eq x) xs ≡ index_among x xs
name-index x xs = position-is (name_eq x) xs ∙ where-same (name_eq x) (same_name x) (name_eq-is x) xs

pub block-index : (b : BlockName) (bs : List BlockName) → position (option_eq name_eq b) bs ≡ index_where (same_block b) bs
block-index b bs = position-is (option_eq name_eq b) bs ∙ where-same (option_eq name_eq b) (same_block b) (block_eq-is b) bs
