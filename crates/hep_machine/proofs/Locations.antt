-- Names, blocks and locations that are the same are equal; and which blocks are among others.
use Rattle.std.proofs.Common.{◌≡◌, Bool, true, false, List, [], ◌∷◌, ◌++◌, Some, None, refl, ap, ◌&&◌, ◌||◌, if◌then◌else◌, nat_eq}
use Rattle.std.proofs.lemmas.Bool.{eqb-true, and_parts}
use Rattle.hep_machine.specs.Words.{CommonBlock, BlockName, block_of, is_block_among, same_block, with_blocks, same_name, same_location, Location, local, common}
use Rattle.hep_source.proofs.NameTests.{equal_names, same_name-self}

pub equal_blocks : (m n : BlockName) → same_block m n ≡ true → m ≡ n
equal_blocks None None e = refl
equal_blocks None (Some y) e = absurd cc
equal_blocks (Some x) None e = absurd cc
equal_blocks (Some x) (Some y) e = ap (λ z. Some z) (equal_names x y e)

pub block-self : (b : BlockName) → same_block b b ≡ true
block-self None = refl
block-self (Some x) = same_name-self x

pub equal_locations : (l m : Location) → same_location l m ≡ true → l ≡ m
equal_locations (local a x i) (local b y j) e =
    let h = and_parts (nat_eq a b) (same_name x y && nat_eq i j) e in
    let k = and_parts (same_name x y) (nat_eq i j) h.1 in
    let activations = eqb-true a b h.0 in let names = equal_names x y k.0 in let elements = eqb-true i j k.1 in
    λ d. local (activations d) (names d) (elements d)
equal_locations (local a x i) (common n k) e = absurd cc
equal_locations (common m j) (local b y i) e = absurd cc
equal_locations (common m j) (common n k) e =
    let h = and_parts (same_block m n) (nat_eq j k) e in
    let blocks = equal_blocks m n h.0 in let positions = eqb-true j k h.1 in
    λ d. common (blocks d) (positions d)

-- ---- blocks that are among others

pub block-in-front : (b : BlockName) (bs cs : List BlockName) → is_block_among b bs ≡ true → is_block_among b (bs ++ cs) ≡ true
block-in-front b [] cs h = absurd cc
block-in-front b (k ∷ ks) cs h = by (same_block b k) h (block-in-front b ks cs) where
  by : (t : Bool) → (t || is_block_among b ks) ≡ true → (is_block_among b ks ≡ true → is_block_among b (ks ++ cs) ≡ true) → (t || is_block_among b (ks ++ cs)) ≡ true
  by true h rest = refl
  by false h rest = rest h

pub block-stays : (b : BlockName) (bs : List BlockName) (cs : List CommonBlock) → is_block_among b bs ≡ true → is_block_among b (with_blocks bs cs) ≡ true
block-stays b bs [] h = h
block-stays b bs (c ∷ cs) h = block-stays b (if is_block_among (block_of c) bs then bs else bs ++ block_of c ∷ []) cs (by (is_block_among (block_of c) bs)) where
  by : (t : Bool) → is_block_among b (if t then bs else bs ++ block_of c ∷ []) ≡ true
  by true = h
  by false = block-in-front b bs (block_of c ∷ []) h
