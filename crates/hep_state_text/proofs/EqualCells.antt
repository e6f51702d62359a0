-- The names in COMMON, of which none stands twice in a unit of an accepted program.
use Rattle.std.proofs.Common.{◌≡◌, ◌⊎◌, inl, inr, ℕ, zero, suc, ◌+◌, Bool, true, false, true≢false, List, [], ◌∷◌, ◌++◌, take, Some, refl, sym, ap, ◌∙◌, subst, arith, if◌then◌else◌, slice_get}
use Rattle.std.specs.List.{flat_map}
use Rattle.std.proofs.lemmas.List.{map-append}
use Rattle.std.proofs.lemmas.Grind.{flat_map-append}
use Rattle.std.proofs.lemmas.Bool.{cases_Bool}
use Rattle.std.proofs.lemmas.Option.{none-some, same_Some}
use Rattle.hep_accepted_laws.proofs.NameMeanings.{name_once}
use Rattle.hep_conditions.specs.Words.{IsAccepted, common_names}
use Rattle.hep_source.proofs.NameTests.{equal_names, same_name-self}
use Rattle.hep_machine.proofs.Locations.{equal_blocks}
use Rattle.hep_machine.specs.Words.{BlockName, CommonBlock, Declarator, Name, Statement, Units, block_holding, block_of, blocks_of_unit, cells_before, cells_of, cells_of_all, common_block, entries_under, is_among, names_declared, names_in_block, same_block, same_name, blocks_in}
use Rattle.hep_accepted_laws.proofs.Members.{has_among}
use Rattle.hep_code.specs.Sources.{IsNamedOnce}

-- ---- lists without doubles

-- x stands among these
abbrev Has : List Name → Name → Type 0
Has xs x = (i : ℕ) × (slice_get xs i ≡ Some x)

has-first : (xs ys : List Name) (x : Name) → Has xs x → Has (xs ++ ys) x
has-first [] ys x h = absurd (none-some x h.1)
has-first (z ∷ xs) ys x (zero, e) = (0, e)
has-first (z ∷ xs) ys x (suc i, e) = let r = has-first xs ys x (i, e) in (suc r.0, r.1)

has-behind : (xs ys : List Name) (x : Name) → Has ys x → Has (xs ++ ys) x
has-behind [] ys x h = h
has-behind (z ∷ xs) ys x h = let r = has-behind xs ys x h in (suc r.0, r.1)

once-rest : (z : Name) (xs : List Name) → IsNamedOnce (z ∷ xs) → IsNamedOnce xs
once-rest z xs once i j x e f = let same : suc i ≡ suc j = once (suc i) (suc j) x e f in omega (arith, same)

once-behind : (xs ys : List Name) → IsNamedOnce (xs ++ ys) → IsNamedOnce ys
once-behind [] ys once = once
once-behind (z ∷ xs) ys once = once-behind xs ys (once-rest z (xs ++ ys) once)

-- the first one stands nowhere behind it
first-once : (z : Name) (xs : List Name) → IsNamedOnce (z ∷ xs) → Has xs z → ⊥
first-once z xs once h = let same : 0 ≡ suc h.0 = once 0 (suc h.0) z refl h.1 in omega (arith, same)

-- what stands in front stands not behind
apart : (xs ys : List Name) (x : Name) → IsNamedOnce (xs ++ ys) → Has xs x → Has ys x → ⊥
apart [] ys x once h k = none-some x h.1
apart (z ∷ xs) ys x once (zero, e) k = first-once z (xs ++ ys) once (has-behind xs ys z (subst (Has ys) (sym (same_Some z x e)) k))
apart (z ∷ xs) ys x once (suc i, e) k = apart xs ys x (once-rest z (xs ++ ys) once) (i, e) k

-- one list behind another, with a part of what stood behind it
once-both : (xs ys zs : List Name) → IsNamedOnce (xs ++ ys) → ((x : Name) → Has zs x → Has ys x) → IsNamedOnce zs → IsNamedOnce (xs ++ zs)
once-both [] ys zs once within h = h
once-both (z ∷ xs) ys zs once within h = front (once-both xs ys zs (once-rest z (xs ++ ys) once) within h) where
  has-part : (xs : List Name) (x : Name) → Has (xs ++ zs) x → Has (xs ++ ys) x
  has-part [] x k = within x k
  has-part (w ∷ xs) x (zero, e) = (0, e)
  has-part (w ∷ xs) x (suc i, e) = let r = has-part xs x (i, e) in (suc r.0, r.1)

  front : IsNamedOnce (xs ++ zs) → IsNamedOnce (z ∷ (xs ++ zs))
  front rest zero zero x e f = refl
  front rest zero (suc j) x e f = absurd (first-once z (xs ++ ys) once (has-part xs z (j, f ∙ ap (λ y. Some y) (sym (same_Some z x e)))))
  front rest (suc i) zero x e f = absurd (first-once z (xs ++ ys) once (has-part xs z (i, e ∙ ap (λ y. Some y) (sym (same_Some z x f)))))
  front rest (suc i) (suc j) x e f = ap suc (rest i j x e f)

among-has : (xs : List Name) (x : Name) → is_among x xs ≡ true → Has xs x
among-has [] x h = absurd (true≢false (sym h))
among-has (y ∷ xs) x h = elim (cases_Bool (same_name x y)) [
  | inl e ↦ (0, ap (λ z. Some z) (sym (equal_names x y e)))
  | inr e ↦ let r = among-has xs x (sym (ap (λ b. if b then true else is_among x xs) e) ∙ h) in (suc r.0, r.1)
]

has-split : (xs ys : List Name) (x : Name) → Has (xs ++ ys) x → Has xs x ⊎ Has ys x
has-split [] ys x h = inr h
has-split (z ∷ xs) ys x (zero, e) = inl (0, e)
has-split (z ∷ xs) ys x (suc i, e) = elim (has-split xs ys x (i, e)) [ inl h ↦ inl (suc h.0, h.1) | inr h ↦ inr h ]

-- ---- the names in a block

abbrev declared : CommonBlock → List Name
declared c = names_declared c.entries

abbrev all_names : List CommonBlock → List Name
all_names cs = flat_map declared cs

abbrev names_under : BlockName → List CommonBlock → List Name
names_under b cs = names_declared (entries_under b cs)

under-more : (b : BlockName) (c : CommonBlock) (cs : List CommonBlock) → same_block (block_of c) b ≡ true → names_under b (c ∷ cs) ≡ declared c ++ names_under b cs
under-more b c cs t =
    ap (λ (z : Bool). names_declared (if z then c.entries ++ entries_under b cs else entries_under b cs)) t
    ∙ map-append (λ (d : Declarator). d.occurrence.name) c.entries (entries_under b cs)

under-same : (b : BlockName) (c : CommonBlock) (cs : List CommonBlock) → same_block (block_of c) b ≡ false → names_under b (c ∷ cs) ≡ names_under b cs
under-same b c cs t = ap (λ (z : Bool). names_declared (if z then c.entries ++ entries_under b cs else entries_under b cs)) t

has-under : (b : BlockName) (cs : List CommonBlock) (x : Name) → Has (names_under b cs) x → Has (all_names cs) x
has-under b [] x h = h
has-under b (c ∷ cs) x h = elim (cases_Bool (same_block (block_of c) b)) [
  | inl t ↦ elim (has-split (declared c) (names_under b cs) x (subst (λ xs. Has xs x) (under-more b c cs t) h)) [
    | inl k ↦ has-first (declared c) (all_names cs) x k
    | inr k ↦ has-behind (declared c) (all_names cs) x (has-under b cs x k)
  ]
  | inr t ↦ has-behind (declared c) (all_names cs) x (has-under b cs x (subst (λ xs. Has xs x) (under-same b c cs t) h))
]

once-under : (b : BlockName) (cs : List CommonBlock) → IsNamedOnce (all_names cs) → IsNamedOnce (names_under b cs)
once-under b [] once = once
once-under b (c ∷ cs) once = elim (cases_Bool (same_block (block_of c) b)) [
  | inl t ↦ subst IsNamedOnce (sym (under-more b c cs t)) (
      once-both (declared c) (all_names cs) (names_under b cs) once (λ x k. has-under b cs x k) (once-under b cs (once-behind (declared c) (all_names cs) once)))
  | inr t ↦ subst IsNamedOnce (sym (under-same b c cs t)) (once-under b cs (once-behind (declared c) (all_names cs) once))
]

-- a name in a block is in no other one
holding : (b : BlockName) (cs : List CommonBlock) (x : Name) → IsNamedOnce (all_names cs) → Has (names_under b cs) x → block_holding x cs ≡ Some b
holding b [] x once h = absurd (none-some x h.1)
holding b (c ∷ cs) x once h =
    elim (cases_Bool (is_among x (declared c))) [
      | inl own ↦ ap (λ (z : Bool). if z then Some (block_of c) else block_holding x cs) own ∙ here own
      | inr other ↦ ap (λ (z : Bool). if z then Some (block_of c) else block_holding x cs) other ∙ holding b cs x (once-behind (declared c) (all_names cs) once) (rest other)
    ]
  where
    here : is_among x (declared c) ≡ true → Some (block_of c) ≡ Some b
    here own = elim (cases_Bool (same_block (block_of c) b)) [
      | inl t ↦ ap (λ z. Some z) (equal_blocks (block_of c) b t)
      | inr t ↦ absurd (apart (declared c) (all_names cs) x once (among-has (declared c) x own) (has-under b cs x (subst (λ xs. Has xs x) (under-same b c cs t) h)))
    ]

    rest : is_among x (declared c) ≡ false → Has (names_under b cs) x
    rest other = elim (cases_Bool (same_block (block_of c) b)) [
      | inl t ↦ elim (has-split (declared c) (names_under b cs) x (subst (λ xs. Has xs x) (under-more b c cs t) h)) [
        | inl k ↦ absurd (true≢false (sym (has_among (declared c) x k) ∙ other))
        | inr k ↦ k
      ]
      | inr t ↦ subst (λ xs. Has xs x) (under-same b c cs t) h
    ]

-- ---- of a unit of an accepted program

flat-flat : {A B C : Type 0} (f : B → List C) (g : A → List B) (xs : List A) → flat_map (λ x. flat_map f (g x)) xs ≡ flat_map f (flat_map g xs)
flat-flat f g [] = refl
flat-flat f g (x ∷ xs) = ap (λ zs. flat_map f (g x) ++ zs) (flat-flat f g xs) ∙ sym (flat_map-append f (g x) (flat_map g xs))

module _ (program : Units) (u : ℕ) (unit : List Statement) (accepted : IsAccepted program) (there : slice_get program u ≡ Some unit) (b : BlockName) where
  all-once : IsNamedOnce (all_names (blocks_of_unit unit))
  all-once = subst IsNamedOnce (flat-flat declared (λ (s : Statement). blocks_in s.form) unit) (λ i j x e f. name_once common_names 3 refl program u i j unit x accepted there e f)

  pub block-once : IsNamedOnce (names_in_block unit b)
  block-once = once-under b (blocks_of_unit unit) all-once

  pub block-holds : (i : ℕ) (x : Name) → slice_get (names_in_block unit b) i ≡ Some x → common_block unit x ≡ Some b
  block-holds i x e = holding b (blocks_of_unit unit) x all-once (i, e)

-- ---- cells in front of a name

pub before-is : (unit : List Statement) (xs : List Name) (i : ℕ) (x : Name) → IsNamedOnce xs → slice_get xs i ≡ Some x → cells_before unit x xs ≡ cells_of_all unit (take i xs)
before-is unit [] i x once e = absurd (none-some x e)
before-is unit (y ∷ xs) zero x once e =
    ap (λ (z : Bool). if z then 0 else cells_of unit y + cells_before unit x xs) (ap (same_name x) (same_Some y x e) ∙ same_name-self x)
before-is unit (y ∷ xs) (suc i) x once e = elim (cases_Bool (same_name x y)) [
  | inl t ↦ let same : 0 ≡ suc i = once 0 (suc i) x (ap (λ z. Some z) (sym (equal_names x y t))) e in absurd (omega (arith, same))
  | inr t ↦
      ap (λ (z : Bool). if z then 0 else cells_of unit y + cells_before unit x xs) t
      ∙ ap (λ n. cells_of unit y + n) (before-is unit xs i x (once-rest y xs once) e)
]
