-- Names that are new, one after the other.
use Rattle.std.proofs.Common.{◌≡◌, Bool, true, false, not, ◌&&◌, ◌||◌, Option, Some, None, is_some, if◌then◌else◌, List, [], ◌∷◌, ◌++◌, refl, ap, sym, ◌∙◌}
use Rattle.std.specs.Option.{option_or}
use Rattle.hep_machine.specs.Words.{Declarator, Name, same_name, is_among, BlockName, names_declared, block_of, block_holding, entries_of_blocks, CommonBlock}
use Rattle.hep_names.specs.Tables.{are_new, by_name, by_declarators}
use Rattle.hep_names.proofs.Notes.{or-assoc}
use Rattle.hep_source.proofs.Tests.{and-true, or-turned}

pub and-assoc : (a b c : Bool) → ((a && b) && c) ≡ (a && (b && c))
and-assoc true b c = refl
and-assoc false b c = refl

-- names that were seen alike
pub new-same : (xs : List Name) (p q : Name → Bool) → ((x : Name) → p x ≡ q x) → are_new p xs ≡ are_new q xs
new-same [] p q h = refl
new-same (x ∷ xs) p q h = ap (λ b. not b && are_new (λ y. same_name y x || p y) xs) (h x) ∙ ap (λ b. not (q x) && b) (new-same xs (λ y. same_name y x || p y) (λ y. same_name y x || q y) (λ y. ap (λ b. same_name y x || b) (h y)))

among-or : (x y : Name) (xs : List Name) → is_among y (x ∷ xs) ≡ (same_name y x || is_among y xs)
among-or x y xs = by (same_name y x)
  where
    by : (t : Bool) → (if t then true else is_among y xs) ≡ (t || is_among y xs)
    by true = refl
    by false = refl

-- some names, and others behind them
pub new-append : (xs ys : List Name) (seen : Name → Bool) → are_new seen (xs ++ ys) ≡ (are_new seen xs && are_new (λ y. is_among y xs || seen y) ys)
new-append [] ys seen = refl
new-append (x ∷ xs) ys seen =
    ap (λ b. not (seen x) && b) (new-append xs ys (λ y. same_name y x || seen y))
    ∙ (sym (and-assoc (not (seen x)) (are_new (λ y. same_name y x || seen y) xs) (are_new (λ y. is_among y xs || (same_name y x || seen y)) ys))
    ∙ ap (λ b. (not (seen x) && are_new (λ y. same_name y x || seen y) xs) && b)
    (new-same ys (λ y. is_among y xs || (same_name y x || seen y)) (λ y. is_among y (x ∷ xs) || seen y) (λ y. or-turned (is_among y xs) (same_name y x) (seen y) ∙ (or-group (same_name y x) (is_among y xs) (seen y) ∙ ap (λ b. b || seen y) (sym (among-or x y xs))))))
  where
    or-group : (a b c : Bool) → (a || (b || c)) ≡ ((a || b) || c)
    or-group true b c = refl
    or-group false b c = refl

-- ---- tables of names

-- a table that one name more was noted in
seen-noted : {A : Type 0} (name : Name) (value : A) (old new : Name → Option A) → ((x : Name) → new x ≡ option_or (old x) (by_name name value x)) → (x : Name) → is_some (new x) ≡ (same_name x name || is_some (old x))
seen-noted {A = A} name value old new h x = ap is_some (h x) ∙ by (old x) (same_name x name)
  where
    by : (o : Option A) (t : Bool) → is_some (option_or o (if t then Some value else None)) ≡ (t || is_some o)
    by None true = refl
    by None false = refl
    by (Some a) true = refl
    by (Some a) false = refl

-- a table that the names of declarators were noted in
pub seen-declared : {A : Type 0} (value : A) (ds : List Declarator) (old new : Name → Option A) → ((x : Name) → new x ≡ option_or (old x) (by_declarators value ds x))
    → (x : Name) → is_some (new x) ≡ (is_among x (names_declared ds) || is_some (old x))
seen-declared {A = A} value ds old new h x = ap is_some (h x) ∙ by (old x) (is_among x (names_declared ds))
  where
    by : (o : Option A) (t : Bool) → is_some (option_or o (if t then Some value else None)) ≡ (t || is_some o)
    by None true = refl
    by None false = refl
    by (Some a) true = refl
    by (Some a) false = refl

-- ---- turns of loops

-- some names of a list are new, and so are those that are left
pub new-turn : (xs ys : List Name) (was is_new now : Bool) (old seen : Name → Bool) (all : Bool) → (was && are_new old (xs ++ ys)) ≡ all → is_new ≡ are_new old xs → now ≡ (was && is_new)
    → ((x : Name) → seen x ≡ (is_among x xs || old x)) → (now && are_new seen ys) ≡ all
new-turn xs ys was is_new now old seen all h n e s =
    ap (λ b. b && are_new seen ys) (e ∙ ap (λ b. was && b) n)
    ∙ (ap (λ b. (was && are_new old xs) && b) (new-same ys seen (λ y. is_among y xs || old y) s)
    ∙ (and-assoc was (are_new old xs) (are_new (λ y. is_among y xs || old y) ys)
    ∙ (ap (λ b. was && b) (sym (new-append xs ys old)) ∙ h)))

pub one-new : (x : Name) (seen : Name → Bool) → are_new seen (x ∷ []) ≡ not (seen x)
one-new x seen = and-true (not (seen x))

pub seen-one : {A : Type 0} (name : Name) (value : A) (old new : Name → Option A) → ((x : Name) → new x ≡ option_or (old x) (by_name name value x)) → (x : Name) → is_some (new x) ≡ (is_among x (name ∷ []) || is_some (old x))
seen-one name value old new h x = seen-noted name value old new h x ∙ ap (λ b. b || is_some (old x)) (sym (by (same_name x name)))
  where
    by : (t : Bool) → (if t then true else false) ≡ t
    by true = refl
    by false = refl

-- ---- turns of loops over tables of names

among-given : {A : Type 0} (x y : Name) (ys : List Name) (value : A) → (if is_among x (y ∷ ys) then Some value else None) ≡ option_or (if same_name x y then Some value else None) (if is_among x ys then Some value else None)
among-given {A = A} x y ys value = by (same_name x y)
  where
    by : (t : Bool) → (if (if t then true else is_among x ys) then Some value else None) ≡ option_or (if t then Some value else None) (if is_among x ys then Some value else None)
    by true = refl
    by false = refl

pub declared-turn : {A : Type 0} (x : Name) (value : A) (d : Declarator) (ds all : List Declarator) (old new total : Option A) → all ≡ d ∷ ds → option_or old (by_declarators value all x) ≡ total
    → new ≡ option_or old (by_name d.occurrence.name value x) → option_or new (by_declarators value ds x) ≡ total
declared-turn x value d ds all old new total is h n =
    ap (λ o. option_or o (by_declarators value ds x)) n
    ∙ (or-assoc old (by_name d.occurrence.name value x) (by_declarators value ds x)
    ∙ (ap (option_or old) (sym (among-given x d.occurrence.name (names_declared ds) value)) ∙ (ap (λ es. option_or old (by_declarators value es x)) (sym is) ∙ h)))

holding-given : (x : Name) (b : CommonBlock) (bs : List CommonBlock) → block_holding x (b ∷ bs) ≡ option_or (by_declarators (block_of b) b.entries x) (block_holding x bs)
holding-given x b bs = by (is_among x (names_declared b.entries))
  where
    by : (t : Bool) → (if t then Some (block_of b) else block_holding x bs) ≡ option_or (if t then Some (block_of b) else None) (block_holding x bs)
    by true = refl
    by false = refl

pub holding-turn : (x : Name) (name : BlockName) (b : CommonBlock) (entries : List Declarator) (bs all : List CommonBlock) (old new total : Option BlockName) → name ≡ block_of b → entries ≡ b.entries → all ≡ b ∷ bs
    → option_or old (block_holding x all) ≡ total → new ≡ option_or old (by_declarators name entries x) → option_or new (block_holding x bs) ≡ total
holding-turn x name b entries bs all old new total k e is h n =
    ap (λ o. option_or o (block_holding x bs)) (n ∙ (ap (λ m. option_or old (by_declarators m entries x)) k ∙ ap (λ ds. option_or old (by_declarators (block_of b) ds x)) e))
    ∙ (or-assoc old (by_declarators (block_of b) b.entries x) (block_holding x bs)
    ∙ (ap (option_or old) (sym (holding-given x b bs)) ∙ (ap (λ cs. option_or old (block_holding x cs)) (sym is) ∙ h)))

pub declared-append : (ds es : List Declarator) → names_declared (ds ++ es) ≡ names_declared ds ++ names_declared es
declared-append [] es = refl
declared-append (d ∷ ds) es = ap (λ xs. d.occurrence.name ∷ xs) (declared-append ds es)

-- a table that the names of blocks were noted in
pub seen-held : (bs : List CommonBlock) (old new : Name → Option BlockName) → ((x : Name) → new x ≡ option_or (old x) (block_holding x bs))
    → (x : Name) → is_some (new x) ≡ (is_among x (names_declared (entries_of_blocks bs)) || is_some (old x))
seen-held bs old new h x = ap is_some (h x) ∙ (by (old x) (block_holding x bs) ∙ ap (λ b. b || is_some (old x)) (held bs))
  where
    by : (o h : Option BlockName) → is_some (option_or o h) ≡ (is_some h || is_some o)
    by None None = refl
    by None (Some k) = refl
    by (Some j) None = refl
    by (Some j) (Some k) = refl

    among-append : (xs ys : List Name) → is_among x (xs ++ ys) ≡ (if is_among x xs then true else is_among x ys)
    among-append [] ys = refl
    among-append (z ∷ zs) ys = within (same_name x z) (among-append zs ys)
      where
        within : (t : Bool) → is_among x (zs ++ ys) ≡ (if is_among x zs then true else is_among x ys) → (if t then true else is_among x (zs ++ ys)) ≡ (if (if t then true else is_among x zs) then true else is_among x ys)
        within true i = refl
        within false i = i

    held : (cs : List CommonBlock) → is_some (block_holding x cs) ≡ is_among x (names_declared (entries_of_blocks cs))
    held [] = refl
    held (c ∷ cs) =
        here (is_among x (names_declared c.entries)) (held cs)
        ∙ sym (ap (is_among x) (declared-append c.entries (entries_of_blocks cs)) ∙ among-append (names_declared c.entries) (names_declared (entries_of_blocks cs)))
      where
        here : (t : Bool) → is_some (block_holding x cs) ≡ is_among x (names_declared (entries_of_blocks cs))
            → is_some (if t then Some (block_of c) else block_holding x cs) ≡ (if t then true else is_among x (names_declared (entries_of_blocks cs)))
        here true i = refl
        here false i = i
