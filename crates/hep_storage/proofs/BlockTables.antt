-- Tables of the blocks of a unit, list by list of COMMON and statement by statement.
use Rattle.std.proofs.Common.{◌≡◌, ◌<◌, ◌≤◌, ◌+◌, ℕ, Bool, true, false, ◌||◌, Option, Some, None, List, [], ◌∷◌, ◌++◌, take, length, get_or, append-nil, append_assoc, refl, ap, sym, subst, ◌∙◌, if◌then◌else◌, arith}
use Rattle.std.specs.Option.{option_map}
use Rattle.std.proofs.lemmas.Grind.{flat_map-append}
use Rattle.std.proofs.lemmas.List.{take_more, take_all}
use Rattle.hep_machine.specs.Words.{CommonBlock, Declarator, Name, Statement, BlockName, same_block, block_of, blocks_in, blocks_of_unit, names_in_block, entries_under, names_declared}
use Rattle.hep_conditions.specs.Common as conditions
use Rattle.hep_storage.specs.BlockContents.{AreNoted, Holds, Has, HasContents, block, block_in, names_into, names_under, later_line}
use Rattle.hep_storage.specs.declared.block_contents.BlockContents.{BlockContents}
use Rattle.hep_machine.proofs.Locations.{equal_blocks, block-self}
use Rattle.hep_names.proofs.News.{declared-append}

-- ---- lists of COMMON

pub names-next : (ds : List Declarator) (i : ℕ) (d e : Declarator) (xs : List Name) → i < length ds → e ≡ get_or ds i d
    → (xs ++ names_declared (take i ds)) ++ e.occurrence.name ∷ [] ≡ xs ++ names_declared (take (i + 1) ds)
names-next ds i d e xs lt is = simp (take_more ds i d lt, declared-append, append_assoc, is)

pub names_under-append : (b : BlockName) (cs ds : List CommonBlock) → names_under b (cs ++ ds) ≡ names_under b cs ++ names_under b ds
names_under-append b [] ds = refl
names_under-append b (c ∷ cs) ds =
    let first = declared-append c.entries in
    grind (arith, names_under-append b cs ds, first (entries_under b (cs ++ ds)), first (entries_under b cs), append_assoc (names_declared c.entries) (names_under b cs) (names_under b ds))

later-append : (b : BlockName) (before : Option ℕ) (line : ℕ) (cs ds : List CommonBlock) → later_line b (later_line b before line cs) line ds ≡ later_line b before line (cs ++ ds)
later-append b before line [] ds = refl
later-append b before line (c ∷ cs) ds = grind (arith, later-append b before line cs ds)

-- one list more
pub list-turn : (unit : List Statement) (noted : Name → Bool) (b : BlockName) (lists : List CommonBlock) (i : ℕ) (d c : CommonBlock) (xs : List Name) (before : Option ℕ) (line : ℕ) (new : Option BlockContents) → i < length lists → c ≡ get_or lists i d
    → Has unit noted b ((xs ++ names_under b (take i lists)) ++ names_under b (c ∷ [])) (later_line b (later_line b before line (take i lists)) line (c ∷ [])) new
    → Has unit noted b (xs ++ names_under b (take (i + 1) lists)) (later_line b before line (take (i + 1) lists)) new
list-turn unit noted b lists i d c xs before line new lt is h =
    let e : take (i + 1) lists ≡ take i lists ++ c ∷ [] = take_more lists i d lt ∙ ap (λ y. take i lists ++ y ∷ []) (sym is) in
    rw e (rw (names_under-append b (take i lists) (c ∷ []), ← append_assoc, ← later-append b before line (take i lists) (c ∷ [])) h)

-- ---- statements

blocks-append : (us vs : List Statement) → blocks_of_unit (us ++ vs) ≡ blocks_of_unit us ++ blocks_of_unit vs
blocks-append us vs = flat_map-append (λ (s : Statement). blocks_in s.form) us vs

last-next : (b : BlockName) (us : List Statement) (s : Statement) → conditions.last_line b (us ++ s ∷ []) ≡ later_line b (conditions.last_line b us) s.line (blocks_in s.form)
last-next b [] s = refl
last-next b (u ∷ us) s = grind (arith, last-next b us s)

-- one statement more
pub statement-turn : (whole : List Statement) (noted : Name → Bool) (b : BlockName) (items unit : List Statement) (i : ℕ) (d s : Statement) (lists : List CommonBlock) (new : Option BlockContents)
    → items ≡ unit → i < length items → s ≡ get_or items i d → lists ≡ blocks_in s.form
    → Has whole noted b (names_in_block (take i unit) b ++ names_under b lists) (later_line b (conditions.last_line b (take i unit)) s.line lists) new
    → Has whole noted b (names_in_block (take (i + 1) unit) b) (conditions.last_line b (take (i + 1) unit)) new
statement-turn whole noted b items unit i d s lists new same lt is q h =
    let more : i < length unit = subst (λ us. i < length us) same lt in
    let e : take (i + 1) unit ≡ take i unit ++ s ∷ [] = take_more unit i d more ∙ ap (λ y. take i unit ++ y ∷ []) (sym (is ∙ ap (λ us. get_or us i d) same)) in
    let before = take i unit in
    rw (e, blocks-append before (s ∷ []), append-nil (blocks_in s.form), names_under-append b (blocks_of_unit before) (blocks_in s.form), last-next b before s, sym q) h

-- what a table has at the end
table-whole : (unit : List Statement) (b : BlockName) (o : Option BlockContents) → HasContents unit b (names_in_block unit b) (conditions.last_line b unit) o → option_map block o ≡ block_in unit b
table-whole unit b None h = rw h.1 refl
table-whole unit b (Some c) h = rw (h.1, h.0) refl

pub unit-whole : (unit : List Statement) (noted : Name → Bool) (b : BlockName) (i : ℕ) (o : Option BlockContents) → length unit ≤ i
    → Has unit noted b (names_in_block (take i unit) b) (conditions.last_line b (take i unit)) o → option_map block o ≡ block_in unit b
unit-whole unit noted b i o k h = table-whole unit b o (rw (take_all i unit k) at h).0

-- ---- names that are noted, of a list

into-append : (k b : BlockName) (xs ys zs : List Name) → (xs ++ names_into k b ys) ++ names_into k b zs ≡ xs ++ names_into k b (ys ++ zs)
into-append k b xs ys zs = grind (arith, append_assoc xs ys zs, append-nil xs)

pub into-next : (k b : BlockName) (ds : List Declarator) (i : ℕ) (d e : Declarator) (xs : List Name) → i < length ds → e ≡ get_or ds i d
    → (xs ++ names_into k b (names_declared (take i ds))) ++ names_into k b (e.occurrence.name ∷ []) ≡ xs ++ names_into k b (names_declared (take (i + 1) ds))
into-next k b ds i d e xs lt is =
    into-append k b xs (names_declared (take i ds)) (e.occurrence.name ∷ []) ∙ ap (λ ys. xs ++ names_into k b ys) (names-next ds i d e [] lt is)

pub into-none : (k b : BlockName) (xs : List Name) → xs ++ names_into k b [] ≡ xs
into-none k b xs = grind (arith, append-nil xs)

-- in the block itself all names are
pub noted-here : (unit : List Statement) (b : BlockName) (xs ys : List Name) (noted : Name → Bool) → AreNoted unit b (xs ++ names_into b b ys) noted → AreNoted unit b (xs ++ ys) noted
noted-here unit b xs ys noted h = subst (λ t. AreNoted unit b (xs ++ (if t then ys else [])) noted) (block-self b) h

-- ---- one list of COMMON

-- a list of COMMON, whichever block it names
pub list-noted : (unit : List Statement) (list : CommonBlock) (k : BlockName) (names : List Declarator) (line : ℕ) (old new : BlockName → Option BlockContents) (taken c : BlockContents) (was noted : Name → Bool)
    → k ≡ block_of list → names ≡ list.entries
    → ((xs : List Name) (before : Option ℕ) → HasContents unit k xs before (old k) → Holds unit k xs taken)
    → ((xs : List Name) → AreNoted unit k xs was → Holds unit k xs taken → Holds unit k (xs ++ names_declared names) c)
    → ((b : BlockName) (xs : List Name) → AreNoted unit b xs was → AreNoted unit b (xs ++ names_into k b (names_declared names)) noted)
    → c.line ≡ line → ((b : BlockName) → new b ≡ (if same_block k b then Some c else old b))
    → (b : BlockName) (xs : List Name) (before : Option ℕ) → Has unit was b xs before (old b) → Has unit noted b (xs ++ names_under b (list ∷ [])) (later_line b before line (list ∷ [])) (new b)
list-noted unit list k names line old new taken c was noted is same had adds marks at put b xs before h =
    let these : names_into k b (names_declared names) ≡ names_declared (if same_block k b then names else []) = grind arith in
    rw (sym is, sym same, append-nil names, put b) (by (same_block k b) refl, subst (λ ys. AreNoted unit b (xs ++ ys) noted) these (marks b xs h.1))
  where
    by : (t : Bool) → same_block k b ≡ t → HasContents unit b (xs ++ names_declared (if t then names else [])) (if t || false then Some line else before) (if t then Some c else old b)
    by true e =
        let f : b ≡ k = sym (equal_blocks k b e) in
        let known = adds xs (subst (λ j. AreNoted unit j xs was) f h.1) (had xs before (subst (λ j. HasContents unit j xs before (old j)) f h.0)) in
        (subst (λ j. Holds unit j (xs ++ names_declared names) c) (sym f) known, ap Some (sym at))
    by false e = rw append-nil h.0
