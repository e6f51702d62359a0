-- 309 by lines.
use Rattle.std.proofs.Common.{◌≡◌, ℕ, ◌<◌, ◌+◌, length, get_or, drop, Bool, true, false, not, ◌||◌, map, Option, Some, List, [], ◌∷◌, ◌++◌, refl, ◌∙◌, sym, ap, cond, true≢false}
use Rattle.std.specs.List.{flat_map}
use Rattle.std.proofs.lemmas.Bool.{and_parts}
use Rattle.std.proofs.lemmas.List.{drop_more}
use Rattle.hep_machine.specs.Words.{Name, Statement, name_eq, same_name, CommonBlock, blocks_in, entries_of_blocks, is_nonempty, names_declared}
use Rattle.hep_source.proofs.NameTests.{equal_names, name_eq-is, same_name-turned}
use Rattle.hep_names.proofs.News.{declared-append}
use Rattle.hep_conditions.specs.Words.{Use, uses_by, FunctionTypes, common_names, least_line, line_when}
use Rattle.hep_conditions.proofs.Lines.{least_line-assoc, least_line-none}
use Rattle.hep_types.specs.declared.all_ambiguities.Ambiguity.{Ambiguity}
use Rattle.hep_types.specs.declared.uses.UseKind.{UseKind}
use Rattle.hep_types.specs.declared.uses.UseKind.TheVariants.{Common}
use Rattle.hep_names.specs.Tables.{are_new, names_in_common}
use Rattle.hep_types.specs.Ambiguities.{ambiguous_when, its_name, met_both_ways, met_from, repeated_from, twice_in, two_ways_in}
use Rattle.hep_types.specs.Uses.{uses_of, used_at}
use Rattle.hep_types.specs.AmbiguityLines.{none_seen, with_seen, least_named}

-- ---- what is used in two ways

-- a turn of a loop over uses of which the lines are kept
pub named-turn : (us : List Use) (i : ℕ) (d : Use) (x : Name) (old new whole : Option ℕ) → i < length us → least_line old (least_named (drop i us) x) ≡ whole
    → new ≡ least_line old (line_when (same_name (get_or us i d).0 x) (get_or us i d).1) → least_line new (least_named (drop (i + 1) us) x) ≡ whole
named-turn us i d x old new whole lt h n =
    let u = get_or us i d in
    let us' = drop (i + 1) us in
    ap (λ o. least_line o (least_named us' x)) n
    ∙ (least_line-assoc old (line_when (same_name u.0 x) u.1) (least_named us' x)
    ∙ (ap (λ vs. least_line old (least_named vs x)) (sym (drop_more us i d lt)) ∙ h))

-- the lesser of a name's lines that a table gets
pub noted-line : (name x : Name) (line least : ℕ) (old : Name → Option ℕ) → Some least ≡ least_line (old name) (Some line)
    → cond (name_eq name x) (Some least) (old x) ≡ least_line (old x) (line_when (same_name name x) line)
noted-line name x line least old h = ap (λ b. cond b (Some least) (old x)) (name_eq-is name x) ∙ by (same_name name x) refl
  where
    by : (b : Bool) → same_name name x ≡ b → cond b (Some least) (old x) ≡ least_line (old x) (line_when b line)
    by true e = h ∙ ap (λ n. least_line (old n) (Some line)) (equal_names name x e)
    by false e = sym (least_line-none (old x))

-- a name that a set gets
pub with-added : (x name : Name) (old : Bool) → cond (name_eq name x) true old ≡ (same_name x name || old)
with-added x name old = ap (λ b. cond b true old) (name_eq-is name x ∙ same_name-turned name x) ∙ by old (same_name x name)
  where
    by : (a b : Bool) → cond b true a ≡ (b || a)
    by true true = refl
    by true false = refl
    by false true = refl
    by false false = refl

-- ---- nothing is used in one of two ways

-- a list that has nothing is empty
pub no-items : {A : Type 0} (xs : List A) → is_nonempty xs ≡ false → xs ≡ []
no-items [] h = refl
no-items (x ∷ xs) h = absurd (true≢false h)

-- names of which none has a line are met nowhere
met-none : (ws : List Use) → met_from (least_named []) ws ≡ []
met-none [] = refl
met-none (w ∷ ws) = met-none ws

-- where nothing is used in one way, nothing is used in both
pub none-both : (us ws : List Use) → us ≡ [] → met_both_ways us ws ≡ []
none-both us ws e = ap (λ vs. met_both_ways vs ws) e ∙ ap (λ found. found ++ []) (met-none ws)

-- uses that are those of a way add what the two ways add
pub both-ways : (functions : FunctionTypes) (unit : List Statement) (one other : UseKind) (us : List Use) (found next : List Ambiguity)
    → next ≡ found ++ met_both_ways us (uses_of functions other unit) → us ≡ uses_of functions one unit → next ≡ found ++ two_ways_in functions unit one other
both-ways functions unit one other us found next n e = n ∙ ap (λ vs. found ++ met_both_ways vs (uses_of functions other unit)) e

-- ---- names of COMMON that all are new

-- names that all are new are repeated nowhere
new-unrepeated : (us : List Use) (seen : Name → Bool) → are_new seen (map (λ (u : Use). u.0) us) ≡ true → repeated_from same_name its_name seen us ≡ []
new-unrepeated [] seen h = refl
new-unrepeated (u ∷ us) seen h =
    let p = and_parts (not (seen u.0)) (are_new (λ y. same_name y u.0 || seen y) (map (λ (v : Use). v.0) us)) h in
    ap (λ b. ambiguous_when b (Some u.0) u.1 ++ repeated_from same_name its_name (with_seen same_name seen u.0) us) (unseen (seen u.0) p.0)
    ∙ new-unrepeated us (with_seen same_name seen u.0) p.1
  where
    unseen : (b : Bool) → not b ≡ true → b ≡ false
    unseen true e = absurd (true≢false (sym e))
    unseen false e = refl

names-used : (line : ℕ) (xs : List Name) → map (λ (u : Use). u.0) (used_at line xs) ≡ xs
names-used line [] = refl
names-used line (x ∷ xs) = ap (λ ys. x ∷ ys) (names-used line xs)

names-append : (us vs : List Use) → map (λ (u : Use). u.0) (us ++ vs) ≡ map (λ (u : Use). u.0) us ++ map (λ (u : Use). u.0) vs
names-append [] vs = refl
names-append (u ∷ us) vs = ap (λ ys. u.0 ∷ ys) (names-append us vs)

block-names : (bs : List CommonBlock) → names_declared (entries_of_blocks bs) ≡ flat_map (λ (b : CommonBlock). names_declared b.entries) bs
block-names [] = refl
block-names (b ∷ bs) = declared-append b.entries (entries_of_blocks bs) ∙ ap (λ ys. names_declared b.entries ++ ys) (block-names bs)

common-used : (unit : List Statement) → map (λ (u : Use). u.0) (uses_by common_names unit) ≡ names_in_common unit
common-used [] = refl
common-used (s ∷ ss) =
    names-append (used_at s.line (common_names s)) (uses_by common_names ss)
    ∙ (ap (λ xs. xs ++ map (λ (u : Use). u.0) (uses_by common_names ss)) (names-used s.line (common_names s))
    ∙ (ap (λ ys. common_names s ++ ys) (common-used ss) ∙ ap (λ xs. xs ++ names_in_common ss) (sym (block-names (blocks_in s.form)))))

-- names in COMMON that all are new
pub common-once : (functions : FunctionTypes) (unit : List Statement) → are_new (λ x. false) (names_in_common unit) ≡ true → twice_in functions unit Common ≡ []
common-once functions unit h = new-unrepeated (uses_of functions Common unit) none_seen (ap (are_new (λ x. false)) (common-used unit) ∙ h)
