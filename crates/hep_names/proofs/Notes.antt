-- A name that a table gets where it has none of that name.
use Rattle.std.proofs.Common.{◌≡◌, Bool, true, false, refl, ap, sym, ◌∙◌, true≢false, cond, if◌then◌else◌, Option, Some, None, is_some, List, [], ◌∷◌, length, ◌&&◌}
use Rattle.std.specs.Option.{option_or}
use Rattle.std.specs.Bool.{◌==◌}
use Rattle.std.specs.Borrow.{Bor}
use Rattle.hep_source.specs.declared.statement.Form.TheVariants.{Function}
use Rattle.hep_machine.specs.Declarations.{type_by_statement}
use Rattle.hep_machine.specs.Words.{is_nonempty, Declarator, Name, Occurrence, ValueType, same_name, name_eq}
use Rattle.hep_names.specs.Tables.{by_header, by_name, either, seen, given, by_declarator}
use Rattle.hep_source.proofs.NameTests.{name_eq-is, equal_names, same_name-turned}

pub or-none : {A : Type 0} (o : Option A) → option_or o None ≡ o
or-none None = refl
or-none (Some a) = refl

pub or-assoc : {A : Type 0} (a b c : Option A) → option_or (option_or a b) c ≡ option_or a (option_or b c)
or-assoc None b c = refl
or-assoc (Some x) b c = refl

module _ {A : Type 0} (name x : Name) (value : A) (old : Name → Option A) where
  pub noted : old name ≡ None → cond (name_eq name x) (Some value) (old x) ≡ option_or (old x) (by_name name value x)
  noted h = ap (λ b. cond b (Some value) (old x)) (name_eq-is name x ∙ same_name-turned name x) ∙ by (same_name x name) refl
    where
      by : (b : Bool) → same_name x name ≡ b → cond b (Some value) (old x) ≡ option_or (old x) (if b then Some value else None)
      by true e = rw (equal_names x name e, h) refl
      by false e = sym (or-none (old x))

  -- a value that a name has, put back
  pub put-back : (before : A) (mid new : Option A) → old name ≡ Some before → mid ≡ cond (name_eq name x) (Some value) (old x) → new ≡ cond (name_eq name x) (Some before) mid
      → new ≡ option_or (old x) (by_name name value x)
  put-back before mid new h m n = by (same_name x name) refl (name_eq-is name x ∙ same_name-turned name x)
    where
      by : (b : Bool) → same_name x name ≡ b → name_eq name x ≡ same_name x name → new ≡ option_or (old x) (if b then Some value else None)
      by true e t =
          n ∙ (ap (λ c. cond c (Some before) mid) (t ∙ e)
          ∙ sym (ap (λ o. option_or o (Some value)) (ap old (equal_names x name e) ∙ h)))
      by false e t =
          n ∙ (ap (λ c. cond c (Some before) mid) (t ∙ e)
          ∙ (m ∙ (ap (λ c. cond c (Some value) (old x)) (t ∙ e) ∙ sym (or-none (old x)))))

  pub kept : is_some (old name) ≡ true → old x ≡ option_or (old x) (by_name name value x)
  kept h = by (same_name x name) refl
    where
      some : (o : Option A) (b : Option A) → is_some o ≡ true → o ≡ option_or o b
      some None b i = absurd (true≢false (sym i))
      some (Some a) b i = refl

      by : (b : Bool) → same_name x name ≡ b → old x ≡ option_or (old x) (if b then Some value else None)
      by true e = some (old x) (Some value) (ap (λ n. is_some (old n)) (equal_names x name e) ∙ h)
      by false e = sym (or-none (old x))

-- a name that a set gets
pub added : (name x : Name) (old : Bool) → cond (name_eq name x) true old ≡ either old (same_name x name)
added name x old = ap (λ b. cond b true old) (name_eq-is name x ∙ same_name-turned name x) ∙ by old (same_name x name)
  where
    by : (a b : Bool) → cond b true a ≡ either a b
    by true true = refl
    by true false = refl
    by false true = refl
    by false false = refl

-- a declarator that a table of arrays gets
pub array-noted : (x : Name) (r : Bor Declarator) (old new : Option (Bor Declarator)) → new ≡ option_or old (by_name r.now.occurrence.name r x)
    → is_nonempty r.now.dimensions ≡ true → seen new ≡ option_or (seen old) (by_declarator r.now x)
array-noted x r (Some o) new e h = ap seen e
array-noted x r None new e h = ap seen e ∙ (ap (λ b. seen (if b then Some r else None)) (same_name-turned x r.now.occurrence.name) ∙ rw h (by (same_name r.now.occurrence.name x)))
  where
    by : (b : Bool) → seen (if b then Some r else None) ≡ given (b && true) r.now
    by true = refl
    by false = refl

pub not-empty : {A : Type 0} (xs : List A) → (length xs == 0) ≡ false → is_nonempty xs ≡ true
not-empty [] h = sym h
not-empty (x ∷ xs) h = refl

-- the type that a header gives
pub header-given : (x : Name) (o : Option ValueType) (p : Occurrence) (ds : List Occurrence) → by_header o p.name x ≡ type_by_statement x (Function o p ds)
header-given x None p ds = refl
header-given x (Some t) p ds = refl

-- what a table gets for a name, such as the number of a subroutine
pub called-noted : {A : Type 0} (x name : Name) (k : A) → by_name name k x ≡ given (same_name name x) k
called-noted x name k = ap (λ b. if b then Some k else None) (same_name-turned x name)
