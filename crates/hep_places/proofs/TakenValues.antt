-- What tables have of names that stand one behind the other, name by name.
use Rattle.std.proofs.Common.{◌≡◌, ℕ, ◌+◌, Bool, true, false, List, [], ◌∷◌, Option, Some, None, refl, ap, sym, ◌∙◌, arith, if◌then◌else◌}
use Rattle.std.specs.Option.{option_or}
use Rattle.hep_machine.specs.Words.{Name, Statement, same_name, cells_of, BlockName}
use Rattle.hep_layout.specs.Words.{Row, cells_in, first_in}
use Rattle.hep_layout.proofs.Rows.{has_key}
use Rattle.hep_names.specs.Tables.{by_name}
use Rattle.hep_storage.specs.Starts.{narrowed}
use Rattle.hep_places.specs.declared.block_offsets.NameInBlock.{NameInBlock}
use Rattle.hep_places.specs.StorageStarts.{start_among, behind, lengthened, no_length, offset_among}
use Rattle.hep_places.proofs.Narrowed.{narrowed-more}
use Rattle.hep_places.proofs.InBlocks.{grouped}

-- ---- a turn of a loop

taken : {A : Type 0} (a : Option A) (t : Bool) (v : A) (r : Option A) → option_or (option_or a (if t then Some v else None)) r ≡ option_or a (if t then Some v else r)
taken None true v r = refl
taken None false v r = refl
taken (Some b) t v r = refl

pub offset-next : (unit : List Statement) (x : Name) (e : NameInBlock) (lengths longer : BlockName → ℕ) (es rest : List NameInBlock) (a new whole : Option ℕ)
    → option_or a (offset_among unit lengths es x) ≡ whole → es ≡ e ∷ rest → new ≡ option_or a (by_name e.name (lengths e.block) x)
    → ((b : BlockName) → longer b ≡ lengthened lengths e.block (cells_of unit e.name) b) → option_or new (offset_among unit longer rest x) ≡ whole
offset-next unit x e lengths longer es rest a new whole h d n l =
    ap (λ o. option_or o (offset_among unit longer rest x)) n
    ∙ (ap (λ (f : BlockName → ℕ). option_or (option_or a (by_name e.name (lengths e.block) x)) (offset_among unit f rest x)) (λ i b. l b i)
    ∙ (taken a (same_name x e.name) (lengths e.block) (offset_among unit (lengthened lengths e.block (cells_of unit e.name)) rest x)
    ∙ (ap (λ r. option_or a (offset_among unit lengths r x)) (sym d) ∙ h)))

-- ---- rows as a whole

same-some : (n : ℕ) (m : ℕ) → n ≡ m → Some (narrowed n) ≡ Some (narrowed m)
same-some n m e = ap (λ k. Some (narrowed k)) e

pub start-is : (x : Name) (row : Row Name) (n : ℕ) → start_among (narrowed n) row x ≡ (if has_key (same_name x) row then Some (narrowed (n + first_in (same_name x) row)) else None)
start-is x [] n = refl
start-is x (e ∷ es) n = by (same_name x e.0) (start-is x es (n + e.1)) where
  further : (b : Bool) (f : ℕ) → (if b then Some (narrowed (n + e.1 + f)) else None) ≡ (if b then Some (narrowed (n + (e.1 + f))) else None)
  further true f = same-some (n + e.1 + f) (n + (e.1 + f)) (omega arith)
  further false f = refl

  by : (b : Bool) → start_among (narrowed (n + e.1)) es x ≡ (if has_key (same_name x) es then Some (narrowed (n + e.1 + first_in (same_name x) es)) else None)
      → (if b then Some (narrowed n) else start_among (narrowed (narrowed n + e.1)) es x)
      ≡ (if (if b then true else has_key (same_name x) es) then Some (narrowed (n + (if b then 0 else e.1 + first_in (same_name x) es))) else None)
  by true rest = same-some n (n + 0) (omega arith)
  by false rest = ap (λ k. start_among k es x) (narrowed-more n e.1) ∙ (rest ∙ further (has_key (same_name x) es) (first_in (same_name x) es))

none-more : (n : ℕ) → n ≡ n + 0
none-more n = omega arith

pub behind-is : (row : Row Name) (n : ℕ) → behind (narrowed n) row ≡ narrowed (n + cells_in row)
behind-is [] n = ap narrowed (none-more n)
behind-is (e ∷ es) n = ap (λ k. behind k es) (narrowed-more n e.1) ∙ (behind-is es (n + e.1) ∙ ap narrowed (grouped n e.1 (cells_in es)))

-- ---- the names in common blocks

abbrev pub no_entry : NameInBlock
no_entry = record { block = None; name = record { asynchronous = false; letters = [] } }

pub offset-first : (unit : List Statement) (x : Name) (lengths : BlockName → ℕ) (es : List NameInBlock) (a : Option ℕ) → a ≡ None → ((b : BlockName) → lengths b ≡ no_length b)
    → option_or a (offset_among unit lengths es x) ≡ offset_among unit no_length es x
offset-first unit x lengths es a e h = ap (λ o. option_or o (offset_among unit lengths es x)) e ∙ ap (λ (f : BlockName → ℕ). offset_among unit f es x) (λ i b. h b i)
