-- Where memory may have been asked for.
use Rattle.std.proofs.Common.{◌≡◌, ◌≢◌, ℕ, Bool, true, false, true≢false, List, [], ◌∷◌, Ok, Result, Err, OnErr, length, nat_eq, refl, sym, ap, inl, arith}
use Rattle.std.proofs.lemmas.Bool.{eqb-true}
use Rattle.hep_machine.specs.Words.{Units}
use Rattle.hep_outcome.specs.Memory.{MayOpen}
use Rattle.hep_outcome.specs.Notes.{opening_notes_when}
use Rattle.hep_outcome.specs.Outcome.{full_with}

-- ---- texts that need no memory

pub none-there : {A : Type 0} (xs : List A) → nat_eq (length xs) 0 ≡ true → xs ≡ []
none-there [] e = refl
none-there (x ∷ xs) e = absurd (omega (arith, eqb-true (length (x ∷ xs)) 0 e))

pub some-there : {A : Type 0} (xs : List A) → nat_eq (length xs) 0 ≡ false → xs ≢ []
some-there [] e same = absurd (true≢false e)
some-there (x ∷ xs) e same = absurd cc

pub full-bare : (notes : List ℕ) → nat_eq (length notes) 0 ≡ true → full_with [] ≡ full_with notes
full-bare notes e = ap full_with (sym (none-there notes e))

-- ---- a full arena

-- there are notes only where they are asked for
pub noted-full : (long : Bool) (program : Units) (cells : ℕ) (notes : List ℕ) → notes ≡ opening_notes_when long program cells → notes ≢ [] → MayOpen long program cells
noted-full true program cells notes is some = inl refl
noted-full false program cells notes is some = absurd (some is)

-- ---- answers

pub on-err-anyway : {A E P : Type 0} (r : Result A E) → P → OnErr r P
on-err-anyway (Ok x) p = tt
on-err-anyway (Err e) p = p

pub on-err-so : {A E P Q : Type 0} (r : Result A E) → (P → Q) → OnErr r P → OnErr r Q
on-err-so (Ok x) so p = tt
on-err-so (Err e) so p = so p
