-- To put back what stood in some cells undoes what was stored in them alone.
use Rattle.std.proofs.Common.{◌≡◌, ◌≤◌, inl, inr, ℕ, zero, suc, pos, ◌+◌, ◌-◌, Bool, true, false, List, [], ◌∷◌, length, length-set, Some, refl, sym, ap, ◌∙◌, subst, arith, nat_eq, slice_set, if◌then◌else◌, ◌||◌}
use Rattle.std.proofs.lemmas.Bool.{cases_lt, eq-eqb, eqb-true}
use Rattle.std.proofs.lemmas.Bool.Decides.{nat_tests}
use Rattle.hep_machine.specs.Words.{Value, Int, is_number_among, natural, unset_cell}
use Rattle.hep_machine.specs.declared.slot.Slot.{Slot}
use Rattle.hep_image.specs.Addressing.{cells_in}
use Rattle.hep_step.specs.Effects.{with_value_at}
use Rattle.hep_private.specs.declared.record.Record.{Record}
use Rattle.hep_private.specs.declared.record.Record.TheVariants.{Goes, Gives, Reads, Stores, Enters, Ends}
use Rattle.hep_private.specs.OwnState.{cells_of, contents_after, stores_of}
use Rattle.hep_commit.specs.UndoneStores.{AreAmong, AreOf, put_back}
use Rattle.hep_private.proofs.StoredCells.{cells-set, next-test, size-after}
use Rattle.hep_private.specs.InPlace.{stored_with}

-- it is none of these cells of a frame
abbrev pub IsOut : ℕ → List ℕ → ℕ → Type 0
IsOut first cells p = (c : ℕ) → is_number_among c cells ≡ true → nat_eq p (first + c) ≡ false

-- the same but in these cells
abbrev pub AreAlike : ℕ → List ℕ → List Slot → List Slot → Type 0
AreAlike first cells old new = (p : ℕ) → IsOut first cells p → cells_in new p ≡ cells_in old p

cells-other : (xs : List Slot) (i p : ℕ) (slot : Slot) → nat_eq p i ≡ false → cells_in (slice_set xs i slot) p ≡ cells_in xs p
cells-other [] i p slot ne = refl
cells-other (x ∷ xs) zero zero slot ne = absurd (grind (arith, nat_tests, ne))
cells-other (x ∷ xs) zero (suc p) slot ne = refl
cells-other (x ∷ xs) (suc i) zero slot ne = refl
cells-other (x ∷ xs) (suc i) (suc p) slot ne = cells-other xs i p slot (next-test p i ∙ ne)

module _ (first : ℕ) (cells : List ℕ) where
  loop-alike : (contents : List Slot) (c d : ℕ) (v : Value) (count increment : Slot) → AreAmong cells (c ∷ d ∷ suc d ∷ [])
      → AreAlike first cells contents (slice_set (slice_set (with_value_at contents (first + c) v) (first + d) count) (suc (first + d)) increment)
  loop-alike contents c d v count increment among p out =
      let one = with_value_at contents (first + c) v in
      let next : first + suc d ≡ suc (first + d) = omega arith in
      cells-other (slice_set one (first + d) count) (suc (first + d)) p increment (subst (λ at. nat_eq p at ≡ false) next (out (suc d) among.1.1.0))
      ∙ (cells-other one (first + d) p count (out d among.1.0)
      ∙ cells-other contents (first + c) p _ (out c among.0))

  alike-after : (contents : List Slot) (r : Record) → AreAmong cells (cells_of (stores_of r)) → AreAlike first cells contents (contents_after first contents r)
  alike-after contents (Goes at) among p out = refl
  alike-after contents (Gives at v) among p out = refl
  alike-after contents (Reads f c at v) among p out = refl
  alike-after contents (Stores c at v) among p out = cells-other contents (first + c) p _ (out c among.0)
  alike-after contents (Enters c d at z count increment) among p out = loop-alike contents c d (Int z) (record { value = Some (Int (pos (natural count))); full = false }) (record { value = Some (Int increment); full = false }) among p out
  alike-after contents (Ends f g h c d at z count increment) among p out =
      loop-alike contents c d (Int z) (record { value = Some (Int (pos (natural count - 1))); full = false }) (record { value = Some (Int increment); full = false }) among p out

  pub alike-with : (contents : List Slot) (records : List Record) → AreOf cells records → AreAlike first cells contents (stored_with first contents records)
  alike-with contents [] of p out = refl
  alike-with contents (r ∷ rs) of p out = alike-with (contents_after first contents r) rs of.1 p out ∙ alike-after contents r of.0 p out

pub size-with : (first : ℕ) (contents : List Slot) (records : List Record) → length (stored_with first contents records) ≡ length contents
size-with first contents [] = refl
size-with first contents (r ∷ rs) = size-with first (contents_after first contents r) rs ∙ size-after first contents r

same-lists : (xs ys : List Slot) → length xs ≡ length ys → ((p : ℕ) → cells_in xs p ≡ cells_in ys p) → xs ≡ ys
same-lists [] [] size same = refl
same-lists [] (y ∷ ys) size same = absurd (omega (arith, size))
same-lists (x ∷ xs) [] size same = absurd (omega (arith, size))
same-lists (x ∷ xs) (y ∷ ys) size same = ap (λ z. z ∷ xs) (same 0) ∙ ap (λ zs. y ∷ zs) (same-lists xs ys (omega (arith, size)) (λ p. same (suc p)))

-- past the last cell nothing stands, and nothing is set
cells-past : (xs : List Slot) (p : ℕ) → length xs ≤ p → cells_in xs p ≡ unset_cell
cells-past [] p le = refl
cells-past (x ∷ xs) zero le = absurd (omega (arith, le))
cells-past (x ∷ xs) (suc p) le = cells-past xs p (omega (arith, le))

set-past : (xs : List Slot) (i : ℕ) (slot : Slot) → length xs ≤ i → slice_set xs i slot ≡ xs
set-past [] i slot le = refl
set-past (x ∷ xs) zero slot le = absurd (omega (arith, le))
set-past (x ∷ xs) (suc i) slot le = ap (λ ys. x ∷ ys) (set-past xs i slot (omega (arith, le)))

-- cells that are alike but in some get what stood in these
module _ (first : ℕ) (old : List Slot) where
  pub undone : (cells : List ℕ) (now : List Slot) → length now ≡ length old → AreAlike first cells old now → put_back first cells old now ≡ old
  undone [] now size alike = same-lists now old size (λ p. alike p (λ c among. absurd (grind (arith, among))))
  undone (c ∷ cs) now size alike =
      undone cs (slice_set now (first + c) (cells_in old (first + c))) (length-set now (first + c) _ ∙ size) (λ p out. by_place p out (nat_eq p (first + c)) refl) where
        out_of_all : (p : ℕ) → IsOut first cs p → nat_eq p (first + c) ≡ false → IsOut first (c ∷ cs) p
        out_of_all p out ne d among = by_cell (nat_eq d c) refl where
          by_cell : (b : Bool) → nat_eq d c ≡ b → nat_eq p (first + d) ≡ false
          by_cell true e = subst (λ x. nat_eq p (first + x) ≡ false) (sym (eqb-true d c e)) ne
          by_cell false e = out d (sym (ap (λ b. b || is_number_among d cs) e) ∙ among)

        set_there : cells_in (slice_set now (first + c) (cells_in old (first + c))) (first + c) ≡ cells_in old (first + c)
        set_there =
            elim (cases_lt (first + c) (length now)) [
              | inl lt ↦ cells-set now (first + c) (first + c) (cells_in old (first + c)) lt ∙ ap (λ b. if b then cells_in old (first + c) else cells_in now (first + c)) (eq-eqb (first + c) (first + c) refl)
              | inr past ↦
                  ap (λ ys. cells_in ys (first + c)) (set-past now (first + c) (cells_in old (first + c)) past)
                  ∙ (cells-past now (first + c) past ∙ sym (cells-past old (first + c) (omega (arith, past, size))))
            ]

        by_place : (p : ℕ) → IsOut first cs p → (b : Bool) → nat_eq p (first + c) ≡ b → cells_in (slice_set now (first + c) (cells_in old (first + c))) p ≡ cells_in old p
        by_place p out true e =
            subst (λ q. cells_in (slice_set now (first + c) (cells_in old (first + c))) q ≡ cells_in old q) (sym (eqb-true p (first + c) e)) set_there
        by_place p out false e = cells-other now (first + c) p (cells_in old (first + c)) e ∙ alike p (out_of_all p out e)

pub saved-undo : (first : ℕ) (contents : List Slot) (cells : List ℕ) (records : List Record) → AreOf cells records → put_back first cells contents (stored_with first contents records) ≡ contents
saved-undo first contents cells records of = undone first contents cells (stored_with first contents records) (size-with first contents records) (alike-with first cells contents records of)
