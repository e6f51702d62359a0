-- A local variable in the loop over those of an activation.
use Rattle.std.proofs.Common.{◌≡◌, ℕ, ◌+◌, ◌<◌, ◌^◌, List, ◌∷◌, drop, length, sym, ap, ◌∙◌, subst, arith, slice_get, Some, get_or}
use Rattle.std.proofs.lemmas.List.{drop_more, length-map}
use Rattle.std.proofs.lemmas.Option.{get_or_from_slice_get, slice_get-get_or}
use Rattle.hep_machine.specs.Words.{Name, Occurrence, Statement, Units, Layout, State, cells_of, dummies_of, local, locals_of, names_of_occurrences, common_cells, scope_of, unit_at, unit_of}
use Rattle.hep_machine.specs.declared.slot.Slot.{Slot}
use Rattle.hep_arena.specs.Space.{Space}
use Rattle.hep_layout.specs.Words.{first_of_part, variable}
use Rattle.hep_layout.proofs.Frames.{among}
use Rattle.hep_image.specs.Owners.{frame_variables, variable_at}
use Rattle.hep_image.specs.declared.owners.FrameVariable.{FrameVariable}
use Rattle.hep_state_text.specs.Contents.{variable_text}
use Rattle.hep_state_text.specs.States as words
use Rattle.hep_state_text.specs.States.{slots_at}
use Rattle.hep_state_text.specs.declared.variable.DisplayedVariable.{DisplayedVariable}
use Rattle.hep_state_text.specs.Activations.{IsFrameAt}
use Rattle.hep_state_text.specs.StoredVariables.{AreKeptFrom}
use Rattle.hep_state_text.specs.Variables.{IsOwn}
use Rattle.hep_state_text.specs.declared.activations.NamedUnit.{NamedUnit}
use Rattle.hep_state_text.proofs.Owned.{among-at, local-at, local-kept, own-is, part-few}

module _ (program : Units) (s : State) (layout : Layout) (a : ℕ) (unit : NamedUnit) (first : ℕ) (arena : Space) (h : IsFrameAt program s layout a unit first arena)
    (xs : List Name) (xs-are : xs ≡ locals_of unit.symbols.now) (i : ℕ) (d : Name) (less : i < length xs) where
  abbrev own : List Statement
  own = unit_at program (unit_of s a)

  abbrev x : Name
  x = get_or xs i d

  there : slice_get (locals_of own) i ≡ Some x
  there = ap (λ zs. slice_get zs i) (sym (xs-are ∙ ap locals_of h.symbols)) ∙ slice_get-get_or xs i d less

  -- it is the next one
  pub next-is : drop i (locals_of unit.symbols.now) ≡ x ∷ drop (i + 1) (locals_of unit.symbols.now)
  next-is = ap (drop i) (sym xs-are) ∙ drop_more xs i d less ∙ ap (λ zs. x ∷ drop (i + 1) zs) xs-are

  module _ (vs : List FrameVariable) (vs-are : vs ≡ unit.code.now.variables) (ds : List Occurrence) (ds-are : names_of_occurrences ds ≡ dummies_of unit.symbols.now) (v : FrameVariable) where
    pub first-is : (get_or vs (length ds + i) v).first ≡ first_of_part own (variable x)
    first-is =
        let count : length ds ≡ length (dummies_of own) = sym (length-map ds (λ (p : Occurrence). p.name)) ∙ ap length (ds-are ∙ ap dummies_of h.symbols) in
        let found = local-at own i x there in
        ap (λ (f : FrameVariable). f.first) (
        ap (λ n. get_or vs (n + i) v) count ∙ ap (λ zs. get_or zs (length (dummies_of own) + i) v) (vs-are ∙ h.code.variables_are)
        ∙ get_or_from_slice_get (frame_variables own) (length (dummies_of own) + i) (variable_at own x) v found)

    pub fits : first + (get_or vs (length ds + i) v).first < 2 ^ 32
    fits =
        let inside = (among (length arena.contents) (common_cells program) a layout h.is_of.frame h.is_of.is_of.memory.laid.apart h.is_of.framed).inside in
        omega (arith, inside, h.is_of.first_is, h.is_of.is_of.few, first-is, part-few own (variable x), h.code.cells, h.code.few_cells)

    pub kept : (cells : ℕ) → cells ≡ cells_of unit.symbols.now x → AreKeptFrom program s layout (local a x 1) cells (first + (get_or vs (length ds + i) v).first) arena
    kept cells counted =
        let k = local-kept program s layout a first arena h.is_of x (among-at (locals_of own) i x there) in
        record {
          is_of = h.is_of.is_of;
          runs = λ n small. k.runs n (subst (λ m. n < m) (counted ∙ ap (λ u. cells_of u x) h.symbols) small) ∙ ap (λ m. Some (first + m + n)) (sym first-is);
        }

  pub line-is : (var : DisplayedVariable) (slots : List Slot) (cells : ℕ) → IsOwn unit.symbols.now x var → cells ≡ cells_of unit.symbols.now x → slots ≡ slots_at s.store (local a x 1) cells
      → variable_text var.name var.asynchronous var.bounds.items slots ≡ words.own_text program s (scope_of program s a) x
  line-is var slots cells own-var counted e =
      own-is program s a x var slots (among-at (locals_of own) i x there) (subst (λ u. IsOwn u x var) h.symbols own-var)
      (e ∙ ap (slots_at s.store (local a x 1)) (counted ∙ ap (λ u. cells_of u x) h.symbols))
