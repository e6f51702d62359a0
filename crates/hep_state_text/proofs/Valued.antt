-- A dummy argument in the loop over those of an activation.
use Rattle.std.proofs.Common.{◌≡◌, ℕ, ◌+◌, ◌<◌, ◌^◌, List, ◌∷◌, drop, length, sym, ap, ◌∙◌, subst, arith, slice_get, Some, get_or}
use Rattle.std.specs.Option.{option_map}
use Rattle.std.proofs.lemmas.List.{drop_more, length-map}
use Rattle.std.proofs.lemmas.Option.{get_or_from_slice_get, slice_get-get_or, slice_get-map}
use Rattle.hep_machine.specs.Words.{Name, Occurrence, Statement, Units, Layout, State, dummies_of, names_of_occurrences, scope_of, spelling, unit_at, unit_of}
use Rattle.hep_arena.specs.Space.{Space}
use Rattle.hep_layout.specs.Words.{argument, first_of_part}
use Rattle.hep_image.specs.Owners.{argument_at, frame_variables}
use Rattle.hep_image.specs.declared.owners.FrameVariable.{FrameVariable}
use Rattle.hep_state_text.specs.States as words
use Rattle.hep_state_text.specs.Activations.{IsFrameAt}
use Rattle.hep_state_text.specs.StoredVariables.{AreOut}
use Rattle.hep_state_text.specs.Variables.{value_line, value_seen}
use Rattle.hep_state_text.specs.declared.activations.NamedUnit.{NamedUnit}
use Rattle.hep_state_text.proofs.Owned.{argument-at, dummy-out, value-is}

module _ (program : Units) (s : State) (layout : Layout) (a : ℕ) (unit : NamedUnit) (first : ℕ) (arena : Space) (h : IsFrameAt program s layout a unit first arena)
    (ds : List Occurrence) (ds-are : names_of_occurrences ds ≡ dummies_of unit.symbols.now) (i : ℕ) (d : Occurrence) (less : i < length ds) where
  abbrev own : List Statement
  own = unit_at program (unit_of s a)

  abbrev x : Name
  x = (get_or ds i d).name

  -- it is among them
  pub there : slice_get (dummies_of own) i ≡ Some x
  there =
      ap (λ zs. slice_get zs i) (sym (ds-are ∙ ap dummies_of h.symbols))
      ∙ slice_get-map (λ (p : Occurrence). p.name) ds i ∙ ap (option_map (λ (p : Occurrence). p.name)) (slice_get-get_or ds i d less)

  -- it is the next one
  pub next-is : drop i (dummies_of unit.symbols.now) ≡ x ∷ drop (i + 1) (dummies_of unit.symbols.now)
  next-is =
      let inside : i < length (dummies_of own) = omega (arith, less, length-map ds (λ (p : Occurrence). p.name), ap length (ds-are ∙ ap dummies_of h.symbols)) in
      ap (λ u. drop i (dummies_of u)) h.symbols ∙ drop_more (dummies_of own) i x inside
      ∙ (λ j. get_or_from_slice_get (dummies_of own) i x x there j ∷ drop (i + 1) (dummies_of (sym h.symbols j)))

  module _ (vs : List FrameVariable) (vs-are : vs ≡ unit.code.now.variables) (v : FrameVariable) where
    abbrev at : ℕ
    at = first + (get_or vs i v).first

    -- its first cell, from the frame's one on
    pub first-is : (get_or vs i v).first ≡ first_of_part own (argument x)
    first-is =
        ap (λ zs. (get_or zs i v).first) (vs-are ∙ h.code.variables_are)
        ∙ ap (λ (f : FrameVariable). f.first) (get_or_from_slice_get (frame_variables own) i (argument_at own x) v (argument-at own i x there))

    -- its two cells are in the frame
    pub out : AreOut at 2 arena
    out = subst (λ n. AreOut (first + n) 2 arena) (sym first-is) (dummy-out program s layout a first arena h.is_of i x there)

    pub fits : first + (get_or vs i v).first < 2 ^ 32
    fits = let inside = out.inside in omega (arith, inside, out.few)

    -- its lines
    pub lines-are : value_line (spelling x) x.asynchronous (value_seen arena.contents at) ≡ words.value_text program s (scope_of program s a) x
    lines-are =
        ap (λ n. value_line (spelling x) x.asynchronous (value_seen arena.contents (first + n))) first-is
        ∙ value-is program s layout a first arena h.is_of i x there
