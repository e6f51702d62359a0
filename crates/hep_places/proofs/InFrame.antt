-- What is found of the variables of a frame is what it has.
use Rattle.std.proofs.Common.{◌≡◌, ◌+◌, ◌*◌, ◌≤◌, true, List, ◌++◌, Some, ap, ap₂, ◌∙◌}
use Rattle.std.specs.Option.{unwrap_or}
use Rattle.hep_machine.specs.Words.{Name, Statement, is_among, dummies_of, is_array, frame_cells, locals_of}
use Rattle.hep_accepted_laws.proofs.Members.{Has, has_among}
use Rattle.hep_layout.specs.Words.{first_of_part, variable}
use Rattle.hep_image.specs.Names.{variable_index}
use Rattle.hep_image.specs.declared.owners.FrameVariable.{FrameVariable}
use Rattle.hep_image.specs.Owners.{argument_at, frame_variables, variable_at}
use Rattle.hep_storage.specs.Starts.{narrowed}
use Rattle.hep_places.specs.StorageStarts.{Table}
use Rattle.hep_places.specs.FrameOwners.{argument_found, local_found, variables_found}
use Rattle.hep_places.proofs.FrameStarts.{argument-at}
use Rattle.hep_places.proofs.RightPlaces.{index-there, map-same}

module _ (unit : List Statement) (small : frame_cells unit ≤ 16777216) (locals : Table) (at : (x : Name) → is_among x (locals_of unit) ≡ true → locals x ≡ Some (first_of_part unit (variable x))) where
  argument-right : (x : Name) → Has (dummies_of unit) x → argument_found unit x ≡ argument_at unit x
  argument-right x h =
      let found = index-there x (dummies_of unit) (has_among (dummies_of unit) x h) in
      let begins = ap (λ o. narrowed (1 + 2 * unwrap_or o 0)) found.1 ∙ argument-at unit small x found.0 found.1 in
      λ i. record { index = variable_index unit x; first = begins i; is_array = is_array unit x }

  local-right : (x : Name) → Has (locals_of unit) x → local_found unit locals x ≡ variable_at unit x
  local-right x h =
      let begins = ap (λ o. unwrap_or o 0) (at x (has_among (locals_of unit) x h)) in
      λ i. record { index = variable_index unit x; first = begins i; is_array = is_array unit x }

  pub frame-right : variables_found unit locals (dummies_of unit) (locals_of unit) ≡ frame_variables unit
  frame-right =
      ap₂ (λ (vs ws : List FrameVariable). vs ++ ws) (map-same (argument_found unit) (argument_at unit) (dummies_of unit) argument-right)
      (map-same (local_found unit locals) (variable_at unit) (locals_of unit) local-right)
