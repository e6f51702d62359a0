use Rattle.std.proofs.Common.{◌≡◌, ◌∙◌, ap}
use Rattle.std.specs.List.{filter}
use Rattle.indexmap.specs.IndexMap.{get}
use Rattle.indexmap.specs.IndexSet.{contains}
use Rattle.hep_machine.specs.Words.{Name, index_among, dummies_of, common_block, is_constant_name, constant_value, names_of, name_eq}
use Rattle.hep_names.specs.Tables.{is_local_by}
use Rattle.hep_names.proofs.Owned.{locals-owned}
use Rattle.hep_names.proofs.Statements.{dummies-by-header, block-by-statements, constant-by-statements}
use Rattle.hep_names.proofs.symbols.Symbols.new.Goals as goal

pub invariant_of-result : goal.invariant_of-result
invariant_of-result c =
    let unit = c.args.statements.now in
    let numbered : (x : Name) → get name_eq c.in_ok-dummies.dummies.map x ≡ index_among x (dummies_of unit) = λ x. c.in_ok-dummies.ensures x ∙ dummies-by-header x unit in
    let common : (x : Name) → get name_eq c.in_ok-blocks.field-0.blocks.map x ≡ common_block unit x = λ x. c.in_ok-blocks.ensures.blocks x ∙ block-by-statements x unit in
    let constant : (x : Name) → contains name_eq c.in_ok-constant_names.constant_names.set x ≡ is_constant_name unit x = λ x. c.in_ok-constant_names.ensures x ∙ constant-by-statements x unit in
    let names = c.in_ok-names.ensures ∙ ap names_of c.in_ok-listed.ensures in
    record {
      typed = c.in_ok-types.ensures;
      lettered = c.in_ok-letters.ensures;
      bounded = c.in_ok-listed.ensures;
      numbered = numbered;
      common = common;
      once = c.in_ok-blocks.ensures.once;
      constant = constant;
      valued = c.in_ok-constants.ensures ∙ ap constant_value c.in_ok-listed.ensures;
      named = names;
      owned =
          c.in_ok-locals.ensures
          ∙ (ap (filter (is_local_by (get name_eq c.in_ok-dummies.dummies.map) (get name_eq c.in_ok-blocks.field-0.blocks.map) (contains name_eq c.in_ok-constant_names.constant_names.set))) c.as_slice.ensures.keys
          ∙ locals-owned unit (get name_eq c.in_ok-dummies.dummies.map) (get name_eq c.in_ok-blocks.field-0.blocks.map) (contains name_eq c.in_ok-constant_names.constant_names.set) c.in_ok-names.names.set.keys numbered common constant names);
    }
