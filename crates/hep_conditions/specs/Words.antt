-- The names of this crate's definitions, exported again for later crates. This file declares nothing.
unfoldable pub use Rattle.hep_conditions.specs.Violations.{at_line, at_occurrence, first_of, precedes, repeated_after, repeated_by, Violations}
unfoldable pub use Rattle.hep_conditions.specs.Violations.{when}
unfoldable pub use Rattle.hep_conditions.specs.Reported.{first_of_two, least_line, least_line_of, least_line_where, line_when, reported}
unfoldable pub use Rattle.hep_conditions.specs.Known.{count_of_items, holds_at_each_place, holds_from, holds_within, known_before, meet}
unfoldable pub use Rattle.hep_conditions.specs.Known.{nothing_more, same_length}
pub use Rattle.hep_conditions.specs.Known.{Known}
unfoldable pub use Rattle.hep_conditions.specs.Statements.{calls_in, count_of, names_of_lists, names_with_lists, names_with_lists_in, names_with_lists_in_all}
unfoldable pub use Rattle.hep_conditions.specs.Statements.{subexpressions_of, subexpressions_of_all, targets_assigned, targets_in_data}
unfoldable pub use Rattle.hep_machine.specs.Words.{trees_in_declarator, trees_in_dimension, trees_in_form, trees_in_item, trees_in_statement}
unfoldable pub use Rattle.hep_machine.specs.Words.{trees_in_upper}
unfoldable pub use Rattle.hep_conditions.specs.Statements.{targets_of_groups, targets_of_jump, targets_purged, terminal_labels}
pub use Rattle.hep_conditions.specs.Statements.{Calling, NameWithList}
unfoldable pub use Rattle.hep_conditions.specs.Names.{ambiguous_in, ambiguous_units, assigned_names, block_names, both_ways, bounded_names}
unfoldable pub use Rattle.hep_conditions.specs.Names.{called_names, common_names, constant_names, data_names, dummy_names, given_twice}
unfoldable pub use Rattle.hep_conditions.specs.Names.{header_name, is_unknown, letter_ranges_in, letter_ranges_of, letters_repeated}
unfoldable pub use Rattle.hep_conditions.specs.Names.{misused_constants, name_violations, names_of_targets, overlap, repeated}
unfoldable pub use Rattle.hep_conditions.specs.Names.{type_missing_violations, typed_names, unit_uses, unknown_name_violations}
unfoldable pub use Rattle.hep_conditions.specs.Names.{unknown_references, unknown_subroutines, unknown_targets, untyped_in, Use, used_both_ways}
unfoldable pub use Rattle.hep_conditions.specs.Names.{uses_by, variable_names}
unfoldable pub use Rattle.hep_conditions.specs.Counts.{count_violations, is_call_counted, is_counted, takes, takes_actuals, takes_list}
unfoldable pub use Rattle.hep_conditions.specs.Statements.{agree, are_actuals, are_integers, has_dimensions, is_form_typed, is_item_typed}
unfoldable pub use Rattle.hep_conditions.specs.Statements.{is_list_typed, is_of, is_plain_integer_scalar, is_scalar_target, is_target_typed, is_typed}
unfoldable pub use Rattle.hep_conditions.specs.Statements.{is_typed_as, KnownType, same_declared, same_type, type_of_listed, type_of_operands}
unfoldable pub use Rattle.hep_conditions.specs.Statements.{type_of_operation, type_of_target, type_of_test, type_of_tested, type_of_tree}
unfoldable pub use Rattle.hep_conditions.specs.Statements.{type_of_value}
unfoldable pub use Rattle.hep_conditions.specs.Constants.{are_bounds_open, are_constants_given, has_bounds, has_constant_subscripts, has_value}
unfoldable pub use Rattle.hep_conditions.specs.Constants.{has_value_or_is_open, is_adjustable, is_adjusted, is_adjusting, is_bound}
unfoldable pub use Rattle.hep_conditions.specs.Constants.{is_constant_expression, is_constant_given, is_constant_of, is_dimension, is_given}
unfoldable pub use Rattle.hep_conditions.specs.Constants.{is_group_typed, is_known, is_open, is_pure, is_shape_if_known, is_statement_typed}
unfoldable pub use Rattle.hep_conditions.specs.Constants.{is_upper_bound, known_shape, known_shape_from, no_parameters, shape_by_declarator}
unfoldable pub use Rattle.hep_conditions.specs.Constants.{type_violations, type_violations_from, value_by, with_parameter, with_parameters}
pub use Rattle.hep_conditions.specs.Constants.{Parameters}
unfoldable pub use Rattle.hep_conditions.specs.Arguments.{actual_class, all_given, argument_violations, fit_dummies, fits_array, fits_call}
unfoldable pub use Rattle.hep_conditions.specs.Arguments.{fits_dummy, fits_scalar, fits_subroutine, given_name, given_with_list}
unfoldable pub use Rattle.hep_conditions.specs.Arguments.{is_asynchronous_scalar, is_purgeable, is_reference_given, is_test_typed}
unfoldable pub use Rattle.hep_conditions.specs.Arguments.{is_tested_typed}
pub use Rattle.hep_conditions.specs.Arguments.{ActualClass, value, variable, whole_array}
unfoldable pub use Rattle.hep_conditions.specs.Common.{common_violations, last_line}
unfoldable pub use Rattle.hep_conditions.specs.Labels.{label_violations, labels_of, unlabelled}
unfoldable pub use Rattle.hep_conditions.specs.Nesting.{block_ifs_of, block_regions, block_violations, crossing, end_between, ends_after, enters}
unfoldable pub use Rattle.hep_conditions.specs.Nesting.{holds_wrongly, indexed_from, indexed_statements, is_between, is_division, is_in}
unfoldable pub use Rattle.hep_conditions.specs.Nesting.{is_no_terminal, is_not_held, is_unconditional, is_wrong_jump, is_wrong_terminal, jump_to}
unfoldable pub use Rattle.hep_conditions.specs.Nesting.{jump_violations, leaves_block, leaves_range, loop_violations, nesting_violations}
unfoldable pub use Rattle.hep_conditions.specs.Nesting.{range_by, range_pair, range_region, range_to, ranges_cross, ranges_of, regions_before}
unfoldable pub use Rattle.hep_conditions.specs.Nesting.{regions_of, regions_to_last, shares_variable, statement_violations, structure_violations}
unfoldable pub use Rattle.hep_conditions.specs.Nesting.{terminal_violations, with_all}
pub use Rattle.hep_conditions.specs.Nesting.{BlockIf, DoRange, IndexedStatement, Region}
unfoldable pub use Rattle.hep_conditions.specs.Data.{data_violations, elements_in, given_twice_from, has_type, is_forbidden, is_given_twice}
unfoldable pub use Rattle.hep_conditions.specs.Data.{is_misplaced, is_outside, is_target_outside, is_value, is_wrong_group, known_targets}
unfoldable pub use Rattle.hep_conditions.specs.Data.{known_values, name_repeated, share_element, wrong_groups_from}
unfoldable pub use Rattle.hep_conditions.specs.Conditions.{first_violation, IsAccepted, is_resume, resume_violations, violations, violations_in}
unfoldable pub use Rattle.hep_conditions.specs.Laws.{Keeps}
unfoldable pub use Rattle.hep_conditions.specs.Statements.{FunctionTypes, function_types, is_function_in, is_type_of, no_functions, type_of_name}
unfoldable pub use Rattle.hep_conditions.specs.Counts.{is_reference_counted}
unfoldable pub use Rattle.hep_conditions.specs.Nesting.{has_loop_variable, is_loop_variable, loop_variables}
unfoldable pub use Rattle.hep_conditions.specs.Arguments.{fits_reference}
pub use Rattle.hep_machine.specs.Words.{list_of}
unfoldable pub use Rattle.hep_conditions.specs.Names.{function_names, function_names_alone, is_untyped, misnamed, misused_results, referenced_typed}
unfoldable pub use Rattle.hep_conditions.specs.Names.{result_names}
