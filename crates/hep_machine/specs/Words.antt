-- The names of definitions of trees and of the source machine, exported again for later crates. This file declares nothing.
pub use Rattle.hep_source.specs.Names.{index_among, index_where, is_among, letters_of, name_eq, same_letters, same_logical, same_name}
pub use Rattle.hep_source.specs.Names.{block_spelling, spelling, with_name, with_names}
pub use Rattle.hep_source.specs.Units.{dummies_by_header, dummies_of, executable_from, is_executable, is_main, is_named, line_at}
pub use Rattle.hep_source.specs.Units.{function_by_header, function_called, function_name, procedure_name}
pub use Rattle.hep_source.specs.Units.{main_among, main_name, main_unit, names_of_occurrences, passed_over, statement_at}
pub use Rattle.hep_source.specs.Units.{subroutine_by_header, subroutine_called, subroutine_name, unit_at, unit_name, Units}
pub use Rattle.hep_source.specs.Tree.{binary, constant, negated, no_trees, nodes, nodes_of_all, occurrence, parenthesized, signed, Tree}
pub use Rattle.hep_source.specs.Tree.{list_of, Trees, trees, trees_of, with_list}
pub use Rattle.hep_source.specs.Defaults.{no_statement, no_unit}
pub use Rattle.hep_source.specs.NodeTree.{node_tree}
pub use Rattle.hep_source.specs.declared.declaration.CommonBlock.{CommonBlock}
pub use Rattle.hep_source.specs.declared.declaration.DataConstant.{DataConstant}
pub use Rattle.hep_source.specs.declared.declaration.DataGroup.{DataGroup}
pub use Rattle.hep_source.specs.declared.declaration.DataValue.{DataValue}
pub use Rattle.hep_source.specs.declared.declaration.Declarator.{Declarator}
pub use Rattle.hep_source.specs.declared.declaration.Dimension.{Dimension}
pub use Rattle.hep_source.specs.declared.declaration.ImplicitGroup.{ImplicitGroup}
pub use Rattle.hep_source.specs.declared.declaration.LetterRange.{LetterRange}
pub use Rattle.hep_source.specs.declared.declaration.NamedConstant.{NamedConstant}
pub use Rattle.hep_source.specs.declared.declaration.Repeat.{Repeat}
pub use Rattle.hep_source.specs.declared.declaration.Target.{Target}
pub use Rattle.hep_source.specs.declared.declaration.UpperBound.{UpperBound}
pub use Rattle.hep_source.specs.declared.declaration.UpperBound.TheVariants.{Expression, Open}
pub use Rattle.hep_source.specs.declared.declaration.ValueType.{ValueType}
pub use Rattle.hep_source.specs.declared.declaration.ValueType.TheVariants.{Integer, Logical}
pub use Rattle.hep_source.specs.declared.function.PureFunction.{PureFunction}
pub use Rattle.hep_source.specs.declared.function.PureFunction.TheVariants.{AbsoluteValue, Largest, PositiveDifference, Remainder, Smallest}
pub use Rattle.hep_source.specs.declared.function.PureFunction.TheVariants.{TransferOfSign}
pub use Rattle.hep_source.specs.declared.function.StateFunction.{StateFunction}
pub use Rattle.hep_source.specs.declared.function.StateFunction.TheVariants.{IsEmpty, IsFull, SetEmpty, ValueOf, WaitFull}
pub use Rattle.hep_source.specs.declared.name.Name.{Name}
pub use Rattle.hep_source.specs.declared.name.Occurrence.{Occurrence}
pub use Rattle.hep_source.specs.declared.operator.ArithmeticOperator.TheVariants.{Add, Multiply, Subtract}
pub use Rattle.hep_source.specs.declared.operator.Operator.{Operator}
pub use Rattle.hep_source.specs.declared.operator.Operator.TheVariants.{Arithmetic, Relational}
pub use Rattle.hep_source.specs.declared.operator.Sign.TheVariants.{Minus}
pub use Rattle.hep_source.specs.declared.statement.DoControl.{DoControl}
pub use Rattle.hep_source.specs.declared.statement.Form.{Form}
pub use Rattle.hep_source.specs.declared.statement.Form.TheVariants.{ArithmeticIf, Assign, Call, Common, ComputedGoTo, Create, Data}
pub use Rattle.hep_source.specs.declared.statement.Form.TheVariants.{Declare, Do, ElseIf, End, IfThen, Parameter, Print, Purge, Subroutine}
pub use Rattle.hep_source.specs.declared.statement.PrintItem.{PrintItem}
pub use Rattle.hep_source.specs.declared.statement.PrintItem.TheVariants.{Characters, Expression}
pub use Rattle.hep_source.specs.declared.statement.SignLabels.{SignLabels}
pub use Rattle.hep_source.specs.declared.statement.Statement.{Statement}
pub use Rattle.hep_source.specs.declared.value.Value.{Value}
pub use Rattle.hep_source.specs.declared.value.Value.TheVariants.{Int, Truth}
unfoldable pub use Rattle.hep_machine.specs.Arithmetic.{as_value, combined_value, function_result, function_value, integer_of}
unfoldable pub use Rattle.hep_machine.specs.Arithmetic.{integer_or_overflow, integers_of, is_integer, largest_of, logical_of, negated_value}
unfoldable pub use Rattle.hep_machine.specs.Arithmetic.{power_of, reciprocal_of, remainder_of, result_of, signed_result, signed_value}
unfoldable pub use Rattle.hep_machine.specs.Arithmetic.{smallest_of}
unfoldable pub use Rattle.hep_machine.specs.Declarations.{block_holding, block_of, BlockName, blocks_in, blocks_of, blocks_of_unit}
unfoldable pub use Rattle.hep_machine.specs.Declarations.{common_block, constants_in, declarator_among, declarators_in, declarators_of}
unfoldable pub use Rattle.hep_machine.specs.Declarations.{declared_type, dimensions_among, dimensions_of, entries_of_blocks, entries_under}
unfoldable pub use Rattle.hep_machine.specs.Declarations.{first_letter, implicit_type, is_array, is_block_among, is_common}
unfoldable pub use Rattle.hep_machine.specs.Declarations.{is_constant_name, is_dummy, is_nonempty, named_constants, names_declared}
unfoldable pub use Rattle.hep_machine.specs.Declarations.{names_in_block, names_of_constants, same_block, type_of, with_blocks}
unfoldable pub use Rattle.hep_machine.specs.Functions.{by_pure_function, function_named, listed_meaning, pure_functions, state_functions}
unfoldable pub use Rattle.hep_machine.specs.Functions.{word_in}
unfoldable pub use Rattle.hep_machine.specs.Functions.{is_external}
pub use Rattle.hep_machine.specs.Functions.{element, Meaning, pure, state, external}
unfoldable pub use Rattle.hep_machine.specs.Shapes.{are_dimensions, before_element, Bounds, counted_element, element_number, elements}
unfoldable pub use Rattle.hep_machine.specs.Shapes.{extent, fits, is_below, is_between, is_most, is_shape, is_within, most_elements}
unfoldable pub use Rattle.hep_machine.specs.Shapes.{natural, product, size_between, sum}
unfoldable pub use Rattle.hep_machine.specs.Constants.{adjustable_dimensions, both, bound_before, bound_of, bounds_of, by_meaning}
unfoldable pub use Rattle.hep_machine.specs.Constants.{cells_before, cells_of, cells_of_all, cells_of_shape, constant_shape, constant_value}
unfoldable pub use Rattle.hep_machine.specs.Constants.{Constants, constants_of, given_by, if_shape, is_constant, is_constant_dimension}
unfoldable pub use Rattle.hep_machine.specs.Constants.{is_constant_lower, is_constant_upper, lower_value, shape_by, upper_value}
unfoldable pub use Rattle.hep_machine.specs.Constants.{value_among, value_of, Values, values_of, with_constant, with_one, with_two}
unfoldable pub use Rattle.hep_machine.specs.Constants.{without_fault}
unfoldable pub use Rattle.hep_machine.specs.Variables.{adjustable_dimensions_of_all, array_occurrence, do_statements, frame_cells, is_do}
unfoldable pub use Rattle.hep_machine.specs.Variables.{is_local, locals_of, names_of, occurrences_in, occurrences_in_all}
unfoldable pub use Rattle.hep_machine.specs.Variables.{occurrences_in_block, occurrences_in_constant, occurrences_in_control}
unfoldable pub use Rattle.hep_machine.specs.Variables.{occurrences_in_data_value, occurrences_in_declarator, occurrences_in_dimension}
unfoldable pub use Rattle.hep_machine.specs.Variables.{occurrences_in_form, occurrences_in_group, occurrences_in_item, occurrences_in_some}
unfoldable pub use Rattle.hep_machine.specs.Variables.{occurrences_in_statement, occurrences_in_target, occurrences_in_upper}
unfoldable pub use Rattle.hep_machine.specs.Variables.{occurrences_of, occurrences_in_declared}
unfoldable pub use Rattle.hep_machine.specs.Listed.{is_referenced, names_listed, names_listed_by, trees_in_declarator, trees_in_dimension}
unfoldable pub use Rattle.hep_machine.specs.Listed.{trees_in_form, trees_in_item, trees_in_statement, trees_in_upper}
unfoldable pub use Rattle.hep_machine.specs.Access.{is_empty, is_full, purged_cell, reading_asynchronous, setting_empty, unset_cell}
unfoldable pub use Rattle.hep_machine.specs.Access.{waiting_full, with_stored, writing, writing_asynchronous}
pub use Rattle.hep_machine.specs.Access.{makes, Outcome, undefined}
unfoldable pub use Rattle.hep_machine.specs.State.{Cell, Process, Store}
pub use Rattle.hep_machine.specs.State.{Activation, common, doing, Dummy, ending, Level, local, Location, Loop, State, Work}
unfoldable pub use Rattle.hep_machine.specs.Storage.{distance, emptied_from, further, same_location, with_cell, with_empty, with_value}
unfoldable pub use Rattle.hep_machine.specs.Processes.{activation_of, is_number_among, living, loop_at, numbered, parent_of, top_of}
unfoldable pub use Rattle.hep_machine.specs.Processes.{unit_of, with_loop, with_numbered, with_process}
unfoldable pub use Rattle.hep_machine.specs.Locations.{dummy_at, element_in, element_of, location_in, location_of_name, own_storage}
unfoldable pub use Rattle.hep_machine.specs.Locations.{start_by_block, storage_by_dummy, storage_of, storage_of_dummy}
pub use Rattle.hep_machine.specs.Locations.{Scope, StorageSequence}
unfoldable pub use Rattle.hep_machine.specs.Evaluation.{actual_of, actual_of_listed, actual_of_name, actuals_of, combined, control_part}
unfoldable pub use Rattle.hep_machine.specs.Evaluation.{increment_of, item_of, item_part, items_part, list_part, mapped_part, next_by}
unfoldable pub use Rattle.hep_machine.specs.Evaluation.{next_of, next_of_form, part_of, part_of_listed, part_of_name, parts_of, plug}
unfoldable pub use Rattle.hep_machine.specs.Evaluation.{plug_actuals, plug_all, plug_control, plug_form, plug_item, plug_items, plug_list}
unfoldable pub use Rattle.hep_machine.specs.Evaluation.{plug_target, plug_targets, plug_work, plugged, plugged_first, plugged_listed}
unfoldable pub use Rattle.hep_machine.specs.Evaluation.{redex_of, Reference, reference_of, reference_of_listed, target_part, targets_part}
unfoldable pub use Rattle.hep_machine.specs.Evaluation.{then_part, actuals_in, plug_actuals_in, plugged_arguments, reference_part}
pub use Rattle.hep_machine.specs.Evaluation.{RedexOrReference, evaluating, referring, resuming}
pub use Rattle.hep_machine.specs.Evaluation.{Action, Actual, applying, assigning, branching, calling, choosing, combining, continuing}
pub use Rattle.hep_machine.specs.Evaluation.{creating, does, ending_loop, entering_block, entering_loop, evaluated, first_redex, jumping}
pub use Rattle.hep_machine.specs.Evaluation.{leaving, negating, Next, Part, printing, purging, Redex, referred, signing, stopping, testing}
pub use Rattle.hep_machine.specs.Evaluation.{testing_condition, wants, whole}
unfoldable pub use Rattle.hep_machine.specs.Control.{after_condition, alternative_of, before_alternative, before_end_if, end_if_after}
unfoldable pub use Rattle.hep_machine.specs.Control.{following, has_label, index_labelled, index_of_label, is_ended_at, is_labelled}
unfoldable pub use Rattle.hep_machine.specs.Control.{label_by_sign, label_chosen, level_after_condition, level_after_loop}
unfoldable pub use Rattle.hep_machine.specs.Control.{level_after_statement, level_at_choice, level_at_end_of, level_at_label}
unfoldable pub use Rattle.hep_machine.specs.Control.{level_at_statement, level_in_block, level_in_range, loops_among, loops_around}
unfoldable pub use Rattle.hep_machine.specs.Control.{loops_ending_at, past_block, past_else, role_after, role_of, role_of_form}
unfoldable pub use Rattle.hep_machine.specs.Control.{terminal_by_form, terminal_of, to_alternative, to_end_if, variable_by_form}
unfoldable pub use Rattle.hep_machine.specs.Control.{variable_of}
pub use Rattle.hep_machine.specs.Control.{alternative, closes, opens, other, otherwise, Role}
unfoldable pub use Rattle.hep_machine.specs.Binding.{binding_for, binding_with_shapes, bound_values, dummies_for, dummy_before, dummy_for}
unfoldable pub use Rattle.hep_machine.specs.Binding.{dummy_with_shape, first_element, from_element, with_actual, with_actuals, with_shape}
unfoldable pub use Rattle.hep_machine.specs.Binding.{with_shapes, with_store}
pub use Rattle.hep_machine.specs.Binding.{Binding}
unfoldable pub use Rattle.hep_machine.specs.Step.{answer_at, answer_of, answer_of_read, answer_of_read_at, answer_of_test}
unfoldable pub use Rattle.hep_machine.specs.Step.{answer_of_test_at, binding_of, by_result, entry_level, fault_of, is_waiting, iterations}
unfoldable pub use Rattle.hep_machine.specs.Step.{level_after_count, next_activation, result_after_action, result_after_answer}
unfoldable pub use Rattle.hep_machine.specs.Step.{result_after_assignment, result_after_call, result_after_create, result_after_do}
unfoldable pub use Rattle.hep_machine.specs.Step.{result_after_fault, result_after_increment, result_after_loop_end}
unfoldable pub use Rattle.hep_machine.specs.Step.{result_after_loop_variable, result_after_next, result_after_purge, result_after_store}
unfoldable pub use Rattle.hep_machine.specs.Step.{result_after_write, scope_of, stack_after_return, state_after_count, state_made}
unfoldable pub use Rattle.hep_machine.specs.Step.{state_with_level, state_with_store, step, step_result_of, step_result_of_top}
unfoldable pub use Rattle.hep_machine.specs.Step.{store_after_both, store_after_purge, store_after_purge_at, store_after_purge_of}
unfoldable pub use Rattle.hep_machine.specs.Step.{unit_called, unit_on_top, wanted_by, wanted_of, with_activation, with_new_process}
unfoldable pub use Rattle.hep_machine.specs.Step.{written, function_unit, result_after_sought, stack_after_value, result_after_value}
unfoldable pub use Rattle.hep_machine.specs.Step.{result_after_result, result_after_leaving, state_resumed}
pub use Rattle.hep_machine.specs.Step.{absent, Answer, fails, stepped, StepResult, Top, waiting, Wanted}
unfoldable pub use Rattle.hep_machine.specs.Data.{all_elements, count_by, data_groups, element_with, elements_named, groups_in, item_at}
unfoldable pub use Rattle.hep_machine.specs.Data.{repeat_of, value_of_constant, values_given}
pub use Rattle.hep_machine.specs.Data.{Repeated, Stretch}
unfoldable pub use Rattle.hep_machine.specs.Opening.{all_values_given, cell_given, index_of_location, index_within, opening}
unfoldable pub use Rattle.hep_machine.specs.Opening.{storage_units_named, storage_units_of, StorageUnits, with_group, with_groups}
unfoldable pub use Rattle.hep_machine.specs.Opening.{with_values}
unfoldable pub use Rattle.hep_machine.specs.Run.{AreSteps, run, run_from, schedule_of, schedule_of_entry, state_after, state_after_turn}
unfoldable pub use Rattle.hep_machine.specs.Layout.{activations_on, block_cells, cells_of_blocks, common_cells, frame_of, frames_up_to}
unfoldable pub use Rattle.hep_machine.specs.Layout.{is_held, is_made, Layout, layout_after_step, layout_after_turn, layout_of}
unfoldable pub use Rattle.hep_machine.specs.Layout.{layout_with_activation, lowest_gap, opening_layout, placing_from, placing_turn}
unfoldable pub use Rattle.hep_machine.specs.Layout.{remaining_layout, used_cells, with_ancestries, with_ancestry, with_frame, with_new}
pub use Rattle.hep_machine.specs.Layout.{Frame, Placing}
unfoldable pub use Rattle.hep_machine.specs.Histories.{AreEntries, IsEntry}
pub use Rattle.hep_machine.specs.Histories.{IsLegal}
unfoldable pub use Rattle.hep_machine.specs.Views.{cell_view, cells_at, cells_from, cells_of_activation, cells_of_block, cells_of_dummy}
unfoldable pub use Rattle.hep_machine.specs.Views.{cells_of_local, is_owned, process_view_of, process_views_from, view_of}
pub use Rattle.hep_machine.specs.Views.{CellView, ProcessView, View}
unfoldable pub use Rattle.hep_machine.specs.Schedules.{first_above, last_process, living_from, next_of_ready, next_ready, progress_after}
unfoldable pub use Rattle.hep_machine.specs.Schedules.{progress_after_entry, progress_after_step, progress_after_steps, progress_from}
unfoldable pub use Rattle.hep_machine.specs.Schedules.{ready_in, without}
pub use Rattle.hep_machine.specs.Schedules.{Progress}
unfoldable pub use Rattle.hep_machine.specs.Laws.{FillsNone, HasHeldChild, is_purge, IsOnStack, IsSameOrOneMore, KeepsStatesBut, purges}
unfoldable pub use Rattle.hep_machine.specs.Laws.{StandApart, state_replayed, top_purges}
unfoldable pub use Rattle.hep_machine.specs.Defaults.{no_activation, no_dummy, no_index, no_loop, no_name, no_shape, no_value}
