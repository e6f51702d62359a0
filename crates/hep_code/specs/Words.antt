-- Definitions of other crates that users of this crate name. Declares nothing.
unfoldable pub use Rattle.hep_code.specs.Targets.{aside, behind, inward, labelled, onward, outward}
pub use Rattle.hep_code.specs.Targets.{at, end_of, Target}
pub use Rattle.hep_code.specs.Tables.{NameTable, Table}
unfoldable pub use Rattle.hep_code.specs.ExpressionCode.{actual_listed_code, actual_name_code, asked_listed, asked_listed_code, count}
unfoldable pub use Rattle.hep_code.specs.ExpressionCode.{evaluating, printed_of}
pub use Rattle.hep_code.specs.ExpressionCode.{actuals_code_in, passes}
pub use Rattle.hep_code.specs.ExpressionCode.{actual_code, actuals_code, argument_of, argument_of_listed, argument_of_name}
pub use Rattle.hep_code.specs.ExpressionCode.{argument_of_target, asked, asked_code, control_code, item_code, items_code, listed_code}
pub use Rattle.hep_code.specs.ExpressionCode.{name_code, target_code, targets_code, tree_code, trees_code}
unfoldable pub use Rattle.hep_code.specs.StatementCode.{ending_of}
pub use Rattle.hep_code.specs.StatementCode.{conditions_code, form_code, instructions_before, loop_end, loop_end_code, operands_code}
pub use Rattle.hep_code.specs.StatementCode.{operation_code, statement_code, statements_code}
unfoldable pub use Rattle.hep_code.specs.StatementCode.{code_of, index_of, names_of, table_by, table_of, unplaced}
pub use Rattle.hep_code.specs.StatementCode.{AddressedUnit}
unfoldable pub use Rattle.hep_code.specs.CodePosition.{Counts, counts_of, Fits, HoldsLoops, left_to_do, work_code}
pub use Rattle.hep_code.specs.CodePosition.{IsAt, Stands}
unfoldable pub use Rattle.hep_code.specs.StatementCode.{argument_of_actual, arity, evaluation_of, operands_of_action, operands_of_actual}
unfoldable pub use Rattle.hep_code.specs.StatementCode.{operands_of_item, operands_of_redex, printed_item, referred_argument}
unfoldable pub use Rattle.hep_code.specs.StatementCode.{operands_of_sought}
pub use Rattle.hep_code.specs.StatementCode.{entries_of, entries_of_sought, operation_of, operation_of_sought}
unfoldable pub use Rattle.hep_code.specs.NextInCode.{IsPastPushes, values_ahead}
pub use Rattle.hep_code.specs.NextInCode.{IsAction, IsNext, IsRedex, IsReference}
unfoldable pub use Rattle.hep_code.specs.ControlTransfer.{first_operand, index_at, index_by_count, index_by_sign, index_chosen, led_by_count, led_to}
unfoldable pub use Rattle.hep_code.specs.PassedArguments.{items_from, passed_actual, passed_from, passed_reference}
pub use Rattle.hep_code.specs.PassedArguments.{by_reference, by_value, PassedArgument}
unfoldable pub use Rattle.hep_code.specs.Replies.{accessing, Addressing, answer_to_store, Answers, Finds, is_asynchronous, IsAddressed}
unfoldable pub use Rattle.hep_code.specs.Replies.{IsAddressedIn, IsSame, read, second_operand, tested}
pub use Rattle.hep_code.specs.Replies.{accessed, Reply, reply_of, reply_to_store, result}
pub use Rattle.hep_code.specs.ControlFlow.{IsCounted, Leads, LeadsCounted, Moves}
unfoldable pub use Rattle.hep_code.specs.ProcessCode.{addressed_unit, Awaits, calling, entered, entry_index, NoLoops}
pub use Rattle.hep_code.specs.ProcessCode.{Addresses, AreBelow, AreLevels, CodeLevel, IsBelow, IsOf, IsTop}
unfoldable pub use Rattle.hep_code.specs.Limits.{most_instructions, most_operands}
unfoldable pub use Rattle.hep_code.specs.ControlTransfer.{deeper, deepest, line_ahead, line_before, line_too_deep, operands_ahead, operands_before}
unfoldable pub use Rattle.hep_code.specs.ControlTransfer.{operands_by, operands_of_entries, operands_of_entry, operands_passed, operands_shown}
