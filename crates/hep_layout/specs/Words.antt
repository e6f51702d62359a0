-- The names of this crate's definitions, exported again for later crates. This file declares nothing.
unfoldable pub use Rattle.hep_layout.specs.Rows.{arguments_row, block_row, bounds_row, cells_in, common_row, first_in, first_in_common}
unfoldable pub use Rattle.hep_layout.specs.Rows.{first_of_block, first_of_part, frame_row, iterations_row, owner_in, place_in}
unfoldable pub use Rattle.hep_layout.specs.Rows.{place_of_block, place_of_part, Row, same_part, size_in, variables_row}
pub use Rattle.hep_layout.specs.Rows.{argument, bounds, FramePart, header, iteration, variable}
unfoldable pub use Rattle.hep_layout.specs.Addresses.{address, address_of_kept, AreSingle, cell_in, frame_address, frame_from, Holds}
unfoldable pub use Rattle.hep_layout.specs.Addresses.{kept_in}
pub use Rattle.hep_layout.specs.Addresses.{IsLaid, IsMemory}
unfoldable pub use Rattle.hep_layout.specs.Runs.{RunsFrom}
unfoldable pub use Rattle.hep_layout.specs.Descriptors.{Describes, is_descriptor, is_value, keeps_unit, level_of, loop_among, number}
unfoldable pub use Rattle.hep_layout.specs.Descriptors.{slot_by_dummy, slot_of_bounds, slot_of_dummy, slot_of_loop, slot_of_reference}
unfoldable pub use Rattle.hep_layout.specs.Descriptors.{slot_of_upper, slot_of_value, slot_on_level, DescriptorSlots, descriptor_slots}
unfoldable pub use Rattle.hep_layout.specs.FrameTree.{activation_under, also, AreFramed, AreNeededBut, but, children_out, count_up_to}
unfoldable pub use Rattle.hep_layout.specs.FrameTree.{first_nodes, is_just, is_stacked, IsNeeded, new_node, Nodes, with_end, with_ended}
unfoldable pub use Rattle.hep_layout.specs.FrameTree.{with_node, with_one_less, with_one_more, without_node}
pub use Rattle.hep_layout.specs.FrameTree.{IsAtRest, IsFrameNode, IsFrameTree, FrameNode}
unfoldable pub use Rattle.hep_layout.specs.Stacks.{times, times_on}
unfoldable pub use Rattle.hep_layout.specs.References.{IsAbove, IsMadeAt, IsOwnedAbove}
