pub mod CodeLengths
pub mod ActualCode
pub mod StateFunctionCode
pub mod ExpressionRefusals
pub mod Uses
pub mod Flows
pub mod Forms
pub mod Indexes
pub mod UnitRefusals
pub mod Counts
pub mod PlacedUnits
pub mod RefusalReasons
pub mod BlocksBegun
pub mod Numbers
pub mod FewOperands
pub mod Counted
mod Worked
