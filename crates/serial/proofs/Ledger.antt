-- The ledger, and that the books say the same.
pub mod InOrder
pub mod Fates
pub mod Linked
pub mod LinkedRows
pub mod PushedRows
pub mod LinkedLines
pub mod Untouched
pub mod Silent
pub mod LinkedDecisions
pub mod LinkedAccess
pub mod LinkedSteps
pub mod Shows
