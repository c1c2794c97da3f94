-- A row whose locks stand belongs to a transaction that is pending there.
pub mod DeadRows
pub mod StillPending
pub mod PendingSteps
