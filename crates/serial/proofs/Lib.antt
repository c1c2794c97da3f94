-- Days.
pub mod Days
-- What lists hold, and what the books are found to hold by it.
pub mod Lines
-- What can come of a call.
pub mod Outcomes
-- The ledger, and that the books say the same.
pub mod Ledger
-- What holds at every moment of a day.
pub mod Standing
pub mod Invariant
-- The changes of fates, cells and notes that keep what holds of cells, readers and writers.
pub mod Changes
-- What else holds: who is pending, which numbers are in the books, and the bounds of rows.
pub mod Pending
pub mod Numbers
pub mod Bounds
-- Every call keeps all of it.
pub mod Steps
-- From the invariant to the serial order.
pub mod Order
-- A transaction alone commits.
pub mod Alone
-- A ground's validation depends on that ground alone.
pub mod Local
-- The whole promise, and what it says of one day.
pub mod Promised
pub mod Crossing
