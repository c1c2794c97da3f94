-- What every call leans on.
pub mod Distinct
pub mod Sound
pub mod Places
pub mod Rows
mod Added
mod Found
-- Reads and prewrites.
mod Meetings
mod Accessing
-- Decisions.
mod Tallying
pub mod Registers
-- Two transactions at a ground.
mod Relating
mod Entering
mod Telling
mod Bounding
mod Joining
-- Validation.
mod Raising
mod Pushing
mod Taking
mod Validating
-- Settlement.
mod Settlements
-- Calls one after the other.
pub mod Kept
-- Two registers at one validation.
mod Agreements
-- The days that calls make.
pub mod Days
