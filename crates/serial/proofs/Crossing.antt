-- What the promise says of one day.
pub mod NonePending
pub mod Elsewhere
pub mod CrossingDay
