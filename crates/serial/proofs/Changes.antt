-- The changes of fates, cells and notes that keep the invariant.
pub mod Steady
pub mod OneTurn
pub mod Turning
pub mod OneFate
pub mod Turns
pub mod Passing
pub mod Settling
pub mod Seeing
pub mod MetByPrewrite
pub mod Putting
