-- Every number in the books was begun.
pub mod Known
pub mod StillKnown
pub mod KnownSteps
