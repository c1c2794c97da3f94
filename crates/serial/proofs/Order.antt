-- From the invariant to the serial order.
pub mod LastWriter
pub mod OrderTells
pub mod Writers
pub mod Sources
pub mod SerialLaw
pub mod InPlainWords
