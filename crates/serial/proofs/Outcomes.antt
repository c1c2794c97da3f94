-- What can come of a call: it is refused and nothing changes, or it leaves the register that the rules say, with what its checks found.
pub mod Checks
pub mod Transactions
pub mod Accesses
pub mod AtGrounds
pub mod StampRanges
