-- A transaction alone commits.
pub mod Quiet
pub mod OwnLocks
pub mod Decided
pub mod Solo
pub mod SoloPass
pub mod SoloStep
pub mod DecideCommits
pub mod BeginSolo
pub mod Commits
