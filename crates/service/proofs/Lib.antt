mod Pairs
mod ProgramDay
mod Promises
mod Reading
mod Writing
