pub mod Records
pub mod Verdicts
pub mod Lines
pub mod Answering
pub mod CompareRanks
pub mod Misfits
