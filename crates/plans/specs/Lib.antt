-- What is found of a table before the work area is filled. No call's contract and no promise cites it.
pub mod Plans
