-- A line cut into its tokens: the laws that upper crates cite.
pub mod Lexing
