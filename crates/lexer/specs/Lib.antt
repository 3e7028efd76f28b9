-- What the call that cuts a line into its tokens says and leaves.
pub mod Lexing
