-- What reads and writes that are tried again do to known bytes.
pub mod Tries
