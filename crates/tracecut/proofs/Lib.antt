-- The steps of the program's loops.
mod Moving
