-- What the calls for C give.
-- What the calls' contracts and the promises cite, in the order in which they are read.
pub mod Numbers
pub mod SameCalls
