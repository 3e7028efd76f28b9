-- What the program prints for a table and for a line.
-- What the contracts of `report_line`, `report_table` and `report_failure` cite, in the order in which it is read.
pub mod Text
pub mod Report
-- What only the functions inside write.
pub mod Writes
