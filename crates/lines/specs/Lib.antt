-- Readings: how two images are read. Sites: the change that a site stands for. Last: the last line, of a tally. Reports: a report after changes.
pub mod Readings
pub mod Sites
pub mod Last
pub mod Reports
