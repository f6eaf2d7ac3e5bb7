-- Lines: the line of a site in pieces, and the last line. Lending: a line that is written into the part after what is written. Reports:
-- reporters one after the other. Arms: the words of bumps and results.
pub mod Lines
pub mod Lending
pub mod Reports
pub mod Arms
