-- What the calls from C answer, where more than one thing is said of a call.
pub mod Calls
