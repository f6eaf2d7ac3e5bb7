-- Writing: a buffer with text at a place. Writers: a writer after text. Pieces: a text in pieces. Numbers: a number in decimal, as the library shows it.
pub mod Writing
pub mod Writers
pub mod Pieces
pub mod Numbers
