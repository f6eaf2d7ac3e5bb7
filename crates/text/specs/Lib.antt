-- Decimal: how a number is spelled. Text: a buffer with text at a place. Writers: a writer after text.
pub mod Decimal
pub mod Text
pub mod Writers
