-- Names: names with a text between each two. Words: words by their number. Texts: how types and encodings are shown.
pub mod Names
pub mod Words
pub mod Texts
