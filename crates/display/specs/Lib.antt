-- Words: words by their number. Display: how namespaces are shown, and a text so many times.
pub mod Words
pub mod Display
