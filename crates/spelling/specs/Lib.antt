pub mod Spelling
-- Laws of words and numbers in a text.
pub mod Words
pub mod Numbers
