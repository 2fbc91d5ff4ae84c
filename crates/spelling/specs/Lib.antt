-- How texts and digits are put into bytes.
pub mod Spelling
pub mod Cursor
