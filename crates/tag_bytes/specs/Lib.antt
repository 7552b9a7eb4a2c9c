-- What the bytes of a tag mean, and when they are refused; and those of a short tag. In reading order:
--   Fields   a tag's figures, its five numbers, and its bytes
--   Reading  questions 9 and 10 to one tag
--   Writing  questions 8 and 10, and the table after a write
--   TagFile  the tag file, questions 9 and 7, and the part that is handed back
pub mod Fields
pub mod Reading
pub mod Writing
pub mod TagFile
