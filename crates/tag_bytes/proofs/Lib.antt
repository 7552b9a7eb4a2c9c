-- Laws, in the order in which they rest on one another.
--   Fields   a tag's numbers and its bytes, both ways, and the limit of its fields
--   Reading  what each answer of a reading shows
--   Writing  what each answer of a write shows, and that a written tag reads back
--   TagFile  the part at a position of a tag file
--   Tagged   the pass that writes a file of tags
--   Plan12   the paper's plan as tags, by computation
pub mod Fields
pub mod Reading
pub mod Writing
pub mod TagFile
pub mod Tagged
pub mod Plan12
