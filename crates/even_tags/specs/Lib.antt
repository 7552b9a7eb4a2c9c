-- What the call of this crate answers. In reading order:
--   ShortTags  the file of a plan's short tags: the answer, and the table afterwards
--   Tagging    what its passes are handed; no public promise cites it
pub mod ShortTags
pub mod Tagging
