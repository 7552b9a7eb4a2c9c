-- Laws.
--   Plan12  a page over the worked example as C has it, by computation
pub mod Plan12
