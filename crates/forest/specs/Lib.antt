-- What the passes of this crate are handed, and how far they go.
pub mod Parents
