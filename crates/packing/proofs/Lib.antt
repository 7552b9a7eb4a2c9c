-- Laws of the packing.
pub mod Unpacking
