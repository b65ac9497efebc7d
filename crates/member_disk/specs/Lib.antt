pub mod Kept
pub mod Parts
pub mod Changes
pub mod Struck
pub mod CutWell
pub mod Fresh
pub mod Latest
