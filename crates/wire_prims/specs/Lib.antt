pub mod Fields
pub mod Header
pub mod Strict
pub mod StrictLaws
pub mod Frames
