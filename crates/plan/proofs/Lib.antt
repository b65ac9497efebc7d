pub mod NumberLaws
pub mod Within
