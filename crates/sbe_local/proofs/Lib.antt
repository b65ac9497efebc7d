pub mod Written
pub mod CommandLaws
pub mod PieceLaws
