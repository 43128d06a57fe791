pub mod PieceLaws
pub mod StageLaws
