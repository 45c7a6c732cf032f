mod PartLaws
mod WholeInput
pub mod LineLaws
