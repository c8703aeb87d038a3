mod Validity
pub mod Stories
