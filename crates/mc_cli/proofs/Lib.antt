pub mod Programs
pub mod Simple
