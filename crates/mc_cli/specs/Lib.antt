pub mod Explanations
pub mod Files
pub mod Program
pub mod inner
