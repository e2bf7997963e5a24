mod Cursors
pub mod Starts
