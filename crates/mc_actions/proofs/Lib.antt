mod Showing
mod Shelving
mod Explaining
