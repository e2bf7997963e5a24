mod Judging
mod Answering
mod Paging
mod Shortening
