pub mod Journals
pub mod Books
pub mod Opening
pub mod Index
pub mod Known
pub mod Prepared
