pub mod Head
pub mod Item
pub mod Input
pub mod Reading
pub mod Spelling
pub mod Laws
