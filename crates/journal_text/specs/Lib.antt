pub mod Kinds
pub mod Codes
pub mod Numbers
pub mod Text
pub mod Reading
pub mod Laws
