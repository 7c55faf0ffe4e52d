pub mod Tokens
pub mod Pieces
pub mod State
pub mod Steps
pub mod Laws
