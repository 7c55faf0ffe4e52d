pub mod Items
pub mod Nonces
pub mod Contexts
