pub mod Items
pub mod Derivation
pub mod Nonce
pub mod Context
pub mod Laws
