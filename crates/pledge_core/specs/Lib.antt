pub mod Session
pub mod Asking
pub mod Taking
pub mod Updating
pub mod Laws
