pub mod Bytes
pub mod Ccm
pub mod Cipher
pub mod Field
pub mod Laws
pub mod State
pub mod Unsealing
pub mod Words
