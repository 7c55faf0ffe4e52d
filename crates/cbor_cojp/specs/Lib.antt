pub mod Fault
pub mod Grammar
pub mod Values
pub mod Join
pub mod Key
pub mod Config
pub mod Spelling
pub mod Laws
