pub mod Area
pub mod Fault
pub mod Store
pub mod Laws
