pub mod Writes
pub mod Held
pub mod Maxima
pub mod Queue
