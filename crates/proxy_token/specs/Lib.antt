pub mod Token
pub mod Answer
pub mod Sealing
