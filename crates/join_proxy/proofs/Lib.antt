pub mod Sending
pub mod Proxies
