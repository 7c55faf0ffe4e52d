pub mod Views
pub mod Rule
pub mod Seats
pub mod Draws
pub mod Ends
