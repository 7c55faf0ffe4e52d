pub mod Reading
pub mod Values
pub mod Joins
pub mod Loops
pub mod Keys
pub mod Configs
pub mod Writing
pub mod JoinText
pub mod ConfigText
pub mod ConfigBack
pub mod Steady
mod JoinLaws
mod KeyLaws
mod ConfigLaws
