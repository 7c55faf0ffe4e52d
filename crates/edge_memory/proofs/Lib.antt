mod Disks
mod Logged
mod Replays
mod Slices
mod Stories
