mod Worked
mod Summarized
