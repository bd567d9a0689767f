mod Lines
mod Parts
mod Unmade
mod Rest
mod Steps
mod Histories
