mod Row
mod Idle
mod Turns
