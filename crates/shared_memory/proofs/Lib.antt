pub mod Naming
mod Overwriting
mod Slotted
pub mod Sounds
mod Ruled
mod Tabled
mod Totals
mod Limits
