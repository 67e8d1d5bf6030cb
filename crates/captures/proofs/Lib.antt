mod Areas
mod Blocks
mod Gathers
