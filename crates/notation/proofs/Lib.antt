mod Lines
mod Stacks
mod Writing
