mod Below
mod Chains
mod Collections
