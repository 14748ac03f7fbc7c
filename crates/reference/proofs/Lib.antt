mod Choosing
mod Replacing
