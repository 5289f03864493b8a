mod Lists
mod Typing
mod SameNets
mod Growing
mod Solving
mod Folding
