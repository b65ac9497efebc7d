mod Moves
mod Lists
