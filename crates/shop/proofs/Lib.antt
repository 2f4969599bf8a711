mod Calls
mod Lowest
mod Making
mod Loads
