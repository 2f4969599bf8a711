mod Calling
mod Replying
mod Entries
mod Lawful
mod Faults
mod Printing
mod Agreeing
