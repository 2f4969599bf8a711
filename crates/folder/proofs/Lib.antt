mod Buffers
mod Fronts
