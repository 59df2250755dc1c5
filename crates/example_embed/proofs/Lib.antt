mod Asked
mod Ran
