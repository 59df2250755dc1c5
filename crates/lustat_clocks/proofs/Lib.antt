mod Held
mod Named
mod Anchored
mod Chaining
mod Uncalled
mod Places
mod Branched
