mod Walks
mod Differing
mod Numbers
mod Drafted
mod LawfulLemmas
