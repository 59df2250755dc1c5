mod Counted
mod Ends
