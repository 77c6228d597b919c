mod EndLaws
mod Nearest
mod Indexing
mod Ends
mod Found
mod Exact
mod Vectors
