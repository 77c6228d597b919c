mod NamingNodes
mod RenamingNodes
mod Lists
mod RowLaws
mod Vectors
