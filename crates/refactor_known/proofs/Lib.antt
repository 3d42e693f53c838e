-- The lemmas of this crate.
mod Lists
mod Paths
mod Entries
mod MovedData
mod Results
mod Verdicts
