pub mod Prelude
mod Firsts
mod Kept
mod MapLemmas
mod Named
mod RowLemmas
mod SameKeys
mod Starts
mod Steps
mod Texts
