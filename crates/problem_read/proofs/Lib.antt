mod Sums
mod ItemLists
mod Entries
mod Limits
mod SoFar
mod TieLines
mod TextFaults
