mod Sizes
mod Totals
mod Members
mod Numbered
mod Pipeline
mod Wraps
mod Rounds
mod Colors
