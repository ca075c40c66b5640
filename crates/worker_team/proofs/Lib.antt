-- What holds at each place of a row, what a team has when it is hired, and what it did when it is dismissed.
pub mod EachPlace
pub mod Hiring
pub mod Deeds
