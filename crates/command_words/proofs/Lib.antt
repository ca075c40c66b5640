mod Spelling
mod Refusals
mod Names
pub mod Named
mod OtherRows
mod OtherWalk
pub mod Absent
pub mod IndexAlone
pub mod Within
pub mod OneSettings
pub mod NoSettings
mod Rows
mod OptionRows
mod LimitRows
mod TakenRows
