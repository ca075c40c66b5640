pub mod NumbersRead
pub mod NodesRead
pub mod RootsRead
pub mod Again
pub mod Sound
pub mod SoundWhole
pub mod WholeRead
pub mod Saves
pub mod Ascents
pub mod Below
pub mod Wording
pub mod Weights
pub mod Fitted
pub mod Marks
mod InTurn
mod ByNumber
mod Beside
mod MemberRows
mod NumberRows
mod Contained
pub mod Loaded
pub mod Refusals
pub mod MakesIndex
pub mod TreeSaves
pub mod LeavesTold
pub mod OfSaved
pub mod NoFault
pub mod TextTold
pub mod LoadsBack
pub mod Tested
pub mod Apart
pub mod Once
