-- What the lists of workers make, one worker after another.
pub mod Merging
