mod Gathering
mod HeldLists
mod Progress
