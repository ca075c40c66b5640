-- Texts cut at a byte, the lines of scripts, how a script is read line by line, and that it has one text.
mod Cuts
mod Numbers
mod Askings
mod LineTexts
mod Adding
mod LineLists
mod Same
mod Walks
mod Fronts
