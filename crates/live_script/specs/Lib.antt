-- What a line and the text of a script are, and what reading a script answers.
pub mod Lines
pub mod Grammar
pub mod Answers
