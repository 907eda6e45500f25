-- What the system's calls answer, and what stays true from step to step of the program.
pub mod Moving
pub mod Running
