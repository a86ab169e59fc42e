-- The answer with demands 2 and 3; what is left at a node's place; the reply; and that a question has no memory.
pub mod Answer
pub mod Stored
pub mod Reply
pub mod NoMemory
