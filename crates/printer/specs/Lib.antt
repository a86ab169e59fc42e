-- What the level printer prints, byte for byte. The main contract is that of `print::print_levels`: it answers
-- `answer_of` and leaves `buffer_after` of Printed, both by `whole_text` of Text, and no text is longer than
-- `most_text`. Read in this order. Held stands for the contracts of functions inside this crate alone.
pub mod Text
pub mod Printed
pub mod Held
