-- What `print_levels` answers, and every byte of the lent buffer after it.
use Rattle.std.specs.Prelude.{ℕ, cond, List, ◌++◌, length, drop, leb, Result, Ok, Err}
use Rattle.printer.specs.Text.{whole_text}
use Rattle.printer.specs.declared.print.TooShort.{TooShort}

-- The length of the text, and whether the buffer has room for it.
unfoldable pub answer_of : List ℕ → List ℕ → Result ℕ TooShort
answer_of input buffer =
    cond (leb (length (whole_text input)) (length buffer))
    (Ok (length (whole_text input)))
    (Err (record { length = length (whole_text input) }))

-- The text at the front of the buffer, the rest unchanged. A buffer that is too short is left as it was.
unfoldable pub buffer_after : List ℕ → List ℕ → List ℕ
buffer_after input buffer =
    cond (leb (length (whole_text input)) (length buffer))
    (whole_text input ++ drop (length (whole_text input)) buffer)
    buffer

-- The length of the text, which both answers give.
abbrev pub text_length : Result ℕ TooShort → ℕ
text_length (Ok length) = length
text_length (Err short) = short.length
