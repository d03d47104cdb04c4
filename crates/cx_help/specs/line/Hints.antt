-- What a user reads of that in a word which an eye may not see.
use Rattle.std.specs.Prelude.{ℕ, List, [], codes, Option, Some, None}
use Rattle.cx_words.specs.declared.sight.Hint.{Hint}
use Rattle.cx_words.specs.declared.sight.Hint.TheVariants.{Empty, ByteOrderMark, CarriageReturn, Tab, NotAscii}

abbrev pub hint_text : Option Hint → List ℕ
hint_text None = []
hint_text (Some Empty) =
    codes " (two spaces stand together, or one stands at an end of the line)"
hint_text (Some ByteOrderMark) =
    codes " (the file begins with a byte-order mark; save it without one)"
hint_text (Some CarriageReturn) =
    codes " (it has a CR, as the line ends of Windows; save the file with line ends of an LF alone)"
hint_text (Some Tab) =
    codes " (it has a tab; one space parts two words)"
hint_text (Some NotAscii) =
    codes " (it has a character outside of ASCII, as a curly quotation mark; write a plain one)"
