-- What stands where a line is wrong, as it is shown.
use Rattle.std.specs.Prelude.{ℕ, ◌-◌, ◌==◌, Bool, ◌&&◌, nat_le, nat_lt, List, [], ◌∷◌, ◌++◌, length, min, take, replicate, slice_index, slice_index_or, Option, Some, None, if◌then◌else◌}
use Rattle.std.specs.List.{list_any}
use Rattle.cx_words.specs.declared.sight.Hint.{Hint}
use Rattle.cx_words.specs.declared.sight.Hint.TheVariants.{Empty, ByteOrderMark, CarriageReturn, Tab, NotAscii}
use Rattle.cx_words.specs.declared.sight.Shown.{Shown}

-- the word of this number, from 1, or the last one where there are fewer
abbrev pub word_at : List (List ℕ) → ℕ → List ℕ
word_at words number = slice_index_or words (min number (length words) - 1) []

-- the three bytes of a byte-order mark in front
abbrev pub has_mark : List ℕ → Bool
has_mark word = nat_le 3 (length word) && (slice_index word 0 == 239) && (slice_index word 1 == 187) && (slice_index word 2 == 191)

-- a byte above ASCII
abbrev pub is_foreign : List ℕ → Bool
is_foreign word = list_any (λ b. nat_le 128 b) word

-- the first of these that is so: the word is empty, it begins with a byte-order mark, it has a CR (13), a tab (9), a byte
-- above ASCII
abbrev pub hint_of : List ℕ → Option Hint
hint_of word =
    if length word == 0 then Some Empty
    else if has_mark word then Some ByteOrderMark
    else if list_any (λ b. b == 13) word then Some CarriageReturn
    else if list_any (λ b. b == 9) word then Some Tab
    else if is_foreign word then Some NotAscii
    else None

-- the first 40 bytes, with zero bytes behind them up to 40, how many they are, and whether the word goes on
abbrev pub shown_of : List ℕ → Shown
shown_of word = record {
  bytes = take (min (length word) 40) word ++ replicate (40 - min (length word) 40) 0;
  length = min (length word) 40;
  is_cut = nat_lt 40 (length word);
}

-- the hint at the first of these words that has one
abbrev pub or_hint : Option Hint → Option Hint → Option Hint
or_hint None other = other
or_hint (Some hint) other = Some hint

abbrev pub first_hint : List (List ℕ) → Option Hint
first_hint [] = None
first_hint (word ∷ words) = or_hint (hint_of word) (first_hint words)
