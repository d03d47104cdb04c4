-- A word as a user is shown it: its first 40 bytes, with control bytes made visible; and what can be told of it by these.
use Rattle.std.specs.Prelude.{ℕ, ◌+◌, ◌/◌, ◌%◌, ◌==◌, Bool, true, false, ◌&&◌, ◌||◌, min, nat_le, nat_lt, List, [], ◌∷◌, length, take, codes, slice_index, if◌then◌else◌}
use Rattle.std.specs.List.{flat_map, list_all, list_any}
use Rattle.std.specs.Str.{bytes_eq}
use Rattle.cx_words.specs.declared.sight.Shown.{Shown}
use Rattle.cx_base.specs.Joined.{◌<>◌}

-- the bytes that are shown
abbrev pub front : Shown → List ℕ
front shown = take (min shown.length 40) shown.bytes

abbrev pub is_digit_byte : ℕ → Bool
is_digit_byte b = nat_le 48 b && nat_le b 57

abbrev pub are_digits : Shown → Bool
are_digits shown = nat_lt 0 shown.length && list_all is_digit_byte (front shown)

abbrev pub has_leading_zero : Shown → Bool
has_leading_zero shown = nat_lt 1 shown.length && (slice_index shown.bytes 0 == 48) && are_digits shown

abbrev pub has_slash : Shown → Bool
has_slash shown = list_any (λ b. b == 47) (front shown)

abbrev pub begins : List ℕ → Shown → Bool
begins text shown = bytes_eq (take (length text) (front shown)) text

abbrev pub is_daemon_word : Shown → Bool
is_daemon_word shown = begins (codes "mds.") shown || begins (codes "osd.") shown || begins (codes "mgr.") shown

-- the monitor's
abbrev pub is_monitor_word : Shown → Bool
is_monitor_word shown = (shown.length == 3) && begins (codes "mon") shown

-- ---- how it is shown

-- a hexadecimal digit, in lower case
abbrev pub digit : ℕ → ℕ
digit n = if nat_lt n 10 then 48 + n else 87 + n

-- a byte: a character of ASCII stands for itself, and so does a blank, which a word has between quotation marks alone
abbrev pub byte_text : ℕ → List ℕ
byte_text b =
    if b == 9 then codes "<tab>"
    else if b == 13 then codes "<CR>"
    else if nat_le 32 b && nat_lt b 127 then b ∷ []
    else codes "<" <> (digit (b / 16) ∷ []) <> (digit (b % 16) ∷ []) <> codes ">"

abbrev pub bytes_text : List ℕ → List ℕ
bytes_text bytes = flat_map byte_text bytes

-- where the word goes on, two points stand for the rest
abbrev pub rest_text : Bool → List ℕ
rest_text true = codes "..`"
rest_text false = codes "`"

abbrev pub word_text : Shown → List ℕ
word_text shown =
    if shown.length == 0 then codes "an empty word"
    else codes "`" <> bytes_text (front shown) <> rest_text shown.is_cut
