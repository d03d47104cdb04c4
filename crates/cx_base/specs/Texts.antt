-- Capability texts ("user management"), and the pools, namespaces and objects of operations: which bytes they have.
use Rattle.std.specs.Prelude.{ℕ, ◌==◌, Bool, true, not, ◌&&◌, ◌||◌, nat_le, List, [], ◌∷◌, length, codes}
use Rattle.std.specs.List.{list_all}
use Rattle.std.specs.Str.{bytes_eq}

-- 0x20 to 0x7e, and no quotation mark (34) and no backslash (92), since a journal quotes the text whole
abbrev pub is_caps_byte : ℕ → Bool
is_caps_byte b = nat_le 32 b && nat_le b 126 && not (b == 34) && not (b == 92)

-- a capability text: at most 4,096 such bytes
abbrev pub is_caps : List ℕ → Bool
is_caps text = nat_le (length text) 4096 && list_all is_caps_byte text

-- a letter, a digit, or one of _ - .
abbrev pub is_part_byte : ℕ → Bool
is_part_byte b =
    (nat_le 97 b && nat_le b 122)
    || (nat_le 65 b && nat_le b 90)
    || (nat_le 48 b && nat_le b 57)
    || (b == 95)
    || (b == 45)
    || (b == 46)

-- 1 to 255 such bytes, and not '-' alone
abbrev pub is_long_part : List ℕ → Bool
is_long_part text = not (bytes_eq text (codes "-")) && nat_le 1 (length text) && nat_le (length text) 255 && list_all is_part_byte text

-- a pool, a namespace or an object: empty, or such a text
abbrev pub is_part : List ℕ → Bool
is_part [] = true
is_part (b ∷ bs) = is_long_part (b ∷ bs)
