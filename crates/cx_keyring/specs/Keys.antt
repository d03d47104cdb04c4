-- Keys as keyrings write them: base64 (RFC 4648, section 4) of the 28 bytes of Ceph's encoding of a key.
use Rattle.std.specs.Prelude.{ℕ, ◌≡◌, ◌&&◌, Bool, nat_le, IsTrue, List, [], ◌∷◌, Option, Some, None, Result, Ok, Err}
use Rattle.std.specs.List.{list_all}
use Rattle.base64.specs.Engines.{standard}
use Rattle.base64.specs.GeneralPurpose.{decode_of, encode_of}
use Rattle.base64.specs.declared.decode.DecodeError.{DecodeError}
use Rattle.cx_enc.specs.declared.keys.Key.{Key}
use Rattle.cx_enc.specs.declared.faults.ReadFault.{ReadFault}
use Rattle.cx_enc.specs.Forms.{Spot}
use Rattle.cx_enc.specs.Values.{key_form}
use Rattle.cx_enc.specs.Whole.{start}

-- the text of a key
abbrev pub key_text : Key → List ℕ
key_text key = encode_of standard (key_form.text key)

-- the key, where nothing is left behind it
abbrev pub if_nothing_left : Key → List ℕ → Option Key
if_nothing_left key [] = Some key
if_nothing_left key (b ∷ bs) = None

-- the key that was read at the beginning of some bytes, where it is all of them
abbrev pub whole_key : Result (Key × Spot) ReadFault → Option Key
whole_key (Ok read) = if_nothing_left read.0 read.1.left
whole_key (Err e) = None

-- the key that decoded bytes spell
abbrev pub decoded_key : Result (List ℕ) DecodeError → Option Key
decoded_key (Ok bytes) = whole_key (key_form.at (start bytes))
decoded_key (Err e) = None

-- the key that a text is the base64 of: with its padding, and no bits left over
unfoldable pub key_of : List ℕ → Option Key
key_of text = decoded_key (decode_of standard text)

-- a byte that can be seen, from 0x21 to 0x7e
abbrev pub is_ink : ℕ → Bool
is_ink b = nat_le 33 b && nat_le b 126

-- the text of the key has no other bytes, and is read as the key again
abbrev pub HasText : Key → Type 0
HasText key = IsTrue (list_all is_ink (key_text key)) × (key_of (key_text key) ≡ Some key)
