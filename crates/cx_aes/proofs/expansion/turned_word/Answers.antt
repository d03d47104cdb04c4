use Rattle.std.proofs.Common.{◌≡◌, ℕ, List, [], ◌∷◌, length, get_or, bit_xor, sym, ap, ◌∙◌}
use Rattle.cx_aes.specs.Field.{sbox}
use Rattle.cx_aes.specs.Cipher.{round_constant, sub_bytes, turned_word, word}
use Rattle.cx_aes.proofs.Places.{cells-is}
use Rattle.cx_aes.proofs.expansion.turned_word.Goals as goal

from_substituted : (k s : List ℕ) (constant n : ℕ) → length k ≡ 16 → s ≡ sub_bytes k → constant ≡ round_constant n
    → bit_xor (get_or s 13 0) constant ∷ get_or s 14 0 ∷ get_or s 15 0 ∷ get_or s 12 0 ∷ [] ≡ turned_word (word k 3) n
unfolding sub_bytes turned_word word
from_substituted k s constant n len e ec =
    ap (λ v. bit_xor (get_or v 13 0) constant ∷ get_or v 14 0 ∷ get_or v 15 0 ∷ get_or v 12 0 ∷ []) (e ∙ ap sub_bytes (sym (cells-is 16 k len)))
    ∙ ap (λ m. bit_xor (sbox (get_or k 13 0)) m ∷ sbox (get_or k 14 0) ∷ sbox (get_or k 15 0) ∷ sbox (get_or k 12 0) ∷ []) ec

pub returns : goal.returns
returns c = λ n e. from_substituted c.args.k.now c.sub_bytes-s.result c.args.constant n c.told-k c.sub_bytes-s.ensures e
