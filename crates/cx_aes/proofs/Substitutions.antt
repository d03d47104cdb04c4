-- Facts on the tables of sixteen, each by computing both sides at all 256 bytes, or at all pairs of them.
use Rattle.std.proofs.Common.{◌≡◌, ℕ, ◌<◌, List, [], ◌∷◌, All, map, get_or, bit_xor, refl, ap, ◌∙◌}
use Rattle.std.proofs.lemmas.List.Elements.{All-head, All-tail}
use Rattle.std.proofs.lemmas.Simd.{zip2_of_maps}
use lib.Lanes.{zip2}
use Rattle.cx_aes.specs.Lookup.{by_halves, entry, high, low}
use Rattle.cx_aes.specs.declared.tables.TheConstants.{SBOX, INVERSE_SBOX}
use Rattle.cx_aes.specs.Field.{inverse_sbox, product, sbox, times, xtimes}
use Rattle.cx_aes.specs.Basis.{by_parts, into, last, left, once, right, twice}
use Rattle.cx_aes.specs.InverseBasis.{back, eleven, fourteen, linear, nine, thirteen, undone}
use Rattle.cx_aes.proofs.Bytes.{bytes, inverse_sbox-table, same_at_bytes, sbox-table}

once-into : (x : ℕ) → x < 256 → once (into x) ≡ into (times (sbox x) 1)
unfolding once by_parts left right into by_halves entry high low times product xtimes
once-into x lt =
    same_at_bytes (λ x. once (into x)) (λ x. into (times (get_or SBOX x 0) 1)) refl x lt ∙ ap (λ y. into (times y 1)) (sbox-table x lt)

twice-into : (x : ℕ) → x < 256 → twice (into x) ≡ into (times (sbox x) 2)
unfolding twice by_parts left right into by_halves entry high low times product xtimes
twice-into x lt =
    same_at_bytes (λ x. twice (into x)) (λ x. into (times (get_or SBOX x 0) 2)) refl x lt ∙ ap (λ y. into (times y 2)) (sbox-table x lt)

thrice-into : (x : ℕ) → x < 256 → bit_xor (twice (into x)) (once (into x)) ≡ into (times (sbox x) 3)
unfolding once twice by_parts left right into by_halves entry high low times product xtimes
thrice-into x lt =
    same_at_bytes (λ x. bit_xor (twice (into x)) (once (into x))) (λ x. into (times (get_or SBOX x 0) 3)) refl x lt
    ∙ ap (λ y. into (times y 3)) (sbox-table x lt)

last-into : (x : ℕ) → x < 256 → last (into x) ≡ sbox x
unfolding last by_parts left right into by_halves entry high low
last-into x lt = same_at_bytes (λ x. last (into x)) (λ x. get_or SBOX x 0) refl x lt ∙ sbox-table x lt

fourteen-back : (x : ℕ) → x < 256 → fourteen (back x) ≡ linear (times (inverse_sbox x) 14)
unfolding fourteen by_parts left right back linear by_halves entry high low times product xtimes
fourteen-back x lt =
    same_at_bytes (λ x. fourteen (back x)) (λ x. linear (times (get_or INVERSE_SBOX x 0) 14)) refl x lt
    ∙ ap (λ y. linear (times y 14)) (inverse_sbox-table x lt)

eleven-back : (x : ℕ) → x < 256 → eleven (back x) ≡ linear (times (inverse_sbox x) 11)
unfolding eleven by_parts left right back linear by_halves entry high low times product xtimes
eleven-back x lt =
    same_at_bytes (λ x. eleven (back x)) (λ x. linear (times (get_or INVERSE_SBOX x 0) 11)) refl x lt
    ∙ ap (λ y. linear (times y 11)) (inverse_sbox-table x lt)

thirteen-back : (x : ℕ) → x < 256 → thirteen (back x) ≡ linear (times (inverse_sbox x) 13)
unfolding thirteen by_parts left right back linear by_halves entry high low times product xtimes
thirteen-back x lt =
    same_at_bytes (λ x. thirteen (back x)) (λ x. linear (times (get_or INVERSE_SBOX x 0) 13)) refl x lt
    ∙ ap (λ y. linear (times y 13)) (inverse_sbox-table x lt)

nine-back : (x : ℕ) → x < 256 → nine (back x) ≡ linear (times (inverse_sbox x) 9)
unfolding nine by_parts left right back linear by_halves entry high low times product xtimes
nine-back x lt =
    same_at_bytes (λ x. nine (back x)) (λ x. linear (times (get_or INVERSE_SBOX x 0) 9)) refl x lt
    ∙ ap (λ y. linear (times y 9)) (inverse_sbox-table x lt)

undone-back : (x : ℕ) → x < 256 → undone (back x) ≡ inverse_sbox x
unfolding undone by_parts left right back linear by_halves entry high low
undone-back x lt = same_at_bytes (λ x. undone (back x)) (λ x. get_or INVERSE_SBOX x 0) refl x lt ∙ inverse_sbox-table x lt

pub into-xor : (a b : ℕ) → a < 256 → b < 256 → into (bit_xor a b) ≡ bit_xor (into a) (into b)
unfolding into by_halves entry high low
into-xor a b la lb =
    same_at_bytes (λ y. into (bit_xor a y)) (λ y. bit_xor (into a) (into y))
    (same_at_bytes (λ x. map (λ y. into (bit_xor x y)) bytes) (λ x. map (λ y. bit_xor (into x) (into y)) bytes) refl a la) b lb

pub linear-xor : (a b : ℕ) → a < 256 → b < 256 → linear (bit_xor a b) ≡ bit_xor (linear a) (linear b)
unfolding linear by_halves entry high low
linear-xor a b la lb =
    same_at_bytes (λ y. linear (bit_xor a y)) (λ y. bit_xor (linear a) (linear y))
    (same_at_bytes (λ x. map (λ y. linear (bit_xor x y)) bytes) (λ x. map (λ y. bit_xor (linear x) (linear y)) bytes) refl a la) b lb

-- two functions that agree on bytes, through a third
same_through : (f g h : ℕ → ℕ) → ((x : ℕ) → x < 256 → f (g x) ≡ h x) → (s : List ℕ) → All (λ b. b < 256) s → map f (map g s) ≡ map h s
same_through f g h e [] all = refl
same_through f g h e (x ∷ xs) all = cc (e x (All-head (λ b. b < 256) x xs all), same_through f g h e xs (All-tail (λ b. b < 256) x xs all))

-- a state in the basis
module _ (s state out : List ℕ) (fits : All (λ b. b < 256) s) where
  pub once-state : state ≡ map into s → out ≡ map once state → out ≡ map (λ x. into (times (sbox x) 1)) s
  once-state is e = e ∙ ap (map once) is ∙ same_through once into (λ x. into (times (sbox x) 1)) once-into s fits

  pub twice-state : state ≡ map into s → out ≡ map twice state → out ≡ map (λ x. into (times (sbox x) 2)) s
  twice-state is e = e ∙ ap (map twice) is ∙ same_through twice into (λ x. into (times (sbox x) 2)) twice-into s fits

  -- three times, as the sum of twice and once
  pub thrice-state : (single double : List ℕ) → state ≡ map into s → single ≡ map once state → double ≡ map twice state
      → zip2 bit_xor double single ≡ map (λ x. into (times (sbox x) 3)) s
  thrice-state single double is e1 e2 =
      zip2_of_maps bit_xor twice once state e2 e1 ∙ ap (map (λ y. bit_xor (twice y) (once y))) is
      ∙ same_through (λ y. bit_xor (twice y) (once y)) into (λ x. into (times (sbox x) 3)) thrice-into s fits

  pub last-state : state ≡ map into s → out ≡ map last state → out ≡ map sbox s
  last-state is e = e ∙ ap (map last) is ∙ same_through last into sbox last-into s fits

  pub fourteen-state : state ≡ map back s → out ≡ map fourteen state → out ≡ map (λ x. linear (times (inverse_sbox x) 14)) s
  fourteen-state is e = e ∙ ap (map fourteen) is ∙ same_through fourteen back (λ x. linear (times (inverse_sbox x) 14)) fourteen-back s fits

  pub eleven-state : state ≡ map back s → out ≡ map eleven state → out ≡ map (λ x. linear (times (inverse_sbox x) 11)) s
  eleven-state is e = e ∙ ap (map eleven) is ∙ same_through eleven back (λ x. linear (times (inverse_sbox x) 11)) eleven-back s fits

  pub thirteen-state : state ≡ map back s → out ≡ map thirteen state → out ≡ map (λ x. linear (times (inverse_sbox x) 13)) s
  thirteen-state is e = e ∙ ap (map thirteen) is ∙ same_through thirteen back (λ x. linear (times (inverse_sbox x) 13)) thirteen-back s fits

  pub nine-state : state ≡ map back s → out ≡ map nine state → out ≡ map (λ x. linear (times (inverse_sbox x) 9)) s
  nine-state is e = e ∙ ap (map nine) is ∙ same_through nine back (λ x. linear (times (inverse_sbox x) 9)) nine-back s fits

  pub undone-state : state ≡ map back s → out ≡ map undone state → out ≡ map inverse_sbox s
  undone-state is e = e ∙ ap (map undone) is ∙ same_through undone back inverse_sbox undone-back s fits
