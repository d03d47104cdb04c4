-- Vectors that were made byte by byte from one vector.
use Rattle.std.proofs.Common.{◌≡◌, ℕ, ◌<◌, ◌∷◌, [], Bool, true, IsTrue, List, All, map, length, replicate, bit_xor, Fits, w8, sym, ap, ◌∙◌, subst}
use Rattle.std.proofs.lemmas.List.Elements.{All-cons, All-nil}
use Rattle.std.proofs.lemmas.Simd.{map-map, splat_is_map, zip2_of_maps}
use lib.Lanes.{zip2, Each1}
use Rattle.cx_aes.specs.Lookup.{AreIndices, entry, is_index}
use Rattle.cx_aes.proofs.BytePlaces.{bytes, same_at_bytes}

-- a vector of sixteen bytes, as the check tells of a parameter
abbrev pub IsVector : List ℕ → Type 0
IsVector v = (length v ≡ 16) × Each1 (Fits w8) v

pub bytes_of_vector : (v : List ℕ) → IsVector v → All (λ b. b < 256) v
bytes_of_vector v h = each v h.1
  where
    each : (v : List ℕ) → Each1 (Fits w8) v → All (λ b. b < 256) v
    each [] h = All-nil (λ b. b < 256)
    each (x ∷ xs) h = let here = h.0 in All-cons (λ b. b < 256) x xs here.fits (each xs h.1)

-- what is true of f at all bytes is true of it at each of a vector
all-map : (test : ℕ → Bool) (f : ℕ → ℕ) (v : List ℕ) → Each1 (Fits w8) v → map (λ x. test (f x)) bytes ≡ map (λ _. true) bytes
    → All (λ x. IsTrue (test x)) (map f v)
all-map test f [] h e = All-nil (λ x. IsTrue (test x))
all-map test f (x ∷ xs) h e =
    let here = h.0 in
    All-cons (λ y. IsTrue (test y)) (f x) (map f xs) (same_at_bytes (λ y. test (f y)) (λ _. true) e x here.fits) (all-map test f xs h.1 e)

-- indices that are a function of bytes
pub indices-map : (f : ℕ → ℕ) (v at : List ℕ) → IsVector v → map (λ x. is_index (f x)) bytes ≡ map (λ _. true) bytes → at ≡ map f v → AreIndices at
indices-map f v at h e is = subst AreIndices (sym is) (all-map is_index f v h.1 e)

-- a look-up
pub looks : (table : List ℕ) (f : ℕ → ℕ) (v at out : List ℕ) → out ≡ map (entry table) at → at ≡ map f v → out ≡ map (λ x. entry table (f x)) v
looks table f v at out e is = e ∙ ap (map (entry table)) is ∙ map-map (entry table) f v

-- a sum
pub sums : (f g : ℕ → ℕ) (v first second out : List ℕ) → out ≡ zip2 bit_xor first second → first ≡ map f v → second ≡ map g v
    → out ≡ map (λ x. bit_xor (f x) (g x)) v
sums f g v first second out e a b = e ∙ zip2_of_maps bit_xor f g v a b

-- a sum with one byte at all places
pub sums-splat : (f : ℕ → ℕ) (y : ℕ) (v first out : List ℕ) → length v ≡ 16 → out ≡ zip2 bit_xor first (replicate 16 y) → first ≡ map f v
    → out ≡ map (λ x. bit_xor (f x) y) v
sums-splat f y v first out len e a = sums f (λ _. y) v first (replicate 16 y) out e a (splat_is_map v 16 y len)
