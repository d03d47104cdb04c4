-- Facts on single bytes, each by computing both sides at all 256 of them.
use Rattle.std.proofs.Common.{◌≡◌, ℕ, ◌<◌, ◌*◌, ◌/◌, ◌%◌, true, map, get_or, bit_xor, refl, sym, ap, ◌∙◌, arith}
use Rattle.std.proofs.lemmas.List.FromFn.{get_or-map-range_with_len}
use Rattle.std.specs.Prelude.{nat_lt}
use borrow.Author.Tests.{ltb-true}
pub use Rattle.cx_aes.proofs.BytePlaces.{bytes, same_at_bytes}
use Rattle.cx_aes.specs.declared.tables.TheConstants.{SBOX, INVERSE_SBOX}
use Rattle.cx_aes.specs.Field.{xtimes, product, times, inverse, affine_bit, affine, sbox, inverse_affine_bit, inverse_affine, inverse_sbox}

pub doubled-is : (a : ℕ) → a < 256 → bit_xor (a * 2 % 256) (27 * (a / 128)) ≡ xtimes a
unfolding xtimes
doubled-is a lt = same_at_bytes (λ x. bit_xor (x * 2 % 256) (27 * (x / 128))) xtimes refl a lt

pub xtimes-lt : (a : ℕ) → a < 256 → xtimes a < 256
unfolding xtimes
xtimes-lt a lt = ltb-true _ _ (same_at_bytes (λ x. nat_lt (xtimes x) 256) (λ _. true) refl a lt)

pub sbox_table : map sbox bytes ≡ SBOX
unfolding xtimes product times inverse affine_bit affine sbox
sbox_table = refl

pub inverse_sbox_table : map inverse_sbox bytes ≡ INVERSE_SBOX
unfolding xtimes product times inverse inverse_affine_bit inverse_affine inverse_sbox
inverse_sbox_table = refl

-- the table of the S-box is read at a byte
pub sbox-table : (a : ℕ) → a < 256 → get_or SBOX a 0 ≡ sbox a
sbox-table a lt = sym (ap (λ xs. get_or xs a 0) sbox_table) ∙ get_or-map-range_with_len sbox 0 256 a a 0 lt (omega arith)

pub inverse_sbox-table : (a : ℕ) → a < 256 → get_or INVERSE_SBOX a 0 ≡ inverse_sbox a
inverse_sbox-table a lt =
    sym (ap (λ xs. get_or xs a 0) inverse_sbox_table) ∙ get_or-map-range_with_len inverse_sbox 0 256 a a 0 lt (omega arith)

pub sbox-lt : (a : ℕ) → a < 256 → sbox a < 256
sbox-lt a lt =
    let small : get_or SBOX a 0 < 256 = ltb-true _ _ (same_at_bytes (λ x. nat_lt (get_or SBOX x 0) 256) (λ _. true) refl a lt) in
    rw (sbox-table a lt) at small

pub inverse_sbox-lt : (a : ℕ) → a < 256 → inverse_sbox a < 256
inverse_sbox-lt a lt =
    let small : get_or INVERSE_SBOX a 0 < 256 = ltb-true _ _ (same_at_bytes (λ x. nat_lt (get_or INVERSE_SBOX x 0) 256) (λ _. true) refl a lt) in
    rw (inverse_sbox-table a lt) at small

pub inverse_sbox-sbox : (a : ℕ) → a < 256 → inverse_sbox (sbox a) ≡ a
inverse_sbox-sbox a lt =
    sym (inverse_sbox-table (sbox a) (sbox-lt a lt)) ∙ ap (λ x. get_or INVERSE_SBOX x 0) (sym (sbox-table a lt))
    ∙ same_at_bytes (λ x. get_or INVERSE_SBOX (get_or SBOX x 0) 0) (λ x. x) refl a lt

pub sbox-inverse_sbox : (a : ℕ) → a < 256 → sbox (inverse_sbox a) ≡ a
sbox-inverse_sbox a lt =
    sym (sbox-table (inverse_sbox a) (inverse_sbox-lt a lt)) ∙ ap (λ x. get_or SBOX x 0) (sym (inverse_sbox-table a lt))
    ∙ same_at_bytes (λ x. get_or SBOX (get_or INVERSE_SBOX x 0) 0) (λ x. x) refl a lt

pub times-9 : (a : ℕ) → a < 256 → times a 9 ≡ bit_xor (xtimes (xtimes (xtimes a))) a
unfolding xtimes product times
times-9 a lt = same_at_bytes (λ x. times x 9) (λ x. bit_xor (xtimes (xtimes (xtimes x))) x) refl a lt

pub times-11 : (a : ℕ) → a < 256 → times a 11 ≡ bit_xor (bit_xor (xtimes (xtimes (xtimes a))) (xtimes a)) a
unfolding xtimes product times
times-11 a lt = same_at_bytes (λ x. times x 11) (λ x. bit_xor (bit_xor (xtimes (xtimes (xtimes x))) (xtimes x)) x) refl a lt

pub times-13 : (a : ℕ) → a < 256 → times a 13 ≡ bit_xor (bit_xor (xtimes (xtimes (xtimes a))) (xtimes (xtimes a))) a
unfolding xtimes product times
times-13 a lt =
    same_at_bytes (λ x. times x 13) (λ x. bit_xor (bit_xor (xtimes (xtimes (xtimes x))) (xtimes (xtimes x))) x) refl a lt

pub times-14 : (a : ℕ) → a < 256 → times a 14 ≡ bit_xor (bit_xor (xtimes (xtimes (xtimes a))) (xtimes (xtimes a))) (xtimes a)
unfolding xtimes product times
times-14 a lt =
    same_at_bytes (λ x. times x 14) (λ x. bit_xor (bit_xor (xtimes (xtimes (xtimes x))) (xtimes (xtimes x))) (xtimes x)) refl a lt
