-- A state on its way through the rounds: what the steps of a loop know, put together.
use Rattle.std.proofs.Common.{◌≡◌, ℕ, ◌<◌, ◌+◌, ◌-◌, List, [], ◌∷◌, length, get_or, map, refl, sym, ap, ◌∙◌, arith}
use Rattle.std.specs.List.{range_with_len}
use Rattle.std.proofs.lemmas.List.FromFn.{fill_by_all}
use Rattle.cx_aes.specs.Basis.{into}
use Rattle.cx_aes.specs.InverseBasis.{back}
use Rattle.cx_aes.specs.Cipher.{IsBlock, add, aes, mix_columns, round_key, rounds, shift_rows, sub_bytes}
use Rattle.cx_aes.specs.Inverse.{inverse_aes, inverse_mix_columns, inverse_shift_rows, inverse_sub_bytes}
use Rattle.cx_aes.specs.Schedule.{AreBackward, AreForward}
use Rattle.cx_aes.proofs.Blocks.{IsBlock-inverse_mix_columns, IsBlock-round_key}
use Rattle.cx_aes.proofs.Keys.{aes_is, inverse_rounds_none, rounds_more, rounds_none}
use Rattle.cx_aes.proofs.Rounds.{IsBlock-rounds}
use Rattle.cx_aes.proofs.Undoing.{IsBlock-undone_state, left_to_undo, undone_state, undone_state_more, undone_state_none}

-- four results are a list of four, changed
pub four : (f : List ℕ → List ℕ) (blocks : List (List ℕ)) (a b c d : List ℕ) → length blocks ≡ 4
    → a ≡ f (get_or blocks 0 []) → b ≡ f (get_or blocks 1 []) → c ≡ f (get_or blocks 2 []) → d ≡ f (get_or blocks 3 [])
    → a ∷ b ∷ c ∷ d ∷ [] ≡ map f blocks
four f blocks a b c d len ea eb ec ed =
    let all : blocks ≡ map (λ i. get_or blocks i []) (range_with_len 0 4) = fill_by_all (λ i. get_or blocks i []) blocks 4 [] len (λ k lt. refl) in
    let made : a ∷ b ∷ c ∷ d ∷ [] ≡ map f (map (λ i. get_or blocks i []) (range_with_len 0 4)) = cc (ea, eb, ec, ed) in
    made ∙ ap (map f) (sym all)

-- forwards: k is the key, s the block
module _ (k s : List ℕ) (keys : List (List ℕ)) (hk : IsBlock k) (hs : IsBlock s) (h : AreForward k keys) where
  pub begins : (state : List ℕ) → ((first : List ℕ) → IsBlock first → get_or keys 0 [] ≡ map into first → state ≡ map into (add s first))
      → state ≡ map into (rounds k s 0)
  begins state sum = sum (round_key k 0) (IsBlock-round_key k 0 hk) (h.within 0 (omega arith)) ∙ ap (map into) (sym (rounds_none k s))

  pub goes_on : (n : ℕ) (state next : List ℕ) → n < 9 → state ≡ map into (rounds k s n)
      → ((t key : List ℕ) → IsBlock t → IsBlock key → state ≡ map into t → get_or keys (n + 1) [] ≡ map into key
      → next ≡ map into (add (mix_columns (shift_rows (sub_bytes t))) key))
      → next ≡ map into (rounds k s (n + 1))
  goes_on n state next lt is round =
      round (rounds k s n) (round_key k (n + 1)) (IsBlock-rounds k s n hk hs) (IsBlock-round_key k (n + 1) hk) is (h.within (n + 1) (omega arith))
      ∙ ap (map into) (sym (rounds_more k s n))

  pub ends : (n : ℕ) (state out : List ℕ) → n ≡ 9 → state ≡ map into (rounds k s n)
      → ((t key : List ℕ) → IsBlock t → IsBlock key → state ≡ map into t → get_or keys 10 [] ≡ key → out ≡ add (shift_rows (sub_bytes t)) key)
      → out ≡ aes k s
  ends n state out nine is round =
      round (rounds k s 9) (round_key k 10) (IsBlock-rounds k s 9 hk hs) (IsBlock-round_key k 10 hk)
      (is ∙ ap (λ m. map into (rounds k s m)) nine) h.final
      ∙ sym (aes_is k s)

-- and backwards
module _ (k s : List ℕ) (keys : List (List ℕ)) (hk : IsBlock k) (hs : IsBlock s) (h : AreBackward k keys) where
  pub turns_back : (state : List ℕ) → ((last : List ℕ) → IsBlock last → get_or keys 10 [] ≡ map back last → state ≡ map back (add s last))
      → state ≡ map back (undone_state k s 0)
  turns_back state sum = sum (round_key k 10) (IsBlock-round_key k 10 hk) h.final ∙ ap (map back) (sym (undone_state_none k s))

  pub goes_back : (n : ℕ) (state next : List ℕ) → n < 9 → state ≡ map back (undone_state k s n)
      → ((t key : List ℕ) → IsBlock t → IsBlock key → state ≡ map back t → get_or keys (9 - n) [] ≡ map back key
      → next ≡ map back (add (inverse_mix_columns (inverse_sub_bytes (inverse_shift_rows t))) key))
      → next ≡ map back (undone_state k s (n + 1))
  goes_back n state next lt is round =
      let key = round_key k (9 - n) in
      round (undone_state k s n) (inverse_mix_columns key) (IsBlock-undone_state k s n hk hs)
      (IsBlock-inverse_mix_columns key (IsBlock-round_key k (9 - n) hk)) is (h.within (9 - n) (omega arith) (omega arith))
      ∙ ap (map back) (undone_state_more k s n hk hs)

  pub is_back : (n : ℕ) (state out : List ℕ) → n ≡ 9 → state ≡ map back (undone_state k s n)
      → ((t key : List ℕ) → IsBlock t → IsBlock key → state ≡ map back t → get_or keys 0 [] ≡ key
      → out ≡ add (inverse_sub_bytes (inverse_shift_rows t)) key)
      → out ≡ inverse_aes k s
  is_back n state out nine is round =
      let t = undone_state k s 9 in
      round t k (IsBlock-undone_state k s 9 hk hs) hk (is ∙ ap (λ m. map back (undone_state k s m)) nine) h.first
      ∙ sym (inverse_rounds_none k (inverse_sub_bytes (inverse_shift_rows t)))
      ∙ left_to_undo k s 9 (omega arith)
