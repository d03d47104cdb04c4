-- What is sent of a frame isn't empty, whatever the keys are, and so is one piece.
use Rattle.std.proofs.Common.{◌≡◌, ℕ, zero, suc, ◌+◌, ◌/◌, ◌≤◌, List, [], ◌∷◌, ◌++◌, length, refl, arith, length-append}
use Rattle.std.specs.List.{flat_map, range_with_len}
use Rattle.std.proofs.lemmas.List.FromFn.{length-map-range_with_len}
use Rattle.cx_stream.specs.cx_aes.specs.Cipher.{add, aes, next_key, round_key, rounds, shift_rows, sub_bytes, turned_word, word}
use Rattle.cx_stream.specs.cx_frame.specs.Frames.{frame_text}
use Rattle.cx_stream.specs.cx_frame.specs.Preambles.{front_text, preamble_text}
use Rattle.cx_stream.specs.cx_frame.specs.declared.frame.Frame.{Frame}
use Rattle.cx_stream.specs.cx_frame.specs.declared.frame.Segment.{Segment}
use Rattle.cx_stream.specs.cx_gcm.specs.Gcm.{counter_block, gctr, nonce_block, raised, tag_of}
use Rattle.cx_stream.specs.cx_secure.specs.Parts.{ciphered, nonce_at, part, sealed_parts}
use Rattle.cx_stream.specs.cx_secure.specs.Plains.{parts_of, plains, plains_of}
use Rattle.cx_rules.specs.Answering.{link_piece}
use Rattle.cx_rules.specs.Rows.{piece}
use Rattle.cx_rules.specs.Secured.{Keys, sealed_under}

-- bytes that aren't empty are sent as one piece
some-piece : (number : ℕ) (bytes : List ℕ) → 1 ≤ length bytes → piece number bytes ≡ link_piece number bytes ∷ []
some-piece number [] some = absurd (omega arith)
some-piece number (b ∷ bytes) some = refl

-- a plain frame, with what follows it
pub plain-piece : (number : ℕ) (f : Frame) (rest : List ℕ) → piece number (frame_text f ++ rest) ≡ link_piece number (frame_text f ++ rest) ∷ []
unfolding frame_text preamble_text front_text
plain-piece number f rest = refl

pub plain-alone : (number : ℕ) (f : Frame) → piece number (frame_text f) ≡ link_piece number (frame_text f) ∷ []
unfolding frame_text preamble_text front_text
plain-alone number f = refl

-- ---- secure frames

some-add : (xs ys : List ℕ) → 1 ≤ length xs → 1 ≤ length ys → 1 ≤ length (add xs ys)
unfolding add
some-add [] ys some other = absurd (omega arith)
some-add (x ∷ xs) [] some other = absurd (omega arith)
some-add (x ∷ xs) (y ∷ ys) some other = omega arith

some-four : (a b c d : List ℕ) → 1 ≤ length a → 1 ≤ length (a ++ b ++ c ++ d)
some-four a b c d some = omega (arith, length-append {A = ℕ})

some-next_key : (k : List ℕ) (n : ℕ) → 1 ≤ length (next_key k n)
unfolding next_key word turned_word
some-next_key k n =
    let w0 = add (word k 0) (turned_word (word k 3) n) in
    let w1 = add (word k 1) w0 in
    let w2 = add (word k 2) w1 in
    some-four w0 w1 w2 (add (word k 3) w2) (some-add (word k 0) (turned_word (word k 3) n) (omega arith) (omega arith))

some-shifted : (s : List ℕ) → 1 ≤ length (shift_rows s)
unfolding shift_rows
some-shifted s = omega (arith, length-map-range_with_len {X = ℕ})

some-cipher : (k s : List ℕ) → 1 ≤ length (aes k s)
unfolding aes round_key
some-cipher k s = some-add (shift_rows (sub_bytes (rounds k s 9))) (round_key k 10) (some-shifted (sub_bytes (rounds k s 9))) (some-next_key (round_key k 9) 10)

some-blocks : (f : ℕ → List ℕ) (n : ℕ) → ((i : ℕ) → 1 ≤ length (f i)) → 1 ≤ n → 1 ≤ length (flat_map f (range_with_len 0 n))
some-blocks f zero each some = absurd (omega arith)
some-blocks f (suc n) each some = omega (arith, length-append (f 0) (flat_map f (range_with_len 1 n)), each 0)

some-ciphered : (key nonce text : List ℕ) → 1 ≤ length text → 1 ≤ length (ciphered key nonce text)
unfolding ciphered gctr
some-ciphered key nonce text some =
    let first : List ℕ = raised (nonce_block nonce) in
    let n : ℕ = (length text + 15) / 16 in
    some-add text (flat_map (λ i. aes key (counter_block first i)) (range_with_len 0 n)) some
    (some-blocks (λ i. aes key (counter_block first i)) n (λ i. some-cipher key (counter_block first i)) (omega arith))

some-part : (key nonce plain : List ℕ) → 1 ≤ length plain → 1 ≤ length (part key nonce plain)
unfolding part
some-part key nonce plain some =
    omega (arith, length-append (ciphered key nonce plain) (tag_of key nonce (ciphered key nonce plain)), some-ciphered key nonce plain some)

some-sealed : (key fixed : List ℕ) (counter : ℕ) (p : List ℕ) (ps : List (List ℕ)) → 1 ≤ length p → 1 ≤ length (sealed_parts key fixed counter (p ∷ ps))
unfolding sealed_parts
some-sealed key fixed counter p ps some =
    omega (arith, length-append (part key (nonce_at fixed counter) p) (sealed_parts key fixed (counter + 1) ps), some-part key (nonce_at fixed counter) p some)

-- its first part holds the preamble
some-secure : (keys : Keys) (tag : ℕ) (first : Segment) (others : List Segment) → 1 ≤ length (sealed_under keys (record { tag = tag; segments = first ∷ others })).bytes
unfolding plains plains_of parts_of preamble_text front_text
some-secure keys tag first others = some-sealed keys.key keys.out.fixed keys.out.counter _ _ (omega arith)

-- a secure frame
pub secure-piece : (number : ℕ) (keys : Keys) (tag : ℕ) (first : Segment) (others : List Segment)
    → (let f : Frame = record { tag = tag; segments = first ∷ others } in piece number (sealed_under keys f).bytes ≡ link_piece number (sealed_under keys f).bytes ∷ [])
secure-piece number keys tag first others = some-piece number (sealed_under keys (record { tag = tag; segments = first ∷ others })).bytes (some-secure keys tag first others)
