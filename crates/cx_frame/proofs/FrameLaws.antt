-- One frame at most is spelled by given bytes, whatever follows it.
use Rattle.std.proofs.Common.{◌≡◌, ℕ, suc, ◌+◌, List, [], ◌∷◌, ◌++◌, length, take, drop, Result, Ok, refl, sym, ap, ◌∙◌, arith, append_assoc, length-append}
use Rattle.std.proofs.lemmas.List.{take_at, drop_at}
use Rattle.std.specs.Int.{w32, to_le_bytes}
use Rattle.cx_digest.specs.Checksum.{crc32c}
use Rattle.cx_frame.specs.declared.frame.Frame.{Frame}
use Rattle.cx_frame.specs.declared.preamble.Preamble.{Preamble}
use Rattle.cx_frame.specs.declared.refusals.FrameRefusal.{FrameRefusal}
use Rattle.cx_frame.specs.Preambles.{IsAllowed, descriptors, front_text, preamble_at, preamble_of, preamble_text}
use Rattle.cx_frame.specs.Frames.{frame_text, rest_at, rest_len, rest_text}
use Rattle.cx_frame.proofs.PreambleLaws.{preamble_again}
use Rattle.cx_frame.proofs.RestLaws.{length-rest_text, rest_again}

four_described : (ns aligns : List ℕ) → length ns ≡ 4 → length aligns ≡ 4 → length (descriptors ns aligns) ≡ 24
unfolding descriptors
four_described (a ∷ b ∷ c ∷ d ∷ []) (p ∷ q ∷ r ∷ s ∷ []) e f = refl
four_described _ _ e f = absurd (omega arith)

length-front_text : (p : Preamble) → length p.lengths ≡ 4 → length p.aligns ≡ 4 → length (front_text p) ≡ 28
unfolding front_text
length-front_text p e f =
    let inner : length (descriptors p.lengths p.aligns ++ (0 ∷ 0 ∷ [])) ≡ 26 = length-append (descriptors p.lengths p.aligns) (0 ∷ 0 ∷ []) ∙ ap (λ n. n + 2) (four_described p.lengths p.aligns e f) in
    ap (λ n. suc (suc n)) inner

pub length-preamble_text : (p : Preamble) → length p.lengths ≡ 4 → length p.aligns ≡ 4 → length (preamble_text p) ≡ 32
unfolding preamble_text
length-preamble_text p e f =
    let sum : List ℕ = to_le_bytes w32 (crc32c 0 (front_text p)) in
    length-append (front_text p) sum ∙ ap (λ n. n + 4) (length-front_text p e f)

preamble_is : (p q : Preamble) → (let r : Result Preamble FrameRefusal = Ok p in let s : Result Preamble FrameRefusal = Ok q in r ≡ s) → p ≡ q
preamble_is p q e = cc

frame_is : (f g : Frame) → (let r : Result Frame FrameRefusal = Ok f in let s : Result Frame FrameRefusal = Ok g in r ≡ s) → f ≡ g
frame_is f g e = cc

-- two beginnings of one length of the same bytes are the same
pub same_fronts : (a b c d : List ℕ) (n : ℕ) → length a ≡ n → length c ≡ n → a ++ b ≡ c ++ d → (a ≡ c) × (b ≡ d)
same_fronts a b c d n ea ec e =
    (sym (take_at a b n ea) ∙ ap (take n) e ∙ take_at c d n ec, sym (drop_at a b n ea) ∙ ap (drop n) e ∙ drop_at c d n ec)

-- the same of frames whose limit is any
pub one_frame : (limit : ℕ) (f g : Frame) (more rest : List ℕ) → IsAllowed limit (preamble_of f) → IsAllowed limit (preamble_of g)
    → frame_text f ++ more ≡ frame_text g ++ rest → (f ≡ g) × (more ≡ rest)
unfolding frame_text
one_frame limit f g more rest ff fg e =
    let p : Preamble = preamble_of f in
    let q : Preamble = preamble_of g in
    let split : preamble_text p ++ (rest_text f.segments ++ more) ≡ preamble_text q ++ (rest_text g.segments ++ rest) =
    sym (append_assoc (preamble_text p) (rest_text f.segments) more) ∙ e ∙ append_assoc (preamble_text q) (rest_text g.segments) rest
    in
    let heads = same_fronts (preamble_text p) (rest_text f.segments ++ more) (preamble_text q) (rest_text g.segments ++ rest) 32
    (length-preamble_text p ff.four_lengths ff.four_aligns) (length-preamble_text q fg.four_lengths fg.four_aligns) split
    in
    let same : p ≡ q = preamble_is p q (sym (preamble_again limit (preamble_text p) p ff refl) ∙ ap (preamble_at limit) heads.0 ∙ preamble_again limit (preamble_text q) q fg refl) in
    let rests = same_fronts (rest_text f.segments) more (rest_text g.segments) rest (rest_len p) (length-rest_text limit f ff) (length-rest_text limit g fg ∙ ap rest_len (sym same)) heads.1 in
    let read_f : rest_at p (rest_text f.segments) ≡ Ok f = rest_again limit p (rest_text f.segments) f ff (record { head = refl; text = refl }) in
    let read_g : rest_at q (rest_text g.segments) ≡ Ok g = rest_again limit q (rest_text g.segments) g fg (record { head = refl; text = refl }) in
    (frame_is f g (sym read_f ∙ ap (λ (x : Preamble). rest_at x (rest_text f.segments)) same ∙ ap (rest_at q) rests.0 ∙ read_g), rests.1)
