-- The frame that is read in the plain bytes of its parts, both ways.
use Rattle.std.proofs.Common.{◌≡◌, ◌≢◌, ℕ, suc, ◌+◌, ◌-◌, ◌≤◌, Bool, true, false, List, [], ◌∷◌, ◌++◌, length, slice_index, take, drop, map, sum_by, Result, Ok, Err, refl, sym, ap, subst, ◌∙◌, arith, inl, inr, length-append, length-take, length-drop, eq-eqb}
use Rattle.std.specs.Prelude.{◌==◌, ◌&&◌, if◌then◌else◌}
use Rattle.std.specs.List.{slice_range}
use Rattle.std.proofs.lemmas.Bool.{and_parts, cases_eq, ne_eqb}
use Rattle.std.proofs.lemmas.List.{length-map, nil_from_length, take_at, drop_at, take-append-drop}
use Rattle.cx_frame.specs.declared.frame.Segment.{Segment}
use Rattle.cx_frame.specs.declared.frame.Frame.{Frame}
use Rattle.cx_frame.specs.declared.preamble.Preamble.{Preamble}
use Rattle.cx_frame.specs.Preambles.{IsAllowed, align_of, length_of, preamble_of, preamble_text}
use Rattle.cx_frame.proofs.RestLaws.{announced, announces, framed, length-range}
use Rattle.cx_secure.specs.declared.refusals.SecureRefusal.{SecureRefusal}
use Rattle.cx_secure.specs.declared.refusals.SecureRefusal.TheVariants.{BadShape}
use Rattle.cx_secure.specs.Plains.{are_zeros, bodies, by_late, cut_of, filled, frame_at, have_zero_fills, inline_of, last_len, last_plain, nonempty, parts_of, plains, plains_of, second_len, second_plain, up16, with_last}
use Rattle.cx_secure.proofs.PlainLaws.{length-filled}
use Rattle.cx_secure.proofs.RoomLaws.{cut_again, cut_aligns, cut_lengths, end_found, fills_again, fills_found, late_found, room_again, room_found, zeros_again}

-- the parts of a frame that is made of these
made_parts : (p : Preamble) (inline second last : List ℕ) (t : ℕ) (s : Segment) (ss : List Segment) → preamble_of (framed t s ss) ≡ p
    → inline ≡ inline_of s.bytes → second ≡ second_plain s.bytes → last ≡ last_plain ss
    → plains (framed t s ss) ≡ (preamble_text p ++ inline) ∷ nonempty second ++ nonempty last
unfolding plains plains_of parts_of
made_parts p inline second last t s ss ep ei es el =
    let built : List ℕ → List ℕ → List ℕ → List ℕ → List (List ℕ) = λ a b c d. (a ++ b) ∷ nonempty c ++ nonempty d in
    ap (λ (q : Preamble). built (preamble_text q) (inline_of s.bytes) (second_plain s.bytes) (last_plain ss)) ep
    ∙ ap (λ b. built (preamble_text p) b (second_plain s.bytes) (last_plain ss)) (sym ei)
    ∙ ap (λ c. built (preamble_text p) inline c (last_plain ss)) (sym es) ∙ ap (λ d. built (preamble_text p) inline second d) (sym el)

frame_is : (f g : Frame) → (let r : Result Frame SecureRefusal = Ok f in let s : Result Frame SecureRefusal = Ok g in r ≡ s) → f ≡ g
frame_is f g e = cc

tested : (b : Bool) (r : Result Frame SecureRefusal) (f : Frame) → (if b then r else Err BadShape) ≡ Ok f → (b ≡ true) × (r ≡ Ok f)
tested true r f e = (refl, e)
tested false r f e = absurd cc

-- ---- found

pub record LastFound (p : Preamble) (first : Segment) (last : List ℕ) (f : Frame) : Type 0 where
  pub others : List Segment
  pub frame : f ≡ framed p.tag first others
  pub lengths : map length_of others ≡ slice_range p.lengths 1 p.count
  pub aligns : map align_of others ≡ slice_range p.aligns 1 p.count
  pub text : last ≡ last_plain others

last_found : (p : Preamble) (first : Segment) (last : List ℕ) (f : Frame) → IsAllowed 1048576 p → p.count ≢ 1 → length last ≡ last_len p → with_last p first last ≡ Ok f → LastFound p first last f
unfolding with_last last_len last_plain
last_found p first last f fine several len read =
    let ns : List ℕ = slice_range p.lengths 1 p.count in
    let aligns : List ℕ = slice_range p.aligns 1 p.count in
    let body : List ℕ = take (length last - 16) last in
    let end : List ℕ = drop (length last - 16) last in
    let others : List Segment = cut_of ns aligns body in
    let all : length last ≡ sum_by up16 ns + 16 = len ∙ rw (ne_eqb p.count 1 several) refl in
    let ok = tested (have_zero_fills ns body && are_zeros (drop 1 end)) (by_late (slice_index end 0) (framed p.tag first others)) f read in
    let zeros = and_parts (have_zero_fills ns body) (are_zeros (drop 1 end)) ok.0 in
    let late = late_found (slice_index end 0) (framed p.tag first others) f ok.1 in
    let many : length ns + 1 ≡ p.count = length-range p.lengths p.count fine.four_lengths fine.count_low fine.count_high in
    let same : length aligns ≡ length ns = omega (arith, length-range p.aligns p.count fine.four_aligns fine.count_low fine.count_high) in
    let body_len : sum_by up16 ns ≡ length body = omega (arith, length-take (length last - 16) last) in
    let end_len : length end ≡ 16 = omega (arith, length-drop (length last - 16) last) in
    let lens : map length_of others ≡ ns = cut_lengths ns aligns body same (omega arith) in
    let some : (length others == 0) ≡ false = ne_eqb (length others) 0 (λ e. several (omega (arith, length-map others length_of, ap length lens))) in
    let text : last ≡ bodies others ++ filled 16 (0x0e ∷ []) =
    sym (take-append-drop (length last - 16) last) ∙ ap (λ t. t ++ end) (sym (fills_found ns aligns body same body_len zeros.0))
    ∙ ap (λ t. bodies others ++ t) (end_found end end_len late.0 zeros.1)
    in
    record { others = others; frame = sym late.1; lengths = lens; aligns = cut_aligns ns aligns body same; text = text ∙ sym (rw some refl) }

pub record FrameFound (p : Preamble) (inline second last : List ℕ) (f : Frame) : Type 0 where
  pub head : preamble_of f ≡ p
  pub parts : plains f ≡ (preamble_text p ++ inline) ∷ nonempty second ++ nonempty last

by_frame : (p : Preamble) (inline second last : List ℕ) (t : ℕ) (s : Segment) (ss : List Segment) (f : Frame) → f ≡ framed t s ss → preamble_of (framed t s ss) ≡ p
    → inline ≡ inline_of s.bytes → second ≡ second_plain s.bytes → last ≡ last_plain ss → FrameFound p inline second last f
by_frame p inline second last t s ss f is head ei es el =
    subst (FrameFound p inline second last) (sym is) (record { head = head; parts = made_parts p inline second last t s ss head ei es el })

nothing_last : [] ≡ last_plain []
unfolding last_plain
nothing_last = refl

pub frame_found : (p : Preamble) (inline second last : List ℕ) (f : Frame) → IsAllowed 1048576 p → length inline ≡ 48 → length second ≡ second_len p → length last ≡ last_len p
    → frame_at p (inline ++ second) last ≡ Ok f → FrameFound p inline second last f
unfolding frame_at second_len last_len
frame_found p inline second last f fine len second_is last_is read =
    let n : ℕ = slice_index p.lengths 0 in
    let room : List ℕ = inline ++ second in
    let first : Segment = record { align = slice_index p.aligns 0; bytes = take n room } in
    let ok = tested (are_zeros (drop n room)) (if p.count == 1 then Ok (framed p.tag first []) else with_last p first last) f read in
    let found = room_found n inline second len second_is ok.0 in
    elim (cases_eq p.count 1) [
      | inl one ↦
          let is : framed p.tag first [] ≡ f = frame_is (framed p.tag first []) f (sym (rw (eq-eqb p.count 1 one) refl) ∙ ok.1) in
          let empty : last ≡ [] = nil_from_length last (last_is ∙ rw (eq-eqb p.count 1 one) refl) in
          let no_lengths : [] ≡ slice_range p.lengths 1 p.count = sym (nil_from_length (slice_range p.lengths 1 p.count) (omega (arith, length-range p.lengths p.count fine.four_lengths fine.count_low fine.count_high))) in
          let no_aligns : [] ≡ slice_range p.aligns 1 p.count = sym (nil_from_length (slice_range p.aligns 1 p.count) (omega (arith, length-range p.aligns p.count fine.four_aligns fine.count_low fine.count_high))) in
          by_frame p inline second last p.tag first [] f (sym is) (announced 1048576 p first [] fine found.len refl no_lengths no_aligns) found.inline_is found.second_is (empty ∙ nothing_last)
      | inr several ↦
          let rest = last_found p first last f fine several last_is (sym (rw (ne_eqb p.count 1 several) refl) ∙ ok.1) in
          by_frame p inline second last p.tag first rest.others f rest.frame (announced 1048576 p first rest.others fine found.len refl rest.lengths rest.aligns) found.inline_is found.second_is rest.text
    ]

-- ---- again

-- the first segment that is read is this one
frame_made : (p : Preamble) (room last : List ℕ) (s : Segment) → are_zeros (drop (slice_index p.lengths 0) room) ≡ true
    → (let first : Segment = record { align = slice_index p.aligns 0; bytes = take (slice_index p.lengths 0) room } in first) ≡ s
    → frame_at p room last ≡ (let r : Result Frame SecureRefusal = (if p.count == 1 then Ok (framed p.tag s []) else with_last p s last) in r)
unfolding frame_at
frame_made p room last s zeros first =
    let read : Segment → Result Frame SecureRefusal = λ x. if p.count == 1 then Ok (framed p.tag x []) else with_last p x last in
    rw zeros (ap read first)

last_joined : (p : Preamble) (last : List ℕ) (first : Segment) (ss : List Segment) (ns aligns body end : List ℕ) → last ≡ body ++ end → length end ≡ 16
    → slice_range p.lengths 1 p.count ≡ ns → slice_range p.aligns 1 p.count ≡ aligns → have_zero_fills ns body ≡ true → are_zeros (drop 1 end) ≡ true → slice_index end 0 ≡ 0x0e
    → cut_of ns aligns body ≡ ss → with_last p first last ≡ Ok (framed p.tag first ss)
unfolding with_last by_late
last_joined p last first ss ns aligns body end is end_len en ea fills zeros late cut =
    let k : length last - 16 ≡ length body = omega (arith, ap length is, length-append body end) in
    let front : take (length last - 16) last ≡ body = ap (λ j. take j last) k ∙ ap (λ t. take (length body) t) is ∙ take_at body end (length body) refl in
    let behind : drop (length last - 16) last ≡ end = ap (λ j. drop j last) k ∙ ap (λ t. drop (length body) t) is ∙ drop_at body end (length body) refl in
    let read : List ℕ → List ℕ → List ℕ → List ℕ → Result Frame SecureRefusal = λ n a b e.
    if have_zero_fills n b && are_zeros (drop 1 e) then by_late (slice_index e 0) (framed p.tag first (cut_of n a b)) else Err BadShape
    in
    let ok : Frame → Result Frame SecureRefusal = λ f. Ok f in
    ap (λ b. read (slice_range p.lengths 1 p.count) (slice_range p.aligns 1 p.count) b (drop (length last - 16) last)) front
    ∙ ap (λ e. read (slice_range p.lengths 1 p.count) (slice_range p.aligns 1 p.count) body e) behind
    ∙ ap (λ n. read n (slice_range p.aligns 1 p.count) body end) en ∙ ap (λ a. read ns a body end) ea
    ∙ rw (fills, zeros, late) (ap (λ (x : List Segment). ok (framed p.tag first x)) cut)

end_zeros : (are_zeros (drop 1 (filled 16 (0x0e ∷ []))) ≡ true) × (slice_index (filled 16 (0x0e ∷ [])) 0 ≡ 0x0e)
unfolding filled
end_zeros = (zeros_again 15, refl)

last_again : (t : ℕ) (s o : Segment) (os : List Segment) → length (o ∷ os) ≤ 3 → with_last (preamble_of (framed t s (o ∷ os))) s (last_plain (o ∷ os)) ≡ Ok (framed (preamble_of (framed t s (o ∷ os))).tag s (o ∷ os))
unfolding last_plain
last_again t s o os few =
    let ss : List Segment = o ∷ os in
    let p : Preamble = preamble_of (framed t s ss) in
    let ranges = announces t s ss few in
    let some : (length ss == 0) ≡ false = ne_eqb (length ss) 0 (λ e. omega arith) in
    let end : List ℕ = filled 16 (0x0e ∷ []) in
    last_joined p (last_plain ss) s ss (map length_of ss) (map align_of ss) (bodies ss) end (rw some refl) (length-filled 16 (0x0e ∷ []) (omega arith)) ranges.0 ranges.1
    (fills_again ss) end_zeros.0 end_zeros.1 (cut_again ss)

first_is : (t : ℕ) (s : Segment) (ss : List Segment) → let p : Preamble = preamble_of (framed t s ss) in
    (slice_index p.lengths 0 ≡ length s.bytes) × (slice_index p.aligns 0 ≡ s.align) × (p.tag ≡ t) × (p.count ≡ suc (length ss))
unfolding preamble_of
first_is t s ss = (refl, refl, refl, refl)

alone : (t : ℕ) (s : Segment) (last : List ℕ) → let p : Preamble = preamble_of (framed t s []) in
    (let r : Result Frame SecureRefusal = (if p.count == 1 then Ok (framed p.tag s []) else with_last p s last) in r) ≡ Ok (framed t s [])
unfolding preamble_of
alone t s last = refl

behind : (t : ℕ) (s : Segment) (ss : List Segment) → length ss ≤ 3 → let p : Preamble = preamble_of (framed t s ss) in
    (let r : Result Frame SecureRefusal = (if p.count == 1 then Ok (framed p.tag s []) else with_last p s (last_plain ss)) in r) ≡ Ok (framed t s ss)
behind t s [] few = alone t s (last_plain [])
behind t s (o ∷ os) few =
    let p : Preamble = preamble_of (framed t s (o ∷ os)) in
    let is = first_is t s (o ∷ os) in
    let several : (p.count == 1) ≡ false = ne_eqb p.count 1 (λ e. omega (arith, is.3)) in
    let ok : ℕ → Result Frame SecureRefusal = λ x. Ok (framed x s (o ∷ os)) in
    rw several (last_again t s o os few ∙ ap ok is.2)

pub frame_again : (t : ℕ) (s : Segment) (ss : List Segment) → length ss ≤ 3
    → frame_at (preamble_of (framed t s ss)) (inline_of s.bytes ++ second_plain s.bytes) (last_plain ss) ≡ Ok (framed t s ss)
frame_again t s ss few =
    let p : Preamble = preamble_of (framed t s ss) in
    let is = first_is t s ss in
    let room : List ℕ = inline_of s.bytes ++ second_plain s.bytes in
    let again = room_again s.bytes in
    let made : ℕ → List ℕ → Segment = λ a b. record { align = a; bytes = b } in
    let text : take (slice_index p.lengths 0) room ≡ s.bytes = ap (λ n. take n room) is.0 ∙ again.0 in
    let zeros : are_zeros (drop (slice_index p.lengths 0) room) ≡ true = ap (λ n. are_zeros (drop n room)) is.0 ∙ again.1 in
    frame_made p room (last_plain ss) s zeros (ap (λ a. made a (take (slice_index p.lengths 0) room)) is.1 ∙ ap (made s.align) text) ∙ behind t s ss few
