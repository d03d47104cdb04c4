-- What is read at the front of a link where all that opens there is parts of a frame: that frame, and all its parts open.
use Rattle.std.proofs.Common.{◌≡◌, ◌+◌, ◌-◌, ◌<◌, ◌≤◌, ◌^◌, ◌==◌, ℕ, Bool, true, false, nat_lt, List, [], ◌∷◌, ◌++◌, drop, length, take, Option, Some, None, Result, Ok, Err, inl, inr, arith, length-take, length-drop, refl, sym, ap, ◌∙◌, subst}
use Rattle.std.proofs.lemmas.Bool.{ne_eqb}
use Rattle.std.proofs.lemmas.Bool.Decides.{nat_tests}
use Rattle.std.proofs.lemmas.List.{take_at, drop_at}
use Rattle.std.specs.Prelude.{if◌then◌else◌}
use Rattle.cx_frame.proofs.PreambleLaws.{preamble_again}
use Rattle.cx_frame.proofs.RestLaws.{framed}
use Rattle.cx_frame.specs.Preambles.{IsAllowed, preamble_at, preamble_of, preamble_text}
use Rattle.cx_frame.specs.declared.frame.Frame.{Frame}
use Rattle.cx_frame.specs.declared.frame.Segment.{Segment}
use Rattle.cx_frame.specs.declared.preamble.Preamble.{Preamble}
use Rattle.cx_frame.specs.declared.refusals.FrameRefusal.{FrameRefusal}
use Rattle.cx_laws_keys.proofs.series.Series.{IsAt}
use Rattle.cx_rules.specs.cx_secure.proofs.Lengths.{behind_len}
use Rattle.cx_rules.specs.cx_secure.proofs.PlainLaws.{preamble_len}
use Rattle.cx_rules.specs.cx_secure.proofs.RestLaws.{frame_again}
use Rattle.cx_rules.specs.cx_secure.proofs.SealedLaws.{last_is, parts_is, second_is}
use Rattle.cx_rules.specs.cx_secure.specs.Contents.{content_of, part_content, parts_contents, rest_contents, sealed_contents}
use Rattle.cx_rules.specs.cx_secure.specs.Opening.{head_of, head_step, rest_of, rest_step, with_inline, with_parts}
use Rattle.cx_rules.specs.cx_secure.specs.Parts.{nonce_at, opened, opened_some}
use Rattle.cx_rules.specs.cx_secure.specs.Plains.{frame_at, inline_of, last_plain, nonempty, one_if, plains, rest_len, rest_parts, second_len, second_plain, tagged}
use Rattle.cx_rules.specs.cx_secure.specs.declared.refusals.SecureRefusal.{SecureRefusal}
use Rattle.cx_rules.specs.cx_secure.specs.declared.refusals.SecureRefusal.TheVariants.{CounterSpent}
use Rattle.cx_rules.specs.cx_stream.specs.Fronts.{with_length}
use Rattle.cx_rules.specs.cx_secure.specs.declared.sealing.Head.{Head}
use Rattle.cx_rules.specs.cx_steps.specs.Onto.{SomeOf}
use Rattle.cx_rules.specs.cx_stream.specs.Openings.{contents_behind, contents_from, front_contents}
use Rattle.cx_rules.specs.cx_stream.specs.SecureStreams.{Ahead, behind_head, secure_frame_at}

-- the content of a part, where there is one
abbrev pub made : List ℕ → List ℕ → List (List ℕ)
made nonce [] = []
made nonce (b ∷ bytes) = (nonce ++ (b ∷ bytes)) ∷ []

-- where what opens is this part, it is what is read
pub some-part : (key nonce bytes x part : List ℕ) → length bytes ≡ tagged (length part) → opened_some key nonce bytes ≡ Some x
    → ((b : ℕ) (bs : List ℕ) → part ≡ b ∷ bs → (plain : List ℕ) → SomeOf (λ (content : List ℕ). content ≡ nonce ++ plain) (part_content key nonce bytes) → plain ≡ part)
    → (x ≡ part) × (part_content key nonce bytes ≡ made nonce part)
unfolding opened_some part_content tagged
some-part key nonce [] x [] long read opens = let same : [] ≡ x = cc in (sym same, refl)
some-part key nonce (b ∷ bs) x [] long read opens = absurd (omega (arith, long))
some-part key nonce [] x (p ∷ ps) long read opens =
    let big : tagged (length (p ∷ ps)) ≡ length (p ∷ ps) + 16 = rw (ne_eqb (length (p ∷ ps)) 0 (λ e. omega arith)) refl in
    absurd (omega (arith, long, big))
some-part key nonce (b ∷ bs) x (p ∷ ps) long read opens =
    let some : (length (b ∷ bs) == 0) ≡ false = ne_eqb (length (b ∷ bs)) 0 (λ e. omega arith) in
    let is : opened key nonce (length (b ∷ bs) - 16) (b ∷ bs) ≡ Some x =
    sym (ap (λ (t : Bool). if t then Some [] else opened key nonce (length (b ∷ bs) - 16) (b ∷ bs)) some) ∙ read in
    let content : part_content key nonce (b ∷ bs) ≡ (nonce ++ x) ∷ [] =
    ap (λ (t : Bool). if t then [] else content_of nonce (opened key nonce (length (b ∷ bs) - 16) (b ∷ bs))) some ∙ ap (λ (o : Option (List ℕ)). content_of nonce o) is in
    let same : x ≡ p ∷ ps = opens p ps refl x (subst (λ (l : List (List ℕ)). SomeOf (λ (c : List ℕ). c ≡ nonce ++ x) l) (sym content) (inl refl)) in
    (same, content ∙ ap (λ (y : List ℕ). (nonce ++ y) ∷ []) same)

ok-is : (f g : Frame) → (let r : Result Frame SecureRefusal = Ok f in let q : Result Frame SecureRefusal = Ok g in r ≡ q) → f ≡ g
ok-is f g e = cc

-- ---- behind the head of a frame

module _ (t : ℕ) (s : Segment) (ss : List Segment) (few : length ss ≤ 3) where
  abbrev pub head_of_frame : Head
  head_of_frame = record { preamble = preamble_of (framed t s ss); inline = inline_of s.bytes }

  front-long : (bytes : List ℕ) → length bytes ≡ rest_len (preamble_of (framed t s ss)) → length (take (tagged (second_len (preamble_of (framed t s ss)))) bytes) ≡ tagged (second_len (preamble_of (framed t s ss)))
  unfolding rest_len
  front-long bytes long = omega (arith, length-take (tagged (second_len (preamble_of (framed t s ss)))) bytes)

  -- what all that opens is said to be
  abbrev pub OpensAs : List ℕ → List ℕ → List ℕ → List ℕ → Type 0
  OpensAs key nonce bytes part =
      (b : ℕ) (bs : List ℕ) → part ≡ b ∷ bs → (plain : List ℕ) → SomeOf (λ (content : List ℕ). content ≡ nonce ++ plain) (part_content key nonce bytes) → plain ≡ part

  pub rest-read : (key first next bytes : List ℕ) (f : Frame) → length bytes ≡ rest_len (preamble_of (framed t s ss))
      → OpensAs key first (take (tagged (second_len (preamble_of (framed t s ss)))) bytes) (second_plain s.bytes)
      → OpensAs key next (drop (tagged (second_len (preamble_of (framed t s ss)))) bytes) (last_plain ss)
      → rest_of key first next head_of_frame bytes ≡ Ok f
      → (f ≡ framed t s ss) × (parts_contents key first next (preamble_of (framed t s ss)) bytes ≡ made first (second_plain s.bytes) ++ made next (last_plain ss))
  unfolding rest_of parts_contents with_parts
  rest-read key first next bytes f long opens_second opens_last read =
      by_parts (opened_some key first (take (tagged (second_len (preamble_of (framed t s ss)))) bytes)) (opened_some key next (drop (tagged (second_len (preamble_of (framed t s ss)))) bytes)) refl refl read
    where
      by_parts : (x y : Option (List ℕ)) → opened_some key first (take (tagged (second_len (preamble_of (framed t s ss)))) bytes) ≡ x
          → opened_some key next (drop (tagged (second_len (preamble_of (framed t s ss)))) bytes) ≡ y → with_parts head_of_frame x y ≡ Ok f
          → (f ≡ framed t s ss) × (part_content key first (take (tagged (second_len (preamble_of (framed t s ss)))) bytes)
          ++ part_content key next (drop (tagged (second_len (preamble_of (framed t s ss)))) bytes) ≡ made first (second_plain s.bytes) ++ made next (last_plain ss))
      by_parts None y a b made_of = absurd cc
      by_parts (Some x) None a b made_of = absurd cc
      by_parts (Some x) (Some y) a b made_of =
          let long_second : length (take (tagged (second_len (preamble_of (framed t s ss)))) bytes) ≡ tagged (length (second_plain s.bytes)) =
          front-long bytes long ∙ ap (λ (k : ℕ). tagged k) (second_is t s ss) in
          let long_last : length (drop (tagged (second_len (preamble_of (framed t s ss)))) bytes) ≡ tagged (length (last_plain ss)) =
          behind_len (preamble_of (framed t s ss)) (length bytes) (length (drop (tagged (second_len (preamble_of (framed t s ss)))) bytes)) long
          (length-drop (tagged (second_len (preamble_of (framed t s ss)))) bytes) ∙ ap (λ (k : ℕ). tagged k) (last_is t s ss few) in
          let one = some-part key first (take (tagged (second_len (preamble_of (framed t s ss)))) bytes) x (second_plain s.bytes) long_second a opens_second in
          let two = some-part key next (drop (tagged (second_len (preamble_of (framed t s ss)))) bytes) y (last_plain ss) long_last b opens_last in
          let again : frame_at (preamble_of (framed t s ss)) (inline_of s.bytes ++ x) y ≡ Ok (framed t s ss) =
          ap (λ (z : List ℕ). frame_at (preamble_of (framed t s ss)) (inline_of s.bytes ++ z) y) one.0
          ∙ ap (λ (z : List ℕ). frame_at (preamble_of (framed t s ss)) (inline_of s.bytes ++ second_plain s.bytes) z) two.0 ∙ frame_again t s ss few in
          let same : f ≡ framed t s ss = ok-is f (framed t s ss) (sym made_of ∙ again) in (
            same,
            ap (λ (l : List (List ℕ)). l ++ part_content key next (drop (tagged (second_len (preamble_of (framed t s ss)))) bytes)) one.1
                ∙ ap (λ (l : List (List ℕ)). made first (second_plain s.bytes) ++ l) two.1,
          )

-- ---- a whole frame

module _ (more : List (List ℕ)) (first : List ℕ) where
  -- the parts of a frame, and what follows them
  abbrev Goes : List ℕ → List ℕ → List (List ℕ)
  Goes second last = (first ∷ nonempty second ++ nonempty last) ++ more

  at-second : (z y : List ℕ) (b : ℕ) (bs : List ℕ) → z ≡ b ∷ bs → (plain : List ℕ) → IsAt (Goes z y) 1 plain → plain ≡ z
  at-second z y b bs is plain h =
      let there : (b ∷ bs) ≡ plain = subst (λ (w : List ℕ). IsAt (Goes w y) 1 plain) is h in
      sym there ∙ sym is

  at-last : (z y : List ℕ) (b : ℕ) (bs : List ℕ) → y ≡ b ∷ bs → (i : ℕ) → i ≡ 1 + one_if (length z) → (plain : List ℕ) → IsAt (Goes z y) i plain → plain ≡ y
  at-last [] y b bs is i place plain h =
      let one : i ≡ 1 = place in
      let here : IsAt (Goes [] y) 1 plain = subst (λ (k : ℕ). IsAt (Goes [] y) k plain) one h in
      let there : (b ∷ bs) ≡ plain = subst (λ (w : List ℕ). IsAt (Goes [] w) 1 plain) is here in
      sym there ∙ sym is
  at-last (c ∷ cs) y b bs is i place plain h =
      let some : one_if (length (c ∷ cs)) ≡ 1 = ap (λ (u : Bool). if u then 0 else 1) (ne_eqb (length (c ∷ cs)) 0 (λ e. omega arith)) in
      let two : i ≡ 2 = omega (arith, place, some) in
      let here : IsAt (Goes (c ∷ cs) y) 2 plain = subst (λ (k : ℕ). IsAt (Goes (c ∷ cs) y) k plain) two h in
      let there : (b ∷ bs) ≡ plain = subst (λ (w : List ℕ). IsAt (Goes (c ∷ cs) w) 2 plain) is here in
      sym there ∙ sym is

-- the contents of the parts of a frame
parts-made : (fixed : List ℕ) (counter : ℕ) (first second last : List ℕ)
    → (nonce_at fixed counter ++ first) ∷ (made (nonce_at fixed (counter + 1)) second ++ made (nonce_at fixed (counter + 1 + one_if (length second))) last)
    ≡ sealed_contents fixed counter (first ∷ nonempty second ++ nonempty last)
unfolding sealed_contents
parts-made fixed counter first [] [] = refl
parts-made fixed counter first [] (b ∷ bs) =
    let same : counter + 1 + one_if (length {A = ℕ} []) ≡ counter + 1 = omega arith in
    ap (λ (m : ℕ). (nonce_at fixed counter ++ first) ∷ (nonce_at fixed m ++ (b ∷ bs)) ∷ []) same
parts-made fixed counter first (c ∷ cs) [] = refl
parts-made fixed counter first (c ∷ cs) (b ∷ bs) =
    let some : one_if (length (c ∷ cs)) ≡ 1 = ap (λ (u : Bool). if u then 0 else 1) (ne_eqb (length (c ∷ cs)) 0 (λ e. omega arith)) in
    let same : counter + 1 + one_if (length (c ∷ cs)) ≡ counter + 1 + 1 = omega (arith, some) in
    ap (λ (m : ℕ). (nonce_at fixed counter ++ first) ∷ (nonce_at fixed (counter + 1) ++ (c ∷ cs)) ∷ (nonce_at fixed m ++ (b ∷ bs)) ∷ []) same

module _ {X : Type 0} (P : X → Type 0) where
  some-front : (xs ys : List X) → SomeOf P xs → SomeOf P (xs ++ ys)
  some-front [] ys h = absurd h
  some-front (x ∷ xs) ys (inl h) = inl h
  some-front (x ∷ xs) ys (inr h) = inr (some-front xs ys h)

  some-behind : (xs ys : List X) → SomeOf P ys → SomeOf P (xs ++ ys)
  some-behind [] ys h = h
  some-behind (x ∷ xs) ys h = inr (some-behind xs ys h)

taken-frame : (m n : ℕ) (g f : Frame) → (let r : Result (Option (Frame × ℕ)) SecureRefusal = Ok (Some (g, m)) in let q : Result (Option (Frame × ℕ)) SecureRefusal = Ok (Some (f, n)) in r ≡ q) → g ≡ f
taken-frame m n g f is = ok-is g f (ap given is)
  where
    given : Result (Option (Frame × ℕ)) SecureRefusal → Result Frame SecureRefusal
    given (Ok (Some x)) = Ok x.0
    given (Ok None) = Err CounterSpent
    given (Err e) = Err e

with-frame : (m n : ℕ) (f : Frame) (r : Result Frame SecureRefusal) → with_length m r ≡ Ok (Some (f, n)) → r ≡ Ok f
unfolding with_length
with-frame m n f (Ok g) is = ap (λ (x : Frame). let r : Result Frame SecureRefusal = Ok x in r) (taken-frame m n g f is)
with-frame m n f (Err e) is = absurd cc

module _ (a : Ahead) (t : ℕ) (s : Segment) (ss : List Segment) (few : length ss ≤ 3) (fine : IsAllowed 1048576 (preamble_of (framed t s ss))) (more : List (List ℕ)) where
  -- each content that opens at the front is the part of its number
  abbrev pub AreParts : Type 0
  AreParts = (i : ℕ) (plain : List ℕ) → a.counter + i < 2 ^ 64 → SomeOf (λ (content : List ℕ). content ≡ nonce_at a.fixed (a.counter + i) ++ plain) (front_contents a) → IsAt (plains (framed t s ss) ++ more) i plain

  -- that frame is read, and its parts opened
  abbrev pub IsRead : Frame → Type 0
  IsRead f = (f ≡ framed t s ss) × (front_contents a ≡ sealed_contents a.fixed a.counter (plains (framed t s ss)))

  abbrev pre : Preamble
  pre = preamble_of (framed t s ss)

  abbrev left : List ℕ
  left = drop 96 a.bytes

  abbrev rest : List ℕ
  rest = take (rest_len pre) left

  abbrev after : ℕ
  after = a.counter + 1 + one_if (second_len pre)

  part-of : AreParts → (i : ℕ) (plain : List ℕ) → a.counter + i < 2 ^ 64 → SomeOf (λ (content : List ℕ). content ≡ nonce_at a.fixed (a.counter + i) ++ plain) (front_contents a)
      → IsAt (Goes more (preamble_text pre ++ inline_of s.bytes) (second_plain s.bytes) (last_plain ss)) i plain
  part-of opens i plain low some = subst (λ (l : List (List ℕ)). IsAt (l ++ more) i plain) (parts_is t s ss) (opens i plain low some)

  -- the second part is one of those behind the head
  few-parts : one_if (second_len pre) ≤ rest_parts pre
  unfolding rest_parts
  few-parts = omega arith

  -- behind its head
  rest-front : (f : Frame) (plain : List ℕ) → AreParts → after < 2 ^ 64 → length rest ≡ rest_len pre
      → front_contents a ≡ (nonce_at a.fixed a.counter ++ plain) ∷ parts_contents a.key (nonce_at a.fixed (a.counter + 1)) (nonce_at a.fixed after) pre rest
      → preamble_text pre ++ inline_of s.bytes ≡ plain
      → rest_of a.key (nonce_at a.fixed (a.counter + 1)) (nonce_at a.fixed after) (head_of_frame t s ss few) rest ≡ Ok f → IsRead f
  unfolding parts_contents
  rest-front f plain opens low long contents first read =
      let both = rest-read t s ss few a.key (nonce_at a.fixed (a.counter + 1)) (nonce_at a.fixed after) rest f long opens_second opens_last read in (
        both.0,
        contents ∙ ap (λ (l : List (List ℕ)). (nonce_at a.fixed a.counter ++ plain) ∷ l) both.1
            ∙ ap (λ (p : List ℕ). (nonce_at a.fixed a.counter ++ p) ∷ (made (nonce_at a.fixed (a.counter + 1)) (second_plain s.bytes) ++ made (nonce_at a.fixed after) (last_plain ss))) (sym first)
            ∙ ap (λ (k : ℕ). (nonce_at a.fixed a.counter ++ (preamble_text pre ++ inline_of s.bytes))
            ∷ (made (nonce_at a.fixed (a.counter + 1)) (second_plain s.bytes) ++ made (nonce_at a.fixed (a.counter + 1 + one_if k)) (last_plain ss))) (second_is t s ss)
            ∙ parts-made a.fixed a.counter (preamble_text pre ++ inline_of s.bytes) (second_plain s.bytes) (last_plain ss)
            ∙ ap (λ (l : List (List ℕ)). sealed_contents a.fixed a.counter l) (sym (parts_is t s ss)),
      )
    where
      opens_second : OpensAs t s ss few a.key (nonce_at a.fixed (a.counter + 1)) (take (tagged (second_len (preamble_of (framed t s ss)))) rest) (second_plain s.bytes)
      opens_second b bs is x some =
          at-second more (preamble_text pre ++ inline_of s.bytes) (second_plain s.bytes) (last_plain ss) b bs is x
          (part-of opens 1 x (omega (arith, low)) (subst (λ (l : List (List ℕ)). SomeOf (λ (content : List ℕ). content ≡ nonce_at a.fixed (a.counter + 1) ++ x) l) (sym contents)
          (inr (some-front (λ (content : List ℕ). content ≡ nonce_at a.fixed (a.counter + 1) ++ x) (part_content a.key (nonce_at a.fixed (a.counter + 1)) (take (tagged (second_len pre)) rest))
          (part_content a.key (nonce_at a.fixed after) (drop (tagged (second_len pre)) rest)) some))))

      opens_last : OpensAs t s ss few a.key (nonce_at a.fixed after) (drop (tagged (second_len (preamble_of (framed t s ss)))) rest) (last_plain ss)
      opens_last b bs is x some =
          let i : ℕ = 1 + one_if (second_len pre) in
          let number : after ≡ a.counter + (1 + one_if (second_len pre)) = omega arith in
          let place : 1 + one_if (second_len pre) ≡ 1 + one_if (length (second_plain s.bytes)) = ap (λ (k : ℕ). 1 + one_if k) (second_is t s ss) in
          at-last more (preamble_text pre ++ inline_of s.bytes) (second_plain s.bytes) (last_plain ss) b bs is (1 + one_if (second_len pre)) place x
          (part-of opens (1 + one_if (second_len pre)) x (omega (arith, low))
          (subst (λ (k : ℕ). SomeOf (λ (content : List ℕ). content ≡ nonce_at a.fixed k ++ x) (front_contents a)) number
          (subst (λ (l : List (List ℕ)). SomeOf (λ (content : List ℕ). content ≡ nonce_at a.fixed after ++ x) l) (sym contents)
          (inr (some-behind (λ (content : List ℕ). content ≡ nonce_at a.fixed after ++ x) (part_content a.key (nonce_at a.fixed (a.counter + 1)) (take (tagged (second_len pre)) rest))
          (part_content a.key (nonce_at a.fixed after) (drop (tagged (second_len pre)) rest)) some)))))

  -- where all counters suffice: the frame behind a head that was opened
  front-rest : (f : Frame) (n : ℕ) (plain : List ℕ) → AreParts → front_contents a ≡ (nonce_at a.fixed a.counter ++ plain) ∷ contents_behind a (Ok pre)
      → preamble_text pre ++ inline_of s.bytes ≡ plain
      → behind_head (record a { counter = a.counter + 1; bytes = left }) (Ok (head_of_frame t s ss few)) ≡ Ok (Some (f, n)) → IsRead f
  unfolding behind_head contents_behind rest_step rest_contents with_length
  front-rest f n plain opens contents first read = by_long (nat_lt (length left) (rest_len pre)) refl read
    where
      by_counter : (spent : Bool) → nat_lt (2 ^ 64 - 1) (a.counter + 1 + rest_parts pre) ≡ spent → length rest ≡ rest_len pre
          → (let r : Result Frame SecureRefusal = (if spent then Err CounterSpent else rest_of a.key (nonce_at a.fixed (a.counter + 1)) (nonce_at a.fixed after) (head_of_frame t s ss few) rest) in r ≡ Ok f)
          → IsRead f
      by_counter true is long bad = absurd cc
      by_counter false is long ok =
          let fits : a.counter + 1 + rest_parts pre < 2 ^ 64 = grind (arith, nat_tests) in
          rest-front f plain opens (omega (arith, fits, few-parts)) long
          (contents ∙ ap (λ (u : Bool). (nonce_at a.fixed a.counter ++ plain) ∷ (if u then [] else parts_contents a.key (nonce_at a.fixed (a.counter + 1)) (nonce_at a.fixed after) pre rest)) is)
          first ok

      by_long : (short : Bool) → nat_lt (length left) (rest_len pre) ≡ short
          → (let r : Result (Option (Frame × ℕ)) SecureRefusal =
          (if short then Ok None else with_length (96 + rest_len pre) (rest_step a.key a.fixed (a.counter + 1) (head_of_frame t s ss few) rest)) in r ≡ Ok (Some (f, n)))
          → IsRead f
      by_long true is bad = absurd cc
      by_long false is ok =
          let enough : rest_len pre ≤ length left = grind (arith, nat_tests) in
          let long : length rest ≡ rest_len pre = omega (arith, enough, length-take (rest_len pre) left) in
          by_counter (nat_lt (2 ^ 64 - 1) (a.counter + 1 + rest_parts pre)) refl long
          (with-frame (96 + rest_len pre) n f (rest_step a.key a.fixed (a.counter + 1) (head_of_frame t s ss few) rest) ok)

  front-plain : (f : Frame) (n : ℕ) (plain : List ℕ) → AreParts → a.counter + 0 < 2 ^ 64 → front_contents a ≡ (nonce_at a.fixed a.counter ++ plain) ∷ contents_behind a (preamble_at 1048576 (take 32 plain))
      → behind_head (record a { counter = a.counter + 1; bytes = left }) (head_of (Some plain)) ≡ Ok (Some (f, n)) → IsRead f
  unfolding head_of with_inline
  front-plain f n plain opens low contents read =
      let zero_more : a.counter ≡ a.counter + 0 = omega arith in
      let first : preamble_text pre ++ inline_of s.bytes ≡ plain =
      part-of opens 0 plain low (subst (λ (l : List (List ℕ)). SomeOf (λ (content : List ℕ). content ≡ nonce_at a.fixed (a.counter + 0) ++ plain) l) (sym contents)
      (inl (ap (λ (k : ℕ). nonce_at a.fixed k ++ plain) zero_more))) in
      let front : take 32 plain ≡ preamble_text pre = ap (λ (l : List ℕ). take 32 l) (sym first) ∙ take_at (preamble_text pre) (inline_of s.bytes) 32 (preamble_len (framed t s ss)) in
      let inline : drop 32 plain ≡ inline_of s.bytes = ap (λ (l : List ℕ). drop 32 l) (sym first) ∙ drop_at (preamble_text pre) (inline_of s.bytes) 32 (preamble_len (framed t s ss)) in
      let known : preamble_at 1048576 (take 32 plain) ≡ Ok pre = preamble_again 1048576 (take 32 plain) pre fine front in
      front-rest f n plain opens (contents ∙ ap (λ (r : Result Preamble FrameRefusal). (nonce_at a.fixed a.counter ++ plain) ∷ contents_behind a r) known) first
      (sym (ap (λ (r : Result Preamble FrameRefusal). behind_head (record a { counter = a.counter + 1; bytes = left }) (with_inline (drop 32 plain) r)) known
      ∙ ap (λ (l : List ℕ). behind_head (record a { counter = a.counter + 1; bytes = left }) (with_inline l (Ok pre))) inline) ∙ read)

  -- What is read where all that opens is parts of a frame, in their order, is that frame; and all its parts opened.
  pub front-read : (f : Frame) (n : ℕ) → AreParts → secure_frame_at a ≡ Ok (Some (f, n)) → IsRead f
  unfolding secure_frame_at head_step head_of behind_head front_contents contents_from
  front-read f n opens read = by_short (nat_lt (length a.bytes) 96) read
    where
      by_open : (o : Option (List ℕ)) → opened a.key (nonce_at a.fixed a.counter) 80 (take 96 a.bytes) ≡ o → nat_lt (2 ^ 64 - 1) (a.counter + 1) ≡ false
          → behind_head (record a { counter = a.counter + 1; bytes = left }) (head_of o) ≡ Ok (Some (f, n)) → IsRead f
      by_open None is free bad = absurd cc
      by_open (Some plain) is free ok =
          let low : a.counter + 0 < 2 ^ 64 = grind (arith, nat_tests) in
          front-plain f n plain opens low
          (ap (λ (u : Bool). if u then [] else contents_from a (opened a.key (nonce_at a.fixed a.counter) 80 (take 96 a.bytes))) free ∙ ap (λ (o : Option (List ℕ)). contents_from a o) is) ok

      by_spent : (spent : Bool) → nat_lt (2 ^ 64 - 1) (a.counter + 1) ≡ spent
          → behind_head (record a { counter = a.counter + 1; bytes = left }) (if spent then Err CounterSpent else head_of (opened a.key (nonce_at a.fixed a.counter) 80 (take 96 a.bytes)))
          ≡ Ok (Some (f, n)) → IsRead f
      by_spent true is bad = absurd cc
      by_spent false is ok = by_open (opened a.key (nonce_at a.fixed a.counter) 80 (take 96 a.bytes)) refl is ok

      by_short : (short : Bool)
          → (let r : Result (Option (Frame × ℕ)) SecureRefusal =
          (if short then Ok None else behind_head (record a { counter = a.counter + 1; bytes = left }) (head_step a.key a.fixed a.counter (take 96 a.bytes))) in r ≡ Ok (Some (f, n)))
          → IsRead f
      by_short true bad = absurd cc
      by_short false ok = by_spent (nat_lt (2 ^ 64 - 1) (a.counter + 1)) refl ok
