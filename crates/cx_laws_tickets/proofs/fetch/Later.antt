-- What each end of a link to the monitor sealed behind its AUTH_SIGNATURE, read off the log: the contents under the link's key that begin with the nonce of
-- that end, and have another number than 0. Of the number 0 nothing is said: where AUTH_DONE comes again that was recorded, one that logs in seals an
-- AUTH_SIGNATURE under the key of an earlier link, and finds the monitor's wrong.
use Rattle.std.proofs.Common.{◌≡◌, ◌+◌, ◌<◌, ◌≤◌, ◌^◌, ℕ, suc, Bool, true, false, nat_lt, List, [], ◌∷◌, ◌++◌, drop, length, take, Ok, inl, inr, arith, append_assoc, length-append, refl, sym, ap, ◌∙◌, subst}
use Rattle.std.proofs.lemmas.Bool.Decides.{nat_tests}
use Rattle.std.proofs.lemmas.List.{take_at, drop_at}
use Rattle.std.proofs.lemmas.Nat.{from_le_bytes-to_le_bytes_8}
use Rattle.std.proofs.lemmas.Slice.Eq.{bytes_eq-Decides}
use Rattle.std.specs.Prelude.{◌&&◌, not}
use Rattle.std.specs.Int.{from_le_bytes, to_le_bytes, w64}
use Rattle.std.specs.List.{cons_option}
use Rattle.std.specs.Str.{bytes_eq}
use Rattle.cx_base.specs.declared.nodes.NodeName.{NodeName}
use Rattle.cx_frame.specs.Frames.{total}
use Rattle.cx_frame.specs.declared.frame.Frame.{Frame}
use Rattle.cx_journal.specs.declared.premises.KeyKind.TheVariants as kind
use Rattle.cx_laws_tickets.specs.cx_laws_keys.proofs.keys.Known.{IsOfAcceptor, IsOfConnector}
use Rattle.cx_laws_tickets.specs.cx_laws_keys.proofs.keys.Premises.{behind}
use Rattle.cx_laws_keys.proofs.series.Contents.{IsNumberedAt, content-at, content_where, contents-append, contents-behind, contents_by, contents_in, parts-others, sealed-content}
use Rattle.cx_laws_keys.proofs.series.Frames.{frame-sealed}
use Rattle.cx_laws_keys.proofs.series.Series.{IsAt, at-front}
use Rattle.cx_laws_keys.specs.cx_rules.specs.Secured.{Keys, SealedFrame, part_seals, sealed_under, secure_frame}
use Rattle.cx_secure.specs.Contents.{sealed_contents}
use Rattle.cx_secure.specs.Parts.{nonce_at}
use Rattle.cx_secure.specs.Plains.{plains}
use Rattle.cx_steps.specs.Onto.{SomeOf}
use Rattle.cx_steps.specs.Premises.{HasSealed}
use Rattle.cx_steps.specs.declared.seals.Logged.{Logged}
use Rattle.cx_steps.specs.declared.seals.SealMark.{SealMark}

-- ---- which end it is of

-- the content begins with the nonce of a connector, of which the highest bit is 1
abbrev pub is_connectors : List ℕ → Bool
is_connectors [] = false
is_connectors (b ∷ bytes) = nat_lt 127 b

-- it begins with that of an acceptor
abbrev pub is_acceptors : List ℕ → Bool
is_acceptors [] = false
is_acceptors (b ∷ bytes) = nat_lt b 128

-- its number isn't 0
abbrev pub is_later : List ℕ → Bool
is_later content = not (bytes_eq (take 8 (drop 4 content)) (to_le_bytes w64 0))

-- it is one that a connector, or an acceptor, sealed behind its AUTH_SIGNATURE
abbrev pub of_connector : List ℕ → Bool
of_connector content = is_connectors content && is_later content

abbrev pub of_acceptor : List ℕ → Bool
of_acceptor content = is_acceptors content && is_later content

-- what begins with these four bytes passes from the number 1 on, and doesn't with the number 0
pub record IsEnd (test : List ℕ → Bool) (fixed : List ℕ) : Type 0 where
  pub four : length fixed ≡ 4
  pub later : (m : ℕ) (plain : List ℕ) → 1 ≤ m → m < 2 ^ 64 → test (nonce_at fixed m ++ plain) ≡ true
  pub first : (plain : List ℕ) → test (nonce_at fixed 0 ++ plain) ≡ false

-- the number that stands in a content
number-stands : (fixed : List ℕ) (m : ℕ) (plain : List ℕ) → length fixed ≡ 4 → take 8 (drop 4 (nonce_at fixed m ++ plain)) ≡ to_le_bytes w64 m
unfolding nonce_at
number-stands fixed m plain four =
    ap (λ (l : List ℕ). take 8 (drop 4 l)) (append_assoc fixed (to_le_bytes w64 m) plain)
    ∙ ap (λ (l : List ℕ). take 8 l) (drop_at fixed (to_le_bytes w64 m ++ plain) 4 four)
    ∙ take_at (to_le_bytes w64 m) plain 8 refl

later-true : (fixed : List ℕ) (m : ℕ) (plain : List ℕ) → length fixed ≡ 4 → 1 ≤ m → m < 2 ^ 64 → is_later (nonce_at fixed m ++ plain) ≡ true
later-true fixed m plain four some low = by_test (bytes_eq (take 8 (drop 4 (nonce_at fixed m ++ plain))) (to_le_bytes w64 0)) refl
  where
    by_test : (t : Bool) → bytes_eq (take 8 (drop 4 (nonce_at fixed m ++ plain))) (to_le_bytes w64 0) ≡ t → not t ≡ true
    by_test false e = refl
    by_test true e =
        let same : to_le_bytes w64 m ≡ to_le_bytes w64 0 =
        sym (number-stands fixed m plain four) ∙ (bytes_eq-Decides (take 8 (drop 4 (nonce_at fixed m ++ plain))) (to_le_bytes w64 0)).0 e in
        let none : m ≡ 0 =
        sym (from_le_bytes-to_le_bytes_8 m low) ∙ ap (λ (l : List ℕ). from_le_bytes w64 l) same ∙ from_le_bytes-to_le_bytes_8 0 (omega arith) in
        absurd (omega (arith, some, none))

later-false : (fixed : List ℕ) (plain : List ℕ) → length fixed ≡ 4 → is_later (nonce_at fixed 0 ++ plain) ≡ false
later-false fixed plain four =
    ap (λ (t : Bool). not t) ((bytes_eq-Decides (take 8 (drop 4 (nonce_at fixed 0 ++ plain))) (to_le_bytes w64 0)).1 (number-stands fixed 0 plain four))

and-false : (b : Bool) → (b && false) ≡ false
and-false true = refl
and-false false = refl

connectors-true : (fixed : List ℕ) (m : ℕ) (plain : List ℕ) → IsOfConnector fixed → is_connectors (nonce_at fixed m ++ plain) ≡ true
unfolding nonce_at
connectors-true [] m plain h = absurd h
connectors-true (b ∷ bytes) m plain h = grind (arith, nat_tests)

acceptors-true : (fixed : List ℕ) (m : ℕ) (plain : List ℕ) → IsOfAcceptor fixed → is_acceptors (nonce_at fixed m ++ plain) ≡ true
unfolding nonce_at
acceptors-true [] m plain h = absurd h
acceptors-true (b ∷ bytes) m plain h = grind (arith, nat_tests)

pub connector-end : (fixed : List ℕ) → IsOfConnector fixed → length fixed ≡ 4 → IsEnd of_connector fixed
connector-end fixed h four = record {
  four = four;
  later = λ m plain some low. rw (connectors-true fixed m plain h, later-true fixed m plain four some low) refl;
  first = λ plain. ap (λ (t : Bool). is_connectors (nonce_at fixed 0 ++ plain) && t) (later-false fixed plain four) ∙ and-false (is_connectors (nonce_at fixed 0 ++ plain));
}

pub acceptor-end : (fixed : List ℕ) → IsOfAcceptor fixed → length fixed ≡ 4 → IsEnd of_acceptor fixed
acceptor-end fixed h four = record {
  four = four;
  later = λ m plain some low. rw (acceptors-true fixed m plain h, later-true fixed m plain four some low) refl;
  first = λ plain. ap (λ (t : Bool). is_acceptors (nonce_at fixed 0 ++ plain) && t) (later-false fixed plain four) ∙ and-false (is_acceptors (nonce_at fixed 0 ++ plain));
}

-- what one end seals is none of the other's
not-both : (b : ℕ) (t : Bool) → nat_lt b 128 ≡ t → (t && true) ≡ true → nat_lt 127 b ≡ false
not-both b true is passes = grind (arith, nat_tests)
not-both b false is passes = absurd cc

not-either : (b : ℕ) (t : Bool) → nat_lt 127 b ≡ t → (t && true) ≡ true → nat_lt b 128 ≡ false
not-either b true is passes = grind (arith, nat_tests)
not-either b false is passes = absurd cc

pub acceptors-apart : (fixed : List ℕ) → IsEnd of_acceptor fixed → (m : ℕ) (plain : List ℕ) → of_connector (nonce_at fixed m ++ plain) ≡ false
unfolding nonce_at
acceptors-apart [] is m plain = let four : length {A = ℕ} [] ≡ 4 = is.four in absurd (omega (arith, four))
acceptors-apart (b ∷ bytes) is m plain =
    let low : 1 < 2 ^ 64 = omega arith in
    let passes : (nat_lt b 128 && is_later (nonce_at (b ∷ bytes) 1 ++ [])) ≡ true = is.later 1 [] (omega arith) low in
    let both : (nat_lt b 128 && true) ≡ true = ap (λ (t : Bool). nat_lt b 128 && t) (sym (later-true (b ∷ bytes) 1 [] is.four (omega arith) low)) ∙ passes in
    ap (λ (t : Bool). t && is_later (nonce_at (b ∷ bytes) m ++ plain)) (not-both b (nat_lt b 128) refl both)

pub connectors-apart : (fixed : List ℕ) → IsEnd of_connector fixed → (m : ℕ) (plain : List ℕ) → of_acceptor (nonce_at fixed m ++ plain) ≡ false
unfolding nonce_at
connectors-apart [] is m plain = let four : length {A = ℕ} [] ≡ 4 = is.four in absurd (omega (arith, four))
connectors-apart (b ∷ bytes) is m plain =
    let low : 1 < 2 ^ 64 = omega arith in
    let passes : (nat_lt 127 b && is_later (nonce_at (b ∷ bytes) 1 ++ [])) ≡ true = is.later 1 [] (omega arith) low in
    let both : (nat_lt 127 b && true) ≡ true = ap (λ (t : Bool). nat_lt 127 b && t) (sym (later-true (b ∷ bytes) 1 [] is.four (omega arith) low)) ∙ passes in
    ap (λ (t : Bool). t && is_later (nonce_at (b ∷ bytes) m ++ plain)) (not-either b (nat_lt 127 b) refl both)

-- ---- sealed

module _ (test : List ℕ → Bool) where
  -- the end's own parts, from a number above 0 on
  pub later-contents : (key fixed : List ℕ) → IsEnd test fixed → (counter : ℕ) (texts : List (List ℕ)) → 1 ≤ counter → counter + length texts ≤ 2 ^ 64
      → contents_by key test (part_seals key fixed counter texts) ≡ sealed_contents fixed counter texts
  unfolding sealed_contents
  later-contents key fixed is counter [] some fits = refl
  later-contents key fixed is counter (plain ∷ texts) some fits =
      let itself : bytes_eq key key ≡ true = (bytes_eq-Decides key key).1 refl in
      let passes : test (nonce_at fixed counter ++ plain) ≡ true = is.later counter plain some (omega (arith, fits)) in
      let both : (bytes_eq key key && test (nonce_at fixed counter ++ plain)) ≡ true = rw (itself, passes) refl in
      ap (λ (t : Bool). cons_option (content_where t (nonce_at fixed counter ++ plain)) (contents_by key test (part_seals key fixed (counter + 1) texts))) both
      ∙ ap (λ (l : List (List ℕ)). (nonce_at fixed counter ++ plain) ∷ l) (later-contents key fixed is (counter + 1) texts (omega (arith, some)) (omega (arith, fits)))

  -- an end has sealed these parts under its key, from number 1 on, and the next part gets the next number
  pub record HasLater (keys : Keys) (parts : List (List ℕ)) (log : List Logged) : Type 0 where
    pub sealed : contents_in keys.key test log ≡ sealed_contents keys.out.fixed 1 parts
    pub counter : keys.out.counter ≡ 1 + length parts

  -- what is so of a frame that an end seals: its parts have the next numbers; nothing is sealed under another key, or by the other end
  pub record IsNextFrame (keys : Keys) (f : Frame) (s : SealedFrame) : Type 0 where
    pub key_is : s.keys.key ≡ keys.key
    pub fixed : s.keys.out.fixed ≡ keys.out.fixed
    pub into : s.keys.into ≡ keys.into
    pub low : s.keys.out.counter ≤ 2 ^ 64
    pub fits : total f ≤ 1048576
    pub parts : (parts : List (List ℕ)) (n : NodeName) (line : ℕ) (log : List Logged) → HasLater keys parts log → HasLater s.keys (parts ++ plains f) (behind n line s.seals log)
    pub others : (other : List ℕ) (by : List ℕ → Bool) → bytes_eq keys.key other ≡ false → contents_by other by s.seals ≡ []
    pub apart : (other : List ℕ) (by : List ℕ → Bool) → ((m : ℕ) (plain : List ℕ) → by (nonce_at keys.out.fixed m ++ plain) ≡ false) → contents_by other by s.seals ≡ []

  under-later : (keys : Keys) (f : Frame) → IsEnd test keys.out.fixed → keys.out.counter + length (plains f) < 2 ^ 64 → (parts : List (List ℕ)) (n : NodeName) (line : ℕ) (log : List Logged)
      → HasLater keys parts log → HasLater (sealed_under keys f).keys (parts ++ plains f) (behind n line (sealed_under keys f).seals log)
  under-later keys f is low parts n line log h =
      let some : 1 ≤ keys.out.counter = omega (arith, h.counter) in
      record {
        sealed = contents-behind keys.key test n line (sealed_under keys f).seals log
            ∙ ap (λ (l : List (List ℕ)). l ++ contents_by keys.key test (sealed_under keys f).seals) h.sealed
            ∙ ap (λ (l : List (List ℕ)). sealed_contents keys.out.fixed 1 parts ++ l) (later-contents keys.key keys.out.fixed is keys.out.counter (plains f) some (omega (arith, low)))
            ∙ ap (λ (m : ℕ). sealed_contents keys.out.fixed 1 parts ++ sealed_contents keys.out.fixed m (plains f)) h.counter
            ∙ sym (contents-append keys.out.fixed 1 parts (plains f));
        counter = omega (arith, h.counter, length-append parts (plains f));
      }

  pub next-frame : (keys : Keys) (f : Frame) (s : SealedFrame) → IsEnd test keys.out.fixed → secure_frame keys f ≡ Ok s → IsNextFrame keys f s
  next-frame keys f s is made =
      let h = frame-sealed keys f s made in
      let low = h.1 in
      subst (λ (x : SealedFrame). IsNextFrame keys f x) (sym h.0) (record {
        key_is = refl;
        fixed = refl;
        into = refl;
        low = omega (arith, low);
        fits = h.2;
        parts = under-later keys f is low;
        others = λ other by apart. parts-others other by keys.key keys.out.fixed (inl apart) keys.out.counter (plains f);
        apart = λ other by fails. parts-others other by keys.key keys.out.fixed (inr fails) keys.out.counter (plains f);
      })

-- ---- taken

none-behind : (parts : List (List ℕ)) (plain : List ℕ) → IsAt parts (length parts) plain → ⊥
none-behind [] plain h = h
none-behind (x ∷ parts) plain h =
    let same : length (x ∷ parts) ≡ suc (length parts) = omega arith in none-behind parts plain (subst (λ (k : ℕ). IsAt (x ∷ parts) k plain) same h)

-- each content that an end sealed under a key stands in its place, from number 1 on: among these parts, or among those beyond them; and none stands right behind the
-- parts. So it is where an end counts a frame that it never sealed, as the monitor does where a save fails: what it seals then lies beyond
abbrev pub AreAmong : (List ℕ → Bool) → List Logged → List ℕ → List (List ℕ) → List (List ℕ) → Type 0
AreAmong test log key parts beyond = (other : List ℕ) → IsEnd test other → (counter : ℕ) (plain : List ℕ) → 1 ≤ counter → counter < 2 ^ 64
    → SomeOf (λ (content : List ℕ). content ≡ nonce_at other counter ++ plain) (contents_in key test log)
    → (place : ℕ) × (1 + place ≡ counter) × IsAt (parts ++ beyond) place plain × (place ≡ length parts → ⊥)

pub record IsLaterSeries (test : List ℕ → Bool) (log : List Logged) (key : List ℕ) (parts : List (List ℕ)) : Type 0 where
  pub beyond : List (List ℕ)
  pub among : AreAmong test log key parts beyond

-- where all that was sealed is these parts, whatever lies beyond
pub exact-among : (test : List ℕ → Bool) (log : List Logged) (key fixed : List ℕ) (parts beyond : List (List ℕ)) → IsEnd test fixed → contents_in key test log ≡ sealed_contents fixed 1 parts
    → 1 + length parts ≤ 2 ^ 64 → AreAmong test log key parts beyond
exact-among test log key fixed parts beyond is contents fits = λ other end counter plain some low has.
    let there = subst (λ (l : List (List ℕ)). SomeOf (λ (content : List ℕ). content ≡ nonce_at other counter ++ plain) l) contents has in
    let at : IsNumberedAt fixed other 1 counter parts plain = content-at fixed other 1 counter parts plain is.four end.four fits low there in
    (at.place, at.number, at-front parts beyond at.place plain at.part, λ same. none-behind parts plain (subst (λ (k : ℕ). IsAt parts k plain) same at.part))

pub exact-series : (test : List ℕ → Bool) (log : List Logged) (key fixed : List ℕ) (parts : List (List ℕ)) → IsEnd test fixed → contents_in key test log ≡ sealed_contents fixed 1 parts
    → 1 + length parts ≤ 2 ^ 64 → IsLaterSeries test log key parts
exact-series test log key fixed parts is contents fits = record { beyond = []; among = exact-among test log key fixed parts [] is contents fits }

-- or nothing was
pub none-series : (test : List ℕ → Bool) (log : List Logged) (key : List ℕ) (parts : List (List ℕ)) → contents_in key test log ≡ [] → IsLaterSeries test log key parts
none-series test log key parts none = record {
  beyond = [];
  among = λ other end counter plain some low has.
      absurd (subst (λ (l : List (List ℕ)). SomeOf (λ (content : List ℕ). content ≡ nonce_at other counter ++ plain) l) none has);
}

-- what opens there under a number above 0 is the part of this number
pub later-taken : (test : List ℕ → Bool) (log : List Logged) (key : List ℕ) (parts : List (List ℕ)) (other : List ℕ) → IsEnd test other → (w : IsLaterSeries test log key parts)
    → (counter : ℕ) (plain : List ℕ) → 1 ≤ counter → counter < 2 ^ 64 → HasSealed log (record { key = key; kind = kind.Connection; content = nonce_at other counter ++ plain })
    → (place : ℕ) × (1 + place ≡ counter) × IsAt (parts ++ w.beyond) place plain × (place ≡ length parts → ⊥)
later-taken test log key parts other is w counter plain some low was =
    let mark : SealMark = record { key = key; kind = kind.Connection; content = nonce_at other counter ++ plain } in
    w.among other is counter plain some low (sealed-content key test log mark refl (is.later counter plain some low) was)
