-- What opens of the frame at the front.
use Rattle.std.proofs.Common.{◌≡◌, ℕ, ◌+◌, ◌-◌, ◌≤◌, ◌^◌, Bool, true, false, List, [], ◌∷◌, ◌++◌, length, take, drop, Option, Some, None, Result, Ok, Err, refl, sym, ap, ◌∙◌, inl, inr, arith, length-append, append_assoc}
use Rattle.std.specs.Prelude.{nat_lt, if◌then◌else◌}
use Rattle.std.proofs.lemmas.List.{take_at, drop_at}
use Rattle.cx_frame.specs.declared.preamble.Preamble.{Preamble}
use Rattle.cx_frame.specs.declared.refusals.FrameRefusal.{FrameRefusal}
use Rattle.cx_frame.specs.Preambles.{preamble_at, preamble_text}
use Rattle.cx_frame.proofs.FrameLaws.{length-preamble_text}
use Rattle.cx_frame.proofs.PreambleLaws.{preamble_again}
use Rattle.cx_secure.specs.cx_gcm.specs.Gcm.{IsNonce}
use Rattle.cx_secure.specs.Contents.{content_of, head_contents, head_content, rest_contents}
use Rattle.cx_secure.specs.Opening.{head_of, head_step, with_inline}
use Rattle.cx_secure.specs.Parts.{nonce_at, opened}
use Rattle.cx_secure.specs.Plains.{rest_len}
use Rattle.cx_secure.specs.Sealings.{connection_key, open_head_at}
use Rattle.cx_secure.specs.declared.refusals.SecureRefusal.{SecureRefusal}
use Rattle.cx_secure.specs.declared.refusals.SecureRefusal.TheVariants.{CounterSpent, OutOfMemory}
use Rattle.cx_secure.specs.declared.sealing.Head.{Head}
use Rattle.cx_secure.specs.declared.sealing.Sealing.{Sealing}
use Rattle.cx_secure.proofs.HeadLaws.{nonce_is}
use Rattle.cx_secure.proofs.PartLaws.{part_opened}
use Rattle.cx_stream.specs.Fronts.{with_length}
use Rattle.cx_stream.specs.Held.{Held, IsOpen, sealed_head}
use Rattle.cx_stream.specs.Openings.{NeedsNoMemory, contents_behind, contents_from, front_contents, open_contents}
use Rattle.cx_stream.specs.SecureStreams.{Ahead, IsKeyed, ahead, secure_frame_at}
use Rattle.cx_stream.specs.Turning.{Opened, behind_open}
use Rattle.cx_stream.proofs.SecureFronts.{stream_keyed}
use Rattle.cx_stream.proofs.SecureTurns.{Answer, behind_all, held, head_read}
use Rattle.cx_stream.specs.declared.faults.StreamFault.TheVariants.{Secure}
use Rattle.cx_frame.specs.declared.frame.Frame.{Frame}

abbrev Refused : Type 0
Refused = Result Head SecureRefusal

-- ---- a head that is refused

from_refused : (a : Ahead) (o : Option (List ℕ)) (e : SecureRefusal) → head_of o ≡ Err e → contents_from a o ≡ content_of (nonce_at a.fixed a.counter) o
unfolding head_of with_inline contents_from contents_behind
from_refused a None e is = refl
from_refused a (Some plain) e is = by_preamble (preamble_at 1048576 (take 32 plain)) is
  where
    by_preamble : (r : Result Preamble FrameRefusal) → with_inline (drop 32 plain) r ≡ Err e → (nonce_at a.fixed a.counter ++ plain) ∷ contents_behind a r ≡ (nonce_at a.fixed a.counter ++ plain) ∷ []
    by_preamble (Ok p) is = absurd cc
    by_preamble (Err f) is = refl

pub refused_contents : (a : Ahead) (front left : List ℕ) (e : SecureRefusal) → a.bytes ≡ front ++ left → length front ≡ 96 → head_step a.key a.fixed a.counter front ≡ Err e
    → front_contents a ≡ head_contents a.key a.fixed a.counter front
unfolding head_step head_contents front_contents contents_from contents_behind
refused_contents a front left e bytes_are len read =
    ap (λ b. if nat_lt (2 ^ 64 - 1) (a.counter + 1) then [] else contents_from a (opened a.key (nonce_at a.fixed a.counter) 80 b)) (ap (take 96) bytes_are ∙ take_at front left 96 len)
    ∙ by_counter (nat_lt (2 ^ 64 - 1) (a.counter + 1)) read
  where
    o : Option (List ℕ)
    o = opened a.key (nonce_at a.fixed a.counter) 80 front

    by_counter : (spent : Bool) → (if spent then Err CounterSpent else head_of o) ≡ Err e
        → (if spent then [] else contents_from a o) ≡ (if spent then [] else content_of (nonce_at a.fixed a.counter) o)
    by_counter true is = refl
    by_counter false is = from_refused a o e is

-- ---- a head that is open

front_of_head : (a : Ahead) (front left plain : List ℕ) (h : Head) → a.bytes ≡ front ++ left → length front ≡ 96 → head_step a.key a.fixed a.counter front ≡ Ok h
    → opened a.key (nonce_at a.fixed a.counter) 80 front ≡ Some plain → preamble_at 1048576 (take 32 plain) ≡ Ok h.preamble
    → front_contents a ≡ (nonce_at a.fixed a.counter ++ plain) ∷ rest_contents a.key a.fixed (a.counter + 1) h.preamble (take (rest_len h.preamble) left)
unfolding head_step front_contents contents_from contents_behind
front_of_head a front left plain h bytes_are len read open_ed preamble =
    ap (λ b. if nat_lt (2 ^ 64 - 1) (a.counter + 1) then [] else contents_from a (opened a.key (nonce_at a.fixed a.counter) 80 b)) (ap (take 96) bytes_are ∙ take_at front left 96 len)
    ∙ by_counter (nat_lt (2 ^ 64 - 1) (a.counter + 1)) read
    ∙ ap (contents_from a) open_ed
    ∙ ap (λ r. (nonce_at a.fixed a.counter ++ plain) ∷ contents_behind a r) preamble
    ∙ ap (λ b. (nonce_at a.fixed a.counter ++ plain) ∷ rest_contents a.key a.fixed (a.counter + 1) h.preamble (take (rest_len h.preamble) b)) (ap (drop 96) bytes_are ∙ drop_at front left 96 len)
  where
    o : Option (List ℕ)
    o = opened a.key (nonce_at a.fixed a.counter) 80 front

    by_counter : (spent : Bool) → (if spent then Err CounterSpent else head_of o) ≡ Ok h → (if spent then [] else contents_from a o) ≡ contents_from a o
    by_counter true is = absurd cc
    by_counter false is = refl

part_length : (front inline : List ℕ) → length front ≡ 32 → length inline ≡ 48 → length (front ++ inline) ≡ 80
part_length front inline f i = omega (arith, length-append front inline)

opened_front : (s : Held) (h : Head) → IsOpen s.sealing h → IsKeyed (ahead s)
    → opened (connection_key s.sealing) (nonce_at s.sealing.into.fixed (s.sealing.into.counter - 1)) 80 (sealed_head s.sealing (Some h)) ≡ Some (preamble_text h.preamble ++ h.inline)
opened_front s h is keyed =
    let plain : List ℕ = preamble_text h.preamble ++ h.inline in
    let nonce : IsNonce (nonce_at s.sealing.into.fixed (s.sealing.into.counter - 1)) = nonce_is s.sealing.into.fixed (s.sealing.into.counter - 1) keyed.fixed.len keyed.fixed.bytes in
    let len : length plain ≡ 80 =
    part_length (preamble_text h.preamble) h.inline (length-preamble_text h.preamble is.allowed.four_lengths is.allowed.four_aligns) is.inline in
    part_opened (connection_key s.sealing) (nonce_at s.sealing.into.fixed (s.sealing.into.counter - 1)) plain 80 keyed.key nonce len

front_open : (s : Held) (h : Head) → s.head ≡ Some h → IsOpen s.sealing h → front_contents (ahead s) ≡ open_contents s h
front_open s h there is =
    let front : List ℕ = preamble_text h.preamble in
    let n : ℕ = s.sealing.into.counter in
    let len : length front ≡ 32 = length-preamble_text h.preamble is.allowed.four_lengths is.allowed.four_aligns in
    let with : Option Head → Held = λ o. record { sealing = s.sealing; head = o; rest = s.rest } in
    let back : n - 1 + 1 ≡ n = let low = is.low in omega arith in
    ap (λ (o : Option Head). front_contents (ahead (with o))) there
    ∙ front_of_head (ahead (with (Some h))) (sealed_head s.sealing (Some h)) s.rest (front ++ h.inline) h refl is.len is.read (opened_front s h is (stream_keyed s))
    (preamble_again 1048576 (take 32 (front ++ h.inline)) h.preamble is.allowed (take_at front h.inline 32 len))
    ∙ ap (λ c. head_content s.sealing.into h ∷ rest_contents (connection_key s.sealing) s.sealing.into.fixed c h.preamble (take (rest_len h.preamble) s.rest)) back

-- ---- what is handed out

pub err_is : {X : Type 0} (x y : SecureRefusal) → (let p : Result X SecureRefusal = Err x in p ≡ Err y) → x ≡ y
err_is x y e = cc

-- a refusal that isn't want of memory, of either answer
pub not_memory : {X Y : Type 0} (e : SecureRefusal) → ((let p : Result X SecureRefusal = Err e in p ≡ Err OutOfMemory) → ⊥) → (let q : Result Y SecureRefusal = Err e in q ≡ Err OutOfMemory) → ⊥
not_memory {X} {Y} e not is = not (ap (λ (x : SecureRefusal). let r : Result X SecureRefusal = Err x in r) (err_is {X = Y} e OutOfMemory is))

-- of a head that is refused
pub refused_front : (old : Held) (s : Sealing) (o : Option Head) (rest front left : List ℕ) (e : SecureRefusal) → held s o rest ≡ old → o ≡ None → rest ≡ front ++ left → length front ≡ 96 → s.kept ≡ None
    → (let r : Refused = Err e in open_head_at s front ≡ r) → front_contents (ahead old) ≡ head_contents (connection_key s) s.into.fixed s.into.counter front
refused_front old s o rest front left e seen none rest_is len free read =
    ap (λ (x : Held). front_contents (ahead x)) (sym seen) ∙ ap (λ (p : Option Head). front_contents (ahead (held s p rest))) none
    ∙ refused_contents (ahead (held s None rest)) front left e rest_is len (head_read s front (Err e) free read)

-- of a head that is open and what stands behind it
pub finish_contents : (old : Held) (s : Sealing) (o : Option Head) (rest behind : List ℕ) (h : Head) (before mid new : List (List ℕ)) (content : List ℕ) → held s o rest ≡ old
    → behind ≡ take (rest_len h.preamble) rest → content ≡ head_content s.into h → mid ≡ before ++ content ∷ []
    → new ≡ mid ++ rest_contents (connection_key s) s.into.fixed s.into.counter h.preamble behind → new ≡ before ++ open_contents old h
finish_contents old s o rest behind h before mid new content seen behind_is content_is pushed handed =
    let cs : List ℕ → List (List ℕ) = λ b. rest_contents (connection_key s) s.into.fixed s.into.counter h.preamble b in
    handed ∙ ap (λ m. m ++ cs behind) pushed ∙ append_assoc before (content ∷ []) (cs behind)
    ∙ ap (λ b. before ++ (content ∷ cs b)) behind_is ∙ ap (λ c. before ++ (c ∷ cs (take (rest_len h.preamble) rest))) content_is
    ∙ ap (λ (x : Held). before ++ open_contents x h) seen

-- the contents of a frame whose head was opened
pub opened_contents : (old mid : Held) (h : Head) → Opened old mid h → front_contents (ahead old) ≡ open_contents mid h
opened_contents old mid h is = ap front_contents (sym is.same) ∙ front_open mid h is.head is.steady

abbrev Finishes : Type 0
Finishes = Result (Option Frame) SecureRefusal

-- of a frame that is given
pub next_given : (old mid : Held) (h : Head) (given : Option Frame) (before between after : List (List ℕ)) → Opened old mid h → between ≡ before
    → (let r : Finishes = Ok given in (r ≡ Ok None → ⊥) → (r ≡ Err OutOfMemory → ⊥) → after ≡ between ++ open_contents mid h)
    → ((let r : Answer = Ok given in r ≡ Ok None) → ⊥) → after ≡ before ++ front_contents (ahead old)
next_given old mid h None before between after is same handed some = absurd (some refl)
next_given old mid h (Some f) before between after is same handed some =
    handed (λ e. cc) (λ e. cc) ∙ ap (λ m. m ++ open_contents mid h) same ∙ ap (λ cs. before ++ cs) (sym (opened_contents old mid h is))

-- of one that is refused behind its head
pub next_refused : (old mid : Held) (h : Head) (e : SecureRefusal) (before between after : List (List ℕ)) → Opened old mid h → between ≡ before
    → (let r : Finishes = Err e in (r ≡ Ok None → ⊥) → (r ≡ Err OutOfMemory → ⊥) → after ≡ between ++ open_contents mid h)
    → ((let r : Answer = Err (Secure e) in r ≡ Err (Secure OutOfMemory)) → ⊥) → after ≡ before ++ front_contents (ahead old)
next_refused old mid h e before between after is same handed not =
    handed (λ n. cc) (λ want. not (ap (λ (x : SecureRefusal). let r : Answer = Err (Secure x) in r) (err_is e OutOfMemory want)))
    ∙ ap (λ m. m ++ open_contents mid h) same ∙ ap (λ cs. before ++ cs) (sym (opened_contents old mid h is))

-- ---- where memory may be wanting

-- something opened of a frame that is all there
pub needs_memory : (old : Held) → old.sealing.kept ≡ None → (secure_frame_at (ahead old) ≡ Ok None → ⊥) → (front_contents (ahead old) ≡ [] → ⊥) → NeedsNoMemory old → ⊥
needs_memory old free there opens (inl kept) = kept free
needs_memory old free there opens (inr (inl short)) = there short
needs_memory old free there opens (inr (inr none)) = opens none

-- of a head that is refused, what opened isn't handed out for want of memory alone
pub refused_needs : (old : Held) (e : SecureRefusal) (contents : List (List ℕ)) → (old.sealing.kept ≡ None) × (secure_frame_at (ahead old) ≡ Err e) → front_contents (ahead old) ≡ contents
    → (contents ≡ [] → ⊥) → NeedsNoMemory old → ⊥
refused_needs old e contents is same opens =
    needs_memory old is.0 (λ short. let both : Err e ≡ Ok None = sym is.1 ∙ short in cc) (λ none. opens (sym same ∙ none))

length_there : (n : ℕ) (r : Result Frame SecureRefusal) → with_length n r ≡ Ok None → ⊥
unfolding with_length
length_there n (Ok f) is = cc
length_there n (Err e) is = cc

-- a frame whose head is open, and which is all there
pub opened_needs : (old mid : Held) (h : Head) → Opened old mid h → rest_len h.preamble ≤ length mid.rest → NeedsNoMemory old → ⊥
opened_needs old mid h is long =
    needs_memory old is.free
    (λ short. length_there (96 + rest_len h.preamble) _ (sym (behind_all (behind_open mid) h _ long refl) ∙ sym is.next ∙ short))
    (λ none. let e = sym (opened_contents old mid h is) ∙ none in cc)
