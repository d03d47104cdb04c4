-- A control frame that is sealed on a link.
use Rattle.std.proofs.Common.{◌≡◌, ℕ, ◌+◌, ◌-◌, ◌^◌, ◌<◌, Bool, true, false, List, [], ◌∷◌, ◌++◌, length, get_or, map, Option, Some, None, Result, Ok, Err, refl, sym, ap, ◌∙◌, arith, inl, inr, sum_by, nat_lt}
use Rattle.std.specs.Prelude.{◌==◌, if◌then◌else◌}
use Rattle.std.proofs.Math.Nat.{add-sub_cancel}
use Rattle.std.proofs.lemmas.Bool.{cases_lt, le-ltb, lt-ltb, ne_eqb}
use Rattle.std.proofs.lemmas.List.Sums.{sum_by-cons}
use Rattle.cx_frame.specs.Frames.{total}
use Rattle.cx_frame.specs.Preambles.{length_of}
use Rattle.cx_frame.specs.declared.frame.Frame.{Frame}
use Rattle.cx_frame.specs.declared.frame.Segment.{Segment}
use Rattle.cx_journal.specs.declared.faults.BytesFault.{BytesFault}
use Rattle.cx_journal.specs.declared.faults.BytesFault.TheVariants.{CounterSpent, TooLong}
use Rattle.cx_rules.specs.Secured.{Keys, SealedFrame, part_seals, sealed_under, secure_frame}
use Rattle.cx_rules.specs.cx_secure.specs.Commits.{IsAheadOf, after_commit}
use Rattle.cx_rules.specs.cx_secure.specs.Contents.{frame_contents, sealed_contents}
use Rattle.cx_rules.specs.cx_secure.specs.Parts.{nonce_at}
use Rattle.cx_rules.specs.cx_secure.specs.Plains.{plains, secure_text}
use Rattle.cx_rules.specs.cx_secure.specs.Sealings.{after_sealed, connection_key, first_refusal, put_refusal}
use Rattle.cx_rules.specs.cx_secure.specs.declared.refusals.SecureRefusal.{SecureRefusal}
use Rattle.cx_rules.specs.cx_secure.specs.declared.refusals.SecureRefusal.TheVariants as secure
use Rattle.cx_rules.specs.cx_secure.specs.declared.sealing.Head.{Head}
use Rattle.cx_rules.specs.cx_secure.specs.declared.sealing.SealedAhead.{SealedAhead}
use Rattle.cx_rules.specs.cx_secure.specs.declared.sealing.Sealing.{Sealing}
use Rattle.cx_rules.specs.cx_secure.proofs.PlainLaws.{parts_counted}
use Rattle.cx_steps.specs.declared.seals.SealEntry.{SealEntry}
use Rattle.cx_rules.specs.cx_stream.specs.Held.{Held, sealed_head}
use Rattle.cx_rules.specs.cx_stream.specs.SecureStreams.{ahead}
use Rattle.cx_link.specs.Sending.{behind_ahead, logged_behind, sealed_entry}
use Rattle.cx_link.specs.Wires.{IsLive, SecureWire, held_keys, secure_wire}

abbrev Sealed : Type 0
Sealed = Result SealedFrame BytesFault

-- ---- a frame that is too long

long_total : (ss : List Segment) (s : Segment) → length ss ≡ 1 → s ≡ get_or ss 0 s → 1048576 < length s.bytes → 1048576 < sum_by length_of ss
long_total [] s one is long = absurd (omega arith)
long_total (t ∷ ss) s one is long = omega (arith, sum_by-cons length_of t ss, ap (λ (x : Segment). length x.bytes) is)

-- it has two parts
long_parts : (f : Frame) (s : Segment) → length f.segments ≡ 1 → s ≡ get_or f.segments 0 s → 1048576 < length s.bytes → 1 + 1 + 0 ≡ length (plains f)
long_parts f s one is long =
    let some : (length s.bytes - 48 == 0) ≡ false = ne_eqb (length s.bytes - 48) 0 (λ e. omega arith) in
    let behind : length f.segments - 1 ≡ 0 = omega arith in
    parts_counted f f.segments s 1 0 refl (omega arith) is (rw some refl) (rw behind refl)

long_tests : (c n t left : ℕ) (sealed : SealedFrame) (before : List SealEntry) (why : BytesFault) → 1 + 1 + 0 ≡ n → 1048576 < t → left ≡ 2 ^ 64 - 1 - c
    → why ≡ (if nat_lt left 2 then CounterSpent else TooLong)
    → logged_behind before (if nat_lt (2 ^ 64 - 1) (c + n) then Err CounterSpent else if nat_lt 1048576 t then Err TooLong else Ok sealed) ≡ Err why
long_tests c n t left sealed before why two long left_is why_is = elim (cases_lt left 2) [
  | inl few ↦
      let spent : nat_lt (2 ^ 64 - 1) (c + n) ≡ true = lt-ltb (2 ^ 64 - 1) (c + n) (omega arith) in
      let told : nat_lt left 2 ≡ true = lt-ltb left 2 few in
      rw spent (ap (λ (w : BytesFault). let r : Sealed = Err w in r) (sym (why_is ∙ ap (λ b. if b then CounterSpent else TooLong) told)))
  | inr enough ↦
      let free : nat_lt (2 ^ 64 - 1) (c + n) ≡ false = le-ltb (2 ^ 64 - 1) (c + n) (omega arith) in
      let above : nat_lt 1048576 t ≡ true = lt-ltb 1048576 t long in
      let told : nat_lt left 2 ≡ false = le-ltb left 2 enough in
      rw (free, above) (ap (λ (w : BytesFault). let r : Sealed = Err w in r) (sym (why_is ∙ ap (λ b. if b then CounterSpent else TooLong) told)))
]

pub refuses_long : (held : Held) (f : Frame) (seen : List Segment) (s : Segment) (before : List SealEntry) (left : ℕ) (why : BytesFault)
    → length f.segments ≡ 1 → seen ≡ f.segments → s ≡ get_or seen 0 s → 1048576 < length s.bytes → left ≡ 2 ^ 64 - 1 - held.sealing.out.counter
    → why ≡ (if nat_lt left 2 then CounterSpent else TooLong) → logged_behind before (secure_frame (held_keys held) f) ≡ Err why
refuses_long held f seen s before left why one same is long left_is why_is =
    let at : s ≡ get_or f.segments 0 s = is ∙ ap (λ ss. get_or ss 0 s) same in
    long_tests held.sealing.out.counter (length (plains f)) (total f) left (sealed_under (held_keys held) f) before why
    (long_parts f s one at long) (long_total f.segments s one at long) left_is why_is

-- ---- a frame that is sealed

free_tests : (a b : Bool) (n : ℕ) (sealed : SealedFrame) → (if a then Some secure.CounterSpent else if b then Some (secure.TooLong n) else None) ≡ None
    → (if a then Err CounterSpent else if b then Err TooLong else Ok sealed) ≡ (let r : Sealed = Ok sealed in r)
free_tests true b n sealed is = absurd cc
free_tests false true n sealed is = absurd cc
free_tests false false n sealed is = refl

first_free : (kept next : Option SecureRefusal) → kept ≡ None → first_refusal kept next ≡ None → next ≡ None
first_free None next free is = is
first_free (Some e) next free is = absurd cc

free_frame : (held : Held) (f : Frame) → held.sealing.kept ≡ None → put_refusal held.sealing f ≡ None → secure_frame (held_keys held) f ≡ Ok (sealed_under (held_keys held) f)
free_frame held f free is =
    free_tests (nat_lt (2 ^ 64 - 1) (held.sealing.out.counter + length (plains f))) (nat_lt 1048576 (total f)) (total f) (sealed_under (held_keys held) f)
    (first_free held.sealing.kept _ free is)

-- what was sealed, as it is logged
pub sealed_log : (key fixed : List ℕ) (counter : ℕ) (ps : List (List ℕ)) → map (sealed_entry key) (sealed_contents fixed counter ps) ≡ part_seals key fixed counter ps
unfolding sealed_contents
sealed_log key fixed counter [] = refl
sealed_log key fixed counter (p ∷ ps) = ap (λ (entries : List SealEntry). sealed_entry key (nonce_at fixed counter ++ p) ∷ entries) (sealed_log key fixed (counter + 1) ps)

same_head : (s : Sealing) (n : ℕ) (head : Option Head) → sealed_head (after_sealed s n) head ≡ sealed_head s head
same_head s n (Some h) = refl
same_head s n None = refl

abbrev sealed_stream : Held → ℕ → Held
sealed_stream held n = record held { sealing = after_sealed held.sealing n }

frame : List ℕ → List SealEntry → Keys → SealedFrame
frame bytes seals keys = record { bytes = bytes; seals = seals; keys = keys }

-- what is logged of it
log_is : (held : Held) (f : Frame) (key : List ℕ) (contents : List (List ℕ)) (before seals : List SealEntry) → connection_key held.sealing ≡ key
    → contents ≡ frame_contents (sealed_stream held (length (plains f))).sealing.out f → seals ≡ before ++ map (sealed_entry key) contents
    → seals ≡ before ++ (sealed_under (held_keys held) f).seals
log_is held f key contents before seals same told log =
    let c : ℕ = held.sealing.out.counter in
    let fixed : List ℕ = held.sealing.out.fixed in
    log ∙ ap (λ (cs : List (List ℕ)). before ++ map (sealed_entry key) cs) (told ∙ ap (λ n. sealed_contents fixed n (plains f)) (add-sub_cancel c (length (plains f))))
    ∙ ap (λ (entries : List SealEntry). before ++ entries) (sealed_log key fixed c (plains f)) ∙ ap (λ k. before ++ part_seals k fixed c (plains f)) (sym same)

pub sends_frame : (held new : Held) (f : Frame) (key bytes : List ℕ) (contents : List (List ℕ)) (before seals : List SealEntry) → IsLive key held
    → put_refusal held.sealing f ≡ None → bytes ≡ [] ++ secure_text (connection_key held.sealing) held.sealing.out.fixed held.sealing.out.counter f
    → new ≡ sealed_stream held (length (plains f)) → contents ≡ frame_contents new.sealing.out f → seals ≡ before ++ map (sealed_entry key) contents
    → logged_behind before (secure_frame (held_keys held) f) ≡ Ok (record { bytes = bytes; seals = seals; keys = held_keys new })
unfolding frame
sends_frame held new f key bytes contents before seals live free text after told log =
    let n : ℕ = length (plains f) in
    let sealed : SealedFrame = sealed_under (held_keys held) f in
    let told_then : contents ≡ frame_contents (sealed_stream held n).sealing.out f = told ∙ ap (λ (s : Held). frame_contents s.sealing.out f) after in
    let made : List ℕ → List SealEntry → Keys → Sealed = λ b e k. Ok (frame b e k) in
    ap (logged_behind before) (free_frame held f live.free free)
    ∙ ap (λ b. made b (before ++ sealed.seals) sealed.keys) (sym text)
    ∙ ap (λ e. made bytes e sealed.keys) (sym (log_is held f key contents before seals live.same told_then log))
    ∙ ap (λ (s : Held). made bytes seals (held_keys s)) (sym after)

-- a frame that is sealed ahead

logged_nothing : (r : Sealed) → r ≡ logged_behind [] r
logged_nothing (Ok sealed) = refl
logged_nothing (Err why) = refl

abbrev pub committed : Held → SealedAhead → Held
committed held a = record held { sealing = after_commit held.sealing a }

abbrev counted_out : Held → ℕ → Held
counted_out held n = record held { sealing = record held.sealing { out = record held.sealing.out { counter = n } } }

pub seals_ahead : (held : Held) (f : Frame) (a : SealedAhead) (key bytes : List ℕ) (contents : List (List ℕ)) (seals : List SealEntry) → IsLive key held
    → put_refusal held.sealing f ≡ None → IsAheadOf held.sealing f a
    → bytes ≡ [] ++ secure_text (connection_key held.sealing) held.sealing.out.fixed held.sealing.out.counter f
    → contents ≡ frame_contents (after_commit held.sealing a).out f → seals ≡ [] ++ map (sealed_entry key) contents
    → secure_frame (held_keys held) f ≡ Ok (record { bytes = bytes; seals = seals; keys = held_keys (committed held a) })
seals_ahead held f a key bytes contents seals live free is text told log =
    logged_nothing (secure_frame (held_keys held) f)
    ∙ sends_frame held (committed held a) f key bytes contents [] seals live free text (ap (counted_out held) is.next) told log

committed_head : (s : Sealing) (a : SealedAhead) (head : Option Head) → sealed_head (after_commit s a) head ≡ sealed_head s head
committed_head s a (Some h) = refl
committed_head s a None = refl

abbrev with_bytes : SecureWire → List ℕ → SecureWire
with_bytes wire bytes = record wire { ahead = bytes }

-- the link behind it
pub wire_behind : (held new : Held) (a : SealedAhead) → new ≡ committed held a → secure_wire new ≡ behind_ahead (secure_wire held) a
wire_behind held new a after =
    ap secure_wire after
    ∙ ap (λ b. with_bytes (behind_ahead (secure_wire held) a) (b ++ held.rest)) (committed_head held.sealing a held.head)

pub same_ahead : (held new : Held) (n : ℕ) → new ≡ sealed_stream held n → (ahead new).bytes ≡ (ahead held).bytes
same_ahead held new n after =
    ap (λ (s : Held). (ahead s).bytes) after ∙ ap (λ b. b ++ held.rest) (same_head held.sealing n held.head)
