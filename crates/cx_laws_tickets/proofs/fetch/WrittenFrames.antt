-- What one wrote on its link to the monitor: the banner of each end, and plain frames.
use Rattle.std.proofs.Common.{◌≡◌, ◌^◌, ◌<◌, ◌≤◌, ◌==◌, ℕ, Bool, true, false, List, [], ◌∷◌, ◌++◌, length, Result, Ok, Err, refl, sym, ap, ◌∙◌, arith, eqb-true, append_assoc, append-nil}
use Rattle.std.specs.Prelude.{nat_lt, if◌then◌else◌}
use Rattle.std.specs.List.{flat_map, AllByRecursion}
use Rattle.std.proofs.lemmas.Bool.{ltb-false}
use Rattle.std.proofs.lemmas.List.Elements.{All-from_recursion}
use Rattle.cx_control.specs.Auth.{auth_request_more_layout}
use Rattle.cx_enc.specs.Forms.{Form}
use Rattle.cx_frame.proofs.Cutting.{allowed_frame, made_fields}
use Rattle.cx_frame.specs.Frames.{frame_text, total}
use Rattle.cx_frame.specs.declared.frame.Frame.{Frame}
use Rattle.cx_frame.specs.declared.frame.Segment.{Segment}
use Rattle.cx_journal.specs.declared.faults.BytesFault.{BytesFault}
use Rattle.cx_journal.specs.declared.faults.BytesFault.TheVariants.{TooLong, Unexpected}
use Rattle.cx_laws_tickets.specs.cx_rules_session.specs.cx_rules.specs.Greetings.{own_banner}
use Rattle.cx_laws_tickets.specs.cx_rules_session.specs.cx_rules.specs.Payloads.{due, payload}
use Rattle.cx_laws_tickets.specs.cx_rules_session.specs.cx_rules.specs.Secured.{plain_frame}
use Rattle.cx_laws_tickets.specs.cx_rules_session.specs.cx_rules.specs.cx_login.specs.Client.{Ask, authenticate}
use Rattle.cx_laws_keys.specs.cx_stream.specs.PlainStreams.{IsPlain}
use Rattle.cx_wire.specs.Logins.{authenticate_layout}

-- ---- a frame

-- a frame of one segment
abbrev pub one_segment : ℕ → List ℕ → Frame
one_segment tag bytes = record { tag = tag; segments = record { align = 8; bytes = bytes } ∷ [] }

one-plain : (tag : ℕ) (bytes : List ℕ) → 1 ≤ tag → tag ≤ 20 → total (one_segment tag bytes) ≤ 65536 → IsPlain (one_segment tag bytes)
one-plain tag bytes low high few =
    let segment : Segment = record { align = 8; bytes = bytes } in
    let short : length bytes < 2 ^ 32 = omega arith in
    allowed_frame 65536 (one_segment tag bytes)
    (record {
      tag_low = low;
      tag_high = high;
      count_low = omega arith;
      count_high = omega arith;
      each = All-from_recursion (λ (s : Segment). length s.bytes < 2 ^ 32) (segment ∷ []) (short, tt);
    })
    (made_fields (segment ∷ []) (length bytes) 0 0 0 8 0 0 0 refl refl refl refl refl refl refl refl short (omega arith) (omega arith) (omega arith) (omega arith) (omega arith) (omega arith) (omega arith))
    few

abbrev text_in : Result (List ℕ) BytesFault → List ℕ
text_in (Ok bytes) = bytes
text_in (Err why) = []

-- one that was written is plain, and these are its bytes
one-written : (tag : ℕ) (text bytes : List ℕ) → 1 ≤ tag → tag ≤ 20 → plain_frame (one_segment tag text) ≡ Ok bytes
    → IsPlain (one_segment tag text) × (bytes ≡ frame_text (one_segment tag text))
one-written tag text bytes low high is = by_test (nat_lt 65536 (total (one_segment tag text))) refl is
  where
    by_test : (t : Bool) → nat_lt 65536 (total (one_segment tag text)) ≡ t
        → (let r : Result (List ℕ) BytesFault = (if t then Err TooLong else Ok (frame_text (one_segment tag text))) in r ≡ Ok bytes)
        → IsPlain (one_segment tag text) × (bytes ≡ frame_text (one_segment tag text))
    by_test true test made = absurd cc
    by_test false test made = (one-plain tag text low high (ltb-false 65536 (total (one_segment tag text)) test), sym (ap text_in made))

-- a frame that is due has its tag
pub due-tag : {X : Type 0} (tag : ℕ) (form : Form X) (f : Frame) (x : X) → due tag form f ≡ Ok x → f.tag ≡ tag
due-tag {X} tag form f x is = by_test (f.tag == tag) refl is
  where
    by_test : (t : Bool) → (f.tag == tag) ≡ t → (let r : Result X BytesFault = (if t then payload form f else Err (Unexpected f.tag)) in r ≡ Ok x) → f.tag ≡ tag
    by_test true test read = eqb-true f.tag tag test
    by_test false test read = absurd cc

-- ---- several

-- these bytes are the banner of each end, and these frames as they are written
pub record IsWritten (bytes : List ℕ) (frames : List Frame) : Type 0 where
  pub plain : AllByRecursion IsPlain frames
  pub text : bytes ≡ own_banner ++ flat_map frame_text frames

pub written-first : IsWritten own_banner []
written-first = record { plain = tt; text = sym (append-nil own_banner) }

flat-one : (frames : List Frame) (f : Frame) → flat_map frame_text (frames ++ f ∷ []) ≡ flat_map frame_text frames ++ frame_text f
flat-one [] f = append-nil (frame_text f)
flat-one (g ∷ frames) f =
    ap (λ (l : List ℕ). frame_text g ++ l) (flat-one frames f) ∙ sym (append_assoc (frame_text g) (flat_map frame_text frames) (frame_text f))

plain-one : (frames : List Frame) (f : Frame) → AllByRecursion IsPlain frames → IsPlain f → AllByRecursion IsPlain (frames ++ f ∷ [])
plain-one [] f h here = (here, tt)
plain-one (g ∷ frames) f h here = (h.0, plain-one frames f h.1 here)

-- one frame more
pub written-one : (sent bytes : List ℕ) (frames : List Frame) (tag : ℕ) (text : List ℕ) → 1 ≤ tag → tag ≤ 20 → plain_frame (one_segment tag text) ≡ Ok bytes → IsWritten sent frames
    → IsWritten (sent ++ bytes) (frames ++ one_segment tag text ∷ []) × (bytes ≡ frame_text (one_segment tag text))
written-one sent bytes frames tag text low high is h =
    let f : Frame = one_segment tag text in
    let made = one-written tag text bytes low high is in
    let whole : sent ++ bytes ≡ own_banner ++ flat_map frame_text (frames ++ f ∷ []) =
    ap (λ (l : List ℕ). l ++ bytes) h.text
    ∙ append_assoc own_banner (flat_map frame_text frames) bytes
    ∙ ap (λ (l : List ℕ). own_banner ++ (flat_map frame_text frames ++ l)) made.1
    ∙ ap (λ (l : List ℕ). own_banner ++ l) (sym (flat-one frames f)) in
    (record { plain = plain-one frames f h.plain made.0; text = whole }, made.1)

-- ---- one's own challenge

-- the payload of the AUTH_REQUEST_MORE that answers a server's challenge by this one
abbrev pub answer_text : Ask → ℕ → ℕ → List ℕ
answer_text ask server challenge = auth_request_more_layout.form.text (record { payload = authenticate_layout.form.text (authenticate ask server challenge) })

-- that AUTH_REQUEST_MORE
abbrev pub answer_frame : Ask → ℕ → ℕ → Frame
answer_frame ask server challenge = one_segment 5 (answer_text ask server challenge)
