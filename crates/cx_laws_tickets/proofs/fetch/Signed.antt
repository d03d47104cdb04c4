-- Behind the other end's AUTH_SIGNATURE, which has one part, each end of a link to the monitor goes on with the number 1, and nothing else was taken: at the
-- monitor's link, and at that of one that logs in, where the key is the one of the challenge that this very link drew.
use Rattle.std.proofs.Common.{◌≡◌, ◌≤◌, ◌==◌, ◌+◌, ◌-◌, ℕ, Bool, true, false, nat_lt, List, [], ◌∷◌, drop, length, take, Result, Ok, Err, refl, sym, ap, ◌∙◌, arith, length-drop, ltb-false}
use Rattle.std.specs.Prelude.{if◌then◌else◌}
use Rattle.cx_base.specs.Names.{Name}
use Rattle.cx_control.specs.Auth.{auth_signature_layout}
use Rattle.cx_control.specs.declared.auth.AuthSignature.{AuthSignature}
use Rattle.cx_enc.specs.Forms.{Form, Spot, bytes_at, bytes_form}
use Rattle.cx_enc.specs.Whole.{start}
use Rattle.cx_enc.specs.declared.faults.ReadFault.{ReadFault}
use Rattle.cx_enc.specs.declared.faults.ReadFault.TheVariants.{Short}
use Rattle.cx_frame.specs.declared.frame.Frame.{Frame}
use Rattle.cx_frame.specs.declared.frame.Segment.{Segment}
use Rattle.cx_journal.specs.declared.faults.BytesFault.{BytesFault}
use Rattle.cx_journal.specs.declared.faults.BytesFault.TheVariants.{Unexpected}
use Rattle.cx_laws_tickets.specs.cx_laws_keys.proofs.keys.Reading.{ok_is, unseen}
use Rattle.cx_laws_tickets.specs.cx_laws_keys.proofs.keys.Uses.{Uses, WholeRun}
use Rattle.cx_laws_keys.specs.cx_rules.specs.Fronts.{keys_behind}
use Rattle.cx_laws_keys.specs.cx_rules.specs.Payloads.{due, in_segments, payload, to_end, unless_left, whole}
use Rattle.cx_laws_keys.specs.cx_rules.specs.Secured.{Secured, under}
use Rattle.cx_secure.specs.Contents.{sealed_contents}
use Rattle.cx_secure.specs.Plains.{filled, last_plain, parts_of as frame_parts, plains, plains_of, second_plain, up16}
use Rattle.cx_steps.specs.declared.seals.Logged.{Logged}
use Rattle.cx_laws_tickets.proofs.fetch.AskedKnown.{AreFirst, AreTold, Events, IsMonClient, IsBearing, IsBearingFirst, IsLoginKey, IsUnsaid, Told}
use Rattle.cx_laws_tickets.proofs.fetch.AskedWords.{Asked, asked_frame, last_number}
use Rattle.cx_laws_tickets.proofs.fetch.Words.{parts_of, said_under}

-- ---- AUTH_SIGNATURE has one part

-- all was read
whole-left : {X : Type 0} (form : Form X) (bytes : List ℕ) (x : X) → whole form bytes ≡ Ok x → (next : Spot) × (form.at (start bytes) ≡ Ok (x, next)) × (next.left ≡ [])
whole-left {X} form bytes x e = by_read (form.at (start bytes)) e
  where
    read : X × Spot → Result (X × Spot) ReadFault
    read p = Ok p

    by_left : (y : X) (place : ℕ) (next : Spot) (left : List ℕ) → left ≡ next.left → unless_left y place left ≡ Ok x → (read (y, next) ≡ read (x, next)) × (next.left ≡ [])
    by_left y place next [] none is = let same : y ≡ x = cc in (ap (λ (z : X). read (z, next)) same, sym none)
    by_left y place next (b ∷ left) none is = absurd cc

    by_read : (r : Result (X × Spot) ReadFault) → to_end r ≡ Ok x → (next : Spot) × (r ≡ Ok (x, next)) × (next.left ≡ [])
    by_read (Ok (y, next)) is = let both = by_left y next.place next next.left refl is in (next, both.0, both.1)
    by_read (Err fault) is = absurd cc

bytes-left : (n : ℕ) (s : Spot) (x : List ℕ) (next : Spot) → bytes_at n s ≡ Ok (x, next) → (n ≤ length s.left) × (next.left ≡ drop n s.left)
unfolding bytes_at
bytes-left n s x next e = by_test (nat_lt (length s.left) n) refl e
  where
    read : List ℕ × Spot → Result (List ℕ × Spot) ReadFault
    read p = Ok p

    made : List ℕ × Spot
    made = (take n s.left, record { place = s.place + n; left = drop n s.left })

    by_test : (t : Bool) → nat_lt (length s.left) n ≡ t → (if t then Err (Short s.place) else Ok made) ≡ read (x, next)
        → (n ≤ length s.left) × (next.left ≡ drop n s.left)
    by_test true short is = absurd cc
    by_test false enough is =
        let same = ok_is made (x, next) is in
        (ltb-false (length s.left) n enough, sym (ap (λ (p : List ℕ × Spot). p.1.left) same))

signature-length : (bytes : List ℕ) (found : AuthSignature) → whole auth_signature_layout.form bytes ≡ Ok found → length bytes ≡ 32
signature-length bytes found e =
    let w = whole-left auth_signature_layout.form bytes found e in
    let inner = unseen (λ signature. let a : AuthSignature = record { signature = signature } in a) (λ (a : AuthSignature). a.signature) (bytes_form 32) (start bytes) found w.0 w.1 in
    let left = bytes-left 32 (start bytes) inner.0 w.0 inner.2 in
    let none : length (drop 32 bytes) ≡ 0 = ap (λ (l : List ℕ). length l) (sym left.1 ∙ w.2) in
    let enough : 32 ≤ length bytes = left.0 in
    omega (arith, none, enough, length-drop 32 bytes)

short-second : (bytes : List ℕ) → length bytes ≡ 32 → second_plain bytes ≡ []
unfolding second_plain filled up16
short-second bytes long = by_rest (drop 48 bytes) (length-drop 48 bytes)
  where
    by_rest : (rest : List ℕ) → length rest ≡ length bytes - 48 → filled (up16 (length bytes - 48)) rest ≡ []
    by_rest [] size = let none : length bytes - 48 ≡ 0 = omega (arith, long) in ap (λ (k : ℕ). filled (up16 k) []) none
    by_rest (b ∷ rest) size = absurd (omega (arith, long, size))

pub one-segment : (t : ℕ) (s : Segment) → length s.bytes ≡ 32 → (f : Frame) → f ≡ record { tag = t; segments = s ∷ [] } → length (plains f) ≡ 1
unfolding plains plains_of frame_parts last_plain
one-segment t s long f is =
    let g : Frame = record { tag = t; segments = s ∷ [] } in
    let second : second_plain s.bytes ≡ [] = short-second s.bytes long in
    ap (λ (x : Frame). length (plains x)) is ∙ rw second refl

-- what is read as a signature has one part
pub signature-part : (f : Frame) (found : AuthSignature) → due 7 auth_signature_layout.form f ≡ Ok found → length (plains f) ≡ 1
signature-part f found read = by_tag (f.tag == 7) read
  where
    by_segments : (segments : List Segment) → f.segments ≡ segments → in_segments f.tag auth_signature_layout.form segments ≡ Ok found → length (plains f) ≡ 1
    by_segments [] same e = absurd cc
    by_segments (s ∷ []) same e =
        let long = signature-length s.bytes found e in
        one-segment f.tag s long f (ap (λ (ss : List Segment). let g : Frame = record { tag = f.tag; segments = ss } in g) same)
    by_segments (s ∷ second ∷ more) same e = absurd cc

    by_tag : (t : Bool) → (let r : Result AuthSignature BytesFault = (if t then payload auth_signature_layout.form f else Err (Unexpected f.tag)) in r ≡ Ok found) → length (plains f) ≡ 1
    by_tag true e = by_segments f.segments refl e
    by_tag false e = absurd cc

-- ---- behind it

no-contents : (fixed : List ℕ) → sealed_contents fixed 1 [] ≡ []
unfolding sealed_contents
no-contents fixed = refl

-- the monitor's link has taken nothing yet
pub bearing-begins : (run : WholeRun) (us : Uses) (told : Told) (log : List Logged) (number : ℕ) (s : Secured) (name : Name) (f : Frame) → IsBearingFirst us told log number s name
    → length (plains f) ≡ 1 → IsBearing run us told log number (under s (keys_behind s.keys f)) name
bearing-begins run us told log number s name f h one = record {
  challenge = h.challenge;
  means = h.means;
  parts = record { sealed = h.parts.sealed; counter = h.parts.counter };
  out = h.out;
  into = h.into;
  fits = h.fits;
  taken = λ free. record { taken = []; rest = said_under s.keys.key told.asked; front = refl; counter_is = omega (arith, h.untaken, one) };
}

-- nor has one that logs in, and nothing was said yet
pub mon_client-begins : (run : WholeRun) (E : Events) (us : Uses) (told : Told) (log : List Logged) (name : Name) (link challenge : ℕ) (s : Secured) (f : Frame) → AreTold run E us told log
    → IsLoginKey us s.keys.key name challenge → IsUnsaid E us told name link challenge → AreFirst s.keys → length (plains f) ≡ 1
    → IsMonClient E us told log name link (under s (keys_behind s.keys f)) × (last_number 0 (said_under s.keys.key told.asked) ≡ 0)
mon_client-begins run E us told log name link challenge s f t is u first one =
    let none : said_under s.keys.key told.asked ≡ [] = u.silent s.keys.key is in
    let parts : parts_of asked_frame (said_under s.keys.key told.asked) ≡ [] = ap (λ (l : List Asked). parts_of asked_frame l) none in
    let size : length (parts_of asked_frame (said_under s.keys.key told.asked)) ≡ 0 = ap (λ (l : List (List ℕ)). length l) parts in (
      record {
        challenge = challenge;
        is = is;
        drew = u.drew;
        parts = record {
          sealed = t.unsaid s.keys.key name challenge is none ∙ sym (ap (λ (l : List (List ℕ)). sealed_contents s.keys.out.fixed 1 l) parts ∙ no-contents s.keys.out.fixed);
          counter = omega (arith, first.out_counter, size);
        };
        out = first.out;
        into = first.into;
        fits = omega (arith, first.out_counter);
        taken = record { taken = []; rest = said_under s.keys.key told.given; front = refl; counter_is = omega (arith, first.into_counter, one) };
      },
      ap (λ (l : List Asked). last_number 0 l) none,
    )
