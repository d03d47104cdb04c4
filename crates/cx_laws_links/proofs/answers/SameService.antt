-- Where the bytes that a daemon signed are those that a client sent before its own signature, the service of the authorizer that the daemon heard is that of the
-- ticket that the client showed.
use Rattle.std.proofs.Common.{◌≡◌, ◌<◌, ◌+◌, ◌^◌, ◌∙◌, ℕ, zero, suc, List, [], ◌∷◌, ◌++◌, length, get_or, take, Some, Result, Ok, refl, sym, ap, subst, arith, length-append}
use Rattle.std.proofs.lemmas.Nat.{le_bytes_8}
use Rattle.std.specs.Int.{from_le_bytes, to_le_bytes, w32, w64}
use Rattle.cx_base.specs.declared.kinds.EntityType.{EntityType}
use Rattle.cx_control.specs.Auth.{auth_request_more_layout}
use Rattle.cx_control.specs.declared.auth.AuthRequestMore.{AuthRequestMore}
use Rattle.cx_enc.specs.FieldLaws.{kind_fits}
use Rattle.cx_enc.specs.Forms.{Form, Spot, little, pair, seen}
use Rattle.cx_enc.specs.Layouts.{Layout, ◌⊗◌, blob_field, constant, kind_field, ticket_field, u64_field, u8_field}
use Rattle.cx_enc.specs.Whole.{start}
use Rattle.cx_enc.specs.declared.tickets.TicketBlob.{TicketBlob}
use Rattle.cx_frame.specs.Preambles.{preamble_of}
use Rattle.cx_frame.specs.declared.frame.Frame.{Frame}
use Rattle.cx_journal.specs.declared.faults.BytesFault.{BytesFault}
use Rattle.cx_laws_tickets.proofs.fetch.Banners.{IsRead}
use Rattle.cx_laws_tickets.proofs.fetch.SameChallenge.{written-read}
use Rattle.cx_laws_tickets.proofs.fetch.WrittenFrames.{IsWritten}
use Rattle.cx_laws_links.specs.cx_laws_keys.proofs.keys.Reading.{front, spelled_read, unseen}
use Rattle.cx_laws_links.specs.cx_rules.specs.Payloads.{payload, whole}
use Rattle.cx_laws_links.specs.cx_sealed.specs.Unsealing.{spelled_by}
use Rattle.cx_laws_links.specs.cx_stream.specs.PlainStreams.{IsPlain}
use Rattle.cx_laws_tickets.specs.cx_wire.specs.Logins.{authorizer_layout}
use Rattle.cx_laws_tickets.specs.cx_wire.specs.declared.authorizers.Authorizer.{Authorizer}
use Rattle.cx_laws_links.proofs.links.Hearing.{whole-again}

-- ---- a service is read as it was written

abbrev Last : Type 0
Last = TicketBlob × List ℕ

abbrev Parts : Type 0
Parts = ℕ × (EntityType × Last)

abbrev last_layout : Layout Last
last_layout = ticket_field ⊗ blob_field

abbrev service_layout : Layout (EntityType × Last)
service_layout = kind_field ⊗ last_layout

abbrev gid_layout : Layout Parts
gid_layout = u64_field ⊗ service_layout

abbrev code_layout : Layout (Unit {0})
code_layout = constant 1 u8_field

abbrev made_of : Parts → Authorizer
made_of (gid, (service, (ticket, authorize))) = record { gid = gid; service = service; ticket = ticket; authorize = authorize }

abbrev parts_of : Authorizer → Parts
parts_of a = (a.gid, (a.service, (a.ticket, a.authorize)))

-- whatever stands behind it
low-read : (w a : Authorizer) → w.gid < 2 ^ 64 → spelled_by authorizer_layout.form (authorizer_layout.form.text w) ≡ Some a → a.service ≡ w.service
low-read w a low is =
    let text : List ℕ = authorizer_layout.form.text w in
    let read = spelled_read authorizer_layout.form text a is in
    let next : Spot = read.0 in
    let inner : Form Parts = seen (λ (x : Unit {0} × Parts). x.1) (λ (x : Parts). (tt, x)) (pair code_layout.form gid_layout.form) in
    let x = unseen made_of parts_of inner (start text) a next read.1 in
    let y = unseen (λ (z : Unit {0} × Parts). z.1) (λ (z : Parts). (tt, z)) (pair code_layout.form gid_layout.form) (start text) x.0 next x.2 in
    let code = front code_layout.form gid_layout.form code_layout.lawful tt 0 (gid_layout.form.text (parts_of w)) y.0 next (omega arith, refl) y.2 in
    let gid = front u64_field.form service_layout.form u64_field.lawful w.gid _ (service_layout.form.text (parts_of w).1) y.0.1 next low code.1 in
    let service = front kind_field.form last_layout.form kind_field.lawful w.service _ (last_layout.form.text (parts_of w).1.1) y.0.1.1 next (kind_fits w.service) gid.1 in
    ap (λ (z : Authorizer). z.service) (sym x.1) ∙ ap (λ (z : Parts). z.1.0) (sym y.1) ∙ service.0

-- of a number only its lowest eight bytes are written
eight-written : (n : ℕ) → (m : ℕ) × (m < 2 ^ 64) × (little w64 m ≡ little w64 n)
unfolding little
eight-written n = (from_le_bytes w64 (to_le_bytes w64 n), omega arith, le_bytes_8 (to_le_bytes w64 n) (from_le_bytes w64 (to_le_bytes w64 n)) refl small refl)
  where
    small : (i : ℕ) → get_or (to_le_bytes w64 n) i 0 < 256
    small zero = omega arith
    small (suc zero) = omega arith
    small (suc (suc zero)) = omega arith
    small (suc (suc (suc zero))) = omega arith
    small (suc (suc (suc (suc zero)))) = omega arith
    small (suc (suc (suc (suc (suc zero))))) = omega arith
    small (suc (suc (suc (suc (suc (suc zero)))))) = omega arith
    small (suc (suc (suc (suc (suc (suc (suc zero))))))) = omega arith
    small (suc (suc (suc (suc (suc (suc (suc (suc i)))))))) = omega arith

-- whatever its global id is
pub authorizer-read : (w a : Authorizer) → spelled_by authorizer_layout.form (authorizer_layout.form.text w) ≡ Some a → a.service ≡ w.service
authorizer-read w a is =
    let m = eight-written w.gid in
    let same : authorizer_layout.form.text w ≡ authorizer_layout.form.text (record w { gid = m.0 }) =
    ap (λ (gid : List ℕ). code_layout.form.text tt ++ (gid ++ service_layout.form.text (parts_of w).1)) (sym m.2) in
    low-read (record w { gid = m.0 }) a m.1 (subst (λ (text : List ℕ). spelled_by authorizer_layout.form text ≡ Some a) same is)

-- ---- AUTH_REQUEST_MORE

-- the one that shows these bytes
abbrev pub more_frame : List ℕ → Frame
more_frame bytes = record { tag = 5; segments = record { align = 8; bytes = auth_request_more_layout.form.text (record { payload = bytes }) } ∷ [] }

payload-short : (bytes : List ℕ) → IsPlain (more_frame bytes) → length bytes < 2 ^ 32
unfolding preamble_of
payload-short bytes plain =
    let long : length (auth_request_more_layout.form.text (record { payload = bytes })) < 2 ^ 32 = plain.each_length 0 in
    let sum : length (auth_request_more_layout.form.text (record { payload = bytes })) ≡ length (little w32 (length bytes)) + length bytes = length-append (little w32 (length bytes)) bytes in
    omega arith

ok-same : {X : Type 0} (x y : X) → (let r : Result X BytesFault = Ok x in r ≡ Ok y) → x ≡ y
ok-same {X} x y e = cc

-- what is read of it is what was shown
more-read : (bytes : List ℕ) (more : AuthRequestMore) → IsPlain (more_frame bytes) → payload auth_request_more_layout.form (more_frame bytes) ≡ Ok more → more.payload ≡ bytes
more-read bytes more plain is =
    let written : AuthRequestMore = record { payload = bytes } in
    let again : whole auth_request_more_layout.form (auth_request_more_layout.form.text written) ≡ Ok written =
    whole-again auth_request_more_layout written (payload-short bytes plain) in
    ap (λ (m : AuthRequestMore). m.payload) (sym (ok-same written more (sym again ∙ is)))

-- ---- what both ends say

-- a daemon heard an authorizer for this service in its third frame behind the banner, all that it took on a link, which it signs
pub record HearsService (service : EntityType) (bytes : List ℕ) : Type 0 where
  pub received : List ℕ
  pub taken : ℕ
  pub hello : Frame
  pub first : Frame
  pub second : Frame
  pub read : IsRead received (hello ∷ first ∷ second ∷ []) taken
  pub bytes_are : take taken received ≡ bytes
  pub more : AuthRequestMore
  pub more_is : payload auth_request_more_layout.form second ≡ Ok more
  pub authorizer : Authorizer
  pub spells : spelled_by authorizer_layout.form more.payload ≡ Some authorizer
  pub service_is : authorizer.service ≡ service

-- a client sent this one in its third
pub record SentAuthorizer (w : Authorizer) (bytes : List ℕ) : Type 0 where
  pub hello : Frame
  pub first : Frame
  pub written : IsWritten bytes (hello ∷ first ∷ more_frame (authorizer_layout.form.text w) ∷ [])

abbrev third_or : Frame → List Frame → Frame
third_or g (a ∷ b ∷ c ∷ more) = c
third_or g _ = g

-- so where these are the same bytes, it is the service that the client named
pub same-service : (service : EntityType) (w : Authorizer) (bytes : List ℕ) → HearsService service bytes → SentAuthorizer w bytes → service ≡ w.service
same-service service w bytes h s =
    let last : Frame = more_frame (authorizer_layout.form.text w) in
    let frames : (h.hello ∷ h.first ∷ h.second ∷ []) ≡ s.hello ∷ s.first ∷ last ∷ [] =
    written-read h.received h.taken (h.hello ∷ h.first ∷ h.second ∷ []) (s.hello ∷ s.first ∷ last ∷ []) bytes h.read s.written h.bytes_are in
    let third : h.second ≡ last = ap (third_or last) frames in
    let shown : h.more.payload ≡ authorizer_layout.form.text w =
    more-read (authorizer_layout.form.text w) h.more s.written.plain.1.1.0 (subst (λ (f : Frame). payload auth_request_more_layout.form f ≡ Ok h.more) third h.more_is) in
    sym h.service_is ∙ authorizer-read w h.authorizer (subst (λ (l : List ℕ). spelled_by authorizer_layout.form l ≡ Some h.authorizer) shown h.spells)
