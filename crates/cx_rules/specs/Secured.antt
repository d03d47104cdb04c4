-- The keys of a connection, frames that are sealed under them, and the signatures by which both ends agree on all that came before
-- ("msgr2 protocol": secure mode, and AUTH_SIGNATURE).
use Rattle.std.specs.Prelude.{ℕ, ◌+◌, ◌-◌, ◌^◌, Bool, List, [], ◌∷◌, ◌++◌, length, slice_index, take, nat_lt, Result, Ok, Err, if◌then◌else◌}
use Rattle.std.specs.Str.{bytes_eq}
use Rattle.cx_login.specs.cx_control.specs.Auth.{auth_signature_layout}
use Rattle.cx_stream.specs.cx_digest.specs.Code.{hmac}
use Rattle.cx_stream.specs.cx_frame.specs.Banners.{number64}
use Rattle.cx_stream.specs.cx_frame.specs.Frames.{frame_text, total}
use Rattle.cx_stream.specs.cx_frame.specs.declared.frame.Frame.{Frame}
use Rattle.cx_login.specs.cx_journal.specs.declared.faults.BytesFault.{BytesFault}
use Rattle.cx_login.specs.cx_journal.specs.declared.faults.BytesFault.TheVariants.{CounterSpent, TooLong}
use Rattle.cx_login.specs.cx_journal.specs.declared.premises.KeyKind.TheVariants as kind
use Rattle.cx_stream.specs.cx_secure.specs.Parts.{nonce_at}
use Rattle.cx_stream.specs.cx_secure.specs.Plains.{plains, secure_text}
use Rattle.cx_login.specs.cx_steps.specs.declared.seals.SealEntry.{SealEntry}
use Rattle.cx_login.specs.cx_steps.specs.declared.seals.SealEntry.TheVariants as entry
use Rattle.cx_rules.specs.Payloads.{control}

-- the nonce of the next part that is sent or received: four fixed bytes and a counter
pub record Way : Type 0 where
  pub fixed : List ℕ
  pub counter : ℕ

-- the one that stands at a place of a connection secret
abbrev pub way_at : List ℕ → ℕ → Way
way_at secret i = record {
  fixed = slice_index secret i ∷ slice_index secret (i + 1) ∷ slice_index secret (i + 2) ∷ slice_index secret (i + 3) ∷ [];
  counter = number64 secret (i + 4);
}

-- the key of a connection, and the nonces with which this end sends and receives next
pub record Keys : Type 0 where
  pub key : List ℕ
  pub out : Way
  pub into : Way

-- the keys in a connection secret: the acceptor sends with the nonce at byte 16, the connector with the one at byte 28
abbrev pub acceptor_keys : List ℕ → Keys
acceptor_keys secret = record { key = take 16 secret; out = way_at secret 16; into = way_at secret 28 }

abbrev pub connector_keys : List ℕ → Keys
connector_keys secret = record { key = take 16 secret; out = way_at secret 28; into = way_at secret 16 }

-- ---- frames that are written

-- a plain frame; its segments have at most 65,536 bytes together
abbrev pub plain_frame : Frame → Result (List ℕ) BytesFault
plain_frame f = if nat_lt 65536 (total f) then Err TooLong else Ok (frame_text f)

-- a frame as it was sealed: its bytes, what is logged of it, and the keys behind it
pub record SealedFrame : Type 0 where
  pub bytes : List ℕ
  pub seals : List SealEntry
  pub keys : Keys

-- each part is logged: its nonce and its plain bytes
abbrev pub part_seals : List ℕ → List ℕ → ℕ → List (List ℕ) → List SealEntry
part_seals key fixed counter [] = []
part_seals key fixed counter (plain ∷ plains) =
    entry.Sealed (record { key = key; kind = kind.Connection; content = nonce_at fixed counter ++ plain }) ∷ part_seals key fixed (counter + 1) plains

abbrev pub sealed_under : Keys → Frame → SealedFrame
sealed_under keys f = record {
  bytes = secure_text keys.key keys.out.fixed keys.out.counter f;
  seals = part_seals keys.key keys.out.fixed keys.out.counter (plains f);
  keys = record keys { out = record keys.out { counter = keys.out.counter + length (plains f) } };
}

-- a secure frame, where counters are left for its parts; its segments have at most 1,048,576 bytes together
abbrev pub secure_frame : Keys → Frame → Result SealedFrame BytesFault
secure_frame keys f =
    if nat_lt (2 ^ 64 - 1) (keys.out.counter + length (plains f)) then Err CounterSpent
    else if nat_lt 1048576 (total f) then Err TooLong
    else Ok (sealed_under keys f)

-- ---- signatures

-- a link behind authentication: its keys, the session key that signs, and what this end sent before its own AUTH_SIGNATURE, which the
-- peer's has to cover
pub record Secured : Type 0 where
  pub keys : Keys
  pub session : List ℕ
  pub covered : List ℕ

-- the same with the keys behind a frame
abbrev pub under : Secured → Keys → Secured
under s keys = record s { keys = keys }

abbrev pub signature : List ℕ → List ℕ → SealEntry
signature session covered = entry.Signed (record { key = session; kind = kind.Signature; content = covered })

abbrev pub signature_found : Secured → SealEntry
signature_found s = entry.Checked (record { key = s.session; kind = kind.Signature; content = s.covered })

abbrev pub signing : List ℕ → List ℕ → Result SealedFrame BytesFault → Result SealedFrame BytesFault
signing session received (Err why) = Err why
signing session received (Ok s) = Ok (record s { seals = signature session received ∷ s.seals })

-- AUTH_SIGNATURE: it covers all bytes that were received before the peer's
abbrev pub signed_frame : Keys → List ℕ → List ℕ → Result SealedFrame BytesFault
signed_frame keys session received =
    signing session received (secure_frame keys (control 7 auth_signature_layout.form (record { signature = hmac session received })))

-- the peer's signature is the one over what was sent to it
abbrev pub is_signed : Secured → List ℕ → Bool
is_signed s found = bytes_eq found (hmac s.session s.covered)
