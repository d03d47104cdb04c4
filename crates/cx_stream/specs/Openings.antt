-- What opens where a secure frame is taken or refused: of each part whose tag is right its content, which is its nonce and its plain bytes.
use Rattle.std.specs.Prelude.{ℕ, ◌≡◌, ◌≢◌, ◌⊎◌, ◌+◌, ◌-◌, ◌^◌, List, [], ◌∷◌, ◌++◌, take, drop, nat_lt, Option, Some, None, Result, Ok, Err, if◌then◌else◌}
use Rattle.cx_frame.specs.declared.preamble.Preamble.{Preamble}
use Rattle.cx_frame.specs.declared.refusals.FrameRefusal.{FrameRefusal}
use Rattle.cx_frame.specs.Preambles.{preamble_at}
use Rattle.cx_secure.specs.Contents.{head_content, rest_contents}
use Rattle.cx_secure.specs.Parts.{nonce_at, opened}
use Rattle.cx_secure.specs.Plains.{rest_len}
use Rattle.cx_secure.specs.Sealings.{connection_key}
use Rattle.cx_secure.specs.declared.sealing.Head.{Head}
use Rattle.cx_stream.specs.Held.{Held}
use Rattle.cx_stream.specs.SecureStreams.{Ahead, ahead, secure_frame_at}

-- the parts behind a head with this preamble, which come from the next counter on
unfoldable pub contents_behind : Ahead → Result Preamble FrameRefusal → List (List ℕ)
contents_behind a (Err e) = []
contents_behind a (Ok p) = rest_contents a.key a.fixed (a.counter + 1) p (take (rest_len p) (drop 96 a.bytes))

unfoldable pub contents_from : Ahead → Option (List ℕ) → List (List ℕ)
contents_from a None = []
contents_from a (Some plain) = (nonce_at a.fixed a.counter ++ plain) ∷ contents_behind a (preamble_at 1048576 (take 32 plain))

-- the parts of the frame at the front
unfoldable pub front_contents : Ahead → List (List ℕ)
front_contents a =
    if nat_lt (2 ^ 64 - 1) (a.counter + 1) then []
    else contents_from a (opened a.key (nonce_at a.fixed a.counter) 80 (take 96 a.bytes))

-- the parts of a frame whose head is open, where what stands behind that is all there
abbrev pub open_contents : Held → Head → List (List ℕ)
open_contents s h =
    head_content s.sealing.into h
    ∷ rest_contents (connection_key s.sealing) s.sealing.into.fixed s.sealing.into.counter h.preamble (take (rest_len h.preamble) s.rest)

-- no memory is needed for the next answer: a fault is kept, the frame at the front isn't all there, or nothing of it opens
abbrev pub NeedsNoMemory : Held → Type 0
NeedsNoMemory s = (s.sealing.kept ≢ None) ⊎ (secure_frame_at (ahead s) ≡ Ok None) ⊎ (front_contents (ahead s) ≡ [])
