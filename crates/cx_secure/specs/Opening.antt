-- Opening a secure frame: first its head, then its rest.
use Rattle.std.specs.Prelude.{ℕ, ◌≡◌, ◌+◌, ◌-◌, ◌^◌, List, ◌∷◌, ◌++◌, length, take, drop, Option, Some, None, Result, Ok, Err, nat_lt, if◌then◌else◌}
use Rattle.cx_frame.specs.declared.frame.Frame.{Frame}
use Rattle.cx_frame.specs.declared.preamble.Preamble.{Preamble}
use Rattle.cx_frame.specs.declared.refusals.FrameRefusal.{FrameRefusal}
use Rattle.cx_frame.specs.Preambles.{IsAllowed, preamble_at, preamble_of, preamble_text}
use Rattle.cx_secure.specs.Parts.{nonce_at, opened, opened_some, part, sealed_parts}
use Rattle.cx_secure.specs.Plains.{frame_at, one_if, plains, rest_len, rest_parts, second_len, secure_text, tagged}
use Rattle.cx_secure.specs.Refusing.{secured}
use Rattle.cx_secure.specs.declared.sealing.Head.{Head}
use Rattle.cx_secure.specs.declared.refusals.SecureRefusal.{SecureRefusal}
use Rattle.cx_secure.specs.declared.refusals.SecureRefusal.TheVariants.{BadTag, CounterSpent}

-- a head with these inline bytes
unfoldable pub with_inline : List ℕ → Result Preamble FrameRefusal → Result Head SecureRefusal
with_inline inline (Ok p) = Ok (record { preamble = p; inline = inline })
with_inline inline (Err e) = Err (secured e)

-- the head in the plain bytes of the first part
unfoldable pub head_of : Option (List ℕ) → Result Head SecureRefusal
head_of (Some plain) = with_inline (drop 32 plain) (preamble_at 1048576 (take 32 plain))
head_of None = Err BadTag

-- the head in 96 bytes that come under this counter
unfoldable pub head_step : List ℕ → List ℕ → ℕ → List ℕ → Result Head SecureRefusal
head_step key fixed counter bytes =
    if nat_lt (2 ^ 64 - 1) (counter + 1) then Err CounterSpent else head_of (opened key (nonce_at fixed counter) 80 bytes)

-- the frame behind a head, in the plain bytes of the other parts
unfoldable pub with_parts : Head → Option (List ℕ) → Option (List ℕ) → Result Frame SecureRefusal
with_parts h (Some second) (Some last) = frame_at h.preamble (h.inline ++ second) last
with_parts h (Some second) None = Err BadTag
with_parts h None last = Err BadTag

-- the frame in what stands behind its head, whose parts have these nonces: all tags are minded before anything else
unfoldable pub rest_of : List ℕ → List ℕ → List ℕ → Head → List ℕ → Result Frame SecureRefusal
rest_of key first next h bytes =
    let n = tagged (second_len h.preamble) in
    with_parts h (opened_some key first (take n bytes)) (opened_some key next (drop n bytes))

-- the same, where its parts come from this counter on
unfoldable pub rest_step : List ℕ → List ℕ → ℕ → Head → List ℕ → Result Frame SecureRefusal
rest_step key fixed counter h bytes =
    if nat_lt (2 ^ 64 - 1) (counter + rest_parts h.preamble)
    then Err CounterSpent
    else rest_of key (nonce_at fixed counter) (nonce_at fixed (counter + one_if (second_len h.preamble))) h bytes

-- the plain bytes of a first part are this head
pub record IsPlainHead (plain : List ℕ) (h : Head) : Type 0 where
  pub allowed : IsAllowed 1048576 h.preamble
  pub inline : length h.inline ≡ 48
  pub text : plain ≡ preamble_text h.preamble ++ h.inline

-- 96 bytes are a head, sealed under this nonce
pub record IsHead (key nonce bytes : List ℕ) (h : Head) : Type 0 where
  pub allowed : IsAllowed 1048576 h.preamble
  pub inline : length h.inline ≡ 48
  pub text : bytes ≡ part key nonce (preamble_text h.preamble ++ h.inline)

-- these bytes are the other parts of the frame whose first part this head is, sealed from this counter on
pub record IsRestBehind (key fixed : List ℕ) (counter : ℕ) (h : Head) (bytes : List ℕ) (f : Frame) : Type 0 where
  pub head : preamble_of f ≡ h.preamble
  pub others : List (List ℕ)
  pub parts : plains f ≡ (preamble_text h.preamble ++ h.inline) ∷ others
  pub text : bytes ≡ sealed_parts key fixed counter others

-- ---- a whole frame

-- a secure frame is the 96 bytes of a head and, as many as that says, the bytes of its rest
pub record IsSplit (key fixed : List ℕ) (counter : ℕ) (f : Frame) : Type 0 where
  pub head : Head
  pub first : List ℕ
  pub rest : List ℕ
  pub text : secure_text key fixed counter f ≡ first ++ rest
  pub first_len : length first ≡ 96
  pub rest_is : length rest ≡ rest_len head.preamble
  pub is_head : IsHead key (nonce_at fixed counter) first head
  pub is_rest : IsRestBehind key fixed (counter + 1) head rest f
