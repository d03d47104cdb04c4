-- What a stream of secure frames holds.
use Rattle.std.specs.Prelude.{ℕ, ◌≡◌, ◌-◌, ◌≤◌, List, [], ◌++◌, length, Option, Some, None, Ok}
use Rattle.cx_frame.specs.Preambles.{IsAllowed, preamble_text}
use Rattle.cx_secure.specs.declared.sealing.Head.{Head}
use Rattle.cx_secure.specs.declared.sealing.Sealing.{Sealing}
use Rattle.cx_secure.specs.Opening.{head_step}
use Rattle.cx_secure.specs.Parts.{nonce_at, part}
use Rattle.cx_secure.specs.Sealings.{connection_key}

-- the sealing; the head of the next frame, where it was opened and the rest of that frame wasn't; and the bytes behind both
pub record Held : Type 0 where
  pub sealing : Sealing
  pub head : Option Head
  pub rest : List ℕ

-- a head that was opened last, as it was sealed; nothing where there is none
abbrev pub sealed_head : Sealing → Option Head → List ℕ
sealed_head s (Some h) = part (connection_key s) (nonce_at s.into.fixed (s.into.counter - 1)) (preamble_text h.preamble ++ h.inline)
sealed_head s None = []

-- a head was opened last: it is what opens there
pub record IsOpen (s : Sealing) (h : Head) : Type 0 where
  pub low : 1 ≤ s.into.counter
  pub allowed : IsAllowed 1048576 h.preamble
  pub inline : length h.inline ≡ 48
  pub len : length (sealed_head s (Some h)) ≡ 96
  pub read : head_step (connection_key s) s.into.fixed (s.into.counter - 1) (sealed_head s (Some h)) ≡ Ok h

abbrev pub IsSteady : Sealing → Option Head → Type 0
IsSteady s (Some h) = IsOpen s h
IsSteady s None = Unit {0}
