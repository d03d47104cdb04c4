-- Which states the monitor keeps.
use Rattle.std.specs.Prelude.{ℕ, ◌≡◌, ◌+◌, ◌<◌, ◌≤◌, List, [], ◌∷◌}
use Rattle.cx_rotate.specs.declared.generations.Generation.{Generation}
use Rattle.cx_rotate.specs.declared.states.KeptState.{KeptState}

-- a life of secrets and tickets, in nanoseconds: 1 s to 31,536,000 s
abbrev pub IsLife : ℕ → Type 0
IsLife life = (1000000000 ≤ life) × (life ≤ 31536000000000000)

-- generations that can be kept: none, or three with ids from 1 that rise by one and with expiries that rise and stay below
-- 4,294,967,296 s, which is as far as a time goes
abbrev pub IsLasting : List Generation → Type 0
IsLasting [] = Unit {0}
IsLasting (a ∷ b ∷ c ∷ []) =
    (1 ≤ a.id) × (b.id ≡ a.id + 1) × (c.id ≡ b.id + 1)
    × (a.expires < b.expires) × (b.expires < c.expires) × (c.expires < 4294967296000000000)
IsLasting _ = ⊥

-- a state that can be kept
pub record IsKeptState (state : KeptState) : Type 0 where
  pub next_gid : 1 ≤ state.next_gid
  pub life : IsLife state.life
  pub auth_life : IsLife state.auth_life
  pub mds : IsLasting state.mds
  pub osd : IsLasting state.osd
  pub mgr : IsLasting state.mgr
  pub auth : IsLasting state.auth
