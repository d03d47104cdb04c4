-- The spelling of the kept state (docs/formats.md, "The kept state"), in format 2, which is written, and in format 1, which lacks
-- the two lives and is read alone.
use Rattle.std.specs.Prelude.{ℕ, ◌≡◌, ◌+◌, ◌-◌, ◌*◌, ◌==◌, ◌&&◌, ◌||◌, Bool, true, nat_lt, nat_le, List, [], ◌∷◌, Option, Some, None, refl}
use Rattle.cx_rotate.specs.declared.generations.Generation.{Generation}
use Rattle.cx_rotate.specs.declared.states.KeptState.{KeptState}
use Rattle.cx_enc.specs.Layouts.{Layout, ◌⊗◌, ◌⊳◌, before, chain_by, chained, constant, only_if, seen_as, so_many, u8_field, u32_field, u64_field, reading_field, secret_field}
use Rattle.cx_enc.specs.Whole.{Spells, IsMisspelled}
use Rattle.cx_enc.specs.Faults.{fault_place}
use Rattle.cx_enc.specs.declared.faults.Misspelling.{Misspelling}
use Rattle.cx_enc.specs.declared.faults.Misspelling.TheVariants.{Fault, LeftOver}

-- ---- fields

-- the four bytes "cxst", as a number
abbrev pub mark_field : Layout (Unit {0})
mark_field = constant 0x74737863 u32_field

abbrev pub is_format : ℕ → Bool
is_format n = (n == 1) || (n == 2)

abbrev pub format_field : Layout ℕ
format_field = only_if is_format u8_field

-- a next global id, from 1 on
abbrev pub gid_field : Layout ℕ
gid_field = only_if (nat_le 1) u64_field

-- 1 s to 31,536,000 s, in nanoseconds
abbrev pub is_life : ℕ → Bool
is_life life = nat_le 1000000000 life && nat_le life 31536000000000000

abbrev pub life_field : Layout ℕ
life_field = only_if is_life u64_field

-- ---- generations

-- the id is the next one, or the first one, from 1 on
abbrev pub follows : Option Generation → ℕ → Bool
follows None id = nat_le 1 id
follows (Some last) id = id == last.id + 1

-- the expiry is later, or the first one
abbrev pub is_later : Option Generation → ℕ → Bool
is_later None expires = true
is_later (Some last) expires = nat_lt last.expires expires

-- a generation behind the last one, if there is one: its id, its key and its expiry
abbrev pub generation_behind : Option Generation → Layout Generation
generation_behind last =
    seen_as (only_if (follows last) u64_field ⊗ secret_field ⊗ only_if (is_later last) reading_field)
    (λ (id, (key, expires)). record { id = id; key = key; expires = expires })
    (λ g. (g.id, (g.key, g.expires)))
    (λ _ _. refl) (λ _ _. refl)

-- the fields of a generation
abbrev pub generation_fields : Layout Generation
generation_fields =
    seen_as (u64_field ⊗ secret_field ⊗ reading_field)
    (λ (id, (key, expires)). record { id = id; key = key; expires = expires })
    (λ g. (g.id, (g.key, g.expires)))
    (λ _ _. refl) (λ _ _. refl)

abbrev pub is_none_or_three : ℕ → Bool
is_none_or_three n = (n == 0) || (n == 3)

abbrev pub count_field : Layout ℕ
count_field = only_if is_none_or_three u8_field

-- none or three generations, each behind the last one
abbrev pub generations_field : Layout (List Generation)
generations_field = chain_by count_field generation_behind (λ _ g. Some g) None

-- three generations, each behind the last one
abbrev pub three_field : Layout (List Generation)
three_field = chained generation_behind (λ _ g. Some g) None 3

-- ---- the state

-- what a state is spelled by
pub record Stored : Type 0 where
  pub format : ℕ
  pub next_gid : ℕ
  pub lives : List ℕ
  pub mds : List Generation
  pub osd : List Generation
  pub mgr : List Generation
  pub auth : List Generation

-- how many lives stand in a state of a format: none, or that of the services and that of AUTH
abbrev pub lives_in : ℕ → ℕ
lives_in format = 2 * (format - 1)

-- the mark, the format, the next global id, the lives, and the generations of MDS, OSD, MGR and AUTH
abbrev pub stored_layout : Layout Stored
stored_layout =
    seen_as
    (mark_field ⊳ before (format_field ⊗ gid_field) (λ head. so_many (lives_in head.0) life_field)
    ⊗ generations_field ⊗ generations_field ⊗ generations_field ⊗ generations_field)
    (λ (head, (mds, (osd, (mgr, auth)))). record {
      format = head.0.0;
      next_gid = head.0.1;
      lives = head.1;
      mds = mds;
      osd = osd;
      mgr = mgr;
      auth = auth;
    })
    (λ s. (((s.format, s.next_gid), s.lives), (s.mds, (s.osd, (s.mgr, s.auth)))))
    (λ _ _. refl) (λ _ _. refl)

-- the lives that are stored, or else those that were handed in
abbrev pub lives_of : ℕ × ℕ → List ℕ → ℕ × ℕ
lives_of handed (life ∷ auth_life ∷ []) = (life, auth_life)
lives_of handed _ = handed

-- the state that is stored
abbrev pub state_of : ℕ × ℕ → Stored → KeptState
state_of handed stored = record {
  next_gid = stored.next_gid;
  life = (lives_of handed stored.lives).0;
  auth_life = (lives_of handed stored.lives).1;
  mds = stored.mds;
  osd = stored.osd;
  mgr = stored.mgr;
  auth = stored.auth;
}

-- the bytes spell the state, in format 1 with the lives that are handed in
abbrev pub SpellsState : ℕ × ℕ → List ℕ → KeptState → Type 0
SpellsState handed bytes state = (stored : Stored) × Spells stored_layout.form bytes stored × (state_of handed stored ≡ state)

-- a state as it is written
abbrev pub stored_as : KeptState → Stored
stored_as state = record {
  format = 2;
  next_gid = state.next_gid;
  lives = state.life ∷ state.auth_life ∷ [];
  mds = state.mds;
  osd = state.osd;
  mgr = state.mgr;
  auth = state.auth;
}

-- the one spelling of a state that is written
abbrev pub state_text : KeptState → List ℕ
state_text state = stored_layout.form.text (stored_as state)

-- the place of the first field that can't be read, or of the first byte that is left over
abbrev pub wrong_place : Misspelling → ℕ
wrong_place (Fault fault) = fault_place fault
wrong_place (LeftOver place) = place

-- the bytes are refused at this place
abbrev pub IsRefusedAt : List ℕ → ℕ → Type 0
IsRefusedAt bytes place = (why : Misspelling) × IsMisspelled stored_layout.form bytes why × (place ≡ wrong_place why)
