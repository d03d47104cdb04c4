-- The rule of the word that counts the history, and what each step makes of what its seat knew.
use Rattle.std.specs.Prelude.{ℕ, ◌≡◌, ◌≤◌, List, [], ◌∷◌, ◌++◌, length, true, false}
use mathlib.Core.Option.{Option, some, none}
use mathlib.Core.List.{IsPrefix}
use lib.ListN.{get_elem?}
use Rattle.atomic_table.specs.Table.{State, Me, Step}
use Rattle.atomic_table.specs.Seated.{TableId}
use Rattle.cx_base.specs.Names.{Name}
use Rattle.cx_session.specs.declared.call.BookCall.{BookCall}
use Rattle.cx_hall.specs.declared.entry.HallEntry.{HallEntry}
use Rattle.cx_hall.specs.declared.rule.Knowledge.{Knowledge}
use Rattle.cx_hall.specs.History.{entry, HallHistory, reply_behind}
use Rattle.cx_hall.specs.Passes.{PassState, own}

-- what names no hall
abbrev pub no_table : TableId
no_table = record { words = 0; slots = 0; views_name = 0; atom = 0; block = 0; offset = 0; slot_names = [] }

-- a table of one word and no slot
abbrev pub IsWord : TableId → Type 0
IsWord table = (table.words ≡ 1) × (table.slots ≡ 0)

module _ {O : Type 0} where
  abbrev pub nobody : Knowledge O
  nobody = record { keeps = false; all = []; is_pass = false; number = 0; seen = []; mine = [] }

  -- the seat that keeps this history
  abbrev pub keeper_of : List (HallEntry O) → Knowledge O
  keeper_of log = record { keeps = true; all = log; is_pass = false; number = 0; seen = []; mine = [] }

  abbrev pub pass_with : ℕ → List (HallEntry O) → List (ℕ × HallEntry O) → Knowledge O
  pass_with number seen mine = record { keeps = false; all = []; is_pass = true; number = number; seen = seen; mine = mine }

  -- a pass takes the history over from its keeper, and gives it back
  abbrev pub holding : Knowledge O → List (HallEntry O) → Knowledge O
  holding v log = record { keeps = true; all = log; is_pass = v.is_pass; number = v.number; seen = v.seen; mine = v.mine }

  abbrev pub released : Knowledge O → Knowledge O
  released v = record { keeps = false; all = []; is_pass = v.is_pass; number = v.number; seen = v.seen; mine = v.mine }

  -- what the only seat of a token knows
  abbrev pub known_to : List (Knowledge O) → Knowledge O
  known_to [] = nobody
  known_to (v ∷ vs) = v

  abbrev pub state_of : Knowledge O → PassState O
  state_of v = record { number = v.number; seen = v.seen; mine = v.mine }

  -- Of each seat: only the keeper keeps the history, a pass has the number of its seat, it has seen a front of the history,
  -- and it knows its own entries.
  abbrev pub Fits : ℕ → List (HallEntry O) → ℕ → Knowledge O → Type 0
  Fits seat log by v =
      (v.keeps ≡ true → (by ≡ seat) × (v.all ≡ log)) × (v.is_pass ≡ true → v.number ≡ by) × IsPrefix v.seen log × (own by 0 log ≡ v.mine)

  -- a step announces this call
  abbrev pub Announces : Option (BookCall O) → BookCall O → Type 0
  Announces none call = ⊥
  Announces (some announced) call = call ≡ announced

  module _ (entity_of : O → Name) (gid_of : O → ℕ) where
    -- The word counts one history. One seat at most keeps it, each has seen a front of it, and each knows its own entries.
    abbrev pub IsCounted : State (BookCall O) (Knowledge O) → Type 0
    IsCounted s =
        (seat : ℕ) × (log : List (HallEntry O)) × (s.words ≡ length log ∷ []) × HallHistory entity_of gid_of log
        × ((by : ℕ) (v : Knowledge O) → get_elem? s.views by ≡ some v → Fits seat log by v)
        × ((by : ℕ) → length s.views ≤ by → own by 0 log ≡ [])

    -- a pass keeps no history, and its entries in the history that it has seen are its own
    abbrev pub IsPass : Knowledge O → Type 0
    IsPass v = (v.keeps ≡ false) × (v.is_pass ≡ true) × HallHistory entity_of gid_of v.seen × (own v.number 0 v.seen ≡ v.mine)

    -- a new pass sees the history as it is, and has no entry in it
    abbrev pub IsNewPass : Step (BookCall O) → Me (BookCall O) (Knowledge O) → ℕ → Me (BookCall O) (Knowledge O) → Type 0
    IsNewPass s m n m' =
        (m'.0 ≡ pass_with m'.0.number m'.0.seen []) × HallHistory entity_of gid_of m'.0.seen × (own m'.0.number 0 m'.0.seen ≡ [])

    -- a pass that holds the history sees all of it
    abbrev pub SeesAll : Step (BookCall O) → Me (BookCall O) (Knowledge O) → ℕ → Me (BookCall O) (Knowledge O) → Type 0
    SeesAll s m n m' =
        (m'.1 ≡ m.1)
        × (m'.0 ≡ record { keeps = m.0.keeps; all = m.0.all; is_pass = m.0.is_pass; number = m.0.number; seen = m.0.all; mine = m.0.mine })
        × IsPrefix m.0.seen m.0.all × HallHistory entity_of gid_of m.0.all × (own m.0.number 0 m.0.all ≡ m.0.mine) × (n ≡ length m.0.all)

    -- a pass that holds the history puts the call that the step announces behind it, with its answer
    abbrev pub Adds : Step (BookCall O) → Me (BookCall O) (Knowledge O) → ℕ → Me (BookCall O) (Knowledge O) → Type 0
    Adds s m n m' =
        (call : BookCall O) × Announces s.said call
        × (let e : HallEntry O = entry m.0.number call (reply_behind entity_of gid_of m.0.all call) in
        (m'.1 ≡ m.1)
        × (m'.0 ≡ record { keeps = m.0.keeps; all = m.0.all ++ e ∷ []; is_pass = m.0.is_pass; number = m.0.number; seen = m.0.all ++ e ∷ []; mine = m.0.mine ++ (length m.0.all, e) ∷ [] })
        × IsPrefix m.0.seen m.0.all × HallHistory entity_of gid_of (m.0.all ++ e ∷ [])
        × (own m.0.number 0 (m.0.all ++ e ∷ []) ≡ m.0.mine ++ (length m.0.all, e) ∷ []))
