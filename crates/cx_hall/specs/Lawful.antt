-- Laws of a hall's history.
use Rattle.std.specs.Prelude.{ℕ, ◌≡◌, ◌⊎◌, true, List, map}
use mathlib.Core.Option.{some}
use mathlib.Core.List.{IsPrefix}
use lib.ListN.{get_elem?}
use Rattle.atomic_table.specs.Table.{State}
use Rattle.cx_base.specs.Names.{Name}
use Rattle.cx_session.specs.declared.call.BookCall.{BookCall}
use Rattle.cx_session.specs.Told.{Told, told, told_call}
use Rattle.cx_hall.specs.declared.entry.HallEntry.{HallEntry}
use Rattle.cx_hall.specs.declared.rule.Knowledge.{Knowledge}
use Rattle.cx_hall.specs.History.{HallHistory}
use Rattle.cx_hall.specs.Rule.{IsCounted}

module _ {O : Type 0} where
  -- an entry, with its owner as it tells
  abbrev pub told_entry : {P : Type 0} → (O → P) → HallEntry O → HallEntry P
  told_entry tell e = record { by = e.by; call = told_call tell e.call; reply = e.reply }

  module _ (entity_of : O → Name) (gid_of : O → ℕ) where
    -- of what two passes have seen, one begins with the other
    abbrev pub SawOneHistory : Type 0
    SawOneHistory =
        (s : State (BookCall O) (Knowledge O)) (by other : ℕ) (v w : Knowledge O) → IsCounted entity_of gid_of s
        → get_elem? s.views by ≡ some v → get_elem? s.views other ≡ some w → IsPrefix v.seen w.seen ⊎ IsPrefix w.seen v.seen

    -- no two passes have one number
    abbrev pub NumbersPasses : Type 0
    NumbersPasses =
        (s : State (BookCall O) (Knowledge O)) (by other : ℕ) (v w : Knowledge O) → IsCounted entity_of gid_of s
        → get_elem? s.views by ≡ some v → get_elem? s.views other ≡ some w → v.is_pass ≡ true → w.is_pass ≡ true
        → v.number ≡ w.number → by ≡ other

    -- a history of what its owners tell is answered as the history is
    abbrev pub IsAnsweredAsTold : (O → List ℕ) → (O → ℕ) → Type 0
    IsAnsweredAsTold caps_of reading_of =
        (log : List (HallEntry O)) → HallHistory entity_of gid_of log
        → HallHistory (λ (t : Told). t.entity) (λ (t : Told). t.gid) (map (told_entry (told entity_of gid_of caps_of reading_of)) log)
