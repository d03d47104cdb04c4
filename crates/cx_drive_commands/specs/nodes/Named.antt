-- What a node begins with that has a name: its script and its key.
use Rattle.std.specs.Prelude.{ℕ, ◌≡◌, ◌⊎◌, List, map, Option, Some}
use Rattle.cx_base.specs.Names.{Name}
use Rattle.cx_drive.specs.declared.flow.Order.{Order}
use Rattle.cx_drive_commands.specs.nodes.Orders.{order_of}
use Rattle.cx_enc.specs.declared.keys.Key.{Key}
use Rattle.cx_keep.specs.Slots.{Kept}
use Rattle.cx_loading.specs.Loading.{HasKey, IsKeyEnd, TellsKey, TellsKeyReason}
use Rattle.cx_loading.specs.Scripts.{IsScript, IsScriptEnd, IsScriptReason, IsServed}
use Rattle.cx_loading.specs.declared.unloaded.Unloaded.{Unloaded}
use Rattle.cx_schedule.specs.NodeLines.{node_names}
use Rattle.cx_schedule.specs.declared.node_lines.NodeLine.{NodeLine}

module _ (name : Name) (peers : List Name) (bytes : List ℕ) (kept : Option Kept) where
  -- its script, as orders, and its key
  pub record NamedLoad (orders : List Order) (key : Key) : Type 0 where
    pub script : List NodeLine
    pub is_script : IsScript (node_names (Some name) peers) bytes script
    pub told : orders ≡ map order_of script
    pub is_key : HasKey name kept key

  -- why it doesn't run
  abbrev pub IsNamedRefusal : ℕ → ℕ → Unloaded → Type 0
  IsNamedRefusal before now why = IsScriptEnd (node_names (Some name) peers) bytes why ⊎ IsKeyEnd name kept before now why

  -- both are there
  pub record IsNamedServed : Type 0 where
    pub script : IsServed (node_names (Some name) peers) bytes
    pub key : TellsKey name kept

  -- why it must not run: the first of the two that isn't there
  abbrev pub IsNamedReason : Unloaded → Type 0
  IsNamedReason why =
      IsScriptReason (node_names (Some name) peers) bytes why ⊎ (IsServed (node_names (Some name) peers) bytes × TellsKeyReason name kept why)
