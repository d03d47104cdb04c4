-- From why a script isn't read to why a node doesn't run.
use Rattle.std.proofs.Common.{◌≡◌, ◌⊎◌, ℕ, List, Option, inl, inr, ap}
use Rattle.cx_schedule.specs.NodeFiles as file
use Rattle.cx_schedule.specs.NodeFiles.{NodeLines}
use Rattle.cx_schedule.specs.declared.node_lines.NodeLine.{NodeLine}
use Rattle.cx_schedule.specs.declared.node_names.NodeNames.{NodeNames}
use Rattle.cx_schedule.specs.declared.refusals.ScheduleRefusal.{ScheduleRefusal}
use Rattle.cx_schedule.specs.declared.refusals.ScheduleRefusal.TheVariants as schedule
use Rattle.cx_keyring.specs.cx_words.specs.Cutting.{IsShort}
use Rattle.cx_loading.specs.Loading.{IsOrMemory, script_refusal}
use Rattle.cx_loading.specs.Scripts.{IsScriptReason, IsServed}
use Rattle.cx_loading.specs.declared.unloaded.Unloaded.{Unloaded}
use Rattle.cx_loading.specs.declared.unloaded.Unloaded.TheVariants.{Script, Keeper, NoKeyring, Keyring, NoEntity, State, OutOfMemory}

module _ (names : Option NodeNames) (bytes : List ℕ) where
  -- ---- a script that isn't read

  pub unread_only : (got : ScheduleRefusal) → ((s : List NodeLine) → IsShort bytes → NodeLines names bytes s → got ≡ schedule.OutOfMemory)
      → IsServed names bytes → script_refusal got ≡ OutOfMemory
  unread_only got only served = ap script_refusal (only served.script served.short served.lines)

  or_script : (got why : ScheduleRefusal) → file.IsScriptReason names bytes why → (got ≡ schedule.OutOfMemory) ⊎ (got ≡ why) → IsOrMemory (Script why) (script_refusal got)
  or_script got why reason (inl memory) = inl (ap script_refusal memory)
  or_script got schedule.TooLong reason (inr same) = inr (ap script_refusal same)
  or_script got (schedule.BadLine line bad) reason (inr same) = inr (ap script_refusal same)
  or_script got schedule.OutOfMemory reason (inr same) = absurd reason

  pub unread_exact : (got : ScheduleRefusal) → ((s : List NodeLine) → IsShort bytes → NodeLines names bytes s → got ≡ schedule.OutOfMemory)
      → ((why : ScheduleRefusal) → file.IsScriptReason names bytes why → (got ≡ schedule.OutOfMemory) ⊎ (got ≡ why))
      → (why : Unloaded) → IsScriptReason names bytes why → IsOrMemory why (script_refusal got)
  unread_exact got only exact (Script why) reason = or_script got why reason (exact why reason)
  unread_exact got only exact Keeper reason = absurd reason
  unread_exact got only exact NoKeyring reason = absurd reason
  unread_exact got only exact (Keyring refusal) reason = absurd reason
  unread_exact got only exact NoEntity reason = absurd reason
  unread_exact got only exact (State bad) reason = absurd reason
  unread_exact got only exact OutOfMemory reason = absurd reason

  -- ---- one that is read

  pub read_exact : ((why : ScheduleRefusal) → file.IsScriptReason names bytes why → ⊥)
      → (why : Unloaded) → IsScriptReason names bytes why → ⊥
  read_exact exact (Script why) reason = exact why reason
  read_exact exact Keeper reason = reason
  read_exact exact NoKeyring reason = reason
  read_exact exact (Keyring refusal) reason = reason
  read_exact exact NoEntity reason = reason
  read_exact exact (State bad) reason = reason
  read_exact exact OutOfMemory reason = reason
