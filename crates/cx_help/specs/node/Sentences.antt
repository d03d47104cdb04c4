-- What a user reads of how a node command ended: what was wrong, and what to try.
use Rattle.std.specs.Prelude.{ℕ, List, [], codes, Option, None}
use Rattle.std.specs.Fmt.{decimal}
use Rattle.cx_base.specs.Joined.{◌<>◌}
use Rattle.cx_keyring.specs.declared.refusals.KeyringRefusal.{KeyringRefusal}
use Rattle.cx_keyring.specs.declared.refusals.KeyringRefusal.TheVariants as keyring
use Rattle.cx_help.specs.keyring.Sentences.{wrong_keyring_text}
use Rattle.cx_help.specs.declared.details.Detail.TheVariants.{Nothing}
use Rattle.cx_help.specs.line.Scripts.{wrong_in_script_text}
use Rattle.cx_help.specs.declared.scripts.NodeKind.{NodeKind}
use Rattle.cx_help.specs.declared.sights.LineSight.{LineSight}
use Rattle.cx_schedule.specs.declared.refusals.ScheduleRefusal.{ScheduleRefusal}
use Rattle.cx_schedule.specs.declared.refusals.ScheduleRefusal.TheVariants as schedule
use Rattle.cx_loading.specs.declared.ends.NodeEnd.{NodeEnd}
use Rattle.cx_loading.specs.declared.ends.NodeEnd.TheVariants as end
use Rattle.cx_loading.specs.declared.unloaded.Unloaded.{Unloaded}
use Rattle.cx_loading.specs.declared.unloaded.Unloaded.TheVariants.{Script, Keeper, NoKeyring, Keyring, NoEntity, State, OutOfMemory}

abbrev pub no_memory : List ℕ
no_memory = codes "memory was wanting before the node ran; give the program more memory"

-- a line of the script of a node of this kind, where that is told
abbrev pub script_line_text : Option NodeKind → ℕ → LineSight → List ℕ
script_line_text kind line sight = codes "line " <> decimal line <> codes " of the script: " <> wrong_in_script_text kind sight

abbrev pub script_text : ScheduleRefusal → List ℕ
script_text schedule.TooLong = codes "the script is too long: at most 1,048,576 bytes and 20,000 lines are read"
script_text (schedule.BadLine line bad) = script_line_text None line (record { bad = bad; remark = None })
script_text schedule.OutOfMemory = no_memory

abbrev pub keyring_text : KeyringRefusal → List ℕ
keyring_text (keyring.BadLine line why) = wrong_keyring_text (record { line = line; why = why; detail = Nothing })
keyring_text (keyring.TooMany limit) = codes "the keyring has more than 4,096 sections; keep those of the entities that are in use"
keyring_text keyring.OutOfMemory = no_memory

abbrev pub unloaded_text : Unloaded → List ℕ
unloaded_text (Script refusal) = script_text refusal
unloaded_text Keeper =
    codes "what is kept in this folder could not be loaded; see that its files keyring and state may be read, and that no other monitor runs in it"
unloaded_text NoKeyring = codes "this folder has no keyring; put one with the node's section into the file keyring"
unloaded_text (Keyring refusal) = keyring_text refusal
unloaded_text NoEntity = codes "the keyring has no section of the node's name; add one, or run a node whose section it has"
unloaded_text (State bad) =
    codes "the file state is no state of a monitor, from its byte " <> decimal bad.0 <> codes " on; put back the one that was kept"
unloaded_text OutOfMemory = no_memory

abbrev pub end_text : NodeEnd → List ℕ
end_text end.Done = []
end_text (end.Unloaded why) = unloaded_text why
end_text end.Links =
    codes "links failed: the node could not listen at its address, or the system gave no news of its links; see whether another program listens there"
end_text end.Dice = codes "the system gave no random bytes, and the command ended"
end_text end.Keeper =
    codes "the monitor's state could not be saved, and nothing of that step was sent; see that this folder may be written and has room"
end_text end.OutOfMemory = codes "memory was wanting while the node ran; give the program more memory"
