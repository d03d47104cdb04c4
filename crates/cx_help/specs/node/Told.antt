-- What is said of a node that doesn't run, by its kind, its name, its script and the keyring that was loaded, where the sentence of its end doesn't say all.
use Rattle.std.specs.Prelude.{ℕ, List, [], codes, Option, Some, None}
use Rattle.cx_base.specs.Joined.{◌<>◌}
use Rattle.cx_base.specs.Names.{Name, name_text}
use Rattle.cx_keyring.specs.cx_words.specs.Cutting.{lines_of}
use Rattle.cx_keyring.specs.declared.refusals.KeyringRefusal.{KeyringRefusal}
use Rattle.cx_keyring.specs.declared.refusals.KeyringRefusal.TheVariants as keyring
use Rattle.cx_help.specs.keyring.Details.{detail_of}
use Rattle.cx_help.specs.keyring.Sentences.{wrong_keyring_text}
use Rattle.cx_help.specs.line.Sights.{line_at, sight_of}
use Rattle.cx_help.specs.declared.scripts.NodeKind.{NodeKind}
use Rattle.cx_loading.specs.declared.ends.NodeEnd.{NodeEnd}
use Rattle.cx_loading.specs.declared.ends.NodeEnd.TheVariants as end
use Rattle.cx_loading.specs.declared.unloaded.Unloaded.{Unloaded}
use Rattle.cx_loading.specs.declared.unloaded.Unloaded.TheVariants.{Script, Keyring, NoEntity}
use Rattle.cx_schedule.specs.declared.refusals.ScheduleRefusal.{ScheduleRefusal}
use Rattle.cx_schedule.specs.declared.refusals.ScheduleRefusal.TheVariants as schedule
use Rattle.cx_help.specs.node.Sentences.{script_line_text}

-- ---- of its script and its name

-- a line of standard error on a line of these bytes
abbrev pub refusal_told : NodeKind → List ℕ → ScheduleRefusal → List ℕ
refusal_told kind bytes (schedule.BadLine line bad) =
    codes "cephx_cli: " <> script_line_text (Some kind) line (sight_of (line_at (lines_of bytes) line) bad) <> codes "\n"
refusal_told kind bytes _ = []

-- one on the section that is wanted
abbrev pub section_told : Option Name → List ℕ
section_told None = []
section_told (Some name) = codes "cephx_cli: the keyring has no section [" <> name_text name <> codes "]; add one, or run a node whose section it has\n"

abbrev pub unloaded_told : NodeKind → Option Name → List ℕ → Unloaded → List ℕ
unloaded_told kind name bytes (Script refusal) = refusal_told kind bytes refusal
unloaded_told kind name bytes NoEntity = section_told name
unloaded_told kind name bytes _ = []

-- nothing, where the sentence of the end says all
abbrev pub node_told : NodeKind → Option Name → List ℕ → NodeEnd → List ℕ
node_told kind name bytes (end.Unloaded why) = unloaded_told kind name bytes why
node_told kind name bytes _ = []

-- ---- of the keyring that was loaded

-- a line of standard error on a line of these bytes, with what stands there
abbrev pub ring_refusal_told : List ℕ → KeyringRefusal → List ℕ
ring_refusal_told bytes (keyring.BadLine line why) =
    codes "cephx_cli: " <> wrong_keyring_text (record { line = line; why = why; detail = detail_of (lines_of bytes) line why }) <> codes "\n"
ring_refusal_told bytes _ = []

abbrev pub unloaded_ring_told : List ℕ → Unloaded → List ℕ
unloaded_ring_told bytes (Keyring refusal) = ring_refusal_told bytes refusal
unloaded_ring_told bytes _ = []

-- nothing, where the sentence of the end says all
abbrev pub ring_end_told : List ℕ → NodeEnd → List ℕ
ring_end_told bytes (end.Unloaded why) = unloaded_ring_told bytes why
ring_end_told bytes _ = []
