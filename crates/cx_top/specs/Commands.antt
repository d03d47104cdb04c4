-- The commands: their words, and what each makes of its input.
use Rattle.std.specs.Prelude.{ℕ, ◌≤◌, ◌≡◌, Bool, false, List, length, codes, Option}
use Rattle.cx_audit.specs.Verdicts.{IsAudit}
use Rattle.cx_audit.specs.declared.verdicts.Verdict.{Verdict}
use Rattle.cx_help.specs.audit.Said.{verdict_text}
use Rattle.cx_base.specs.Streams.{Takes, TakesFront}
use Rattle.cx_desk.specs.Handlers.{Handlers}
use Rattle.cx_keyring.specs.declared.entries.Entry.{Entry}
use Rattle.cx_keyring.specs.Rings.{KeyringText, printed_keyring}
use Rattle.cx_words.specs.Cutting.{IsShort}
use Rattle.cx_top.specs.Audits.{verdict_told}
use Rattle.cx_top.specs.Notes.{ring_told}
use Rattle.cx_top.specs.declared.commands.Subcommand.{Subcommand}
use Rattle.cx_top.specs.declared.commands.Subcommand.TheVariants.{Replay, Keyring, Audit}
use Rattle.cx_top.specs.Replays.{GaveAll, Replays}

-- the word of a command
abbrev pub command_word : Subcommand → List ℕ
command_word Replay = codes "replay"
command_word Keyring = codes "keyring"
command_word Audit = codes "audit"

-- the bytes are a keyring within the limits, of at most 4,096 entries, and the text is its printed form; what each clause of its caps
-- grants, or why it grants nothing, is said besides
pub record Prints (bytes text told : List ℕ) : Type 0 where
  pub ring : List Entry
  pub keyring : KeyringText bytes ring
  pub few : length ring ≤ 4096
  pub short : IsShort bytes
  pub written : text ≡ printed_keyring ring
  pub besides : told ≡ ring_told bytes

-- the bytes are the text of a journal within the limits, this is the line of what is said of it, and the rule that it breaks is said besides
pub record Audits (bytes text told : List ℕ) : Type 0 where
  pub verdict : Verdict
  pub audited : IsAudit bytes verdict
  pub short : IsShort bytes
  pub written : text ≡ verdict_text verdict
  pub besides : told ≡ verdict_told verdict

-- the command makes this text of the bytes, where these kinds of operations have a handler; whether a run broke a premise, and
-- what is said besides
abbrev pub Makes : Handlers → Subcommand → List ℕ → Bool → List ℕ → List ℕ → Type 0
Makes handlers Replay bytes is_broken text told = Replays handlers bytes is_broken text told
Makes handlers Keyring bytes is_broken text told = Prints bytes text told × (is_broken ≡ false)
Makes handlers Audit bytes is_broken text told = Audits bytes text told × (is_broken ≡ false)

-- the whole input was read, and the command makes this of it
pub record MakesOfAll (handlers : Handlers) (command : Subcommand) (left now : Option (List ℕ)) (is_broken : Bool) (text told : List ℕ) : Type 0 where
  pub bytes : List ℕ
  pub read : GaveAll left now bytes
  pub makes : Makes handlers command bytes is_broken text told

-- the whole input was read, and what the command makes of it was written; whether a run broke a premise, and what is said
-- besides
pub record Writes (handlers : Handlers) (command : Subcommand) (is_broken : Bool) (left now taken after : Option (List ℕ)) (told : List ℕ) : Type 0 where
  pub text : List ℕ
  pub made : MakesOfAll handlers command left now is_broken text told
  pub wrote : Takes taken after text

-- the whole input was read, and a front of what the command makes of it was written
pub record WritesFront (handlers : Handlers) (command : Subcommand) (left now taken after : Option (List ℕ)) : Type 0 where
  pub text : List ℕ
  pub is_broken : Bool
  pub told : List ℕ
  pub made : MakesOfAll handlers command left now is_broken text told
  pub wrote : TakesFront taken after text
