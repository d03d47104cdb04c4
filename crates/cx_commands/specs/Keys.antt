-- What the command `key` answers.
use Rattle.std.specs.Prelude.{ℕ, ◌≡◌, List, [], ◌++◌, codes, Option, string_bytes}
use Rattle.cx_base.specs.Streams.{Rose, Takes, TakesFront}
use Rattle.cx_base.specs.declared.kinds.EntityType.TheVariants.{Auth}
use Rattle.cx_dice.specs.Draws.{session_of}
use Rattle.cx_dice.specs.Rolls.{GivesDraw}
use Rattle.cx_enc.specs.declared.keys.Key.{Key}
use Rattle.cx_keyring.specs.Keys.{key_text}
use Rattle.cx_loading.specs.declared.ends.NodeEnd.{NodeEnd}
use Rattle.cx_loading.specs.declared.ends.NodeEnd.TheVariants as end
use Rattle.cx_top.specs.declared.status.Status.TheVariants.{Done, WriteFault, OutOfMemory}
use Rattle.cx_commands.specs.Lent.{Lent, Streams}
use Rattle.cx_commands.specs.declared.ends.CommandEnd.{CommandEnd}
use Rattle.cx_commands.specs.declared.ends.CommandStatus.{CommandStatus}
use Rattle.cx_commands.specs.declared.ends.CommandStatus.TheVariants.{Text, Node}

-- the key of a draw, made at the time 0
abbrev pub new_key : List ℕ → Key
new_key draw = record { created = record { secs = 0; nanos = 0 }; secret = session_of Auth draw }

-- as a keyring takes it behind key =, on a line of its own
abbrev pub key_line : List ℕ → List ℕ
key_line draw = key_text (new_key draw) ++ codes "\n"

-- the dice gave a draw, and its key was written
abbrev pub IsWritten : Option (ℕ → List ℕ) → Option (ℕ → List ℕ) → Option (List ℕ) → Option (List ℕ) → Type 0
IsWritten coming left taken after = (draw : List ℕ) × GivesDraw coming left draw × Takes taken after (key_line draw)

-- or a front of it
abbrev pub IsFrontWritten : Option (ℕ → List ℕ) → Option (ℕ → List ℕ) → Option (List ℕ) → Option (List ℕ) → Type 0
IsFrontWritten coming left taken after = (draw : List ℕ) × GivesDraw coming left draw × TakesFront taken after (key_line draw)

-- what the dice are to give and gave, and how many faults of theirs were counted
pub record Rolled : Type 0 where
  pub coming : Option (ℕ → List ℕ)
  pub left : Option (ℕ → List ℕ)
  pub faults : ℕ
  pub faulted : ℕ

abbrev pub rolled_from : Option (ℕ → List ℕ) → Option (ℕ → List ℕ) → ℕ → ℕ → Rolled
rolled_from coming left faults faulted = record { coming = coming; left = left; faults = faults; faulted = faulted }

-- a key was written, or a front of it, where the output failed; or the dice failed, or memory was wanting, and nothing was written
abbrev pub IsKeyEnd : {O : Type 0} → Rolled → Option (List ℕ) → Option (List ℕ) → ℕ → ℕ → O → O → CommandStatus → Type 0
IsKeyEnd dice taken after misses missed out written (Text Done) = IsWritten dice.coming dice.left taken after
IsKeyEnd dice taken after misses missed out written (Text WriteFault) = IsFrontWritten dice.coming dice.left taken after × Rose misses missed
IsKeyEnd dice taken after misses missed out written (Text OutOfMemory) = written ≡ out
IsKeyEnd dice taken after misses missed out written (Node end.Dice) = (written ≡ out) × Rose dice.faults dice.faulted
IsKeyEnd dice taken after misses missed out written _ = ⊥

-- it ended so; the sentence of the status says all, nothing was read, and keeper, links and clock stand as before
pub record KeyAnswers {I O K L C D : Type 0} (dice : Rolled) (a b : Streams I O) (v w : Lent K L C D) (result : CommandEnd) : Type 0 where
  pub ends : IsKeyEnd dice a.taken b.taken a.misses b.misses a.out b.out result.status
  pub told : string_bytes result.told ≡ []
  pub unread : b.input ≡ a.input
  pub keeper : w.keeper ≡ v.keeper
  pub links : w.links ≡ v.links
  pub clock : w.clock ≡ v.clock
