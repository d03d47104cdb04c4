-- What a command answers that runs a node.
use Rattle.std.specs.Prelude.{ℕ, ◌≡◌, ◌⊎◌, List, [], Option, string_bytes}
use Rattle.cx_base.specs.Names.{Name}
use Rattle.cx_base.specs.Streams.{Rose, Takes, TakesFront}
use Rattle.cx_journal.specs.JournalText.{journal_text}
use Rattle.cx_journal.specs.declared.entries.Entry.{Entry}
use Rattle.cx_loading.specs.declared.ends.NodeEnd.{NodeEnd}
use Rattle.cx_loading.specs.declared.ends.NodeEnd.TheVariants as end
use Rattle.cx_help.specs.node.Told.{node_told}
use Rattle.cx_help.specs.declared.scripts.NodeKind.{NodeKind}
use Rattle.cx_top.specs.Inputs.{IsPastLimit}
use Rattle.cx_top.specs.Replays.{GaveAll}
use Rattle.cx_top.specs.declared.status.Status.TheVariants.{ReadFault, TooLong, OutOfMemory, WriteFault}
use Rattle.cx_commands.specs.Lent.{Lent, Streams}
use Rattle.cx_commands.specs.declared.ends.CommandEnd.{CommandEnd}
use Rattle.cx_commands.specs.declared.ends.CommandStatus.{CommandStatus}
use Rattle.cx_commands.specs.declared.ends.CommandStatus.TheVariants.{Text, Node}

-- where the output failed, a node that was done gives that status, and any other keeps its own
abbrev pub unwritten : NodeEnd → CommandStatus
unwritten end.Done = Text WriteFault
unwritten end.Links = Node end.Links
unwritten end.Dice = Node end.Dice
unwritten end.Keeper = Node end.Keeper
unwritten end.OutOfMemory = Node end.OutOfMemory
unwritten (end.Unloaded why) = Node (end.Unloaded why)

-- what the node entered is written, or a front of it; or memory was wanting for its text or for what is told, and nothing is written
abbrev pub IsAnswered : {O : Type 0} → NodeEnd → List Entry → Option (List ℕ) → Option (List ℕ) → ℕ → ℕ → O → O → CommandStatus → Type 0
IsAnswered ending entries taken after misses missed out written status =
    ((status ≡ Node ending) × Takes taken after (journal_text entries))
    ⊎ ((status ≡ unwritten ending) × TakesFront taken after (journal_text entries) × Rose misses missed)
    ⊎ ((status ≡ Text OutOfMemory) × (written ≡ out))

-- why the script wasn't read: the input failed or is too long, or memory was wanting
abbrev pub IsUnreadStatus : Option (List ℕ) → Option (List ℕ) → ℕ → ℕ → CommandStatus → Type 0
IsUnreadStatus left now faults faulted (Text ReadFault) = Rose faults faulted
IsUnreadStatus left now faults faulted (Text TooLong) = IsPastLimit left now
IsUnreadStatus left now faults faulted (Text OutOfMemory) = Unit {0}
IsUnreadStatus left now faults faulted _ = ⊥

-- what is told of a node of this kind and this name with this script that ended so: what is said of its script, or of the section that its keyring
-- lacks; or memory was wanting for that, and nothing is told but that
abbrev pub IsNodeTold : NodeKind → Option Name → List ℕ → NodeEnd → CommandStatus → List ℕ → Type 0
IsNodeTold kind name script ending status told = (told ≡ node_told kind name script ending) ⊎ ((status ≡ Text OutOfMemory) × (told ≡ []))

module _ {I O K L C D : Type 0} (kind : NodeKind) (name : Option Name) (Ran : List ℕ → NodeEnd → List Entry → Type 0) (a b : Streams I O) (v w : Lent K L C D) (result : CommandEnd) where
  -- its script was read to its end, the node ran so, and what it entered was written, or a front of it; what is printed is the sentence of the
  -- status, or what is said of its script or its section
  pub record HasRun : Type 0 where
    pub bytes : List ℕ
    pub read : GaveAll a.left b.left bytes
    pub ending : NodeEnd
    pub entries : List Entry
    pub ran : Ran bytes ending entries
    pub answers : IsAnswered ending entries a.taken b.taken a.misses b.misses a.out b.out result.status
    pub says : IsNodeTold kind name bytes ending result.status (string_bytes result.told)

  -- its script wasn't read, and nothing was written or done; what is printed is the sentence of the status
  pub record HasNotRun : Type 0 where
    pub why : IsUnreadStatus a.left b.left a.faults b.faults result.status
    pub untaken : b.out ≡ a.out
    pub stood : w ≡ v
    pub says : string_bytes result.told ≡ []

  -- one of the two
  abbrev pub NodeAnswers : Type 0
  NodeAnswers = HasRun ⊎ HasNotRun
