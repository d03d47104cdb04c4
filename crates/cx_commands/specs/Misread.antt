-- How the program ends whose words aren't read, and what its status `Usage` means.
use Rattle.std.specs.Prelude.{ℕ, ◌≡◌, ◌-◌, ◌⊎◌, List, [], get_or, Option, Some, None, string_bytes}
use Rattle.cx_help.specs.command.Sentences.{why_text}
use Rattle.cx_help.specs.command.Wrong.{wrong_of}
use Rattle.cx_help.specs.declared.command_wrong.WrongUsage.{WrongUsage}
use Rattle.cx_command_line.specs.Commands.{spelled}
use Rattle.cx_command_line.specs.Words.{Word}
use Rattle.cx_command_line.specs.declared.reading.Misread.{Misread}
use Rattle.cx_command_line.specs.declared.reading.Misread.TheVariants as misread
use Rattle.cx_top.specs.Told.{line_told}
use Rattle.cx_top.specs.declared.status.Status.{Status}
use Rattle.cx_top.specs.declared.status.Status.TheVariants.{Usage, OutOfMemory}
use Rattle.cx_commands.specs.Lent.{Lent, Streams}
use Rattle.cx_commands.specs.declared.ends.CommandEnd.{CommandEnd}
use Rattle.cx_commands.specs.declared.ends.CommandStatus.TheVariants.{Text}

abbrev pub misread_status : Misread → Status
misread_status misread.Usage = Usage
misread_status misread.OutOfMemory = OutOfMemory

-- the word of this number, from 1; an empty one where it is missing
abbrev pub word_of : List Word → ℕ → Word
word_of words number = get_or words (number - 1) []

abbrev pub said_of : List Word → Option WrongUsage → List ℕ
said_of words None = []
said_of words (Some wrong) = line_told (why_text wrong.number wrong.why (word_of words wrong.number))

-- what is said of wrong words: the first that is wrong or missing, and why; nothing where there are none
abbrev pub wrong_told : List Word → List ℕ
wrong_told words = said_of words (wrong_of words)

-- it is told of them, or nothing where memory is wanting
abbrev pub IsWrongTold : List Word → List ℕ → Type 0
IsWrongTold words told = (told ≡ []) ⊎ (told ≡ wrong_told words)

-- what is told of words that aren't read
abbrev pub IsMisreadTold : List Word → Misread → List ℕ → Type 0
IsMisreadTold words misread.Usage told = IsWrongTold words told
IsMisreadTold words misread.OutOfMemory told = told ≡ []

module _ {I O K L C D : Type 0} (a b : Streams I O) (v w : Lent K L C D) where
  -- memory was wanting to read the words: nothing is told, read, written or done
  pub record IsUnbegun (result : CommandEnd) : Type 0 where
    pub status : result.status ≡ Text OutOfMemory
    pub told : string_bytes result.told ≡ []
    pub unread : b.input ≡ a.input
    pub unwritten : b.out ≡ a.out
    pub stood : w ≡ v

  -- of the status `Usage`
  pub record UsageAnswers (words : List Word) (result : CommandEnd) : Type 0 where
    -- words that spell no command end with it, and which of them is wrong is told
    pub status : spelled words ≡ None → result.status ≡ Text Usage
    pub told : spelled words ≡ None → IsWrongTold words (string_bytes result.told)
    -- no others do
    pub only : result.status ≡ Text Usage → spelled words ≡ None
    -- with it nothing is read, written or done
    pub unread : result.status ≡ Text Usage → b.input ≡ a.input
    pub unwritten : result.status ≡ Text Usage → b.out ≡ a.out
    pub stood : result.status ≡ Text Usage → w ≡ v
