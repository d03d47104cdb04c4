-- What is said of words that aren't read, and what the status `Usage` means.
use Rattle.std.proofs.Common.{ℕ, ◌≡◌, true, false, List, Option, Some, None, is_some, Result, Ok, Err, IfOk, string_bytes, refl, sym, ap, ◌∙◌}
use Rattle.cx_help.specs.command.Sentences.{why_text}
use Rattle.cx_help.specs.command.Wrong.{wrong_of}
use Rattle.cx_help.specs.declared.command_wrong.WrongUsage.{WrongUsage}
use Rattle.cx_command_line.specs.Commands.{Asked, IsMisread, spelled}
use Rattle.cx_command_line.specs.Words.{Word}
use Rattle.cx_command_line.specs.declared.reading.Misread.{Misread}
use Rattle.cx_command_line.specs.declared.reading.Misread.TheVariants as misread
use Rattle.cx_top.specs.Told.{line_told}
use Rattle.cx_top.specs.declared.status.Status.TheVariants.{OutOfMemory, Usage}
use Rattle.cx_commands.specs.Lent.{Lent, Streams}
use Rattle.cx_commands.specs.Misread.{IsMisreadTold, UsageAnswers, misread_status, said_of, word_of, wrong_told}
use Rattle.cx_commands.specs.declared.ends.CommandEnd.{CommandEnd}
use Rattle.cx_commands.specs.declared.ends.CommandStatus.TheVariants.{Text}

-- ---- the word that is wrong, and what is said of it

pub wrong_said : {E S : Type 0} (bytes : S → List ℕ) (words : List Word) (wrong : WrongUsage) (word : Word) (told : Result S E) → wrong_of words ≡ Some wrong → word ≡ word_of words wrong.number
    → IfOk told (λ t. bytes t ≡ line_told (why_text wrong.number wrong.why word)) → IfOk told (λ t. bytes t ≡ wrong_told words)
wrong_said bytes words wrong word (Err e) is same says = tt
wrong_said bytes words wrong word (Ok told) is same says =
    says ∙ ap (λ (w : Word). line_told (why_text wrong.number wrong.why w)) same ∙ ap (said_of words) (sym is)

-- ---- the status `Usage`

module _ {I O K L C D : Type 0} (words : List Word) (a b : Streams I O) (v w : Lent K L C D) (result : CommandEnd) where
  -- words that spell a command don't end with it
  pub unused : (asked : Asked) → spelled words ≡ Some asked → (result.status ≡ Text Usage → ⊥) → UsageAnswers a b v w words result
  unused asked is never = record {
    status = λ none. absurd (let other : None ≡ Some asked = sym none ∙ is in cc);
    told = λ none. absurd (let other : None ≡ Some asked = sym none ∙ is in cc);
    only = λ usage. absurd (never usage);
    unread = λ usage. absurd (never usage);
    unwritten = λ usage. absurd (never usage);
    stood = λ usage. absurd (never usage);
  }

-- words that aren't read
pub misread_usage : {I O K L C D : Type 0} (words : List Word) (a : Streams I O) (v : Lent K L C D) (why : Misread) (result : CommandEnd) → IsMisread words why → result.status ≡ Text (misread_status why)
    → IsMisreadTold words why (string_bytes result.told) → UsageAnswers a a v v words result
misread_usage words a v misread.Usage result none status told = record {
  status = λ _. status;
  told = λ _. told;
  only = λ _. none;
  unread = λ _. refl;
  unwritten = λ _. refl;
  stood = λ _. refl;
}
misread_usage words a v misread.OutOfMemory result some status told = record {
  status = λ none. absurd (let no : false ≡ true = sym (ap (λ (o : Option Asked). is_some o) none) ∙ some in cc);
  told = λ none. absurd (let no : false ≡ true = sym (ap (λ (o : Option Asked). is_some o) none) ∙ some in cc);
  only = λ usage. absurd (let no : Text Usage ≡ Text OutOfMemory = sym usage ∙ status in cc);
  unread = λ _. refl;
  unwritten = λ _. refl;
  stood = λ _. refl;
}
