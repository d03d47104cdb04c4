-- Words of which a place takes one of a few, each with its word and how it is read.
use Rattle.std.specs.Prelude.{ℕ, List, [], ◌∷◌, Option, codes, find}
use Rattle.std.specs.Str.{bytes_eq}
use Rattle.cx_words.specs.declared.choices.Side.{Side}
use Rattle.cx_words.specs.declared.choices.Side.TheVariants.{Connector, Acceptor}
use Rattle.cx_words.specs.declared.choices.Modes.{Modes}
use Rattle.cx_words.specs.declared.choices.Modes.TheVariants.{Crc, Secure, Both}
use Rattle.cx_words.specs.declared.choices.LeftState.{LeftState}
use Rattle.cx_words.specs.declared.choices.LeftState.TheVariants.{Old, New}
use Rattle.cx_words.specs.declared.choices.CommandForm.{CommandForm}
use Rattle.cx_words.specs.declared.choices.CommandForm.TheVariants.{Fetch, Login, Renew, Connect, Send}

-- the first of these whose word this is
abbrev pub chosen : {X : Type 0} → (X → List ℕ) → List X → List ℕ → Option X
chosen word_of choices word = find (λ x. bytes_eq word (word_of x)) choices

-- a side of a link
abbrev pub side_word : Side → List ℕ
side_word Connector = codes "c"
side_word Acceptor = codes "a"

unfoldable pub side_of : List ℕ → Option Side
side_of word = chosen side_word (Connector ∷ Acceptor ∷ []) word

-- the modes that a client offers
abbrev pub modes_word : Modes → List ℕ
modes_word Crc = codes "crc"
modes_word Secure = codes "secure"
modes_word Both = codes "crc,secure"

unfoldable pub modes_of : List ℕ → Option Modes
modes_of word = chosen modes_word (Crc ∷ Secure ∷ Both ∷ []) word

-- the state that a failed save leaves
abbrev pub state_word : LeftState → List ℕ
state_word Old = codes "old"
state_word New = codes "new"

unfoldable pub state_of : List ℕ → Option LeftState
state_of word = chosen state_word (Old ∷ New ∷ []) word

-- the first word of a command
abbrev pub command_word : CommandForm → List ℕ
command_word Fetch = codes "fetch"
command_word Login = codes "login"
command_word Renew = codes "renew"
command_word Connect = codes "connect"
command_word Send = codes "send"

unfoldable pub command_form_of : List ℕ → Option CommandForm
command_form_of word = chosen command_word (Fetch ∷ Login ∷ Renew ∷ Connect ∷ Send ∷ []) word
