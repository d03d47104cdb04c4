-- Words of choices: what is read was spelled so, and what is spelled is read again.
use Rattle.std.proofs.Common.{◌≡◌, ℕ, Bool, true, false, cond, List, [], ◌∷◌, Option, Some, None, refl, ap, ◌∙◌}
use Rattle.std.specs.Prelude.{find}
use Rattle.std.specs.Str.{bytes_eq}
use Rattle.std.proofs.lemmas.Slice.Eq.{bytes_eq-Decides}
use Rattle.cx_words.specs.declared.choices.Side.{Side}
use Rattle.cx_words.specs.declared.choices.Side.TheVariants.{Connector, Acceptor}
use Rattle.cx_words.specs.declared.choices.Modes.{Modes}
use Rattle.cx_words.specs.declared.choices.Modes.TheVariants.{Crc, Secure, Both}
use Rattle.cx_words.specs.declared.choices.LeftState.{LeftState}
use Rattle.cx_words.specs.declared.choices.LeftState.TheVariants.{Old, New}
use Rattle.cx_words.specs.declared.choices.CommandForm.{CommandForm}
use Rattle.cx_words.specs.declared.choices.CommandForm.TheVariants.{Fetch, Login, Renew, Connect, Send}
use Rattle.cx_words.specs.lines.Choices.{chosen, command_form_of, command_word, modes_of, modes_word, side_of, side_word, state_of, state_word}

chosen_step : {X : Type 0} (word_of : X → List ℕ) (word : List ℕ) (y x : X) (rest : Option X) (b : Bool) → bytes_eq word (word_of y) ≡ b
    → (rest ≡ Some x → word ≡ word_of x) → cond b (Some y) rest ≡ Some x → word ≡ word_of x
chosen_step word_of word y x rest true is more some =
    let same : y ≡ x = cc in
    (bytes_eq-Decides word (word_of y)).0 is ∙ ap word_of same
chosen_step word_of word y x rest false is more some = more some

-- what is chosen has the word
pub chosen-is : {X : Type 0} (word_of : X → List ℕ) (choices : List X) (word : List ℕ) (x : X) → chosen word_of choices word ≡ Some x → word ≡ word_of x
chosen-is word_of [] word x some = absurd (let e : None ≡ Some x = some in cc)
chosen-is word_of (y ∷ ys) word x some =
    chosen_step word_of word y x (find (λ z. bytes_eq word (word_of z)) ys) (bytes_eq word (word_of y)) refl (chosen-is word_of ys word x) some

pub side_of-is : (word : List ℕ) (side : Side) → side_of word ≡ Some side → word ≡ side_word side
unfolding side_of
side_of-is word side some = chosen-is side_word (Connector ∷ Acceptor ∷ []) word side some

pub side_of-word : (side : Side) → side_of (side_word side) ≡ Some side
unfolding side_of
side_of-word Connector = refl
side_of-word Acceptor = refl

pub modes_of-is : (word : List ℕ) (modes : Modes) → modes_of word ≡ Some modes → word ≡ modes_word modes
unfolding modes_of
modes_of-is word modes some = chosen-is modes_word (Crc ∷ Secure ∷ Both ∷ []) word modes some

pub modes_of-word : (modes : Modes) → modes_of (modes_word modes) ≡ Some modes
unfolding modes_of
modes_of-word Crc = refl
modes_of-word Secure = refl
modes_of-word Both = refl

pub state_of-is : (word : List ℕ) (state : LeftState) → state_of word ≡ Some state → word ≡ state_word state
unfolding state_of
state_of-is word state some = chosen-is state_word (Old ∷ New ∷ []) word state some

pub state_of-word : (state : LeftState) → state_of (state_word state) ≡ Some state
unfolding state_of
state_of-word Old = refl
state_of-word New = refl

pub command_form_of-is : (word : List ℕ) (form : CommandForm) → command_form_of word ≡ Some form → word ≡ command_word form
unfolding command_form_of
command_form_of-is word form some = chosen-is command_word (Fetch ∷ Login ∷ Renew ∷ Connect ∷ Send ∷ []) word form some

pub command_form_of-word : (form : CommandForm) → command_form_of (command_word form) ≡ Some form
unfolding command_form_of
command_form_of-word Fetch = refl
command_form_of-word Login = refl
command_form_of-word Renew = refl
command_form_of-word Connect = refl
command_form_of-word Send = refl
