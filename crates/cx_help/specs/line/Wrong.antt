-- What a user reads of a line of a schedule that is none: the word that is wrong, what is wrong with it, what the line shows
-- besides, and the form of the line.
use Rattle.std.specs.Prelude.{List, codes, ℕ}
use Rattle.std.specs.Fmt.{decimal}
use Rattle.cx_base.specs.Joined.{◌<>◌}
use Rattle.cx_lines.specs.declared.sight.BadWord.{BadWord}
use Rattle.cx_words.specs.declared.faults.LineFault.{LineFault}
use Rattle.cx_words.specs.declared.faults.LineFault.TheVariants.{UnknownWord, Missing, Extra, Order}
use Rattle.cx_help.specs.line.Forms.{form_text}
use Rattle.cx_help.specs.line.Kin.{or_kin}
use Rattle.cx_help.specs.line.Problems.{problem_as}
use Rattle.cx_help.specs.line.Remarks.{beside_text}
use Rattle.cx_help.specs.line.Words.{word_text}
use Rattle.cx_help.specs.declared.sights.LineSight.{LineSight}

-- the words that begin a line
abbrev pub first_words_text : List ℕ
first_words_text =
    codes "; a line begins with lifetime, auth-lifetime, entity, seed, modes, leak, clock, fetch, login, renew, connect, send, drop, tick, do, carry, lose, inject, again, cut, restart, failsave or settle, and a comment with #"

-- with what is said besides, and the words that begin one behind it
abbrev pub unknown_text : BadWord → List ℕ → List ℕ → List ℕ
unknown_text bad beside first_words = codes "its first word, " <> word_text bad.shown <> codes ", begins no line" <> beside <> first_words

-- with what is said besides, and the form of the line behind it
abbrev pub missing_text : BadWord → List ℕ → List ℕ → List ℕ
missing_text bad beside form =
    codes "it ends with " <> word_text bad.shown <> beside <> codes ", and has too few words: " <> decimal bad.fault.word
    <> codes " at least are wanted" <> form

abbrev pub extra_text : BadWord → List ℕ → List ℕ → List ℕ
extra_text bad beside form =
    codes "word " <> decimal bad.fault.word <> codes ", " <> word_text bad.shown <> codes ", is one too many" <> beside <> form

abbrev pub order_text : BadWord → List ℕ
order_text bad =
    codes "it stands too low: lifetime, auth-lifetime, entity, seed, modes and leak lines stand above all others; move it up" <> form_text bad.form

-- with what is wrong with the word, what is said besides, and the form of the line
abbrev pub problem_text : BadWord → List ℕ → List ℕ → List ℕ → List ℕ
problem_text bad problem beside form =
    codes "word " <> decimal bad.fault.word <> codes ", " <> word_text bad.shown <> codes ", " <> problem <> beside <> form

-- by the fault
abbrev pub wrong_as : LineFault → BadWord → List ℕ → List ℕ
wrong_as UnknownWord bad beside = unknown_text bad (or_kin beside bad.shown) first_words_text
wrong_as Missing bad beside = missing_text bad beside (form_text bad.form)
wrong_as Extra bad beside = extra_text bad beside (form_text bad.form)
wrong_as Order bad beside = order_text bad
wrong_as why bad beside = problem_text bad (problem_as why bad) beside (form_text bad.form)

abbrev pub wrong_text : LineSight → List ℕ
wrong_text sight = wrong_as sight.bad.fault.why sight.bad (beside_text sight.remark sight.bad.hint)
