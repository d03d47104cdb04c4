-- The forms of a journal's lines.
use Rattle.std.specs.Prelude.{ℕ, ◌==◌, Bool, not, List, [], codes, Option, Some, None}
use Rattle.std.specs.List.{take_while}
use Rattle.cx_audit_text.specs.words.Choices.{head_of}
use Rattle.cx_audit_text.specs.declared.choices.JournalHead.{JournalHead}
use Rattle.cx_audit_text.specs.declared.choices.JournalHead.TheVariants as head

-- the word with which a line begins, up to a space (32)
abbrev pub is_of_head : ℕ → Bool
is_of_head b = not (b == 32)

abbrev pub first_of : List ℕ → List ℕ
first_of line = take_while is_of_head line

-- the form of a line, with an example
abbrev pub form_text : JournalHead → List ℕ
form_text head.Saved = codes "; its form is: saved NEXT_GID, as in: saved 2"
form_text head.Issued = codes "; its form is: issued NUMBER ENTITY SERVICE GID GENERATION CREATED EXPIRES \"CAPS\", as in: issued 3 client.a osd 2 2 1000 4600 \"allow *\""
form_text head.Fetched = codes "; its form is: fetched DAEMON ASKED IDS, as in: fetched osd.0 1000 1,2,3"
form_text head.Looked = codes "; its form is: looked DAEMON LINK IDS ASKED, as in: looked osd.0 3 1,2,3 1000"
form_text head.Admitted = codes "; its form is: admitted DAEMON SESSION EPOCH COOKIE ENTITY GID AT \"CAPS\", as in: admitted osd.0 1 1 c1 client.a 2 1000 \"allow *\""
form_text head.Resumed = codes "; its form is: resumed DAEMON SESSION EPOCH COOKIE ENTITY GID AT \"CAPS\", as in: resumed osd.0 1 2 c1 client.a 2 1000 \"allow *\""
form_text head.Sent = codes "; its form is: sent CLIENT DAEMON COOKIE SEQ ACCESS POOL NAMESPACE OBJECT DATA, as in: sent client.a osd.0 c1 1 read rbd - obj1 -"
form_text head.Handled = codes "; its form is: handled DAEMON SESSION EPOCH COOKIE SEQ ACCESS POOL NAMESPACE OBJECT DATA OUTCOME, as in: handled osd.0 1 1 c1 1 read rbd - obj1 - done"
form_text head.Answered = codes "; its form is: answered CLIENT DAEMON NUMBER OUTCOME, as in: answered client.a osd.0 1 done"
form_text head.Refused = codes "; its form is: refused NODE LINK REASON, and what the reason takes, as in: refused client.a 3 denied 13"
form_text head.Ended = codes "; its form is: ended DAEMON SESSION, as in: ended osd.0 1"
form_text head.Restarted = codes "; its form is: restarted NODE, as in: restarted osd.0"
form_text head.Broken = codes "; its form is: broken PREMISE NODE KIND LINE, as in: broken draw client.b challenge 7"
form_text head.Leaked = codes "; its form is: leaked CLIENT, as in: leaked client.a"
form_text head.Administered = codes "; its form is: administered ACTOR VERB NAME AT OUTCOME, as in: administered client.admin get client.a 1000 done"

abbrev pub form_of_head : Option JournalHead → List ℕ
form_of_head None = []
form_of_head (Some head) = form_text head

-- that of a line which begins so
abbrev pub line_form : List ℕ → List ℕ
line_form line = form_of_head (head_of (first_of line))
