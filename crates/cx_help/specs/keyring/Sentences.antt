-- What a user reads of a line of a keyring that is wrong.
use Rattle.std.specs.Prelude.{ℕ, ◌==◌, List, [], codes, Some, None, if◌then◌else◌}
use Rattle.std.specs.Fmt.{decimal}
use Rattle.cx_base.specs.Joined.{◌<>◌}
use Rattle.cx_keyring.specs.Sentences.{fault_text}
use Rattle.cx_help.specs.line.Remarks.{beside_text}
use Rattle.cx_help.specs.line.Words.{byte_text, word_text}
use Rattle.cx_help.specs.declared.remarks.Remark.TheVariants as remark
use Rattle.cx_words.specs.declared.sight.Hint.TheVariants as hint
use Rattle.cx_words.specs.declared.sight.Shown.{Shown}
use Rattle.cx_help.specs.declared.details.Detail.{Detail}
use Rattle.cx_help.specs.declared.details.Detail.TheVariants as detail
use Rattle.cx_help.specs.declared.keyring_sentences.WrongInKeyring.{WrongInKeyring}

-- a key has 40 characters
abbrev pub key_length_text : ℕ → List ℕ
key_length_text count =
    if count == 40 then codes " (it has 40 characters, as a key has, and one of them or more was changed)"
    else if count == 60 then codes " (it has 60 characters, as keys of AES-256 have, which aren't served; cephx_cli key writes one of AES-128)"
    else if count == 1 then codes " (it has 1 character)"
    else codes " (it has " <> decimal count <> codes " characters)"

-- caps for this service
abbrev pub caps_at_text : Shown → ℕ → List ℕ
caps_at_text shown number = codes " (caps for " <> word_text shown <> codes " stand at line " <> decimal number <> codes ")"

abbrev pub detail_text : Detail → List ℕ
detail_text detail.Nothing = []
detail_text detail.NoText = beside_text (Some remark.NoText) None
detail_text detail.ByteOrderMark = beside_text None (Some hint.ByteOrderMark)
detail_text detail.Schedule = codes " (this looks like a schedule, which cephx_cli replay reads)"
detail_text detail.OpenSection = codes " (the bracket isn't closed; write ] behind the name)"
detail_text detail.BehindSection =
    codes " (something stands behind the bracket, which ends the line of a section; a comment stands on a line of its own)"
detail_text detail.Journal = codes " (this looks like a journal, which cephx_cli audit reads)"
detail_text detail.ReturnInside = codes " (a CR stands in it, as the line ends of an old Mac; end each line with an LF)"
detail_text detail.LooksLikeKey = codes " (it looks like a key, whose line is key = TEXT, with small letters and an equals sign)"
detail_text detail.LooksLikeCaps =
    codes " (it looks like caps, whose line is caps SERVICE = TEXT, with small letters and an equals sign, as in caps osd = \"allow rw pool=rbd\")"
detail_text detail.Auid = codes " (auid is of older keyrings, and isn't kept here; leave the line out)"
detail_text detail.Secret = codes " (the key is written key = TEXT)"
detail_text (detail.Standing shown) = codes " (there stands " <> word_text shown <> codes ")"
detail_text detail.KeyInMarks = codes " (it stands in quotation marks; write it without them)"
detail_text (detail.KeyLength count) = key_length_text count
detail_text (detail.KeyBlankAt column) = codes " (it has a blank, at column " <> decimal column <> codes ")"
detail_text (detail.CommentAt column) =
    codes " (a comment begins at column " <> decimal column <> codes "; it stands on a line of its own)"
detail_text (detail.ByteAt byte column) =
    codes " (`" <> byte_text byte <> codes "` stands at column " <> decimal column <> codes ")"
detail_text (detail.OpenMarkAt column) = codes " (the quotation mark at column " <> decimal column <> codes " isn't closed)"
detail_text (detail.CapsLength count) = codes " (it has " <> decimal count <> codes " bytes)"
detail_text (detail.SectionAt number) = codes " (this section stands at line " <> decimal number <> codes ")"
detail_text (detail.KeyAt number) = codes " (the key of this section stands at line " <> decimal number <> codes ")"
detail_text (detail.CapsAt shown number) = caps_at_text shown number
detail_text (detail.KeyLikeAt number) = codes " (line " <> decimal number <> codes " looks like one; its form is key = TEXT, with small letters and an equals sign)"

-- the line, what is wrong with it and what to write, and what stands there
abbrev pub wrong_keyring_text : WrongInKeyring → List ℕ
wrong_keyring_text wrong =
    codes "line " <> decimal wrong.line <> codes " of the keyring is wrong: " <> fault_text wrong.why <> detail_text wrong.detail
