-- What stands in a line of a keyring that is wrong, where that helps.
use Rattle.std.specs.Prelude.{ℕ, ◌==◌, Bool, ◌||◌, List, [], ◌∷◌, drop, codes, Option, Some, None, if◌then◌else◌}
use Rattle.std.specs.List.{list_any}
use Rattle.cx_keyring.specs.declared.faults.KeyringFault.{KeyringFault}
use Rattle.cx_keyring.specs.declared.faults.KeyringFault.TheVariants.{NoSection, BadName, BadKey, BadService, BadCaps, Repeated, NoKey, Unreadable}
use Rattle.cx_help.specs.line.Remarks.{is_no_text, starts}
use Rattle.cx_help.specs.line.Sights.{line_at}
use Rattle.cx_words.specs.lines.Sights.{shown_of}
use Rattle.cx_help.specs.declared.details.Detail.{Detail}
use Rattle.cx_help.specs.declared.details.Detail.TheVariants as detail
use Rattle.cx_help.specs.keyring.Settings.{behind_blanks, behind_caps, behind_word, caps_count, column, has_return, looks_like_auid, looks_like_caps, looks_like_journal, looks_like_key, looks_like_schedule, looks_like_secret, opens_section, service_word, value_of, without_return, word_count}
use Rattle.cx_help.specs.keyring.Standing.{key_like_from, label_of, stood_from}

-- ']' (93)
abbrev pub is_closing : ℕ → Bool
is_closing b = b == 93

-- a section whose line doesn't end with its bracket
abbrev pub bracket_detail : Bool → Detail
bracket_detail closed = if closed then detail.BehindSection else detail.OpenSection

-- a line of no form of a keyring's
abbrev pub front_detail : List ℕ → Detail
front_detail line =
    if is_no_text line then detail.NoText
    else if starts (239 ∷ 187 ∷ 191 ∷ []) line then detail.ByteOrderMark
    else if has_return line then detail.ReturnInside
    else if opens_section line then bracket_detail (list_any is_closing line)
    else if looks_like_schedule line then detail.Schedule
    else if looks_like_journal line then detail.Journal
    else detail.Nothing

-- what a line of a section may be meant for
abbrev pub meant_for : List ℕ → Detail
meant_for line =
    if looks_like_key line then detail.LooksLikeKey
    else if looks_like_caps line then detail.LooksLikeCaps
    else if looks_like_auid line then detail.Auid
    else if looks_like_secret line then detail.Secret
    else detail.Nothing

-- the same in a section
abbrev pub or_meant : Detail → List ℕ → Detail
or_meant detail.Nothing line = meant_for line
or_meant found line = found

-- a comment begins with '#' or ';'
abbrev pub begins_comment : List ℕ → Bool
begins_comment text = starts (codes "#") text || starts (codes ";") text

-- ---- keys

-- what is wrong with the text of a key in this line, of which the first word has so many bytes, by what stands behind that and
-- behind the blanks there
abbrev pub key_behind : List ℕ → ℕ → List ℕ → List ℕ → Detail
key_behind line count rest [] = detail.KeyLength count
key_behind line count rest (b ∷ bs) =
    if begins_comment (b ∷ bs) then detail.CommentAt (column line (b ∷ bs)) else detail.KeyBlankAt (column line rest)

abbrev pub key_in : List ℕ → List ℕ → Detail
key_in line text =
    if starts (codes "\"") text then detail.KeyInMarks
    else key_behind line (word_count text) (behind_word text) (behind_blanks (behind_word text))

-- ---- caps

-- what is wrong with caps of so many bytes in this line, by their closing mark with all behind it, and what stands behind the
-- blanks there
abbrev pub closed_detail : List ℕ → ℕ → List ℕ → List ℕ → Detail
closed_detail line count mark [] = detail.CapsLength count
closed_detail line count mark (b ∷ bs) =
    if begins_comment (b ∷ bs) then detail.CommentAt (column line (b ∷ bs)) else detail.ByteAt 34 (column line mark)

-- the same by what stands behind those bytes, where this is their opening mark with all behind it
abbrev pub marked_behind : List ℕ → List ℕ → ℕ → List ℕ → Detail
marked_behind line text count [] = detail.OpenMarkAt (column line text)
marked_behind line text count (b ∷ bs) =
    if b == 34 then closed_detail line count (b ∷ bs) (behind_blanks bs) else detail.ByteAt b (column line (b ∷ bs))

-- the same of caps without marks
abbrev pub plain_behind : List ℕ → ℕ → List ℕ → Detail
plain_behind line count [] = detail.CapsLength count
plain_behind line count (b ∷ bs) = detail.ByteAt b (column line (b ∷ bs))

abbrev pub caps_in : List ℕ → List ℕ → Detail
caps_in line text =
    if starts (codes "\"") text then marked_behind line text (caps_count (drop 1 text)) (behind_caps (drop 1 text))
    else plain_behind line (caps_count text) (behind_caps text)

-- ---- what stands twice

abbrev pub stood_detail : List ℕ → ℕ → Detail
stood_detail line number =
    if opens_section line then detail.SectionAt number
    else if looks_like_key line then detail.KeyAt number
    else detail.CapsAt (shown_of (service_word line)) number

-- ---- a section without a key

abbrev pub meant_detail : Option ℕ → Detail
meant_detail None = detail.Nothing
meant_detail (Some number) = detail.KeyLikeAt number

-- ---- by the fault

abbrev pub detail_in : List (List ℕ) → ℕ → List ℕ → KeyringFault → Detail
detail_in lines number line NoSection = front_detail line
detail_in lines number line BadName = detail.Standing (shown_of (behind_blanks line))
detail_in lines number line BadKey = key_in line (value_of line)
detail_in lines number line BadService = detail.Standing (shown_of (service_word line))
detail_in lines number line BadCaps = caps_in line (value_of line)
detail_in lines number line Repeated = stood_detail line (stood_from (label_of line) number 1 0 lines)
detail_in lines number line NoKey = meant_detail (key_like_from number 1 lines)
detail_in lines number line Unreadable = or_meant (front_detail line) line

-- of the line of this number, from 1, in these lines, which has this fault
abbrev pub detail_of : List (List ℕ) → ℕ → KeyringFault → Detail
detail_of lines number why = detail_in lines number (without_return (line_at lines number)) why
