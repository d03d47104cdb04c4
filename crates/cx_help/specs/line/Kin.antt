-- What else a file may be, told by the word that begins a line which is none of it.
use Rattle.std.specs.Prelude.{ℕ, Bool, ◌||◌, List, [], ◌∷◌, codes, if◌then◌else◌}
use Rattle.std.specs.Str.{bytes_eq}
use Rattle.cx_words.specs.declared.sight.Shown.{Shown}
use Rattle.cx_help.specs.line.Words.{front}

-- the word is this one
abbrev pub is_word : List ℕ → Shown → Bool
is_word text shown = bytes_eq (front shown) text

-- what begins a line of a journal
abbrev pub is_early_entry : Shown → Bool
is_early_entry shown =
    is_word (codes "saved") shown || is_word (codes "issued") shown || is_word (codes "fetched") shown || is_word (codes "looked") shown
    || is_word (codes "admitted") shown || is_word (codes "resumed") shown || is_word (codes "sent") shown

abbrev pub is_late_entry : Shown → Bool
is_late_entry shown =
    is_word (codes "handled") shown || is_word (codes "answered") shown || is_word (codes "refused") shown || is_word (codes "ended") shown
    || is_word (codes "restarted") shown || is_word (codes "broken") shown || is_word (codes "leaked") shown
    || is_word (codes "administered") shown

abbrev pub is_journal_word : Shown → Bool
is_journal_word shown = is_early_entry shown || is_late_entry shown

-- what begins a line of a schedule alone: one of its head, or another one
abbrev pub is_head_word : Shown → Bool
is_head_word shown =
    is_word (codes "lifetime") shown || is_word (codes "auth-lifetime") shown || is_word (codes "entity") shown
    || is_word (codes "seed") shown || is_word (codes "modes") shown || is_word (codes "leak") shown

abbrev pub is_step_word : Shown → Bool
is_step_word shown =
    is_word (codes "clock") shown || is_word (codes "tick") shown || is_word (codes "do") shown || is_word (codes "carry") shown
    || is_word (codes "lose") shown || is_word (codes "inject") shown || is_word (codes "again") shown || is_word (codes "cut") shown
    || is_word (codes "restart") shown || is_word (codes "failsave") shown || is_word (codes "settle") shown

-- what begins a line of a client's script, and of a daemon's
abbrev pub is_client_line : Shown → Bool
is_client_line shown =
    is_word (codes "login") shown || is_word (codes "renew") shown || is_word (codes "connect") shown || is_word (codes "send") shown

abbrev pub is_daemon_line : Shown → Bool
is_daemon_line shown =
    is_word (codes "fetch") shown || is_word (codes "drop") shown

-- what begins a line of any script
abbrev pub is_script_line : Shown → Bool
is_script_line shown = is_word (codes "gone") shown || is_word (codes "stop") shown

-- what begins a line of a keyring
abbrev pub is_keyring_line : Shown → Bool
is_keyring_line shown = is_word (codes "key") shown || is_word (codes "caps") shown

abbrev pub kin_text : Shown → List ℕ
kin_text shown =
    if is_journal_word shown then codes " (this looks like a journal, which cephx_cli audit reads)"
    else if is_head_word shown || is_step_word shown then codes " (a schedule has such lines, which cephx_cli replay reads)"
    else if is_client_line shown then codes " (a client's script has such lines, which cephx_cli client reads)"
    else if is_daemon_line shown then codes " (a daemon's script has such lines, which cephx_cli daemon reads)"
    else if is_script_line shown then codes " (a node's script has such lines, which cephx_cli mon, daemon and client read)"
    else if is_keyring_line shown then codes " (this looks like a keyring, which cephx_cli keyring reads)"
    else []

-- what is said of a line that begins with this word, where nothing else is
abbrev pub or_kin : List ℕ → Shown → List ℕ
or_kin [] shown = kin_text shown
or_kin (b ∷ bs) shown = b ∷ bs
