-- The sessions of a journal: which entries open and end one, and which of them an operation was handled in.
use Rattle.std.specs.Prelude.{ℕ, ◌≡◌, ◌==◌, ◌&&◌, ◌||◌, Bool, false, if◌then◌else◌, List, [], ◌∷◌, ◌++◌, Option, Some, None, option_and_then}
use Rattle.std.specs.List.{list_any}
use Rattle.std.specs.Option.{option_or}
use Rattle.cx_base.specs.Names.{Name, same_name}
use Rattle.cx_journal.specs.Nodes.{is_node_of}
use Rattle.cx_journal.specs.declared.entries.Entry.{Entry}
use Rattle.cx_journal.specs.declared.entries.Entry.TheVariants as entry
use Rattle.cx_journal.specs.declared.entries.Admitted.{Admitted}
use Rattle.cx_journal.specs.declared.entries.Handled.{Handled}

-- the session that an entry admits or resumes
abbrev pub session_of : Entry → Option Admitted
session_of (entry.Admitted a) = Some a
session_of (entry.Resumed a) = Some a
session_of _ = None

-- whether an entry ends the session of this number at this daemon as it was before: the session ended or was resumed, or the
-- daemon restarted
abbrev pub ends_session : Name → ℕ → Entry → Bool
ends_session daemon session (entry.Resumed a) = same_name a.daemon daemon && (a.session == session)
ends_session daemon session (entry.Ended e) = same_name e.daemon daemon && (e.session == session)
ends_session daemon session (entry.Restarted at) = is_node_of daemon at
ends_session daemon session _ = false

-- the session has the handled operation's daemon, number, epoch and cookie
pub record Admits (admitted : Admitted) (handled : Handled) : Type 0 where
  pub daemon : admitted.daemon ≡ handled.daemon
  pub session : admitted.session ≡ handled.session
  pub epoch : admitted.epoch ≡ handled.epoch
  pub cookie : admitted.cookie ≡ handled.cookie

-- whether it has these four
abbrev pub is_session_of : Handled → Admitted → Bool
is_session_of handled a =
    (a.cookie == handled.cookie) && same_name a.daemon handled.daemon && (a.session == handled.session) && (a.epoch == handled.epoch)

-- whether the entry admits or resumes a session that has them
abbrev pub is_opening : Handled → Entry → Bool
is_opening handled (entry.Admitted a) = is_session_of handled a
is_opening handled (entry.Resumed a) = is_session_of handled a
is_opening handled _ = false

-- An operation was handled in this session, behind these entries: one of them admitted or resumed the session, which has the
-- operation's daemon, number, epoch and cookie, and between that entry and the operation the session isn't ended, and not
-- opened again.
pub record IsHandledIn (earlier : List Entry) (handled : Handled) (session : Admitted) : Type 0 where
  pub before : List Entry
  pub opening : Entry
  pub between : List Entry
  pub place : earlier ≡ before ++ opening ∷ between
  pub opens : session_of opening ≡ Some session
  pub admits : Admits session handled
  pub stands : list_any (ends_session handled.daemon handled.session) between ≡ false
  pub latest : list_any (is_opening handled) between ≡ false

-- ---- the same session, computed

-- the last of these entries that passes the test
abbrev pub last_such : (Entry → Bool) → List Entry → Option Entry
last_such passes [] = None
last_such passes (e ∷ es) = option_or (last_such passes es) (if passes e then Some e else None)

-- the session that the entry opens, where the operation was handled in it
abbrev pub opened_for : Handled → Entry → Option Admitted
opened_for handled e = if is_opening handled e then session_of e else None

-- whether the entry opens or ends the operation's session
abbrev pub is_turn_of : Handled → Entry → Bool
is_turn_of handled e = is_opening handled e || ends_session handled.daemon handled.session e

-- the session that the operation was handled in behind these entries, where there is one: of the entries that open it or end
-- it the last opens it
abbrev pub session_at : List Entry → Handled → Option Admitted
session_at earlier handled = option_and_then (opened_for handled) (last_such (is_turn_of handled) earlier)
