-- What a row changes of the monitor's own: what is kept, and what was saved last.
use Rattle.std.proofs.Common.{◌≡◌, ℕ, Bool, true, false, ◌⊎◌, inl, inr, List, Some, None, refl, sym, ap, subst}
use Rattle.std.specs.Prelude.{if◌then◌else◌}
use Rattle.cx_keyserver.specs.cx_keyring.specs.declared.entries.Entry.{Entry}
use Rattle.cx_keyserver.specs.Servers.{Server}
use Rattle.cx_node.specs.declared.rows.Row.{Row as Made}
use Rattle.cx_rotate.specs.declared.states.KeptState.{KeptState}
use Rattle.cx_rules.specs.Monitor.{Monitor, MonitorRow}
use Rattle.cx_mon.specs.acceptor.Rows.{IsMonitorRow, IsSameBut, with_keys}
use Rattle.cx_mon.specs.acceptor.Stages.{MonitorLink}
use Rattle.cx_mon.specs.declared.own.Mark.{Mark}

-- what a row changed is what is to be changed
pub change_made : (old new : Monitor) (number : ℕ) (mark : Mark) (due : MonitorRow) (row : Made MonitorLink) → IsSameBut old new → mark.state ≡ new.server.state
    → mark.saved ≡ new.saved → IsMonitorRow number new due row → IsMonitorRow number (with_keys old mark) due row
change_made old new number mark due row same state saved m =
    let P : Monitor → Type 0 = λ o. with_keys o mark ≡ new in
    let is : with_keys old mark ≡ new = subst P (sym same) (rw (state, saved) refl) in
    subst (λ (o : Monitor). IsMonitorRow number o due row) (sym is) m

-- with the keyring as it was, all but what is kept and what was saved last is as before
pub same_but : (old : Monitor) (server : Server) (saved : KeptState) → server.ring ≡ old.server.ring
    → IsSameBut old (record old { server = server; saved = saved })
same_but old server saved e =
    let with : List Entry → Monitor = λ ring. record old { server = record old.server { ring = ring } } in sym (ap with e)

-- what is saved is the state, or nothing
pub changed-saves : (saved state : KeptState) (b : Bool) → ((if b then None else Some state) ≡ None) ⊎ ((if b then None else Some state) ≡ Some state)
changed-saves saved state true = inl refl
changed-saves saved state false = inr refl
