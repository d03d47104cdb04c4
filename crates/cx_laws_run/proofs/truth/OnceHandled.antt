-- That an operation of an entity is handled once: of each entry of a journal.
use Rattle.std.proofs.Common.{◌≡◌, List}
use Rattle.std.specs.Prelude.{Contains}
use Rattle.cx_base.specs.Names.{Name}
use Rattle.cx_journal.specs.declared.entries.Entry.{Entry}
use Rattle.cx_journal.specs.declared.entries.Entry.TheVariants as journal
use Rattle.cx_journal.specs.declared.entries.Handled.{Handled}
use Rattle.cx_laws_run.specs.cx_laws_keys.proofs.keys.Uses.{WholeRun}
use Rattle.cx_laws_run.specs.cx_laws_links.proofs.links.IncomingTakes.{IsServedIn}
use Rattle.cx_laws_run.specs.cx_laws_links.proofs.answers.Known.{WasServed}

-- no operation that is handled in a session of an entity that didn't leak was handled before in one of its sessions, under the same cookie and with the same seq
abbrev pub HandledOnce : WholeRun → List Entry → Entry → Type 0
HandledOnce run earlier (journal.Handled x) =
    (name : Name) → (Contains run.leaked name → ⊥) → IsServedIn earlier name x → (y : Handled) → WasServed earlier name y → y.cookie ≡ x.cookie → y.seq ≡ x.seq → ⊥
HandledOnce run earlier _ = Unit {0}
