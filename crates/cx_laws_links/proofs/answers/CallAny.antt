-- Each answer that a client enters tells how an operation ended that was handled before.
use Rattle.std.proofs.Common.{◌≡◌, List, sym, ap, ◌∙◌, subst}
use Rattle.cx_base.specs.Names.{Name}
use Rattle.cx_base.specs.declared.kinds.EntityType.{EntityType}
use Rattle.cx_journal.specs.declared.entries.Answered.{Answered}
use Rattle.cx_journal.specs.declared.entries.Entry.{Entry}
use Rattle.cx_journal.specs.declared.entries.Handled.{Handled}
use Rattle.cx_laws_links.proofs.answers.Known.{WasServed}
use Rattle.cx_laws_links.proofs.answers.CallHeard.{IsTrueEnd}

-- ---- what is read

-- ---- what the law asks

-- an answer tells how an operation ended that was handled at a daemon of the type that was asked, with its tid, its outcome and its cookie, in a session of its client
pub record IsToldSo (J : List Entry) (x : Answered) : Type 0 where
  pub handled : Handled
  pub kind : handled.daemon.kind ≡ x.daemon.kind
  pub seq : handled.seq ≡ x.tid
  pub outcome : handled.outcome ≡ x.outcome
  pub cookie : handled.cookie ≡ x.cookie
  pub served : WasServed J x.client handled

-- so it is of each that is entered, where the key of the link is for the type that was called
pub told-so : (J : List Entry) (service : EntityType) (name mon_client daemon : Name) (x : Answered) → service ≡ daemon.kind → mon_client ≡ name → IsTrueEnd J service name mon_client daemon x → IsToldSo J x
told-so J service name mon_client daemon x for own h = record {
  handled = h.handled;
  kind = h.kind ∙ for ∙ ap (λ (m : Name). m.kind) (sym h.daemon_is);
  seq = h.seq;
  outcome = h.ended;
  cookie = h.cookie_is;
  served = subst (λ (m : Name). WasServed J m h.handled) (sym (h.client_is ∙ own)) h.served;
}
