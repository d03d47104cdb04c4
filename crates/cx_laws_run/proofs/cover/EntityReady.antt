-- What is known of an entity before its event, over keys as they were handed over: as a step on its link to the monitor needs it.
use Rattle.std.proofs.Common.{List, refl, sym, ap, ◌∙◌}
use Rattle.cx_base.specs.Names.{Name}
use Rattle.cx_base.specs.declared.nodes.NodeName.{NodeName}
use Rattle.cx_base.specs.declared.nodes.NodeName.TheVariants as node
use Rattle.cx_journal.specs.declared.entries.Entry.{Entry}
use Rattle.cx_laws_run.proofs.cover.MonClientBehind.{MonClientReady}
use Rattle.cx_laws_run.proofs.cover.Steps.{Ready}
use Rattle.cx_laws_run.specs.cx_laws_tickets.proofs.fetch.AskedKnown.{Told}
use Rattle.cx_laws_run.specs.cx_laws_tickets.proofs.fetch.Retied.{Handed, grows-retied, inv-retied, means-before, retied, whose-retied}
use Rattle.cx_laws_run.specs.cx_laws_keys.proofs.keys.Journal.{entered}
use Rattle.cx_laws_run.specs.cx_laws_keys.proofs.keys.Premises.{behind}
use Rattle.cx_laws_run.specs.cx_laws_keys.proofs.keys.Uses.{Uses, WholeRun, whose}
use Rattle.cx_laws_run.specs.cx_laws_keys.proofs.login.MonClientRows.{NeverExcepted}
use Rattle.cx_laws_run.specs.cx_run.specs.Happenings.{Stepped}
use Rattle.cx_laws_run.specs.cx_run.specs.Points.{Point}
use Rattle.cx_steps.specs.declared.seals.Logged.{Logged}

-- nothing is excepted there under its keys
pub free-retied : (run : WholeRun) (whole : List Logged) (n : NodeName) (us : Uses) (name : Name) (logins : List Handed) → NeverExcepted run whole n us name
    → NeverExcepted run whole n (retied logins us) name
free-retied run whole n us name logins free key v m its excepted =
    let b = means-before logins us key v m in
    free key b.0 b.1 (sym (whose-retied logins key b.0) ∙ ap whose (sym b.2) ∙ its) excepted

pub mon_client-ready : (run : WholeRun) (whole : List Logged) (us vs : Uses) (logins : List Handed) (told : Told) (past : List Point) (p : Point) (name : Name) (log : List Logged) (J : List Entry) (s : Stepped)
    → Ready run whole us vs logins told past p (node.Entity name) log J s → NeverExcepted run whole (node.Entity name) us name
    → MonClientReady run whole (retied logins us) (retied logins vs) logins told past p name log J
mon_client-ready run whole us vs logins told past p name log J s r free = record {
  here = r.here;
  one = (inv-retied logins vs (entered J s.out.entries) run whole (behind (node.Entity name) p.happening.line s.out.seals log) r.inv_behind).one;
  grows = grows-retied us vs logins logins (λ key acceptor number m challenge means. refl) r.grows;
  inv = inv-retied logins us J run whole log r.inv;
  known_of = r.has.known_of;
  handed = r.has.handed;
  fresh = r.fresh;
  bytes = r.bytes.0;
  free = free-retied run whole (node.Entity name) us name logins free;
}
