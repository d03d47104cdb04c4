-- Each outcome of a client's step keeps what is known of links to the monitor, and of its own links.
use Rattle.std.proofs.Common.{◌≡◌, ℕ, false, List, refl}
use Rattle.std.specs.List.{AllByRecursion}
use Rattle.cx_base.specs.Names.{Name, is_daemon_type}
use Rattle.cx_base.specs.declared.nodes.NodeName.{NodeName}
use Rattle.cx_base.specs.declared.nodes.NodeName.TheVariants as node
use Rattle.cx_journal.specs.declared.entries.Entry.{Entry}
use Rattle.cx_laws_run.specs.cx_laws_tickets.proofs.calling.Between.{ClientOk}
use Rattle.cx_laws_run.proofs.cover.MonClientBehind.{MonClientReady}
use Rattle.cx_laws_run.proofs.cover.ClientLinks.{ClientMoved, LinkBefore}
use Rattle.cx_laws_run.specs.cx_laws_tickets.proofs.fetch.AllTold.{WasAsked, WasDrawn}
use Rattle.cx_laws_run.specs.cx_laws_tickets.proofs.fetch.AskedKnown.{Told}
use Rattle.cx_laws_run.specs.cx_laws_tickets.proofs.fetch.ClientTells.{ClientLinkTold}
use Rattle.cx_laws_run.specs.cx_laws_tickets.proofs.fetch.Retied.{Handed, retied}
use Rattle.cx_laws_run.specs.cx_laws_keys.proofs.keys.Known.{Inv}
use Rattle.cx_laws_run.specs.cx_laws_keys.proofs.keys.Premises.{AreGranted}
use Rattle.cx_laws_run.specs.cx_laws_keys.proofs.keys.Uses.{Uses, WholeRun}
use Rattle.cx_laws_run.specs.cx_laws_keys.proofs.login.MonClientRows.{NeverExcepted}
use Rattle.cx_laws_run.specs.cx_rules.specs.Inputs.{Input}
use Rattle.cx_laws_run.specs.cx_rules.specs.Rows.{Outcome, idles}
use Rattle.cx_laws_run.specs.cx_rules_session.specs.ClientRule.{WholeClientNode, calls, refuses_command, restarted, unreached, whole_client_rule}
use Rattle.cx_laws_run.specs.cx_rules_session.specs.Sessions.{held_gid}
use Rattle.cx_steps.specs.declared.seals.Logged.{Logged}
use Rattle.cx_steps.specs.declared.seals.SealEntry.{SealEntry}
use Rattle.cx_laws_run.specs.cx_run.proofs.Outcomes.{EachOutcome, step-keeps}
use Rattle.cx_laws_run.specs.cx_run.specs.Points.{Point, stepped_at}
use Rattle.cx_laws_run.proofs.cover.ClientRests as rests
use Rattle.cx_laws_run.proofs.cover.ClientMonClients.{asks-moves, renews-moves}
use Rattle.cx_laws_run.proofs.cover.ClientCalls.{later-moves, presents-moves, sends-moves}

module _ (run : WholeRun) (whole : List Logged) (us vs : Uses) (logins : List Handed) (told : Told) (past : List Point) (p : Point) (log : List Logged) (J : List Entry) (c : WholeClientNode)
    (r : MonClientReady run whole (retied logins us) vs logins told past p c.own.mon_client.name log J) (inv : Inv run whole us log J) (free : NeverExcepted run whole (node.Entity c.own.mon_client.name) us c.own.mon_client.name)
    (ok : ClientOk run us c) (client : is_daemon_type c.own.mon_client.name.kind ≡ false)
    (tells : AllByRecursion (ClientLinkTold (WasDrawn past c.own.mon_client.name) (WasAsked past c.own.mon_client.name)) c.links)
    (before : AllByRecursion (LinkBefore run whole (retied logins us) vs logins told past p log J c.own.mon_client.name r) c.links) where
  abbrev name : Name
  name = c.own.mon_client.name

  abbrev n : NodeName
  n = node.Entity name

  abbrev line : ℕ
  line = p.happening.line

  abbrev ws : Uses
  ws = retied logins us

  abbrev reading : ℕ
  reading = p.happening.reading

  abbrev draw : List ℕ
  draw = p.happening.draw

  abbrev Granted : List SealEntry → Type 0
  Granted es = AreGranted run.leaked whole n line log es

  abbrev Moved_ : Outcome WholeClientNode → Type 0
  Moved_ o = ClientMoved run whole ws vs logins told past p log J name r o

  -- where the step comes to this outcome, and what it logs is granted
  abbrev pub Moves : Outcome WholeClientNode → Type 0
  Moves o = (stepped_at p).out ≡ o.out → Granted o.out.seals → Moved_ o

  -- ---- a step

  -- at any event
  pub each-moves : (input : Input) → EachOutcome c reading draw input Moves
  each-moves input = record {
    idle = λ at g. rests.still run whole us vs logins told past p log J c r before (idles c) tt refl tt;
    comes = rests.comes-moves run whole us vs logins told past p log J c r before;
    asks = asks-moves run whole us vs logins told past p log J c r inv free ok client tells before;
    presents = presents-moves run whole us vs logins told past p log J c r inv free ok client tells before;
    refuses = λ why told_so at g. rests.still run whole us vs logins told past p log J c r before (refuses_command c why) tt refl (tt, tt);
    begins = λ number to dial is. rests.begins-moves run whole us vs logins told past p log J c r before number to dial;
    reaches_none = λ to at g. rests.still run whole us vs logins told past p log J c r before (unreached c to) tt refl (tt, tt);
    goes = λ number link is. rests.goes-moves run whole us vs logins told past p log J c r before number link;
    logs = rests.logs-moves run whole us vs logins told past p log J c r before;
    renews_there = renews-moves run whole us vs logins told past p log J c r inv free ok client tells before;
    dials = λ daemon lossy held is found at g.
        rests.still run whole us vs logins told past p log J c r before (calls c (record { callee = record { daemon = daemon; lossy = lossy }; held = held; gid = held_gid c.own.mon_client.holdings })) tt refl tt;
    sends_later = λ daemon session operation seq is. later-moves run whole us vs logins told past p log J c r inv free ok client tells before session operation seq;
    sends_there = λ daemon session operation seq link s callee cookie is found. sends-moves run whole us vs logins told past p log J c r inv free ok client tells before session operation seq link s callee cookie found;
    restarts = λ at g. rests.moves run whole us vs logins told past p log J c r before (restarted c) tt tt (tt, tt);
  }

  pub step-moves : (stepped_at p).out ≡ (whole_client_rule c p.happening.input reading draw).out → Granted (whole_client_rule c p.happening.input reading draw).out.seals
      → Moved_ (whole_client_rule c p.happening.input reading draw)
  step-moves at g = step-keeps c reading draw Moves p.happening.input (each-moves p.happening.input) at g
