-- Each entry of a session, an operation or an answer is made by the node that it names, at each event of every list.
use Rattle.std.proofs.Common.{◌≡◌, List, [], ◌∷◌, Option, Some, None, inl, inr, refl, sym, ap, subst}
use Rattle.std.specs.List.{AllByRecursion}
use Rattle.cx_base.proofs.Names.{same_name_is}
use Rattle.cx_base.specs.Names.{Name}
use Rattle.cx_base.specs.declared.nodes.NodeName.{NodeName}
use Rattle.cx_base.specs.declared.nodes.NodeName.TheVariants as node
use Rattle.cx_desk.specs.Handlers.{Handlers}
use Rattle.cx_journal.specs.declared.entries.Entry.{Entry}
use Rattle.cx_journal.specs.declared.entries.Entry.TheVariants as entry
use Rattle.cx_run.specs.cx_authorize.specs.Daemon.{Authority}
use Rattle.cx_run.specs.cx_rules_session.specs.ClientRule.{me}
use Rattle.cx_run.specs.cx_rules_session.specs.DaemonRule.{daemon_step}
use Rattle.cx_run.specs.cx_rules_session.specs.IncomingLinks.{Served}
use Rattle.cx_run.specs.Happenings.{EntityNode, OfClient, OfDaemon, Happening, Nodes, mon_client_in, entity_of, entity_rule, entity_steps, is_of, steps, steps_of}
use Rattle.cx_run.specs.Opening.{Setup, nodes_of}
use Rattle.cx_run.specs.Points.{EachPoint, Point, points, points_onto}
use Rattle.cx_session.specs.Book.{Book}
use Rattle.cx_laws_sessions.specs.session.Entering.{EntersOwn, IsOwnEntry}
use Rattle.cx_laws_sessions.proofs.session.Clients.{IsMute, client-mute}
use Rattle.cx_laws_sessions.proofs.session.Daemons.{daemon-comes}
use Rattle.cx_laws_sessions.proofs.session.Lists.{all-map, found-passes}
use Rattle.cx_laws_sessions.proofs.session.Monitors.{monitor-mute}
use Rattle.cx_laws_sessions.proofs.session.Moves.{Admitting, Comes, Ending, IsQuiet, IsRight, LinksServe, Rested, Resuming, StepComes}

-- ---- a node without sessions

mute-own : (who : NodeName) (e : Entry) → IsMute who e → IsOwnEntry who e
mute-own who (entry.Sent x) h = sym h
mute-own who (entry.Answered x) h = sym h
mute-own who (entry.Restarted at) h = sym h
mute-own who (entry.Admitted x) h = absurd h
mute-own who (entry.Resumed x) h = absurd h
mute-own who (entry.Handled x) h = absurd h
mute-own who (entry.Ended x) h = absurd h
mute-own who (entry.Saved x) h = tt
mute-own who (entry.Issued x) h = tt
mute-own who (entry.Fetched x) h = tt
mute-own who (entry.Looked x) h = tt
mute-own who (entry.Refused x) h = tt
mute-own who (entry.Broken x) h = tt
mute-own who (entry.Leaked x) h = tt

-- ---- a daemon

quiet-own : (who : NodeName) (e : Entry) → IsQuiet e → IsOwnEntry who e
quiet-own who (entry.Sent x) h = absurd h
quiet-own who (entry.Answered x) h = absurd h
quiet-own who (entry.Restarted at) h = absurd h
quiet-own who (entry.Admitted x) h = absurd h
quiet-own who (entry.Resumed x) h = absurd h
quiet-own who (entry.Handled x) h = absurd h
quiet-own who (entry.Ended x) h = absurd h
quiet-own who (entry.Saved x) h = tt
quiet-own who (entry.Issued x) h = tt
quiet-own who (entry.Fetched x) h = tt
quiet-own who (entry.Looked x) h = tt
quiet-own who (entry.Refused x) h = tt
quiet-own who (entry.Broken x) h = tt
quiet-own who (entry.Leaked x) h = tt

right-own : (handlers : Handlers) (name : Name) (book : Book Authority) (had : Served → Type 0) (e : Entry) → IsRight handlers name book had e → IsOwnEntry (node.Entity name) e
right-own handlers name book had (entry.Handled x) h = ap (λ (n : Name). node.Entity n) (sym h.daemon)
right-own handlers name book had (entry.Sent x) h = absurd h
right-own handlers name book had (entry.Answered x) h = absurd h
right-own handlers name book had (entry.Restarted at) h = absurd h
right-own handlers name book had (entry.Admitted x) h = absurd h
right-own handlers name book had (entry.Resumed x) h = absurd h
right-own handlers name book had (entry.Ended x) h = absurd h
right-own handlers name book had (entry.Saved x) h = tt
right-own handlers name book had (entry.Issued x) h = tt
right-own handlers name book had (entry.Fetched x) h = tt
right-own handlers name book had (entry.Looked x) h = tt
right-own handlers name book had (entry.Refused x) h = tt
right-own handlers name book had (entry.Broken x) h = tt
right-own handlers name book had (entry.Leaked x) h = tt

module _ (handlers : Handlers) (name : Name) (book : Book Authority) (had has : Served → Type 0) (es : List Entry) (new : Book Authority) where
  abbrev AreOwn : List Entry → Type 0
  AreOwn xs = AllByRecursion (IsOwnEntry (node.Entity name)) xs

  comes-own : Comes handlers name book had has es new → AreOwn es
  comes-own (Rested r) = all-map (IsRight handlers name book had) (IsOwnEntry (node.Entity name)) (right-own handlers name book had) es r.right
  comes-own (Admitting r) =
      subst AreOwn (sym r.entries_are)
      (ap (λ (n : Name). node.Entity n) (sym r.daemon), all-map IsQuiet (IsOwnEntry (node.Entity name)) (quiet-own (node.Entity name)) r.rest r.quiet)
  comes-own (Resuming r) =
      subst AreOwn (sym r.entries_are)
      (ap (λ (n : Name). node.Entity n) (sym r.daemon), all-map IsQuiet (IsOwnEntry (node.Entity name)) (quiet-own (node.Entity name)) r.rest r.quiet)
  comes-own (Ending r) = subst AreOwn (sym r.entries_are) (refl, tt)

  step-own : StepComes handlers name book had has es new → AreOwn es
  step-own (inl comes) = comes-own comes
  step-own (inr loses) = subst AreOwn (sym loses.entries_are) (refl, tt)

-- ---- an event

module _ (nodes : Nodes) (h : Happening) where
  abbrev Own : NodeName → List Entry → Type 0
  Own who xs = AllByRecursion (IsOwnEntry who) xs

  rule-own : (e : EntityNode) → Own (node.Entity (mon_client_in e).name) (entity_rule nodes.handlers e h.input h.reading h.draw).out.entries
  rule-own (OfClient c) =
      all-map (IsMute (me c.own)) (IsOwnEntry (me c.own)) (mute-own (me c.own)) (entity_rule nodes.handlers (OfClient c) h.input h.reading h.draw).out.entries
      (client-mute c h.input h.reading h.draw)
  rule-own (OfDaemon d) =
      let o = daemon_step nodes.handlers d h.input h.reading h.draw in
      step-own nodes.handlers d.node.own.mon_client.name d.book (λ (x : Served). LinksServe d.node.links x) (λ (x : Served). LinksServe o.state.node.links x) o.out.entries o.state.book
      (daemon-comes nodes.handlers d h.input h.reading h.draw)

  entity-own : (name : Name) (found : Option EntityNode) → entity_of name nodes ≡ found → Own (node.Entity name) (entity_steps nodes h name found).out.entries
  entity-own name None is = tt
  entity-own name (Some e) is =
      let named : (mon_client_in e).name ≡ name = same_name_is (mon_client_in e).name name (found-passes (is_of name) nodes.entities e is) in
      subst (λ (n : Name). Own (node.Entity n) (entity_rule nodes.handlers e h.input h.reading h.draw).out.entries) named (rule-own e)

  node-own : (n : NodeName) → Own n (steps_of nodes h n).out.entries
  node-own node.Monitor =
      all-map (IsMute node.Monitor) (IsOwnEntry node.Monitor) (mute-own node.Monitor) (steps_of nodes h node.Monitor).out.entries (monitor-mute nodes h.input h.reading h.draw h.left)
  node-own (node.Entity name) = entity-own name (entity_of name nodes) refl

-- ---- every list of events

own-onto : (hs : List Happening) (past : List Point) (nodes : Nodes) → EachPoint EntersOwn past → EachPoint EntersOwn (points_onto past nodes hs)
own-onto [] past nodes each = each
own-onto (h ∷ hs) past nodes each = own-onto hs (record { nodes = nodes; happening = h } ∷ past) (steps nodes h).nodes (node-own nodes h h.node, each)

-- whatever was forged
pub all-own : (setup : Setup) (hs : List Happening) → EachPoint EntersOwn (points setup hs)
all-own setup hs = own-onto hs [] (nodes_of setup) tt
