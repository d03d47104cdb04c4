-- What a step of a node enters says nothing of a restart of a daemon, but that a daemon that restarts enters that alone: so what was opened at a daemon since its
-- last restart stays so.
use Rattle.std.proofs.Common.{◌≡◌, Bool, true, false, List, refl}
use Rattle.std.specs.List.{AllByRecursion}
use Rattle.cx_base.proofs.Names.{same_name_is}
use Rattle.cx_base.specs.Names.{Name, same_name}
use Rattle.cx_base.specs.declared.nodes.NodeName.{NodeName}
use Rattle.cx_base.specs.declared.nodes.NodeName.TheVariants as node
use Rattle.cx_journal.specs.Nodes.{is_node_of}
use Rattle.cx_journal.specs.declared.entries.Entry.{Entry}
use Rattle.cx_laws_run.specs.cx_laws_keys.proofs.keys.Journal.{entered}
use Rattle.cx_laws_run.specs.cx_laws_keys.proofs.keys.Known.{Within}
use Rattle.cx_laws_links.proofs.links.Since.{Goes, since, since-within}
use Rattle.cx_laws_run.proofs.sent.Lives.{leaves-goes}
use Rattle.cx_laws_sessions.proofs.session.Clients.{IsMute, client-mute, mute-leaves}
use Rattle.cx_laws_sessions.proofs.session.Daemons.{daemon-comes}
use Rattle.cx_laws_sessions.proofs.session.Keeping.{step-elsewhere}
use Rattle.cx_laws_sessions.proofs.session.Lists.{all-map}
use Rattle.cx_laws_sessions.proofs.session.Moves.{LinksServe}
use Rattle.cx_laws_sessions.proofs.session.Standing.{LeavesOf}
use Rattle.cx_laws_sessions.specs.cx_rules_session.specs.ClientRule.{me}
use Rattle.cx_laws_sessions.specs.cx_rules_session.specs.DaemonRule.{daemon_step}
use Rattle.cx_laws_sessions.specs.cx_rules_session.specs.IncomingLinks.{Served}
use Rattle.cx_laws_sessions.specs.cx_run.specs.Happenings.{EntityNode, OfClient, OfDaemon, Happening, Nodes, mon_client_in, entity_rule}

all-go : (daemon : Name) (es : List Entry) → AllByRecursion (LeavesOf daemon) es → AllByRecursion (Goes daemon) es
all-go daemon es leaves = all-map (LeavesOf daemon) (Goes daemon) (λ e left. leaves-goes daemon e left) es leaves

-- ---- of a node, for each other daemon

entity-goes : (nodes : Nodes) (h : Happening) (e : EntityNode) (other : Name) → same_name (mon_client_in e).name other ≡ false
    → AllByRecursion (Goes other) (entity_rule nodes.handlers e h.input h.reading h.draw).out.entries
entity-goes nodes h (OfClient c) other apart = all-go other _ (mute-leaves (me c.own) other apart _ (client-mute c h.input h.reading h.draw))
entity-goes nodes h (OfDaemon d) other apart =
    let o = daemon_step nodes.handlers d h.input h.reading h.draw in
    all-go other o.out.entries
    (step-elsewhere nodes.handlers d.node.own.mon_client.name other apart d.book o.state.book (λ (x : Served). LinksServe d.node.links x) (λ (x : Served). LinksServe o.state.node.links x) o.out.entries
    (daemon-comes nodes.handlers d h.input h.reading h.draw))

unlike : (a b : Name) → (a ≡ b → ⊥) → same_name a b ≡ false
unlike a b apart = by_test (same_name a b) refl
  where
    by_test : (t : Bool) → same_name a b ≡ t → t ≡ false
    by_test true is = absurd (apart (same_name_is a b is))
    by_test false is = refl

-- what was entered since the last restart of another daemon stays so behind a step of an entity
pub entity-within : (nodes : Nodes) (h : Happening) (e : EntityNode) (other : Name) → ((mon_client_in e).name ≡ other → ⊥) → (J : List Entry)
    → Within (since other J) (since other (entered J (entity_rule nodes.handlers e h.input h.reading h.draw).out.entries))
entity-within nodes h e other apart J =
    since-within other (entity_rule nodes.handlers e h.input h.reading h.draw).out.entries J (entity-goes nodes h e other (unlike (mon_client_in e).name other apart))

-- and behind a step of a node that has no sessions
pub mute-within : (n : NodeName) (daemon : Name) → is_node_of daemon n ≡ false → (es J : List Entry) → AllByRecursion (IsMute n) es → Within (since daemon J) (since daemon (entered J es))
mute-within n daemon apart es J mute = since-within daemon es J (all-go daemon es (mute-leaves n daemon apart es mute))

-- ---- of a daemon itself
