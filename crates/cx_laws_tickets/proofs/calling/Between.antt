-- What is known of a client with links to daemons between its steps: it holds as it begins, and each step keeps it.
use Rattle.std.proofs.Common.{◌≡◌, ℕ, false, List, refl, sym, ap, ◌∙◌, subst}
use Rattle.std.specs.List.{AllByRecursion}
use Rattle.cx_base.specs.Names.{Name}
use Rattle.cx_base.specs.declared.nodes.NodeName.{NodeName}
use Rattle.cx_base.specs.declared.nodes.NodeName.TheVariants as node
use Rattle.cx_laws_keys.specs.cx_journal.specs.declared.entries.Entry.{Entry}
use Rattle.cx_laws_keys.specs.cx_rules.specs.Holdings.{MonClient, no_view}
use Rattle.cx_laws_keys.specs.cx_rules.specs.Inputs.{Input}
use Rattle.cx_laws_keys.specs.cx_rules.specs.Links.{Link}
use Rattle.cx_laws_keys.specs.cx_rules.specs.Rows.{Outcome}
use Rattle.cx_run.specs.cx_rules_session.specs.ClientRule.{ClientStage, WholeClientNode, opening_whole_client, whole_client_rule}
use Rattle.cx_run.specs.cx_rules_session.specs.Sessions.{HeldSession}
use Rattle.cx_laws_keys.specs.cx_steps.specs.declared.seals.Logged.{Logged}
use Rattle.cx_laws_tickets.proofs.calling.ClientAfter.{client-after, whole_client_says}
use Rattle.cx_laws_tickets.proofs.calling.Sessions.{ClientStageOk, DialOk, IncomingLinksCome, HoldingsOk, client_stage-grows, dial-grows, holdings-grow}
use Rattle.cx_run.proofs.ClientKept.{whole-named}
use Rattle.cx_run.specs.Calling.{IsNoCall}
use Rattle.cx_laws_keys.proofs.keys.Known.{Inv}
use Rattle.cx_laws_keys.proofs.keys.Lists.{all-map}
use Rattle.cx_laws_keys.proofs.keys.Premises.{AreGranted}
use Rattle.cx_laws_keys.proofs.keys.Uses.{Grows, Uses, WholeRun}
use Rattle.cx_laws_keys.proofs.login.Facts.{MonClientKnown, known-grows}
use Rattle.cx_laws_keys.proofs.login.Rows.{AfterStep, NodeOk}

abbrev pub node_of : WholeClientNode → NodeName
node_of c = node.Entity c.own.mon_client.name

-- itself as one that asks; the session keys that it holds are those of its own tickets, and so is each that a link has that it waits for; its links are
-- as their stages need; and where it waits for a link to a daemon, has one or has a session, such links are asked for in this run
pub record ClientOk (run : WholeRun) (us : Uses) (c : WholeClientNode) : Type 0 where
  pub known : MonClientKnown run us c.own.mon_client.name c.own.mon_client.secret c.own.mon_client.view
  pub holds : HoldingsOk us (node_of c) c.own.mon_client.holdings
  pub dials : AllByRecursion (DialOk run us (node_of c)) c.own.dials
  pub sessions : AllByRecursion (λ (session : HeldSession). IncomingLinksCome run) c.own.sessions
  pub links : AllByRecursion (λ (l : Link ClientStage). ClientStageOk run us (node_of c) l.stage) c.links

pub client-grows : (run : WholeRun) (us vs : Uses) (c : WholeClientNode) → Grows us vs → ClientOk run us c → ClientOk run vs c
client-grows run us vs c f h = record {
  known = known-grows run us vs c.own.mon_client.name c.own.mon_client.secret c.own.mon_client.view f h.known;
  holds = holdings-grow us vs (node_of c) c.own.mon_client.holdings f h.holds;
  dials = all-map (DialOk run us (node_of c)) (DialOk run vs (node_of c)) (λ dial d. dial-grows run us vs (node_of c) dial f d) c.own.dials h.dials;
  sessions = h.sessions;
  links = all-map (λ (l : Link ClientStage). ClientStageOk run us (node_of c) l.stage) (λ (l : Link ClientStage). ClientStageOk run vs (node_of c) l.stage)
      (λ l st. client_stage-grows run us vs (node_of c) l.stage f st) c.links h.links;
}

-- as it begins
pub client-begins : (run : WholeRun) (us : Uses) (mon_client : MonClient) → MonClientKnown run us mon_client.name mon_client.secret no_view → ClientOk run us (opening_whole_client mon_client)
client-begins run us mon_client known = record {
  known = record { trusted = known.trusted; own = known.own; fetched = known.fetched };
  holds = record { auth = tt; mds = tt; osd = tt; mgr = tt };
  dials = tt;
  sessions = tt;
  links = tt;
}

-- ---- a step

module _ (run : WholeRun) (whole : List Logged) (name : Name) (line : ℕ) (us : Uses) (log : List Logged) (J : List Entry) (c : WholeClientNode) (input : Input) (reading : ℕ) (draw : List ℕ) where
  abbrev behind_step : Outcome WholeClientNode
  behind_step = whole_client_rule c input reading draw

  -- what is known behind the step, of the run and of the client
  pub record AfterClient : Type 0 where
    pub after : AfterStep (whole_client_says run J (node.Entity name)) run whole (node.Entity name) line us log J behind_step
    pub ok : ClientOk run after.uses behind_step.state

  -- at its own node, before its step
  before : node.Entity name ≡ node_of c → ClientOk run us c → NodeOk (whole_client_says run J (node.Entity name)) c us J
  before here h = record {
    own = record {
      mon_client = record { known = h.known; quiet = λ s has. has; count = refl };
      holds = subst (λ (n : NodeName). HoldingsOk us n c.own.mon_client.holdings) (sym here) h.holds;
      dials = subst (λ (n : NodeName). AllByRecursion (DialOk run us n) c.own.dials) (sym here) h.dials;
      sessions = h.sessions;
    };
    links = subst (λ (n : NodeName). AllByRecursion (λ (l : Link ClientStage). ClientStageOk run us n l.stage) c.links) (sym here) h.links;
  }

  pub client-steps : ClientOk run us c → c.own.mon_client.name ≡ name → Inv run whole us log J → (run.incoming_links ≡ false → IsNoCall input)
      → AreGranted run.leaked whole (node.Entity name) line log behind_step.out.seals → AfterClient
  client-steps h named i comes g =
      let here : node.Entity name ≡ node_of c = ap (λ (m : Name). node.Entity m) (sym named) in
      let a : AfterStep (whole_client_says run J (node.Entity name)) run whole (node.Entity name) line us log J behind_step =
      client-after run whole (node.Entity name) line us log J J c input reading draw (record { inv = i; ok = before here h; here = here; comes = comes }) g in
      let still : node.Entity name ≡ node_of behind_step.state = here ∙ ap (λ (m : Name). node.Entity m) (sym (whole-named c input reading draw)) in
      record {
        after = a;
        ok = record {
          known = a.good.own.mon_client.known;
          holds = subst (λ (n : NodeName). HoldingsOk a.uses n behind_step.state.own.mon_client.holdings) still a.good.own.holds;
          dials = subst (λ (n : NodeName). AllByRecursion (DialOk run a.uses n) behind_step.state.own.dials) still a.good.own.dials;
          sessions = a.good.own.sessions;
          links = subst (λ (n : NodeName). AllByRecursion (λ (l : Link ClientStage). ClientStageOk run a.uses n l.stage) behind_step.state.links) still a.good.links;
        };
      }
