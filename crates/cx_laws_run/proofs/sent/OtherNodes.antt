-- What is known of each entity stays known behind a step of another node: of a client that says some words on a link of its own, of a daemon that joins
-- sessions to keys of its own links, and of the monitor, which does neither.
use Rattle.std.proofs.Common.{◌≡◌, ℕ, ◌+◌, Bool, true, false, cond, List, [], ◌∷◌, find, map, Some, inl, inr, ◌⊎◌, refl, sym, ap, ◌∙◌, arith}
use Rattle.std.specs.Prelude.{Contains, if◌then◌else◌}
use Rattle.std.specs.List.{AllByRecursion}
use Rattle.cx_base.proofs.Names.{same_name_self}
use Rattle.cx_base.specs.Names.{Name, same_name}
use Rattle.cx_base.specs.declared.nodes.NodeName.{NodeName}
use Rattle.cx_base.specs.declared.nodes.NodeName.TheVariants as node
use Rattle.cx_journal.specs.declared.entries.Entry.{Entry}
use Rattle.cx_laws_run.specs.cx_laws_keys.proofs.keys.Known.{Within}
use Rattle.cx_laws_run.specs.cx_laws_keys.proofs.keys.Lists.{all-map}
use Rattle.cx_laws_run.specs.cx_laws_keys.proofs.keys.Premises.{behind}
use Rattle.cx_laws_run.specs.cx_laws_keys.proofs.keys.Uses.{AtDaemon, Connected, Grows, Means, Use, Uses, WholeRun}
use Rattle.cx_laws_links.proofs.links.IncomingJoins.{JoinsNone, incoming-joins}
use Rattle.cx_laws_links.proofs.links.IncomingNodes.{HostKnown, LinksKnown}
use Rattle.cx_laws_links.proofs.links.Since.{since}
use Rattle.cx_laws_links.proofs.links.IncomingSteps.{client-later, serves-stays}
use Rattle.cx_laws_links.proofs.links.Known.{CallTold, ClientTold, IncomingTold, IsIncoming, StageTold, Told}
use Rattle.cx_laws_links.proofs.links.Moving.{Moved, Quiets, moved-call, moved-incoming}
use Rattle.cx_laws_links.proofs.links.Spoken.{is_connectors}
use Rattle.cx_laws_links.proofs.links.Written.{IsLinkKey}
use Rattle.cx_laws_links.specs.cx_laws_keys.proofs.series.Contents.{contents_by}
use Rattle.cx_laws_sessions.specs.cx_rules.specs.Acceptor as acceptor
use Rattle.cx_laws_sessions.specs.cx_rules.specs.Links.{Link}
use Rattle.cx_laws_sessions.specs.cx_rules.specs.Secured.{Secured}
use Rattle.cx_laws_sessions.specs.cx_rules_session.specs.ClientRule.{ClientStage, ToDaemon, ToMonitor, WholeClientNode}
use Rattle.cx_laws_sessions.specs.cx_rules_session.specs.DaemonRule.{AsAcceptor, AsConnector, DaemonStage}
use Rattle.cx_laws_sessions.specs.cx_rules_session.specs.IncomingLinks.{IncomingStage}
use Rattle.cx_laws_sessions.specs.cx_rules_session.specs.Presenter.{CallStage}
use Rattle.cx_laws_sessions.specs.cx_run.specs.Happenings.{EntityNode, OfClient, OfDaemon, mon_client_in, is_of}
use Rattle.cx_steps.specs.declared.seals.Logged.{Logged}
use Rattle.cx_steps.specs.declared.seals.SealEntry.{SealEntry}
use Rattle.cx_laws_run.proofs.sent.State.{ClientKnown, EntityKnown, IsLinkAt}

-- ---- by name

pub names-apart : (a b : Name) → same_name a b ≡ false → a ≡ b → ⊥
names-apart a b is same =
    let itself : same_name a b ≡ true = ap (λ (n : Name). same_name a n) (sym same) ∙ same_name_self a in
    let e : true ≡ false = sym itself ∙ is in
    cc

-- where the entity of a name is replaced, and all others keep what is said of them
pub all-replaced : (P Q : EntityNode → Type 0) (name : Name) (new : EntityNode) → Q new → ((e : EntityNode) → ((mon_client_in e).name ≡ name → ⊥) → P e → Q e) → (es : List EntityNode)
    → AllByRecursion P es → AllByRecursion Q (map (λ (e : EntityNode). if is_of name e then new else e) es)
all-replaced P Q name new now others [] h = tt
all-replaced P Q name new now others (e ∷ es) h = (by_test (is_of name e) refl, all-replaced P Q name new now others es h.1)
  where
    by_test : (t : Bool) → is_of name e ≡ t → Q (if t then new else e)
    by_test true is = now
    by_test false is = others e (names-apart (mon_client_in e).name name is) h.0

-- what is so of all then is so of that one
pub one-replaced : (P : EntityNode → Type 0) (name : Name) (new e : EntityNode) (es : List EntityNode) → find (is_of name) es ≡ Some e
    → AllByRecursion P (map (λ (x : EntityNode). if is_of name x then new else x) es) → P new
one-replaced P name new e [] is h = absurd cc
one-replaced P name new e (x ∷ es) is h = by_test (is_of name x) is h.0 (λ rest. one-replaced P name new e es rest h.1)
  where
    by_test : (t : Bool) → cond t (Some x) (find (is_of name) es) ≡ Some e → P (if t then new else x) → (find (is_of name) es ≡ Some e → P new) → P new
    by_test true found here rest = here
    by_test false found here rest = rest found

-- ---- behind a step

module _ (run : WholeRun) (us vs : Uses) (one : (k : List ℕ) (u v : Use) → Means us k u → Means us k v → u ≡ v) (one_behind : (k : List ℕ) (u v : Use) → Means vs k u → Means vs k v → u ≡ v) (f : Grows us vs)
    (told : Told) (log : List Logged) (n : NodeName) (line : ℕ) (es : List SealEntry) (J K : List Entry) where
  abbrev later : List Logged
  later = behind n line es log

  -- ---- of a client

  module _ (name : Name) (number : ℕ) (next : Told) (m : Moved us vs told log es name number next) where
    pub moved-client : (c : WholeClientNode) → (c.own.mon_client.name ≡ name → ⊥) → ClientKnown us told log c → ClientKnown vs next later c
    moved-client c apart h = record {
      links = record {
        links = all-map (λ (link : Link ClientStage). StageTold us told log c.own link.number link.stage) (λ (link : Link ClientStage). StageTold vs next later c.own link.number link.stage)
            (λ link known. by_stage link.number link.stage known) c.links h.links.links;
      };
      single = h.single;
      sessions = h.sessions;
      stages = h.stages;
    }
      where
        by_stage : (second : ℕ) (stage : ClientStage) → StageTold us told log c.own second stage → StageTold vs next later c.own second stage
        by_stage second (ToMonitor stage) known = tt
        by_stage second (ToDaemon stage) known =
            (moved-call us vs one f told log n line es name number next m c.own.mon_client.name second (λ both. apart both.0) stage known.0, known.1)

    pub moved-links : (daemon : Name) (at : NodeName) → Within (since daemon J) (since daemon K) → (links : List (Link DaemonStage)) → LinksKnown run us told J daemon at links → LinksKnown run vs next K daemon at links
    moved-links daemon at w links h =
        all-map (λ (link : Link DaemonStage). HostKnown run us told J daemon at link.number link.stage) (λ (link : Link DaemonStage). HostKnown run vs next K daemon at link.number link.stage)
        (λ link known. by_stage link.number link.stage known) links h
      where
        by_stage : (second : ℕ) (stage : DaemonStage) → HostKnown run us told J daemon at second stage → HostKnown run vs next K daemon at second stage
        by_stage second (AsAcceptor stage) known =
            let g : IncomingTold run vs next at second stage = moved-incoming us vs one f told log n line es name number run next m at second stage known.0 in
            (g, serves-stays run us vs told next J K daemon at second one_behind f w stage known.0 g known.1)
        by_stage second (AsConnector stage) known = tt

    -- another entity
    pub moved-entity : (e : EntityNode) → Within (since (mon_client_in e).name J) (since (mon_client_in e).name K) → ((mon_client_in e).name ≡ name → ⊥) → EntityKnown run us told log J e → EntityKnown run vs next later K e
    moved-entity (OfClient c) w apart h = moved-client c apart h
    moved-entity (OfDaemon d) w apart h = moved-links d.node.own.mon_client.name (node.Entity d.node.own.mon_client.name) w d.node.links h

  -- ---- of a node that says nothing on a link to a daemon

  module _ (quiet : (key : List ℕ) (whose : Name) (tie : ℕ) → IsLinkKey vs key whose tie → contents_by key is_connectors es ≡ []) (joins : List (List ℕ × ℕ)) where
    abbrev joined : Told
    joined = record told { joins = joins }

    stands : (whose : Name) (number : ℕ) → Moved us vs told log es whose number told
    stands whose number = Quiets told.nonces (record { bound = λ nonce by second key h. h; shown = λ nonce by second apart h. h }) quiet

    quiet-call : (whose : Name) (second : ℕ) (stage : CallStage) → CallTold us told log whose second stage → CallTold vs told later whose second stage
    quiet-call whose second stage h =
        moved-call us vs one f told log n line es whose (second + 1) told (stands whose (second + 1)) whose second (λ both. let same : second ≡ second + 1 = both.1 in omega (arith, same)) stage h

    pub quiet-client : (c : WholeClientNode) → ClientTold us told log c → ClientTold vs told later c
    quiet-client c h = record {
      links = all-map (λ (link : Link ClientStage). StageTold us told log c.own link.number link.stage) (λ (link : Link ClientStage). StageTold vs told later c.own link.number link.stage)
          (λ link known. by_stage link.number link.stage known) c.links h.links;
    }
      where
        by_stage : (second : ℕ) (stage : ClientStage) → StageTold us told log c.own second stage → StageTold vs told later c.own second stage
        by_stage second (ToMonitor stage) known = tt
        by_stage second (ToDaemon stage) known = (quiet-call c.own.mon_client.name second stage known.0, known.1)

    pub silent-client : (c : WholeClientNode) → ClientKnown us told log c → ClientKnown vs joined later c
    silent-client c h = record {
      links = client-later vs told joins later n line [] (λ key. refl) c (quiet-client c h.links);
      single = h.single;
      sessions = h.sessions;
      stages = h.stages;
    }

    -- what is joined, was, or is so to keys of no link here
    abbrev pub JoinsElsewhere : NodeName → Type 0
    JoinsElsewhere at = (key : List ℕ) (cookie : ℕ) → Contains joins (key, cookie) → Contains told.joins (key, cookie) ⊎ (IsLinkAt vs key at → ⊥)

    link-at : (at : NodeName) (second : ℕ) (s : Secured) (name : Name) → IsIncoming run vs told at second s name → IsLinkAt vs s.keys.key at
    link-at at second s name g = record { number = second; whose = name; tie = AtDaemon g.service g.tie; means = g.means }

    none-joined : (at : NodeName) (key : List ℕ) (cookie : ℕ) → IsLinkAt vs key at → Contains told.joins (key, cookie) ⊎ (IsLinkAt vs key at → ⊥) → Contains told.joins (key, cookie)
    none-joined at key cookie is (inl was) = was
    none-joined at key cookie is (inr apart) = absurd (apart is)

    joins-none : (at : NodeName) (second : ℕ) (stage : IncomingStage) → JoinsElsewhere at → IncomingTold run vs told at second stage → JoinsNone told.joins joins stage
    joins-none at second (acceptor.AwaitsSignature s owner) apart h =
        λ cookie has. none-joined at s.keys.key cookie (link-at at second s owner.ticket.name h.0) (apart s.keys.key cookie has)
    joins-none at second (acceptor.AwaitsIdent s owner) apart h =
        λ cookie has. none-joined at s.keys.key cookie (link-at at second s owner.ticket.name h.0) (apart s.keys.key cookie has)
    joins-none at second (acceptor.Open s served) apart h = tt
    joins-none at second acceptor.AwaitsBanner apart h = tt
    joins-none at second acceptor.AwaitsHello apart h = tt
    joins-none at second acceptor.AwaitsRequest apart h = tt
    joins-none at second (acceptor.AwaitsProof awaited) apart h = tt

    pub silent-links : (daemon : Name) (at : NodeName) → Within (since daemon J) (since daemon K) → JoinsElsewhere at → (links : List (Link DaemonStage)) → LinksKnown run us told J daemon at links → LinksKnown run vs joined K daemon at links
    silent-links daemon at w apart links h =
        all-map (λ (link : Link DaemonStage). HostKnown run us told J daemon at link.number link.stage) (λ (link : Link DaemonStage). HostKnown run vs joined K daemon at link.number link.stage)
        (λ link known. by_stage link.number link.stage known) links h
      where
        by_stage : (second : ℕ) (stage : DaemonStage) → HostKnown run us told J daemon at second stage → HostKnown run vs joined K daemon at second stage
        by_stage second (AsAcceptor stage) known =
            let still : IncomingTold run vs told at second stage = moved-incoming us vs one f told log n line es daemon second run told (stands daemon second) at second stage known.0 in
            let g : IncomingTold run vs joined at second stage = incoming-joins run vs told at second joins stage (joins-none at second stage apart still) still in
            (g, serves-stays run us vs told joined J K daemon at second one_behind f w stage known.0 g known.1)
        by_stage second (AsConnector stage) known = tt

    -- an entity at whose links nothing is joined
    pub silent-entity : (e : EntityNode) → Within (since (mon_client_in e).name J) (since (mon_client_in e).name K) → JoinsElsewhere (node.Entity (mon_client_in e).name) → EntityKnown run us told log J e → EntityKnown run vs joined later K e
    silent-entity (OfClient c) w apart h = silent-client c h
    silent-entity (OfDaemon d) w apart h = silent-links d.node.own.mon_client.name (node.Entity d.node.own.mon_client.name) w apart d.node.links h

-- one key is that of links of one acceptor
abbrev acceptor_of : NodeName → Use → NodeName
acceptor_of other (Connected at number name tie) = at
acceptor_of other _ = other

pub acceptors-one : (vs : Uses) → ((k : List ℕ) (u v : Use) → Means vs k u → Means vs k v → u ≡ v) → (key : List ℕ) (at other : NodeName) → IsLinkAt vs key at → IsLinkAt vs key other → at ≡ other
acceptors-one vs one key at other h g =
    ap (λ (u : Use). acceptor_of at u) (one key (Connected at h.number h.whose h.tie) (Connected other g.number g.whose g.tie) h.means g.means)
