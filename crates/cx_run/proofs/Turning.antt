-- A turn that handles something leaves less to be taken of its link, so a list that is as long as what is left bounds no turns.
use Rattle.std.proofs.Common.{◌≡◌, ℕ, ◌<◌, ◌≤◌, ◌==◌, Bool, true, false, cond, List, [], ◌∷◌, ◌++◌, length, map, Option, Some, None, refl, sym, ap, subst, ◌∙◌, arith, eqb-true, eq-eqb, length-drop}
use Rattle.std.specs.Prelude.{◌&&◌, filter, find, nat_lt, not, if◌then◌else◌}
use Rattle.std.proofs.lemmas.Bool.{ltb-true}
use Rattle.cx_base.proofs.Names.{same_name_is}
use Rattle.cx_base.specs.Names.{Name}
use Rattle.cx_base.specs.declared.nodes.NodeName.{NodeName}
use Rattle.cx_base.specs.declared.nodes.NodeName.TheVariants as node
use Rattle.cx_lines.specs.cx_words.specs.declared.choices.LeftState.{LeftState}
use Rattle.cx_lines.specs.cx_words.specs.declared.choices.LeftState.TheVariants as left
use Rattle.cx_lines.specs.cx_words.specs.declared.choices.Side.{Side}
use Rattle.cx_rules_session.specs.cx_rotate.specs.declared.states.KeptState.{KeptState}
use Rattle.cx_rules_session.specs.cx_desk.specs.Handlers.{Handlers}
use Rattle.cx_rules_session.specs.cx_rules.specs.Connector as connector
use Rattle.cx_rules_session.specs.cx_rules.specs.Fronts.{ahead_of}
use Rattle.cx_rules_session.specs.cx_rules.specs.Inputs.{Input, Turn, Gone, Restart}
use Rattle.cx_rules_session.specs.cx_rules.specs.Links.{Link, link_of, put_link, without_link}
use Rattle.cx_rules_session.specs.cx_rules.specs.Monitor.{MonitorArrival, MonitorNode, MonitorStage}
use Rattle.cx_rules_session.specs.cx_rules.specs.MonitorRule.{monitor_rule, noted, turn, turned_at}
use Rattle.cx_rules_session.specs.cx_rules.specs.Rows.{Arrival, Node, Outcome, Turned, Waits, Refuses, Handles, arrival, links_behind}
use Rattle.cx_rules_session.specs.cx_rules.specs.Rows as rows
use Rattle.cx_rules_session.specs.Asks.{with_book}
use Rattle.cx_rules_session.specs.ClientRule as client
use Rattle.cx_rules_session.specs.ClientRule.{ClientStage, WholeClient, WholeClientNode}
use Rattle.cx_rules_session.specs.DaemonRule as daemon
use Rattle.cx_rules_session.specs.DaemonRule.{AsAcceptor, AsConnector, Daemon, DaemonNode, DaemonStage, book_after, book_reply, hosts, is_in, is_older, moved_to}
use Rattle.cx_rules_session.specs.IncomingLinks.{IncomingStage}
use Rattle.cx_rules_session.specs.Hosting.{Deciding, Hosted, incoming_turned}
use Rattle.cx_rules_session.specs.Kinds.{arrival_in, turn_of_kind}
use Rattle.cx_rules_session.specs.cx_rules.specs.Holdings.{MonClient}
use Rattle.cx_rules_session.specs.cx_steps.specs.declared.events.Peer.{Peer}
use Rattle.cx_run.specs.Deliveries.{Given, came_at, came_on, came_to, far_side, followed, given, gives, open_all, restarts, tells, tells_gone, turns, vanish}
use Rattle.cx_run.specs.Happenings.{EntityNode, OfClient, OfDaemon, Happening, Nodes, Stepped, entity_of, entity_rule, entity_steps, is_of, monitor_steps, steps, steps_of}
use Rattle.cx_run.specs.Turning.{untaken_at, untaken_on, untaken_to}
use Rattle.cx_run.specs.Wires.{Wire, end_of, ended, has_end, node_at, same_node, with_wire}
use Rattle.cx_run.specs.Worlds.{Post, World, carried, happening, opened_wires, post_of}
use Rattle.cx_run.proofs.ClientKept.{whole-takes}
use Rattle.cx_run.proofs.ClientTakes.{mon_client-takes}
use Rattle.cx_run.proofs.Always.{Always, always-book, always-map, always-weaker}
use Rattle.cx_run.proofs.IncomingTakes.{TakesHosted, incoming-takes}
use Rattle.cx_run.proofs.MonitorTakes.{monitor-takes}
use Rattle.cx_run.proofs.Taking.{Takes, TurnTakes, kind-takes}

-- ---- a table of links

module _ {Stage : Type 0} where
  pub found-number : (n : ℕ) (links : List (Link Stage)) (l : Link Stage) → link_of n links ≡ Some l → l.number ≡ n
  found-number n [] l e = absurd cc
  found-number n (x ∷ links) l e = by_test (x.number == n) refl (found-number n links l)
    where
      by_test : (t : Bool) → (x.number == n) ≡ t → (link_of n links ≡ Some l → l.number ≡ n) → l.number ≡ n
      by_test true t later = let here : Some x ≡ Some l = rw t at e in let same : x ≡ l = cc in subst (λ (y : Link Stage). y.number ≡ n) same (eqb-true x.number n t)
      by_test false t later = later (rw t at e)

  -- what was put is found
  pub put-found : (l : Link Stage) (links above : List (Link Stage)) → link_of l.number (filter (λ k. nat_lt k.number l.number) links ++ l ∷ above) ≡ Some l
  put-found l [] above = rw (eq-eqb l.number l.number refl) refl
  put-found l (x ∷ links) above = by_test (nat_lt x.number l.number) refl (put-found l links above)
    where
      by_number : (b : Bool) → (x.number == l.number) ≡ b → x.number < l.number → link_of l.number (filter (λ k. nat_lt k.number l.number) links ++ l ∷ above) ≡ Some l → cond b (Some x) (link_of l.number (filter (λ k. nat_lt k.number l.number) links ++ l ∷ above)) ≡ Some l
      by_number true e less later = let same = eqb-true x.number l.number e in absurd (omega arith)
      by_number false e less later = later

      by_test : (t : Bool) → nat_lt x.number l.number ≡ t → link_of l.number (filter (λ k. nat_lt k.number l.number) links ++ l ∷ above) ≡ Some l
          → link_of l.number (cond t (x ∷ filter (λ k. nat_lt k.number l.number) links) (filter (λ k. nat_lt k.number l.number) links) ++ l ∷ above) ≡ Some l
      by_test true t later = by_number (x.number == l.number) refl (ltb-true x.number l.number t) later
      by_test false t later = later

  -- what was left out isn't found
  left-out : (n : ℕ) (links : List (Link Stage)) → link_of n (without_link n links) ≡ None
  left-out n [] = refl
  left-out n (x ∷ links) = by_test (x.number == n) refl (left-out n links)
    where
      by_test : (t : Bool) → (x.number == n) ≡ t → link_of n (without_link n links) ≡ None → link_of n (cond (not t) (x ∷ without_link n links) (without_link n links)) ≡ None
      by_test true t later = later
      by_test false t later = subst (λ (b : Bool). cond b (Some x) (link_of n (without_link n links)) ≡ None) (sym t) later

  -- what is found behind others are left out was there before
  left-less : (n k : ℕ) (links : List (Link Stage)) → length (untaken_on (link_of n (without_link k links))) ≤ length (untaken_on (link_of n links))
  left-less n k [] = omega arith
  left-less n k (x ∷ links) = by_tests (x.number == n) (x.number == k) refl refl (left-less n k links)
    where
      by_tests : (t u : Bool) → (x.number == n) ≡ t → (x.number == k) ≡ u → length (untaken_on (link_of n (without_link k links))) ≤ length (untaken_on (link_of n links))
          → length (untaken_on (link_of n (cond (not u) (x ∷ without_link k links) (without_link k links)))) ≤ length (untaken_on (cond t (Some x) (link_of n links)))
      by_tests true true a b later =
          let same = eqb-true x.number n a in
          let other = eqb-true x.number k b in
          let none : link_of n (without_link k links) ≡ None = subst (λ (m : ℕ). link_of n (without_link m links) ≡ None) (sym same ∙ other) (left-out n links) in
          subst (λ (o : Option (Link Stage)). length (untaken_on o) ≤ length (ahead_of x)) (sym none) (omega arith)
      by_tests false true a b later = later
      by_tests true false a b later =
          subst (λ (c : Bool). length (untaken_on (cond c (Some x) (link_of n (without_link k links)))) ≤ length (ahead_of x)) (sym a) (omega arith)
      by_tests false false a b later =
          subst (λ (c : Bool). length (untaken_on (cond c (Some x) (link_of n (without_link k links)))) ≤ length (untaken_on (link_of n links))) (sym a) later

  -- what a row that took of a link leaves
  links-less : (links : List (Link Stage)) (n : ℕ) (bytes : List ℕ) (link : Link Stage) (kept : Option (Link Stage)) → link.number ≡ n → Takes link kept
      → length (untaken_on (link_of n (links_behind links link.number bytes kept))) < length (ahead_of link)
  links-less links n bytes link None e h =
      let none : link_of n (without_link link.number links) ≡ None = subst (λ (m : ℕ). link_of n (without_link m links) ≡ None) (sym e) (left-out n links) in
      subst (λ (o : Option (Link Stage)). length (untaken_on o) < length (ahead_of link)) (sym none) h
  links-less links n bytes link (Some l) e h =
      let sent : Link Stage = record l { sent = l.sent ++ bytes } in
      let same : l.number ≡ n = h.0 ∙ e in
      let there : link_of n (put_link sent links) ≡ Some sent =
      subst (λ (m : ℕ). link_of m (put_link sent links) ≡ Some sent) same (put-found sent links (filter (λ k. nat_lt sent.number k.number) links))
      in
      subst (λ (o : Option (Link Stage)). length (untaken_on o) < length (ahead_of link)) (sym there) h.1

-- ---- a turn

module _ {Own Stage : Type 0} where
  turns-less : (before : Node Own Stage) (n : ℕ) (a : Arrival Own Stage) (t : Turned Own Stage) → a.link.number ≡ n → TurnTakes a.link t
      → (rows.turns before a t).out.turned ≡ true → length (untaken_on (link_of n (rows.turns before a t).state.links)) < length (ahead_of a.link)
  turns-less before n a Waits e h t = absurd cc
  turns-less before n a (Refuses why opened) e h t = absurd cc
  turns-less before n a (Handles row) e h t = links-less before.links n row.sends a.link row.link e h

  turns-open : (before : Node Own Stage) (a : Arrival Own Stage) (t : Turned Own Stage) → (rows.turns before a t).out.opens ≡ []
  turns-open before a Waits = refl
  turns-open before a (Refuses why opened) = refl
  turns-open before a (Handles row) = refl

-- a turn of a node opens no link, and takes of its own where it handles something
pub record TurnsLess {Own Stage : Type 0} (n : ℕ) (found : Option (Link Stage)) (o : Outcome (Node Own Stage)) : Type 0 where
  pub opens : o.out.opens ≡ []
  pub less : o.out.turned ≡ true → length (untaken_on (link_of n o.state.links)) < length (untaken_on found)

monitor-less : (m : MonitorNode) (n reading : ℕ) (draw : List ℕ) (found : Option (Link MonitorStage)) → link_of n m.links ≡ found → TurnsLess n found (turn m reading draw found)
monitor-less m n reading draw None e = record { opens = refl; less = λ t. absurd cc }
monitor-less m n reading draw (Some link) e =
    let a : MonitorArrival = arrival node.Monitor m.own link reading draw in
    record {
      opens = turns-open m a (turned_at a link.stage);
      less = turns-less m n a (turned_at a link.stage) (found-number n m.links link e) (monitor-takes a link.stage);
    }

client-less : (c : WholeClientNode) (n reading : ℕ) (draw : List ℕ) (found : Option (Link ClientStage)) → link_of n c.links ≡ found
    → TurnsLess n found (client.turn c reading draw found)
client-less c n reading draw None e = record { opens = refl; less = λ t. absurd cc }
client-less c n reading draw (Some link) e =
    let a : Arrival WholeClient ClientStage = arrival (client.me c.own) c.own link reading draw in
    record {
      opens = turns-open c a (client.turned_at a link.stage);
      less = turns-less c n a (client.turned_at a link.stage) (found-number n c.links link e) (whole-takes c reading draw link link.stage);
    }

-- ---- a turn of a daemon

-- what is found where others than it are left out
kept-found : {Stage : Type 0} (n : ℕ) (test : Link Stage → Bool) → ((l : Link Stage) → (l.number == n) ≡ true → test l ≡ true) → (links : List (Link Stage))
    → link_of n (filter test links) ≡ link_of n links
kept-found n test keeps [] = refl
kept-found {Stage} n test keeps (x ∷ links) = by_tests (test x) (x.number == n) refl refl (kept-found n test keeps links)
  where
    by_tests : (t u : Bool) → test x ≡ t → (x.number == n) ≡ u → link_of n (filter test links) ≡ link_of n links
        → link_of n (cond t (x ∷ filter test links) (filter test links)) ≡ cond u (Some x) (link_of n links)
    by_tests true true is same rest = subst (λ (b : Bool). cond b (Some x) (link_of n (filter test links)) ≡ Some x) (sym same) refl
    by_tests true false is same rest = subst (λ (b : Bool). cond b (Some x) (link_of n (filter test links)) ≡ link_of n links) (sym same) rest
    by_tests false true is same rest = let both : false ≡ true = sym is ∙ keeps x same in absurd cc
    by_tests false false is same rest = rest

-- none of the links that are shut where a session moved is the one to which it moved
own-stays : (n session : ℕ) (l : Link DaemonStage) → (l.number == n) ≡ true → not (is_older n session l) ≡ true
own-stays n session l same = by_tests (is_in session l.stage) (l.number == n) same
  where
    by_tests : (here own : Bool) → own ≡ true → not (here && not own) ≡ true
    by_tests true true is = refl
    by_tests false true is = refl
    by_tests here false is = absurd cc

moved-less : (n : ℕ) (found : Option (Link DaemonStage)) (moved : Option ℕ) (o : Outcome DaemonNode) → TurnsLess n found o → TurnsLess n found (moved_to n moved o)
moved-less n found None o h = h
moved-less n found (Some session) o h = record {
  opens = h.opens;
  less = λ t. subst (λ (l : Option (Link DaemonStage)). length (untaken_on l) < length (untaken_on found))
      (sym (kept-found n (λ (l : Link DaemonStage). not (is_older n session l)) (own-stays n session) o.state.links)) (h.less t);
}

module _ (handlers : Handlers) (d : DaemonNode) (n reading : ℕ) (draw : List ℕ) (link : Link DaemonStage) (found : link_of n d.links ≡ Some link) where
  abbrev here : Arrival Daemon DaemonStage
  here = arrival (daemon.me d.own) d.own link reading draw

  abbrev Less : Outcome DaemonNode → Type 0
  Less o = TurnsLess n (Some link) o

  kind-less : (t : Turned Daemon DaemonStage) → TurnTakes link t → Less (rows.turns d here t)
  kind-less t h = record { opens = turns-open d here t; less = turns-less d n here t (found-number n d.links link found) h }

  hosted-less : (stage : IncomingStage) (hosted : Hosted) → TakesHosted (arrival_in here d.own.mon_client stage) hosted → Less (hosts d here hosted)
  hosted-less stage hosted h =
      let t : Turned Daemon DaemonStage = turn_of_kind (daemon.with_mon_client d.own) AsAcceptor hosted.turned in
      let moved : Less (moved_to n hosted.moved (rows.turns d here t)) =
      moved-less n (Some link) hosted.moved (rows.turns d here t) (kind-less t (kind-takes (daemon.with_mon_client d.own) AsAcceptor link stage hosted.turned h.takes)) in
      subst (λ (k : ℕ). Less (moved_to k hosted.moved (rows.turns d here t))) (sym (found-number n d.links link found)) moved

  stage-less : (stage : DaemonStage) → Always Less (daemon.turned_at handlers d here stage)
  stage-less (AsAcceptor stage) =
      let rule : Deciding Hosted = incoming_turned handlers (arrival_in here d.own.mon_client stage) stage in
      always-map Less (hosts d here) rule
      (always-weaker (TakesHosted (arrival_in here d.own.mon_client stage)) (λ (h : Hosted). Less (hosts d here h)) (hosted-less stage) rule
      (incoming-takes handlers (arrival_in here d.own.mon_client stage) stage))
  stage-less (AsConnector stage) =
      let a : Arrival MonClient connector.Stage = arrival_in here d.own.mon_client stage in
      kind-less (turn_of_kind (daemon.with_mon_client d.own) AsConnector (connector.turned_at a stage))
      (kind-takes (daemon.with_mon_client d.own) AsConnector link stage (connector.turned_at a stage) (mon_client-takes a stage))

daemon-less : (handlers : Handlers) (d : DaemonNode) (n reading : ℕ) (draw : List ℕ) (found : Option (Link DaemonStage)) → link_of n d.links ≡ found
    → Always (TurnsLess n found) (daemon.turn handlers d reading draw found)
daemon-less handlers d n reading draw None e = record { opens = refl; less = λ t. absurd cc }
daemon-less handlers d n reading draw (Some link) e = stage-less handlers d n reading draw link e link.stage

-- ---- a turn of an entity

pub record EntityLess (n : ℕ) (entity : EntityNode) (o : Outcome EntityNode) : Type 0 where
  pub opens : o.out.opens ≡ []
  pub less : o.out.turned ≡ true → length (untaken_to n (Some o.state)) < length (untaken_to n (Some entity))

entity-less : (handlers : Handlers) (entity : EntityNode) (n reading : ℕ) (draw : List ℕ) → EntityLess n entity (entity_rule handlers entity (Turn n) reading draw)
entity-less handlers (OfClient c) n reading draw =
    let h = client-less c n reading draw (link_of n c.links) refl in record { opens = h.opens; less = h.less }
entity-less handlers (OfDaemon d) n reading draw =
    let found : Option (Link DaemonStage) = link_of n d.node.links in
    let h : TurnsLess n found (with_book book_reply book_after d.book (daemon.turn handlers d.node reading draw found)).0 =
    always-book (TurnsLess n found) book_reply book_after d.book (daemon.turn handlers d.node reading draw found) (daemon-less handlers d.node n reading draw found refl) in
    record { opens = h.opens; less = h.less }

-- ---- a step

-- so does the step of a node among the others; only the monitor's save fails
pub record StepsLess (nodes : Nodes) (n : ℕ) (who : NodeName) (s : Stepped) : Type 0 where
  pub opens : s.out.opens ≡ []
  pub failed : s.failed ≡ true → who ≡ node.Monitor
  pub less : s.out.turned ≡ true → length (untaken_at s.nodes n who) < length (untaken_at nodes n who)

monitor-steps : (nodes : Nodes) (n : ℕ) (o : Outcome MonitorNode) (leaving : Option LeftState) (saved : Option KeptState) → TurnsLess n (link_of n nodes.monitor.links) o
    → StepsLess nodes n node.Monitor (monitor_steps nodes o leaving saved)
monitor-steps nodes n o (Some left.Old) (Some saved) h = record { opens = refl; failed = λ t. refl; less = h.less }
monitor-steps nodes n o (Some left.New) (Some saved) h = record { opens = refl; failed = λ t. refl; less = h.less }
monitor-steps nodes n o (Some leaving) None h = record { opens = h.opens; failed = λ t. refl; less = h.less }
monitor-steps nodes n o None (Some saved) h = record { opens = h.opens; failed = λ t. refl; less = h.less }
monitor-steps nodes n o None None h = record { opens = h.opens; failed = λ t. refl; less = h.less }

-- the entity of a name, where all of that name are replaced
replaced : (P : Option EntityNode → Type 0) (name : Name) (e : EntityNode) (entities : List EntityNode) → P None → P (Some e)
    → P (find (is_of name) (map (λ x. if is_of name x then e else x) entities))
replaced P name e [] none some = none
replaced P name e (x ∷ entities) none some = by_test (is_of name x) refl (replaced P name e entities none some)
  where
    by_own : (b : Bool) → P (find (is_of name) (map (λ x. if is_of name x then e else x) entities))
        → P (cond b (Some e) (find (is_of name) (map (λ x. if is_of name x then e else x) entities)))
    by_own true later = some
    by_own false later = later

    by_test : (t : Bool) → is_of name x ≡ t → P (find (is_of name) (map (λ x. if is_of name x then e else x) entities))
        → P (cond (is_of name (cond t e x)) (Some (cond t e x)) (find (is_of name) (map (λ x. if is_of name x then e else x) entities)))
    by_test true t later = by_own (is_of name e) later
    by_test false t later = subst (λ (b : Bool). P (cond b (Some x) (find (is_of name) (map (λ x. if is_of name x then e else x) entities)))) (sym t) later

entity-steps : (w : World) (n : ℕ) (post : Post) (name : Name) (found : Option EntityNode) → entity_of name w.nodes ≡ found
    → StepsLess w.nodes n (node.Entity name) (entity_steps w.nodes (happening w (Turn n) post) name found)
entity-steps w n post name None e = record { opens = refl; failed = λ t. absurd cc; less = λ t. absurd cc }
entity-steps w n post name (Some entity) e =
    let h : Happening = happening w (Turn n) post in
    let o : Outcome EntityNode = entity_rule w.nodes.handlers entity (Turn n) h.reading h.draw in
    let turned : EntityLess n entity o = entity-less w.nodes.handlers entity n h.reading h.draw in
    let IsLess : Option EntityNode → Type 0 = λ x. length (untaken_to n x) < length (untaken_to n (entity_of name w.nodes)) in
    record {
      opens = turned.opens;
      failed = λ t. absurd cc;
      less = λ t.
          let own : IsLess (Some o.state) = subst (λ (x : Option EntityNode). length (untaken_to n (Some o.state)) < length (untaken_to n x)) (sym e) (turned.less t) in
          let none : IsLess None = omega arith in
          replaced IsLess name o.state w.nodes.entities none own;
    }

steps-less : (w : World) (n : ℕ) (post : Post) (who : NodeName) → StepsLess w.nodes n who (steps_of w.nodes (happening w (Turn n) post) who)
steps-less w n post node.Monitor =
    let h : Happening = happening w (Turn n) post in
    let m : MonitorNode = w.nodes.monitor in
    let o : Outcome MonitorNode = monitor_rule m (Turn n) h.reading h.draw in
    monitor-steps w.nodes n o h.left o.out.save (monitor-less (noted m) n h.reading h.draw (link_of n m.links) refl)
steps-less w n post (node.Entity name) = entity-steps w n post name (entity_of name w.nodes) refl

-- ---- the node of a post

same-is : (a b : NodeName) → same_node a b ≡ true → a ≡ b
same-is node.Monitor node.Monitor e = refl
same-is (node.Entity a) (node.Entity b) e = ap (λ (x : Name). node.Entity x) (same_name_is a b e)
same-is node.Monitor (node.Entity b) e = absurd cc
same-is (node.Entity a) node.Monitor e = absurd cc

pub post-is : (who : NodeName) (posts : List Post) (post : Post) → post_of who posts ≡ Some post → post.node ≡ who
post-is who [] post e = absurd cc
post-is who (x ∷ posts) post e = by_test (same_node x.node who) refl e (post-is who posts post)
  where
    by_test : (t : Bool) → same_node x.node who ≡ t → cond t (Some x) (post_of who posts) ≡ Some post → (post_of who posts ≡ Some post → post.node ≡ who) → post.node ≡ who
    by_test true t e later = let same : x ≡ post = cc in subst (λ (y : Post). y.node ≡ who) same (same-is x.node who t)
    by_test false t e later = later e

-- ---- a monitor that starts again, and links that vanish

module _ (n : ℕ) where
  -- how much is left to be taken of this link at the monitor
  abbrev left_there : World → ℕ
  left_there w = length (untaken_on (link_of n w.nodes.monitor.links))

  monitor-links : (nodes : Nodes) (o : Outcome MonitorNode) (leaving : Option LeftState) (saved : Option KeptState)
      → (monitor_steps nodes o leaving saved).nodes.monitor.links ≡ o.state.links
  monitor-links nodes o (Some left.Old) (Some saved) = refl
  monitor-links nodes o (Some left.New) (Some saved) = refl
  monitor-links nodes o (Some leaving) None = refl
  monitor-links nodes o None (Some saved) = refl
  monitor-links nodes o None None = refl

  entity-apart : (nodes : Nodes) (h : Happening) (name : Name) (found : Option EntityNode) → (entity_steps nodes h name found).nodes.monitor ≡ nodes.monitor
  entity-apart nodes h name None = refl
  entity-apart nodes h name (Some entity) = refl

  -- an event that leaves the monitor no more than before
  step-less : (w : World) (input : Input) (post : Post) (who : NodeName)
      → ((reading : ℕ) (draw : List ℕ) → length (untaken_on (link_of n (monitor_rule w.nodes.monitor input reading draw).state.links)) ≤ left_there w)
      → length (untaken_on (link_of n (steps_of w.nodes (happening w input post) who).nodes.monitor.links)) ≤ left_there w
  step-less w input post node.Monitor each =
      let h : Happening = happening w input post in
      let o : Outcome MonitorNode = monitor_rule w.nodes.monitor input h.reading h.draw in
      subst (λ (links : List (Link MonitorStage)). length (untaken_on (link_of n links)) ≤ left_there w) (sym (monitor-links w.nodes o h.left o.out.save)) (each h.reading h.draw)
  step-less w input post (node.Entity name) each =
      subst (λ (m : MonitorNode). length (untaken_on (link_of n m.links)) ≤ left_there w) (sym (entity-apart w.nodes (happening w input post) name (entity_of name w.nodes))) (omega arith)

  given-less : (w : World) (input : Input) (post : Option Post)
      → ((reading : ℕ) (draw : List ℕ) → length (untaken_on (link_of n (monitor_rule w.nodes.monitor input reading draw).state.links)) ≤ left_there w)
      → left_there (given w input post).world ≤ left_there w
  given-less w input None each = omega arith
  given-less w input (Some post) each = step-less w input post post.node each

  tells-gone-less : (w : World) (who : NodeName) (k : ℕ) → left_there (tells w who (Gone k)) ≤ left_there w
  tells-gone-less w who k = given-less w (Gone k) (post_of who w.posts) (λ reading draw. left-less n k w.nodes.monitor.links)

  gone-less : (w : World) (wire : Wire) (side : Side) → left_there (tells_gone w wire side) ≤ left_there w
  gone-less w wire side = by_test (end_of wire side).lives
    where
      by_test : (lives : Bool) → left_there (if lives then tells w (node_at wire side) (Gone wire.number) else w) ≤ left_there w
      by_test true = tells-gone-less w (node_at wire side) wire.number
      by_test false = omega arith

  vanish-less : (who : NodeName) (w : World) (wires : List Wire) → left_there (vanish who w wires) ≤ left_there w
  vanish-less who w [] = omega arith
  vanish-less who w (wire ∷ wires) =
      let away : World = record w { wires = with_wire w.wires (ended wire) } in
      let next : World = tells_gone away wire (far_side who wire) in
      let first : left_there next ≤ left_there w = gone-less away wire (far_side who wire) in
      let rest : left_there (vanish who next wires) ≤ left_there next = vanish-less who next wires in
      omega arith

  restarts-less : (w : World) (who : NodeName) → left_there (restarts w who) ≤ left_there w
  restarts-less w who =
      let began : World = tells w who Restart in
      let first : left_there began ≤ left_there w = given-less w Restart (post_of who w.posts) (λ reading draw. omega arith) in
      let rest : left_there (restarts w who) ≤ left_there began = vanish-less who began (filter (has_end who) began.wires) in
      omega arith

-- ---- all that follows of a turn

followed-less : (who : NodeName) (g : Given) (n : ℕ) → g.out.opens ≡ [] → (g.failed ≡ true → who ≡ node.Monitor)
    → length (untaken_at (followed who g).nodes n who) ≤ length (untaken_at g.world.nodes n who)
followed-less who g n opens failed = by_test g.failed failed
  where
    by_test : (f : Bool) → (f ≡ true → who ≡ node.Monitor)
        → length (untaken_at (if f then restarts (record g.world { left = None }) who else open_all (carried g.world who g.out) (opened_wires who (length g.world.wires) g.out.opens)).nodes n who)
        ≤ length (untaken_at g.world.nodes n who)
    by_test true f =
        subst (λ (x : NodeName). length (untaken_at (restarts (record g.world { left = None }) x).nodes n x) ≤ length (untaken_at g.world.nodes n x)) (sym (f refl))
        (restarts-less n (record g.world { left = None }) node.Monitor)
    by_test false f =
        subst (λ (peers : List Peer). length (untaken_at (open_all (carried g.world who g.out) (opened_wires who (length g.world.wires) peers)).nodes n who) ≤ length (untaken_at g.world.nodes n who))
        (sym opens) (omega arith)

pub takes : (w : World) (who : NodeName) (n : ℕ) → (gives w who (Turn n)).out.turned ≡ true
    → length (untaken_at (followed who (gives w who (Turn n))).nodes n who) < length (untaken_at w.nodes n who)
takes w who n = by_post (post_of who w.posts) refl
  where
    by_post : (found : Option Post) → post_of who w.posts ≡ found → (given w (Turn n) found).out.turned ≡ true
        → length (untaken_at (followed who (given w (Turn n) found)).nodes n who) < length (untaken_at w.nodes n who)
    by_post None e t = absurd cc
    by_post (Some post) e t =
        let s : Stepped = steps w.nodes (happening w (Turn n) post) in
        let stepped : StepsLess w.nodes n who s = subst (λ (x : NodeName). StepsLess w.nodes n x s) (post-is who w.posts post e) (steps-less w n post post.node) in
        let first = stepped.less t in
        let rest = followed-less who (given w (Turn n) (Some post)) n stepped.opens stepped.failed in
        omega arith

-- ---- turns

-- a list that is longer than what is left is no better
longer : (w : World) (who : NodeName) (n : ℕ) (fuel : List ℕ) (x : ℕ) → length (untaken_at w.nodes n who) ≤ length fuel → turns w who n (x ∷ fuel) ≡ turns w who n fuel
longer w who n [] x le = by_turned (gives w who (Turn n)).out.turned (takes w who n)
  where
    by_turned : (t : Bool) → (t ≡ true → length (untaken_at (followed who (gives w who (Turn n))).nodes n who) < length (untaken_at w.nodes n who))
        → (if t then turns (followed who (gives w who (Turn n))) who n [] else followed who (gives w who (Turn n))) ≡ followed who (gives w who (Turn n))
    by_turned true less = let some = less refl in absurd (omega arith)
    by_turned false less = refl
longer w who n (y ∷ fuel) x le = by_turned (gives w who (Turn n)).out.turned (takes w who n) (longer (followed who (gives w who (Turn n))) who n fuel y)
  where
    by_turned : (t : Bool) → (t ≡ true → length (untaken_at (followed who (gives w who (Turn n))).nodes n who) < length (untaken_at w.nodes n who))
        → (length (untaken_at (followed who (gives w who (Turn n))).nodes n who) ≤ length fuel
        → turns (followed who (gives w who (Turn n))) who n (y ∷ fuel) ≡ turns (followed who (gives w who (Turn n))) who n fuel)
        → (if t then turns (followed who (gives w who (Turn n))) who n (y ∷ fuel) else followed who (gives w who (Turn n)))
        ≡ (if t then turns (followed who (gives w who (Turn n))) who n fuel else followed who (gives w who (Turn n)))
    by_turned true less later = let some = less refl in later (omega arith)
    by_turned false less later = refl

pub unrolls : (w : World) (who : NodeName) (n : ℕ) (fuel : List ℕ) → length (untaken_at w.nodes n who) ≤ length fuel
    → turns w who n fuel ≡ (if (gives w who (Turn n)).out.turned then turns (followed who (gives w who (Turn n))) who n fuel else followed who (gives w who (Turn n)))
unrolls w who n [] le = sym (longer w who n [] 0 le)
unrolls w who n (x ∷ fuel) le = by_turned (gives w who (Turn n)).out.turned (takes w who n)
  where
    by_turned : (t : Bool) → (t ≡ true → length (untaken_at (followed who (gives w who (Turn n))).nodes n who) < length (untaken_at w.nodes n who))
        → (if t then turns (followed who (gives w who (Turn n))) who n fuel else followed who (gives w who (Turn n)))
        ≡ (if t then turns (followed who (gives w who (Turn n))) who n (x ∷ fuel) else followed who (gives w who (Turn n)))
    by_turned true less =
        let some = less refl in
        let few : length (untaken_at (followed who (gives w who (Turn n))).nodes n who) ≤ length fuel = omega arith in
        sym (longer (followed who (gives w who (Turn n))) who n fuel x few)
    by_turned false less = refl

-- ---- what came

link-enough : {Stage : Type 0} (l : Link Stage) → length (ahead_of l) ≤ length l.received
link-enough l = omega (arith, length-drop l.taken l.received)

pub enough : (nodes : Nodes) (n : ℕ) (who : NodeName) → length (untaken_at nodes n who) ≤ length (came_at nodes n who)
enough nodes n node.Monitor = by_link (link_of n nodes.monitor.links)
  where
    by_link : (found : Option (Link MonitorStage)) → length (untaken_on found) ≤ length (came_on found)
    by_link None = omega arith
    by_link (Some l) = link-enough l
enough nodes n (node.Entity name) = by_entity (entity_of name nodes)
  where
    by_link : {Stage : Type 0} (found : Option (Link Stage)) → length (untaken_on found) ≤ length (came_on found)
    by_link None = omega arith
    by_link (Some l) = link-enough l

    by_entity : (found : Option EntityNode) → length (untaken_to n found) ≤ length (came_to n found)
    by_entity None = omega arith
    by_entity (Some (OfClient c)) = by_link (link_of n c.links)
    by_entity (Some (OfDaemon d)) = by_link (link_of n d.node.links)
