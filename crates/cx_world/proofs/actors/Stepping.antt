-- The nodes behind an event of one of them.
use Rattle.std.proofs.Common.{◌≡◌, ℕ, Bool, true, false, suc, List, get_or, set, Option, Some, None, refl, sym, subst, ap, ◌∙◌}
use Rattle.cx_base.specs.Names.{Name, same_name}
use Rattle.cx_base.proofs.Names.{same_name_is, same_name_self}
use Rattle.cx_dice.specs.Rolls.{seed_draw}
use Rattle.cx_base.specs.declared.nodes.NodeName.{NodeName}
use Rattle.cx_base.specs.declared.nodes.NodeName.TheVariants as node
use Rattle.cx_words.specs.declared.choices.LeftState.{LeftState}
use Rattle.cx_rotate.specs.declared.states.KeptState.{KeptState}
use Rattle.cx_desk.specs.Handlers.{Handlers}
use Rattle.cx_world_start.specs.cx_rules.specs.Abridged.{MonitorStandsFor}
use Rattle.cx_world_start.specs.cx_rules_session.specs.Forgets.{WholeClientStandsFor}
use Rattle.cx_world_start.specs.cx_rules_session.specs.ClientRule.{WholeClientNode, whole_client_rule}
use Rattle.cx_world_start.specs.cx_rules.specs.Inputs.{Input}
use Rattle.cx_world_start.specs.cx_rules.specs.Monitor.{MonitorNode}
use Rattle.cx_world_start.specs.cx_rules.specs.MonitorRule.{monitor_rule}
use Rattle.cx_world_start.specs.cx_rules.specs.Rows.{Outcome}
use Rattle.cx_world_start.specs.cx_rules_session.specs.DaemonRule.{DaemonState, daemon_step}
use Rattle.cx_world_start.specs.cx_rules_session.specs.Forgets.{DaemonStandsFor}
use Rattle.cx_world_start.specs.cx_run.specs.Deliveries.{given}
use Rattle.cx_world_start.specs.cx_run.specs.Happenings.{EntityNode, OfClient, OfDaemon, Nodes as RunNodes, Stepped, mon_client_in, entity_of, entity_steps, monitor_steps, steps, steps_of, with_entity}
use Rattle.cx_world_start.specs.cx_run.specs.Wires.{same_node}
use Rattle.cx_world_start.specs.cx_run.specs.Worlds.{Post, World, happened, happening, post_of, with_post}
use Rattle.cx_steps.specs.Nothing.{nothing}
use Rattle.cx_world.specs.actors.Held.{IsGiven, MemberStands, NodeStands, StandFor, member_of}
use Rattle.cx_world.specs.actors.Posts.{IsOf, IsPosted, Sitting}
use Rattle.cx_world.specs.actors.Steps.{IsMemberStep, IsMonitorStep, entity_behind, entity_made, entity_out, monitor_made, rolled_once}
use Rattle.cx_world.specs.declared.made.Made.{Made}
use Rattle.cx_world.specs.declared.members.Member.{Member}
use Rattle.cx_world.specs.declared.members.MemberNode.{MemberNode}
use Rattle.cx_world.specs.declared.members.MemberNode.TheVariants as held
use Rattle.cx_world.specs.declared.nodes.Nodes.{Nodes}
use Rattle.cx_world_start.specs.cx_run.proofs.EntityNamed.{entity-named}
use Rattle.cx_world.proofs.actors.Keyed.{key_found, replaced_elsewhere, replaced_here, same_node_is, same_node_self}
use Rattle.cx_world.proofs.actors.Placed.{placed-same, placed-set}
use Rattle.cx_world.proofs.actors.Placing.{IsFirst, found_first, member_elsewhere, member_here, old_name}

-- ---- a member

-- the node of the rules for which a member's stands is of its kind
its_client : (node : MemberNode) (entity : Option EntityNode) (h : WholeClientNode) → node ≡ held.Client h → NodeStands node entity
    → (c : WholeClientNode) × (entity ≡ Some (OfClient c)) × WholeClientStandsFor h c
its_client (held.Client g) (Some (OfClient c)) h e k = let P : WholeClientNode → Type 0 = λ x. WholeClientStandsFor x c in (c, refl, subst P (let s : g ≡ h = cc in s) k)
its_client (held.Client g) (Some (OfDaemon d)) h e k = absurd k
its_client (held.Client g) None h e k = absurd k
its_client (held.Daemon g) entity h e k = absurd cc

its_daemon : (node : MemberNode) (entity : Option EntityNode) (h : DaemonState) → node ≡ held.Daemon h → NodeStands node entity
    → (d : DaemonState) × (entity ≡ Some (OfDaemon d)) × DaemonStandsFor h d
its_daemon (held.Daemon g) (Some (OfDaemon d)) h e k = let P : DaemonState → Type 0 = λ x. DaemonStandsFor x d in (d, refl, subst P (let s : g ≡ h = cc in s) k)
its_daemon (held.Daemon g) (Some (OfClient c)) h e k = absurd k
its_daemon (held.Daemon g) None h e k = absurd k
its_daemon (held.Client g) entity h e k = absurd cc

pub client_step : (handlers : Handlers) (input : Input) (post : Post) (entity : Option EntityNode) (made : Made) (old new : Member) (h g : WholeClientNode)
    → NodeStands old.node entity → old.node ≡ held.Client h → new.node ≡ held.Client g → new.name ≡ old.name → IsOf (rolled_once post) new.post
    → ((c : WholeClientNode) → WholeClientStandsFor h c → (let o = whole_client_rule c input post.reading (seed_draw post.seed post.rolled) in
    (made ≡ record { out = o.out; failed = false; happened = true }) × WholeClientStandsFor g o.state))
    → IsMemberStep handlers input post entity made old new
client_step handlers input post entity made old new h g k e f name sits does =
    let its = its_client old.node entity h e k in
    let c = its.0 in
    let done = does c its.2 in
    let P : Option EntityNode → Type 0 = λ x. IsMemberStep handlers input post x made old new in
    let Q : MemberNode → Type 0 = λ x. NodeStands x (Some (entity_made handlers input post (OfClient c)).state) in
    subst P (sym its.1) (record { comes = done.0; name = name; stands = (sits, subst Q (sym f) done.1) })

pub daemon_steps : (handlers : Handlers) (input : Input) (post : Post) (entity : Option EntityNode) (made : Made) (old new : Member) (h g : DaemonState)
    → NodeStands old.node entity → old.node ≡ held.Daemon h → new.node ≡ held.Daemon g → new.name ≡ old.name → IsOf (rolled_once post) new.post
    → ((d : DaemonState) → DaemonStandsFor h d → (let o = daemon_step handlers d input post.reading (seed_draw post.seed post.rolled) in
    (made ≡ record { out = o.out; failed = false; happened = true }) × DaemonStandsFor g o.state))
    → IsMemberStep handlers input post entity made old new
daemon_steps handlers input post entity made old new h g k e f name sits does =
    let its = its_daemon old.node entity h e k in
    let d = its.0 in
    let done = does d its.2 in
    let P : Option EntityNode → Type 0 = λ x. IsMemberStep handlers input post x made old new in
    let Q : MemberNode → Type 0 = λ x. NodeStands x (Some (entity_made handlers input post (OfDaemon d)).state) in
    subst P (sym its.1) (record { comes = done.0; name = name; stands = (sits, subst Q (sym f) done.1) })

-- the members behind an event of one of them
module _ {handlers : Handlers} (held new : Nodes) (nodes after : RunNodes) (posts : List Post) (name : Name) (place : ℕ) (old next : Member) (post rolled : Post)
    (k : StandFor handlers held nodes posts) (at : IsFirst (λ (m : Member). same_name m.name name) held.members.items place) (read : old ≡ get_or held.members.items place old)
    (same : next.name ≡ old.name) (put : new.members.items ≡ set held.members.items place next)
    (found : post_of (node.Entity name) posts ≡ Some post) (who : post.node ≡ node.Entity name) (there : rolled.node ≡ post.node)
    (stands : MemberStands (Some next) (Some rolled) (entity_of name after))
    (others : (n : Name) → same_name name n ≡ false → entity_of n after ≡ entity_of n nodes) where
  its : (n : Name) → same_name name n ≡ true → MemberStands (member_of n new.members.items) (post_of (node.Entity n) (with_post posts rolled)) (entity_of n after)
  its n e =
      let here : name ≡ n = same_name_is name n e in
      let P : Name → Type 0 = λ m. MemberStands (member_of m new.members.items) (post_of (node.Entity m) (with_post posts rolled)) (entity_of m after) in
      let member : member_of name new.members.items ≡ Some next = ap (λ (ms : List Member). member_of name ms) put ∙ member_here held.members.items name place old next at read same in
      let k : rolled.node ≡ node.Entity name = there ∙ who in
      let sits : post_of (node.Entity name) (with_post posts rolled) ≡ Some rolled =
      (let Q : NodeName → Type 0 = λ x. post_of x (with_post posts rolled) ≡ Some rolled in
      subst Q k (replaced_here (λ (s : Post). s.node) same_node same_node_self posts rolled.node post rolled refl (let R : NodeName → Type 0 = λ x. post_of x posts ≡ Some post in subst R (sym k) found))) in
      subst P here (rw (member, sits) stands)

  other : (n : Name) → same_name name n ≡ false → MemberStands (member_of n new.members.items) (post_of (node.Entity n) (with_post posts rolled)) (entity_of n after)
  other n e =
      let member : member_of n new.members.items ≡ member_of n held.members.items = ap (λ (ms : List Member). member_of n ms) put ∙ member_elsewhere held.members.items name place old next at read same n e in
      let still = k.members in
      let entity : rolled.node ≡ node.Entity name = there ∙ who in
      let apart : same_node rolled.node (node.Entity n) ≡ false = rw entity e in
      let sits : post_of (node.Entity n) (with_post posts rolled) ≡ post_of (node.Entity n) posts = replaced_elsewhere (λ (s : Post). s.node) same_node same_node_is posts rolled.node (node.Entity n) rolled refl apart in
      rw (member, sits, others n e) (still n)

  pub members_behind : (n : Name) → MemberStands (member_of n new.members.items) (post_of (node.Entity n) (with_post posts rolled)) (entity_of n after)
  members_behind n = by (same_name name n) refl
    where
      by : (b : Bool) → same_name name n ≡ b → MemberStands (member_of n new.members.items) (post_of (node.Entity n) (with_post posts rolled)) (entity_of n after)
      by true e = its n e
      by false e = other n e

-- ---- an event of an entity

post_at : (who : NodeName) (posts : List Post) (post : Post) → post_of who posts ≡ Some post → post.node ≡ who
post_at who posts post e = same_node_is post.node who (key_found (λ (s : Post). s.node) same_node posts who post e)

module _ {handlers : Handlers} (input : Input) (w : World) (name : Name) (held new : Nodes) (place : ℕ) (old next : Member) (made : Made)
    (k : StandFor handlers held w.nodes w.posts) (at : IsFirst (λ (m : Member). same_name m.name name) held.members.items place) (read : old ≡ get_or held.members.items place old)
    (monitor : new.monitor ≡ held.monitor) (sitting : new.post ≡ held.post) (places : new.places ≡ held.places) (put : new.members.items ≡ set held.members.items place next)
    (does : (post : Post) (entity : Option EntityNode) → MemberStands (Some old) (Some post) entity → IsMemberStep w.nodes.handlers input post entity made old next) where
  module _ (post : Post) (found : post_of (node.Entity name) w.posts ≡ Some post) where
    who : post.node ≡ node.Entity name
    who = post_at (node.Entity name) w.posts post found

    stepped : (entity : Option EntityNode) → entity_of name w.nodes ≡ entity → steps w.nodes (happening w input post) ≡ entity_steps w.nodes (happening w input post) name entity
    stepped entity there =
        ap (λ (n : NodeName). steps_of w.nodes (happening w input post) n) who
        ∙ ap (λ (e : Option EntityNode). entity_steps w.nodes (happening w input post) name e) there

    abbrev Gives : Stepped → Type 0
    Gives s = IsGiven handlers new made (Some post) (record { world = happened w (happening w input post) post s.nodes; out = s.out; failed = s.failed })

    sits_still : IsPosted new.post (post_of node.Monitor (with_post w.posts (rolled_once post)))
    sits_still =
        let apart : same_node post.node node.Monitor ≡ false = rw who refl in
        let still : post_of node.Monitor (with_post w.posts (rolled_once post)) ≡ post_of node.Monitor w.posts = replaced_elsewhere (λ (s : Post). s.node) same_node same_node_is w.posts post.node node.Monitor (rolled_once post) refl apart in
        rw (sitting, still) k.post

    behind : (entity : Option EntityNode) (after : RunNodes) → IsMemberStep w.nodes.handlers input post entity made old next → after.monitor ≡ w.nodes.monitor → after.handlers ≡ w.nodes.handlers
        → entity_of name after ≡ entity_behind w.nodes.handlers input post entity → ((n : Name) → same_name name n ≡ false → entity_of n after ≡ entity_of n w.nodes)
        → IsGiven handlers new made (Some post) (record { world = happened w (happening w input post) post after; out = entity_out w.nodes.handlers input post entity; failed = false })
    behind entity after step m h there others = record {
      nodes = record {
        monitor = rw (monitor, m) k.monitor;
        post = sits_still;
        members = members_behind held new w.nodes after w.posts name place old next post (rolled_once post) k at read step.name put found who refl (rw there step.stands) others;
        placed = placed-set held new place old next places read step.name put k.placed;
        serves = h ∙ k.serves;
      };
      out = ap (λ (x : Made). x.out) step.comes;
      failed = ap (λ (x : Made). x.failed) step.comes;
      happened = ap (λ (x : Made). x.happened) step.comes;
    }

    at_post : (entity : Option EntityNode) → entity_of name w.nodes ≡ entity → MemberStands (Some old) (Some post) entity → IsGiven handlers new made (Some post) (given w input (Some post))
    at_post None none stands =
        let P : Stepped → Type 0 = Gives in
        subst P (sym (stepped None none)) (behind None w.nodes (does post None stands) refl refl none (λ n e. refl))
    at_post (Some entity) there stands =
        let P : Stepped → Type 0 = Gives in
        let o = entity_made w.nodes.handlers input post entity in
        let key : EntityNode → Name = λ x. (mon_client_in x).name in
        let named : (mon_client_in entity).name ≡ name = same_name_is (mon_client_in entity).name name (key_found key same_name w.nodes.entities name entity there) in
        let kept : (mon_client_in o.state).name ≡ name = entity-named w.nodes.handlers entity input post.reading (seed_draw post.seed post.rolled) ∙ named in
        subst P (sym (stepped (Some entity) there)) (behind (Some entity) (with_entity w.nodes name o.state) (does post (Some entity) stands) refl refl
        (replaced_here key same_name same_name_self w.nodes.entities name entity o.state kept there)
        (λ n e. replaced_elsewhere key same_name same_name_is w.nodes.entities name n o.state kept e))

  by_post : (post : Option Post) → post_of (node.Entity name) w.posts ≡ post → MemberStands (Some old) post (entity_of name w.nodes)
      → IsGiven handlers new made post (given w input post)
  by_post None e stands = absurd stands
  by_post (Some post) e stands = at_post post e (entity_of name w.nodes) refl stands

  pub member_given : IsGiven handlers new made (post_of (node.Entity name) w.posts) (given w input (post_of (node.Entity name) w.posts))
  member_given =
      let there : member_of name held.members.items ≡ Some old = (found_first (λ (m : Member). same_name m.name name) held.members.items place old at read).0 in
      let P : Option Member → Type 0 = λ m. MemberStands m (post_of (node.Entity name) w.posts) (entity_of name w.nodes) in
      by_post (post_of (node.Entity name) w.posts) refl (subst P there (k.members name))

-- where there is no such entity
pub nobody_given : {handlers : Handlers} (input : Input) (w : World) (name : Name) (held : Nodes) (made : Made) → StandFor handlers held w.nodes w.posts → member_of name held.members.items ≡ None
    → made ≡ record { out = nothing; failed = false; happened = false }
    → IsGiven handlers held made (post_of (node.Entity name) w.posts) (given w input (post_of (node.Entity name) w.posts))
nobody_given {handlers} input w name held made k none comes =
    let P : Option Member → Type 0 = λ m. MemberStands m (post_of (node.Entity name) w.posts) (entity_of name w.nodes) in
    by (post_of (node.Entity name) w.posts) (subst P none (k.members name))
  where
    by : (post : Option Post) → MemberStands None post (entity_of name w.nodes) → IsGiven handlers held made post (given w input post)
    by None stands = record { nodes = k; out = ap (λ (x : Made). x.out) comes; failed = ap (λ (x : Made). x.failed) comes; happened = ap (λ (x : Made). x.happened) comes }
    by (Some post) stands = absurd stands

-- ---- an event of the monitor

same_entities : (nodes : RunNodes) (o : Outcome MonitorNode) (left : Option LeftState) (save : Option KeptState) → (monitor_steps nodes o left save).nodes.entities ≡ nodes.entities
same_entities nodes o None None = refl
same_entities nodes o None (Some saved) = refl
same_entities nodes o (Some left) None = refl
same_entities nodes o (Some left) (Some saved) = refl

same_handlers : (nodes : RunNodes) (o : Outcome MonitorNode) (left : Option LeftState) (save : Option KeptState) → (monitor_steps nodes o left save).nodes.handlers ≡ nodes.handlers
same_handlers nodes o None None = refl
same_handlers nodes o None (Some saved) = refl
same_handlers nodes o (Some left) None = refl
same_handlers nodes o (Some left) (Some saved) = refl

pub monitor_given : {handlers : Handlers} (input : Input) (w : World) (held new : Nodes) (made : Made) → StandFor handlers held w.nodes w.posts → new.places ≡ held.places → new.members.items ≡ held.members.items
    → ((post : Post) → IsOf post held.post → IsMonitorStep post (monitor_made input post w.nodes w.left) made new.monitor new.post)
    → IsGiven handlers new made (post_of node.Monitor w.posts) (given w input (post_of node.Monitor w.posts))
monitor_given {handlers} input w held new made k places same does = by (post_of node.Monitor w.posts) refl k.post
  where
    by : (post : Option Post) → post_of node.Monitor w.posts ≡ post → IsPosted held.post post → IsGiven handlers new made post (given w input post)
    by None e sits = absurd sits
    by (Some post) e sits =
        let who : post.node ≡ node.Monitor = post_at node.Monitor w.posts post e in
        let step = does post sits in
        let after : Stepped = monitor_made input post w.nodes w.left in
        let o = monitor_rule w.nodes.monitor input post.reading (seed_draw post.seed post.rolled) in
        let s : steps w.nodes (happening w input post) ≡ after = ap (λ (n : NodeName). steps_of w.nodes (happening w input post) n) who in
        let P : Stepped → Type 0 = λ s. IsGiven handlers new made (Some post) (record { world = happened w (happening w input post) post s.nodes; out = s.out; failed = s.failed }) in
        let here : post_of node.Monitor (with_post w.posts (rolled_once post)) ≡ Some (rolled_once post) =
        (let Q : NodeName → Type 0 = λ x. post_of x (with_post w.posts (rolled_once post)) ≡ Some (rolled_once post) in
        let R : NodeName → Type 0 = λ x. post_of x w.posts ≡ Some post in
        subst Q who (replaced_here (λ (s : Post). s.node) same_node same_node_self w.posts post.node post (rolled_once post) refl (subst R (sym who) e))) in
        subst P (sym s) (record {
          nodes = record {
            monitor = step.saved.stands;
            post = rw here step.sits;
            members = λ n.
                let apart : same_node post.node (node.Entity n) ≡ false = rw who refl in
                let still : post_of (node.Entity n) (with_post w.posts (rolled_once post)) ≡ post_of (node.Entity n) w.posts = replaced_elsewhere (λ (s : Post). s.node) same_node same_node_is w.posts post.node (node.Entity n) (rolled_once post) refl apart in
                let entities : entity_of n after.nodes ≡ entity_of n w.nodes = ap (λ (es : List EntityNode). entity_of n (record w.nodes { entities = es })) (same_entities w.nodes o w.left o.out.save) in
                rw (same, still, entities) (k.members n);
            placed = placed-same held new places same k.placed;
            serves = same_handlers w.nodes o w.left o.out.save ∙ k.serves;
          };
          out = ap (λ (x : Made). x.out) step.saved.comes;
          failed = ap (λ (x : Made). x.failed) step.saved.comes;
          happened = ap (λ (x : Made). x.happened) step.saved.comes;
        })
