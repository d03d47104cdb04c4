-- The nodes of a run as the code holds them, and for which nodes and posts of the rules they stand.
use Rattle.std.specs.Prelude.{ℕ, ◌≡◌, Bool, true, false, List, find, position, Option, Some, None}
use Rattle.cx_base.specs.Names.{Name, same_name}
use Rattle.cx_base.specs.declared.nodes.NodeName.TheVariants as node
use Rattle.cx_desk.specs.Handlers.{Handlers}
use Rattle.cx_name_index.specs.Indexed.{place_of}
use Rattle.cx_world_start.specs.cx_rules.specs.Abridged.{MonitorStandsFor}
use Rattle.cx_world_start.specs.cx_rules_session.specs.Forgets.{DaemonStandsFor, WholeClientStandsFor}
use Rattle.cx_world_start.specs.cx_run.specs.Deliveries.{Given}
use Rattle.cx_world_start.specs.cx_run.specs.Happenings.{EntityNode, OfClient, OfDaemon, Nodes as RunNodes, entity_of}
use Rattle.cx_world_start.specs.cx_run.specs.Worlds.{Post, post_of}
use Rattle.cx_world.specs.actors.Posts.{IsOf, IsPosted}
use Rattle.cx_world.specs.declared.made.Made.{Made}
use Rattle.cx_world.specs.declared.members.Member.{Member}
use Rattle.cx_world.specs.declared.members.MemberNode.{MemberNode}
use Rattle.cx_world.specs.declared.members.MemberNode.TheVariants as held
use Rattle.cx_world.specs.declared.nodes.Nodes.{Nodes}

-- the first member of a name
abbrev pub member_of : Name → List Member → Option Member
member_of name members = find (λ m. same_name m.name name) members

-- each name has the place of the first member of that name
abbrev pub ArePlaced : Nodes → Type 0
ArePlaced held = (name : Name) → place_of held.places.ids name ≡ position (λ m. same_name m.name name) held.members.items

-- its clock reads this
abbrev pub reads : ℕ → Member → Member
reads reading m = record m { post = record m.post { reading = reading } }

-- the node of a member stands for this one of the rules, which is of its kind
abbrev pub NodeStands : MemberNode → Option EntityNode → Type 0
NodeStands (held.Client client) (Some (OfClient c)) = WholeClientStandsFor client c
NodeStands (held.Daemon daemon) (Some (OfDaemon d)) = DaemonStandsFor daemon d
NodeStands (held.Client client) (Some (OfDaemon d)) = ⊥
NodeStands (held.Daemon daemon) (Some (OfClient c)) = ⊥
NodeStands node None = ⊥

-- a member has a post, and its node stands for that of the rules; a name without a member has no post
abbrev pub MemberStands : Option Member → Option Post → Option EntityNode → Type 0
MemberStands None None entity = Unit {0}
MemberStands (Some member) (Some post) entity = IsOf post member.post × NodeStands member.node entity
MemberStands None (Some post) entity = ⊥
MemberStands (Some member) None entity = ⊥

-- the nodes stand for these of the rules, in these posts, whose daemons have these handlers, and are found where they stand
pub record StandFor (handlers : Handlers) (held : Nodes) (nodes : RunNodes) (posts : List Post) : Type 0 where
  pub monitor : MonitorStandsFor held.monitor nodes.monitor
  pub post : IsPosted held.post (post_of node.Monitor posts)
  pub members : (name : Name) → MemberStands (member_of name held.members.items) (post_of (node.Entity name) posts) (entity_of name nodes)
  pub placed : ArePlaced held
  pub serves : nodes.handlers ≡ handlers

-- ---- one event

abbrev pub is_posted : Option Post → Bool
is_posted None = false
is_posted (Some post) = true

-- what an event came to is what the rules give, and the nodes stand for those behind it
pub record IsGiven (handlers : Handlers) (held : Nodes) (made : Made) (post : Option Post) (g : Given) : Type 0 where
  pub nodes : StandFor handlers held g.world.nodes g.world.posts
  pub out : made.out ≡ g.out
  pub failed : made.failed ≡ g.failed
  pub happened : made.happened ≡ is_posted post
