-- What an event comes to at the monitor and at an entity in their posts.
use Rattle.std.specs.Prelude.{ℕ, suc, ◌≡◌, true, false, Option, Some, None}
use Rattle.cx_dice.specs.Rolls.{seed_draw}
use Rattle.cx_words.specs.declared.choices.LeftState.{LeftState}
use Rattle.cx_world_start.specs.cx_rules.specs.Abridged.{MonitorStandsFor}
use Rattle.cx_desk.specs.Handlers.{Handlers}
use Rattle.cx_world_start.specs.cx_rules.specs.Inputs.{Input}
use Rattle.cx_world_start.specs.cx_rules.specs.Monitor.{MonitorNode}
use Rattle.cx_world_start.specs.cx_rules.specs.MonitorRule.{monitor_rule}
use Rattle.cx_world_start.specs.cx_rules.specs.Rows.{Outcome}
use Rattle.cx_world_start.specs.cx_run.specs.Happenings.{EntityNode, Nodes as RunNodes, Stepped, entity_rule, monitor_steps}
use Rattle.cx_world_start.specs.cx_run.specs.Worlds.{Post}
use Rattle.cx_steps.specs.Nothing.{nothing}
use Rattle.cx_steps.specs.declared.effects.Effects.{Effects}
use Rattle.cx_world.specs.actors.Held.{MemberStands}
use Rattle.cx_world.specs.actors.Posts.{IsOf, Sitting}
use Rattle.cx_world.specs.declared.made.Made.{Made}
use Rattle.cx_world.specs.declared.members.Member.{Member}

-- the post behind an event
abbrev pub rolled_once : Post → Post
rolled_once post = record post { rolled = suc post.rolled }

-- ---- an entity

abbrev pub entity_made : Handlers → Input → Post → EntityNode → Outcome EntityNode
entity_made handlers input post entity = entity_rule handlers entity input post.reading (seed_draw post.seed post.rolled)

abbrev pub entity_out : Handlers → Input → Post → Option EntityNode → Effects
entity_out handlers input post None = nothing
entity_out handlers input post (Some entity) = (entity_made handlers input post entity).out

abbrev pub entity_behind : Handlers → Input → Post → Option EntityNode → Option EntityNode
entity_behind handlers input post None = None
entity_behind handlers input post (Some entity) = Some (entity_made handlers input post entity).state

-- what an event came to at a member, and the member behind it
pub record IsMemberStep (handlers : Handlers) (input : Input) (post : Post) (entity : Option EntityNode) (made : Made) (old new : Member) : Type 0 where
  pub comes : made ≡ record { out = entity_out handlers input post entity; failed = false; happened = true }
  pub name : new.name ≡ old.name
  pub stands : MemberStands (Some new) (Some (rolled_once post)) (entity_behind handlers input post entity)

-- ---- the monitor

abbrev pub monitor_made : Input → Post → RunNodes → Option LeftState → Stepped
monitor_made input post nodes left =
    let o = monitor_rule nodes.monitor input post.reading (seed_draw post.seed post.rolled) in monitor_steps nodes o left o.out.save

-- what a step of the monitor came to once its save was done or had failed, and the monitor behind it
pub record IsSaved (step : Stepped) (made : Made) (monitor : MonitorNode) : Type 0 where
  pub comes : made ≡ record { out = step.out; failed = step.failed; happened = true }
  pub stands : MonitorStandsFor monitor step.nodes.monitor

-- what an event came to at the monitor, and the monitor and its post behind it
pub record IsMonitorStep (post : Post) (step : Stepped) (made : Made) (monitor : MonitorNode) (sitting : Sitting) : Type 0 where
  pub saved : IsSaved step made monitor
  pub sits : IsOf (rolled_once post) sitting
