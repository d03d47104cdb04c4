-- What was made on a link of a kind, as made on one of the node.
use Rattle.std.specs.Prelude.{Option}
use Rattle.std.specs.Option.{option_map}
use Rattle.cx_node.specs.declared.rows.Row.{Row as Made}
use Rattle.cx_rules_session.specs.cx_rules.specs.Links.{Link}
use Rattle.cx_rules_session.specs.Kinds.{of_kind}
use Rattle.cx_node.specs.declared.came.Came.{Came}
use Rattle.cx_node.specs.declared.came.Came.TheVariants as came

-- a row that was made on a link of a kind
abbrev pub made_of_kind : {S T : Type 0} → (S → T) → Made (Link S) → Made (Link T)
made_of_kind kind row = record { link = option_map (of_kind kind) row.link; sends = row.sends; save = row.save; entries = row.entries; seals = row.seals }

-- what a turn of a link of a kind came to, with what it changes of the node's own
abbrev pub came_of_kind : {S T C D : Type 0} → (S → T) → (Option C → Option D) → Came (Link S) C → Came (Link T) D
came_of_kind kind changes (came.Waits link) = came.Waits (of_kind kind link)
came_of_kind kind changes (came.Refuses why opened) = came.Refuses why opened
came_of_kind kind changes (came.Handles made) = came.Handles (record { row = made_of_kind kind made.row; change = changes made.change })
