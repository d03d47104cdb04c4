use Rattle.std.proofs.Common.{sym, ap, ◌∙◌}
use Rattle.cx_world_start.specs.cx_run.specs.Worlds.{World as RunWorld}
use Rattle.cx_world.proofs.Making.{ok_makes}
use Rattle.cx_words.specs.declared.choices.Side.{Side}
use Rattle.cx_world_start.specs.cx_run.specs.Wires.{gone_at, wire_of}
use Rattle.cx_world_start.specs.links.Tables.{with_changed}
use Rattle.cx_world.specs.Arriving.{delivers_gone, tells_there}
use Rattle.cx_world.proofs.Arrivals.{gone_comes, nothing_owed, seen_at}
use Rattle.cx_world.proofs.world.World.deliver_gone.Goals as goal

pub returns-then-not-owes_gone : goal.returns-then-not-owes_gone
returns-then-not-owes_gone g c = λ b seen w h.
    nothing_owed b seen c.args.self.now w c.args.number c.args.side h (sym c.owes_gone.ensures ∙ c.if-not-owes_gone.true)

pub returns : goal.returns
returns g c = ok_makes c.tell_there.result (record c.args.self.now { wires = c.go.new.self }) c.tell_there.new.self
    (λ (w : RunWorld). tells_there w c.in_ok-far.far) c.tell_there.ensures
    c.args.self.now (λ (w : RunWorld). delivers_gone w c.args.side (wire_of c.args.number w.wires))
    (λ b seen w h m. gone_comes b seen c.args.self.now c.tell_there.new.self w c.args.number c.args.side c.go.new.self c.in_ok-far.far h
    (sym c.owes_gone.ensures ∙ c.if-not-owes_gone.false)
    (c.in_ok-far.ensures ∙ ap (λ (s : Side). seen_at s (wire_of c.args.number c.args.self.now.wires)) c.other-there.ensures)
    (c.in_ok-go.ensures.ok ∙ ap (λ (s : Side). with_changed (λ x. gone_at x s) c.args.number c.args.self.now.wires) c.other-there.ensures)
    m)
