-- The generations can be spelled.
use Rattle.std.proofs.Common.{sym, ◌∙◌}
use Rattle.cx_mon_grants.proofs.Readings.{told_readings}
use Rattle.cx_mon_grants.proofs.answers.on_rotating.Goals as goal

pub tells_generations-requires : goal.tells_generations-requires
tells_generations-requires c =
    told_readings c.args.server.now c.args.bearer.now.name c.in-Some-Ok.generations (rw c.state-state.ensures.value at c.state-state.ensures.kept)
    (sym c.secrets_for.ensures ∙ c.in-Some-Ok.is-1)
