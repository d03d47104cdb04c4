use Rattle.std.proofs.Common.{sym, ◌∙◌}
use Rattle.cx_login.proofs.Holding.{short_rest}
use Rattle.cx_login.proofs.client.login_in.Goals as goal

pub login_of_parts-requires-clause-parts : goal.login_of_parts-requires-clause-parts
login_of_parts-requires-clause-parts c = short_rest c.args.done.now c.in-Some.auth.now c.in-Some.parts.now c.requires (sym c.all.ensures ∙ c.in-Some.ensures.cases.0)
