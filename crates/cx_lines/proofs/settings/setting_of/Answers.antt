use Rattle.cx_lines.proofs.settings.setting_of.Goals as goal

pub returns-in-Lifetime : goal.returns-in-Lifetime
returns-in-Lifetime c = rw c.in-Lifetime.is (c.lifetime_of.ensures c.args.known.now)

pub returns-in-AuthLifetime : goal.returns-in-AuthLifetime
returns-in-AuthLifetime c = rw c.in-AuthLifetime.is (c.auth_lifetime_of.ensures c.args.known.now)
