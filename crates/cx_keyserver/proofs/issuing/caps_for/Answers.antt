-- The caps of a grant of the keyring are a capability text.
use Rattle.std.proofs.Common.{◌≡◌, Some, rules}
use Rattle.std.specs.Prelude.{find}
use Rattle.cx_base.specs.Names.{same_kind}
use Rattle.cx_keyserver.proofs.Grants.{is_caps_text}
use Rattle.cx_keyserver.proofs.issuing.caps_for.Goals as goal

pub returns-in_ok-caps-in-Some-clause-good : goal.returns-in_ok-caps-in-Some-clause-good
returns-in_ok-caps-in-Some-clause-good c =
    let found : find (λ g. same_kind c.args.service g.service) c.args.entry.now.caps ≡ Some c.in-Some.grant.now = search rules in
    rw c.in_ok-caps-in-Some.ensures (is_caps_text c.args.service c.args.entry.now.caps c.in-Some.grant.now c.requires found)
