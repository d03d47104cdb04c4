use Rattle.std.proofs.Common.{◌≡◌, ◌<◌, ◌≤◌, length, Err, refl, rules, ◌∙◌}
use Rattle.cx_keyring.specs.declared.refusals.KeyringRefusal.TheVariants.{TooMany}
use Rattle.cx_keyring.proofs.Reasons.{no_reason, one_keyring, one_reason, only_memory}
use Rattle.cx_keyring.proofs.reading.parse.Goals as goal

pub returns-in_err-entries-clause-exact : goal.returns-in_err-entries-clause-exact
returns-in_err-entries-clause-exact c why reason =
    let is : c.from_residual.result ≡ Err c.in_err-entries.field-0.0 = search rules in
    rw is (one_reason c.args.bytes.now c.in_err-entries.field-0.0 why c.in_err-entries.ensures.bad reason)

pub returns-then-all-gt-MOST_ENTRIES-clause-only : goal.returns-then-all-gt-MOST_ENTRIES-clause-only
returns-then-all-gt-MOST_ENTRIES-clause-only c ring text short =
    let long : 4096 < length c.in_ok-entries.entries = search rules in
    only_memory c.args.bytes.now ring (TooMany 4096) text short (refl, c.in_ok-entries.entries, c.in_ok-entries.ensures.found, long)

pub returns-then-all-gt-MOST_ENTRIES-clause-exact : goal.returns-then-all-gt-MOST_ENTRIES-clause-exact
returns-then-all-gt-MOST_ENTRIES-clause-exact c why reason =
    let long : 4096 < length c.in_ok-entries.entries = search rules in
    one_reason c.args.bytes.now (TooMany 4096) why (refl, c.in_ok-entries.entries, c.in_ok-entries.ensures.found, long) reason

pub returns-clause-one : goal.returns-clause-one
returns-clause-one c ring text = c.in_ok-ring.ensures ∙ one_keyring c.args.bytes.now c.in_ok-entries.entries ring c.in_ok-entries.ensures.found text

pub returns-clause-exact : goal.returns-clause-exact
returns-clause-exact c why reason =
    let short : length c.in_ok-entries.entries ≤ 4096 = search rules in
    no_reason c.args.bytes.now c.in_ok-entries.entries why c.in_ok-entries.ensures.found short reason
