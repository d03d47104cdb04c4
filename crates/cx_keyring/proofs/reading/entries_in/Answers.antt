use Rattle.std.proofs.Common.{◌≡◌, List, [], None, rules, sym, subst}
use Rattle.cx_keyring.specs.declared.entries.Entry.{Entry}
use Rattle.cx_keyring.specs.Collected.{entries_of}
use Rattle.cx_keyring.specs.Faults.{first_bad}
use Rattle.cx_keyring.specs.Lines.{lines_said}
use Rattle.cx_keyring.specs.Rings.{KeyringText}
use Rattle.cx_keyring.proofs.GoodRings.{judged_good}
use Rattle.cx_keyring.proofs.reading.entries_in.Goals as goal

pub returns-clause-found : goal.returns-clause-found
returns-clause-found c =
    let judged : first_bad [] (lines_said c.args.bytes.now) ≡ None = search rules in
    let given : c.in_ok-entries.entries ≡ entries_of (lines_said c.args.bytes.now) = search rules in
    subst (λ (entries : List Entry). KeyringText c.args.bytes.now entries) (sym given) (judged_good c.args.bytes.now judged)
