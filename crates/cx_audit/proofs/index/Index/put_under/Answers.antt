use Rattle.std.proofs.Common.{[], ap, ◌∙◌}
use Rattle.std.specs.Prelude.{unwrap_or}
use Rattle.std.specs.Option.{option_map}
use Rattle.cx_audit.specs.indexed.Keyed.{held}
use Rattle.cx_audit.proofs.indexed.Keys.{put_listed}
use Rattle.cx_audit.proofs.index.Index.put_under.Goals as goal

pub returns : goal.returns
returns c = λ key.
    put_listed c.args.self.now.by_key c.remove.new.self c.insert.new.self c.args.key c.args.entry.now c.or_none-entries.result c.add.new.entries
    c.remove.ensures.updates.0 c.in_ok-insert.ensures.updates.0 (c.or_none-entries.ensures ∙ ap (λ o. unwrap_or (option_map held o) []) c.remove.ensures.value) c.in_ok-add.ensures key
