use Rattle.std.specs.Prelude.{string_bytes}
use Rattle.cx_words.proofs.lines.NameTexts.{texts_more}
use Rattle.cx_words.proofs.names.Names.add.Goals as goal

pub invariant_of-self-in_default : goal.invariant_of-self-in_default
invariant_of-self-in_default c =
    texts_more c.self.inside.listed c.push.new.self c.self.inside.texts c.note.new.texts c.args.name.now c.in_ok-copied.copied (string_bytes c.in_ok-text.text) c.self.invariant c.in_ok-push.ensures.ok c.in_ok-copied.ensures c.in_ok-text.ensures.text c.in_default.ensures.ok
