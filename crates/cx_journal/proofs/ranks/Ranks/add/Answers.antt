-- The ranks behind one more cookie.
use Rattle.std.proofs.Common.{sym, ◌∙◌}
use Rattle.cx_journal.proofs.CountsLemmas.{ranks_stay, ranks_grow}
use Rattle.cx_journal.proofs.ranks.Ranks.add.Goals as goal

pub returns-then-contains_key : goal.returns-then-contains_key
returns-then-contains_key c = λ cookies h. ranks_stay c.args.self.now.ranks cookies c.args.cookie (sym c.contains_key.ensures ∙ c.if-contains_key.true) h

pub returns : goal.returns
returns c = λ cookies h.
    let updates = rw c.len.ensures.len at c.in_ok-insert.ensures.updates in
    ranks_grow c.args.self.now.ranks c.insert.new.self cookies c.args.cookie c.in_ok-insert.field-0
    (sym c.contains_key.ensures ∙ c.if-contains_key.false) updates c.in_ok-insert.ensures.old c.in_ok-insert.ensures.len h
