-- The numbers behind one more ticket.
use Rattle.std.proofs.Common.{sym, ◌∙◌}
use Rattle.cx_journal.proofs.CountsLemmas.{numbers_stay, numbers_grow}
use Rattle.cx_journal.proofs.numbers.Numbers.add.Goals as goal

pub returns-then-contains_key : goal.returns-then-contains_key
returns-then-contains_key c = λ blobs h.
    numbers_stay c.args.self.now.numbers c.args.self.now.issued blobs c.args.blob.now (sym c.contains_key.ensures ∙ c.if-contains_key.true) h

pub returns : goal.returns
returns c = λ blobs h.
    let updates = rw c.in_ok-key.ensures at c.in_ok-insert.ensures.updates in
    numbers_grow c.args.self.now.numbers c.insert.new.self c.args.self.now.issued blobs c.args.blob.now
    (sym c.contains_key.ensures ∙ c.if-contains_key.false) updates h
