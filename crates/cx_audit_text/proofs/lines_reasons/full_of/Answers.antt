use Rattle.cx_audit_text.proofs.lines_reasons.full_of.Goals as goal

pub returns-in-Links : goal.returns-in-Links
returns-in-Links c = λ counted. rw c.in-Links.is (c.links_full_of.ensures counted)

pub returns-in-Queue : goal.returns-in-Queue
returns-in-Queue c = λ counted. rw c.in-Queue.is (c.queue_full_of.ensures counted)

pub returns-in-Book : goal.returns-in-Book
returns-in-Book c = λ counted. rw c.in-Book.is (c.book_full_of.ensures counted)
