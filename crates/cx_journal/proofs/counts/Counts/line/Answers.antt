-- The numbers that a line says are those of the entries before it.
use Rattle.cx_journal.proofs.LineLemmas.{issued_as, admitted_as, resumed_as, sent_as, handled_as, refused_as}
use Rattle.cx_journal.proofs.counts.Counts.line.Goals as goal

pub returns-in-Issued : goal.returns-in-Issued
returns-in-Issued c = λ earlier h. rw (issued_as c.args.self.now earlier c.args.entry.now c.in-Issued.t c.last.result c.in-Issued.is c.last.ensures h) c.issued_line.ensures

pub returns-in-Admitted : goal.returns-in-Admitted
returns-in-Admitted c = λ earlier h. rw (admitted_as c.args.self.now earlier c.args.entry.now c.in-Admitted.a c.rank.result c.in-Admitted.is c.rank.ensures h) c.admitted_line.ensures

pub returns-in-Resumed : goal.returns-in-Resumed
returns-in-Resumed c = λ earlier h. rw (resumed_as c.args.self.now earlier c.args.entry.now c.in-Resumed.a c.rank-in-Resumed.result c.in-Resumed.is c.rank-in-Resumed.ensures h) c.resumed_line.ensures

pub returns-in-Sent : goal.returns-in-Sent
returns-in-Sent c = λ earlier h. rw (sent_as c.args.self.now earlier c.args.entry.now c.in-Sent.s c.rank-in-Sent.result c.in-Sent.is c.rank-in-Sent.ensures h) c.sent_line.ensures

pub returns-in-Handled : goal.returns-in-Handled
returns-in-Handled c = λ earlier h. rw (handled_as c.args.self.now earlier c.args.entry.now c.in-Handled.h c.rank-in-Handled.result c.in-Handled.is c.rank-in-Handled.ensures h) c.handled_line.ensures

pub returns-in-Refused : goal.returns-in-Refused
returns-in-Refused c = λ earlier h. rw (refused_as c.args.self.now earlier c.args.entry.now c.in-Refused.r c.ticket_number-number.result c.in-Refused.is c.ticket_number-number.ensures h) c.refused_line.ensures
