use Rattle.std.proofs.Common.{rules}
use Rattle.cx_words.specs.Words.{ticket_service_of}
use Rattle.cx_words.proofs.NameWords.{ticket_service_spelled}
use Rattle.cx_words.proofs.named.ticket_service.Goals as goal

pub returns-in_err-kind-clause-read : goal.returns-in_err-kind-clause-read
unfolding ticket_service_of
returns-in_err-kind-clause-read c = search rules

pub returns-then-is_daemon-clause-read : goal.returns-then-is_daemon-clause-read
unfolding ticket_service_of
returns-then-is_daemon-clause-read c = search rules

pub returns-then-is_daemon-clause-spelled : goal.returns-then-is_daemon-clause-spelled
returns-then-is_daemon-clause-spelled c = ticket_service_spelled c.args.word.now _ (returns-then-is_daemon-clause-read c)

pub returns-else-is_daemon-clause-read : goal.returns-else-is_daemon-clause-read
unfolding ticket_service_of
returns-else-is_daemon-clause-read c = search rules
