use Rattle.std.proofs.Common.{◌≡◌, ℕ, drop, map, sym, ap, ◌∙◌, rules, Bor}
use Rattle.std.proofs.lemmas.List.{drop-map}
use Rattle.cx_base.specs.declared.operations.Operation.{Operation}
use Rattle.cx_journal.specs.declared.entries.Entry.{Entry}
use Rattle.cx_audit.specs.indexed.Keyed.{under}
use Rattle.cx_audit.specs.ruled.Tests.{is_next}
use Rattle.cx_audit.proofs.judging.is_sent_next.Goals as goal

pub returns-in-Some : goal.returns-in-Some
returns-in-Some c =
    let what : ℕ × Operation = (c.args.handled.now.seq, c.args.handled.now.operation) in
    let items = c.as_slice.result.now in
    let all : map (λ e. e.now) items ≡ under c.args.sent.now c.args.key.now = search rules in
    c.is_next.ensures ∙ ap (is_next what) (sym (drop-map (λ (e : Bor Entry). e.now) c.args.done items)) ∙ ap (λ es. is_next what (drop c.args.done es)) all
