use Rattle.std.proofs.Common.{◌≡◌, Some, map, sym, ◌∙◌}
use Rattle.cx_command_line.specs.Commands as asked
use Rattle.cx_desk.specs.Held.{handlers_of}
use Rattle.cx_help.specs.declared.scripts.NodeKind.TheVariants as kind
use Rattle.cx_commands.proofs.WrongWords.{misread_usage}
use Rattle.cx_commands.proofs.Words.{misread_drill, misread_key, misread_node, misread_text}
use Rattle.cx_commands.proofs.running.run.Goals as goal

-- ---- words that aren't read

pub returns-in-Err-clause-usage : goal.returns-in-Err-clause-usage
returns-in-Err-clause-usage g c =
    misread_usage (map (λ w. w.now) c.args.words.now) _ _ c.in-Err.why c.misread.result c.in-Err.ensures.err c.misread.ensures.status c.misread.ensures.told

pub returns-in-Err-clause-texts : goal.returns-in-Err-clause-texts
returns-in-Err-clause-texts g c = λ command words.
    misread_text (map (λ w. w.now) c.args.words.now) _ _ (handlers_of c.args.desk.now) command c.in-Err.why c.misread.result words
    c.in-Err.ensures.err c.misread.ensures.status c.misread.ensures.told

pub returns-in-Err-clause-drill : goal.returns-in-Err-clause-drill
returns-in-Err-clause-drill g c = λ command is.
    misread_drill (map (λ w. w.now) c.args.words.now) _ _ (handlers_of c.args.desk.now) command c.in-Err.why c.misread.result is
    c.in-Err.ensures.err c.misread.ensures.status c.misread.ensures.told

pub returns-in-Err-clause-key : goal.returns-in-Err-clause-key
returns-in-Err-clause-key g c = λ is.
    misread_key (map (λ w. w.now) c.args.words.now) _ _ _ c.in-Err.why c.misread.result is
    c.in-Err.ensures.err c.misread.ensures.status c.misread.ensures.told

pub returns-in-Err-clause-mon : goal.returns-in-Err-clause-mon
returns-in-Err-clause-mon g c = λ command is.
    misread_node (map (λ w. w.now) c.args.words.now) _ _ kind.Monitor _ _ (asked.Monitor command) c.in-Err.why c.misread.result is
    c.in-Err.ensures.err c.misread.ensures.status c.misread.ensures.told

pub returns-in-Err-clause-daemon : goal.returns-in-Err-clause-daemon
returns-in-Err-clause-daemon g c = λ command is.
    misread_node (map (λ w. w.now) c.args.words.now) _ _ kind.Daemon _ _ (asked.Daemon command) c.in-Err.why c.misread.result is
    c.in-Err.ensures.err c.misread.ensures.status c.misread.ensures.told

pub returns-in-Err-clause-client : goal.returns-in-Err-clause-client
returns-in-Err-clause-client g c = λ command is.
    misread_node (map (λ w. w.now) c.args.words.now) _ _ kind.Client _ _ (asked.Client command) c.in-Err.why c.misread.result is
    c.in-Err.ensures.err c.misread.ensures.status c.misread.ensures.told

-- ---- words that are read

pub returns-in-Ok-clause-key : goal.returns-in-Ok-clause-key
returns-in-Ok-clause-key g c = λ is.
    c.invoked.ensures.key (let same : Some (asked.asked c.in-Ok.invocation) ≡ Some asked.Key = sym c.in-Ok.ensures.ok ∙ is in cc)

pub returns-in-Ok-clause-mon : goal.returns-in-Ok-clause-mon
returns-in-Ok-clause-mon g c = λ command is.
    c.invoked.ensures.mon command (let same : Some (asked.asked c.in-Ok.invocation) ≡ Some (asked.Monitor command) = sym c.in-Ok.ensures.ok ∙ is in cc)

pub returns-in-Ok-clause-daemon : goal.returns-in-Ok-clause-daemon
returns-in-Ok-clause-daemon g c = λ command is.
    c.invoked.ensures.daemon command (let same : Some (asked.asked c.in-Ok.invocation) ≡ Some (asked.Daemon command) = sym c.in-Ok.ensures.ok ∙ is in cc)

pub returns-in-Ok-clause-client : goal.returns-in-Ok-clause-client
returns-in-Ok-clause-client g c = λ command is.
    c.invoked.ensures.client command (let same : Some (asked.asked c.in-Ok.invocation) ≡ Some (asked.Client command) = sym c.in-Ok.ensures.ok ∙ is in cc)
