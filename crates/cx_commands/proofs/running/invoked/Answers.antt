use Rattle.std.proofs.Common.{Some, ap, inr, map, refl, sym, ◌∙◌}
use Rattle.cx_command_line.specs.Commands as asked
use Rattle.cx_desk.specs.Held.{handlers_of}
use Rattle.cx_help.specs.declared.scripts.NodeKind.TheVariants as kind
use Rattle.cx_top.specs.declared.commands.Subcommand.TheVariants as text
use Rattle.cx_commands.proofs.Named.{spelled-client, spelled-daemon}
use Rattle.cx_commands.proofs.NodeEnds.{client_ended, daemon_ended, monitor_ended}
use Rattle.cx_commands.proofs.Words.{drill_ended, drill_usage, key_usage, node_usage, spelled_drill, spelled_monitor, text_usage}
use Rattle.cx_commands.proofs.running.invoked.Goals as goal

-- ---- those that read a text

pub returns-in-Replay-clause-usage : goal.returns-in-Replay-clause-usage
returns-in-Replay-clause-usage g c =
    text_usage (map (λ w. w.now) c.args.words.now) _ _ _ _ c.of_text.result (handlers_of c.args.desk.now) text.Replay c.text.result
    (c.requires ∙ ap (λ i. Some (asked.asked i)) c.in-Replay.is) c.of_text.ensures.status c.text.ensures.ends

pub returns-in-Keyring-clause-usage : goal.returns-in-Keyring-clause-usage
returns-in-Keyring-clause-usage g c =
    text_usage (map (λ w. w.now) c.args.words.now) _ _ _ _ c.of_text-in-Keyring.result (handlers_of c.args.desk.now) text.Keyring c.text-in-Keyring.result
    (c.requires ∙ ap (λ i. Some (asked.asked i)) c.in-Keyring.is) c.of_text-in-Keyring.ensures.status c.text-in-Keyring.ensures.ends

pub returns-in-Audit-clause-usage : goal.returns-in-Audit-clause-usage
returns-in-Audit-clause-usage g c =
    text_usage (map (λ w. w.now) c.args.words.now) _ _ _ _ c.of_text-in-Audit.result (handlers_of c.args.desk.now) text.Audit c.text-in-Audit.result
    (c.requires ∙ ap (λ i. Some (asked.asked i)) c.in-Audit.is) c.of_text-in-Audit.ensures.status c.text-in-Audit.ensures.ends

pub returns-in-Replay-clause-texts : goal.returns-in-Replay-clause-texts
returns-in-Replay-clause-texts g c = λ command words. inr (record {
  ended = c.text.result;
  status = c.of_text.ensures.status;
  told = c.of_text.ensures.told;
  ends = c.text.ensures.ends command words;
  stood = refl;
})

pub returns-in-Keyring-clause-texts : goal.returns-in-Keyring-clause-texts
returns-in-Keyring-clause-texts g c = λ command words. inr (record {
  ended = c.text-in-Keyring.result;
  status = c.of_text-in-Keyring.ensures.status;
  told = c.of_text-in-Keyring.ensures.told;
  ends = c.text-in-Keyring.ensures.ends command words;
  stood = refl;
})

pub returns-in-Audit-clause-texts : goal.returns-in-Audit-clause-texts
returns-in-Audit-clause-texts g c = λ command words. inr (record {
  ended = c.text-in-Audit.result;
  status = c.of_text-in-Audit.ensures.status;
  told = c.of_text-in-Audit.ensures.told;
  ends = c.text-in-Audit.ensures.ends command words;
  stood = refl;
})

-- ---- a drill

pub drill-requires : goal.drill-requires
drill-requires g c =
    spelled_drill (map (λ w. w.now) c.args.words.now) c.in-Drill.command (c.requires ∙ ap (λ i. Some (asked.asked i)) c.in-Drill.is)

pub returns-in-Drill-clause-usage : goal.returns-in-Drill-clause-usage
returns-in-Drill-clause-usage g c =
    drill_usage (map (λ w. w.now) c.args.words.now) _ _ _ _ c.of_text-in-Drill.result (handlers_of c.args.desk.now) c.in-Drill.command c.drill.result
    (c.requires ∙ ap (λ i. Some (asked.asked i)) c.in-Drill.is) c.of_text-in-Drill.ensures.status c.drill.ensures.ends refl refl

pub returns-in-Drill-clause-drill : goal.returns-in-Drill-clause-drill
returns-in-Drill-clause-drill g c = λ command is.
    drill_ended (handlers_of c.args.desk.now) _ _ _ _ c.of_text-in-Drill.result c.in-Drill.command command c.drill.result
    (sym (ap asked.asked c.in-Drill.is) ∙ is) c.of_text-in-Drill.ensures.status c.of_text-in-Drill.ensures.told c.drill.ensures.ends refl refl

-- ---- a key

pub returns-in-Key-clause-usage : goal.returns-in-Key-clause-usage
returns-in-Key-clause-usage g c =
    key_usage (map (λ w. w.now) c.args.words.now) _ _ _ _ c.key.result _ (c.requires ∙ ap (λ i. Some (asked.asked i)) c.in-Key.is) c.key.ensures.ends

pub returns-in-Key-clause-key : goal.returns-in-Key-clause-key
returns-in-Key-clause-key g c = λ is. record {
  ends = c.key.ensures.ends;
  told = c.key.ensures.told;
  unread = refl;
  keeper = refl;
  links = refl;
  clock = refl;
}

-- ---- nodes

pub monitor-requires : goal.monitor-requires
monitor-requires g c =
    spelled_monitor (map (λ w. w.now) c.args.words.now) c.in-Monitor.command (c.requires ∙ ap (λ i. Some (asked.asked i)) c.in-Monitor.is)

pub daemon-requires : goal.daemon-requires
daemon-requires g c =
    spelled-daemon (map (λ w. w.now) c.args.words.now) (asked.asked_daemon c.in-Daemon.command) (c.requires ∙ ap (λ i. Some (asked.asked i)) c.in-Daemon.is)

pub client-requires : goal.client-requires
client-requires g c =
    spelled-client (map (λ w. w.now) c.args.words.now) (asked.asked_client c.in-Client.command) (c.requires ∙ ap (λ i. Some (asked.asked i)) c.in-Client.is)

pub returns-in-Monitor-clause-usage : goal.returns-in-Monitor-clause-usage
returns-in-Monitor-clause-usage g c =
    node_usage (map (λ w. w.now) c.args.words.now) _ _ _ _ c.monitor.result kind.Monitor _ _ (asked.Monitor c.in-Monitor.command)
    (c.requires ∙ ap (λ i. Some (asked.asked i)) c.in-Monitor.is) c.monitor.ensures.ends

pub returns-in-Daemon-clause-usage : goal.returns-in-Daemon-clause-usage
returns-in-Daemon-clause-usage g c =
    node_usage (map (λ w. w.now) c.args.words.now) _ _ _ _ c.daemon.result kind.Daemon _ _ (asked.Daemon (asked.asked_daemon c.in-Daemon.command))
    (c.requires ∙ ap (λ i. Some (asked.asked i)) c.in-Daemon.is) c.daemon.ensures.ends

pub returns-in-Client-clause-usage : goal.returns-in-Client-clause-usage
returns-in-Client-clause-usage g c =
    node_usage (map (λ w. w.now) c.args.words.now) _ _ _ _ c.client.result kind.Client _ _ (asked.Client (asked.asked_client c.in-Client.command))
    (c.requires ∙ ap (λ i. Some (asked.asked i)) c.in-Client.is) c.client.ensures.ends

pub returns-in-Monitor-clause-mon : goal.returns-in-Monitor-clause-mon
returns-in-Monitor-clause-mon g c = λ command is.
    monitor_ended _ _ _ _ _ _ _ _ c.in-Monitor.command command (sym (ap asked.asked c.in-Monitor.is) ∙ is) c.monitor.ensures.ends

pub returns-in-Daemon-clause-daemon : goal.returns-in-Daemon-clause-daemon
returns-in-Daemon-clause-daemon g c = λ command is.
    daemon_ended _ _ _ _ _ _ _ _ _ (asked.asked_daemon c.in-Daemon.command) command (sym (ap asked.asked c.in-Daemon.is) ∙ is) c.daemon.ensures.ends

pub returns-in-Client-clause-client : goal.returns-in-Client-clause-client
returns-in-Client-clause-client g c = λ command is.
    client_ended _ _ _ _ _ _ _ _ (asked.asked_client c.in-Client.command) command (sym (ap asked.asked c.in-Client.is) ∙ is) c.client.ensures.ends
