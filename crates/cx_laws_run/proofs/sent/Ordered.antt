-- Of every run whose clients' and daemons' steps keep what is known of what was said: what is handled is a front of what was sent.
use Rattle.std.proofs.Common.{Bool, List, refl, ◌≡◌}
use Rattle.std.specs.List.{AllByRecursion}
use Rattle.cx_base.specs.declared.kinds.EntityType.TheVariants.{Client}
use Rattle.cx_journal.specs.PrefixOfSent.{IsPrefixOfSent}
use Rattle.cx_laws_run.proofs.run.Events.{AllOccur}
use Rattle.cx_laws_run.proofs.run.Whole.{run_of}
use Rattle.cx_laws_run.specs.run.Laws.{AreBytes}
use Rattle.cx_laws_run.proofs.sent.Beginning.{run-heard}
use Rattle.cx_laws_run.proofs.sent.Prefix.{prefix-of-sent}
use Rattle.cx_laws_run.proofs.sent.Steps.{ClientStep, DaemonStep}
use Rattle.cx_laws_run.specs.sent.Fitting.{AreFit}
use Rattle.cx_laws_sessions.specs.cx_run.specs.Happenings.{Happening}
use Rattle.cx_laws_sessions.specs.cx_run.specs.Opening.{Leak, Setup, leaked_of, nodes_of}
use Rattle.cx_laws_sessions.specs.cx_run.specs.Points.{journal_since, log_since}
use Rattle.cx_steps.specs.Premises.{IsFresh, IsSound}

pub run-ordered : (setup : Setup) (hs : List Happening) (incoming_links : Bool) → AllByRecursion (λ (l : Leak). l.client.kind ≡ Client) setup.leaks
    → ClientStep (run_of setup hs incoming_links) (log_since setup hs) → DaemonStep (run_of setup hs incoming_links) (log_since setup hs) → AllOccur (run_of setup hs incoming_links) (nodes_of setup) hs
    → AllByRecursion (λ (h : Happening). AreBytes h.draw) hs → AreFit hs → IsSound (leaked_of setup) (log_since setup hs) → IsFresh (log_since setup hs) → IsPrefixOfSent (journal_since setup hs)
run-ordered setup hs incoming_links clients client_step daemon_step_of occur bytes fits sound fresh =
    prefix-of-sent setup hs incoming_links fresh (run-heard (run_of setup hs incoming_links) setup hs refl clients client_step daemon_step_of occur bytes fits sound fresh)
