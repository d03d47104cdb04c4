-- A daemon saves nothing.
use Rattle.std.proofs.Common.{◌≡◌, ℕ, List, None, refl}
use Rattle.cx_desk.specs.Handlers.{Handlers}
use Rattle.cx_laws_node.proofs.saving.MonClientSaves.{mon_client-none, fetch-none}
use Rattle.cx_laws_node.proofs.saving.IncomingSaves.{SavesNone, incoming-none}
use Rattle.cx_run.proofs.Always.{always-book, always-weaker}
use Rattle.cx_run.proofs.DaemonOutcomes.{ByRows, RestsAndTurns, came, incoming_rule, hosted-by-rows, rests-keep}
use Rattle.cx_run.proofs.Taking.{EachRow}
use Rattle.cx_run.specs.cx_rules.specs.Connector as connector
use Rattle.cx_run.specs.cx_rules.specs.Holdings.{MonClient}
use Rattle.cx_run.specs.cx_rules.specs.Inputs.{Input}
use Rattle.cx_run.specs.cx_rules.specs.Links.{Link}
use Rattle.cx_run.specs.cx_rules.specs.Requests.{sealed_request}
use Rattle.cx_run.specs.cx_rules.specs.Rows.{Outcome, Turned, Waits, Refuses, Handles, arrival, turns}
use Rattle.cx_run.specs.cx_rules.specs.declared.requests.Want.TheVariants.{Rotating}
use Rattle.cx_run.specs.cx_rules_session.specs.DaemonRule.{hosts, AsConnector, daemon_step, open_to_ask, DaemonNode, DaemonStage, DaemonState, book_after, book_reply, daemon_rule, hosts, me, with_mon_client}
use Rattle.cx_run.specs.cx_rules_session.specs.Hosting.{Hosted}
use Rattle.cx_run.specs.cx_rules_session.specs.Kinds.{arrival_in, turn_of_kind}
use Rattle.cx_run.specs.cx_wire.specs.declared.bodies.Request.TheVariants as asked

module _ (handlers : Handlers) (d : DaemonNode) (reading : ℕ) (draw : List ℕ) where
  abbrev KeepsNone : Outcome DaemonNode → Type 0
  KeepsNone o = o.out.save ≡ None

  by-rows : ByRows handlers d reading draw KeepsNone (λ link stage row. SavesNone row)
  by-rows = record { idle = refl; moves = λ number session o h. h; broken = λ link why opened. refl; rows = λ link stage row h. h }

  own-none : (link : Link DaemonStage) (t : Turned MonClient connector.Stage) → EachRow SavesNone t
      → KeepsNone (turns d (came handlers d reading draw link) (turn_of_kind (with_mon_client d.own) AsConnector t))
  own-none link Waits h = refl
  own-none link (Refuses why opened) h = refl
  own-none link (Handles row) h = h

  each-none : (input : Input) → RestsAndTurns handlers d reading draw input KeepsNone
  each-none input = record {
    rests = λ o r own. r.save;
    shown = λ view is r. r.save;
    restarts = λ r. r.save;
    hosting = λ number link stage at is of.
        always-weaker (λ (h : Hosted). EachRow SavesNone h.turned) (λ (h : Hosted). KeepsNone (hosts d (came handlers d reading draw link) h))
        (λ h none. hosted-by-rows handlers d reading draw KeepsNone _ by-rows link stage h none) (incoming_rule handlers d reading draw link stage)
        (incoming-none handlers (arrival_in (came handlers d reading draw link) d.own.mon_client stage) stage);
    asking = λ number link stage at is of. own-none link _ (mon_client-none (arrival_in (came handlers d reading draw link) d.own.mon_client stage) stage);
    fetches_there = λ link s requests is. fetch-none open_to_ask (arrival (me d.own) d.own.mon_client link reading draw) s requests (Rotating reading)
        (sealed_request s.keys requests asked.Rotating);
  }

-- with its book: it saves nothing
pub daemon_saves_none : (handlers : Handlers) (s : DaemonState) (input : Input) (reading : ℕ) (draw : List ℕ) → (daemon_step handlers s input reading draw).out.save ≡ None
daemon_saves_none handlers s input reading draw =
    always-book (KeepsNone handlers s.node reading draw) book_reply book_after s.book (daemon_rule handlers s.node input reading draw)
    (rests-keep handlers s.node reading draw input (KeepsNone handlers s.node reading draw) (each-none handlers s.node reading draw input))
