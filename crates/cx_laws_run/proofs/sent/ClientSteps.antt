-- Each step of a client keeps what is known of what was said on links to daemons, and of the client.
use Rattle.std.proofs.Common.{◌≡◌, ℕ, List, Option, Some, None, refl, sym, subst}
use Rattle.cx_base.specs.Names.{Name}
use Rattle.cx_base.specs.declared.nodes.NodeName.TheVariants as node
use Rattle.cx_base.specs.declared.operations.Operation.{Operation}
use Rattle.cx_journal.specs.declared.entries.Entry.{Entry}
use Rattle.cx_laws_run.specs.cx_laws_keys.proofs.keys.Premises.{AreGranted}
use Rattle.cx_laws_run.specs.cx_laws_keys.proofs.keys.Uses.{Uses, WholeRun}
use Rattle.cx_laws_links.proofs.links.Known.{Told}
use Rattle.cx_laws_sessions.specs.cx_rules.specs.Inputs.{Input, Submit}
use Rattle.cx_laws_sessions.specs.cx_rules.specs.Rows.{Outcome}
use Rattle.cx_laws_sessions.specs.cx_rules_session.specs.ClientRule.{WholeClientNode, whole_client_rule}
use Rattle.cx_steps.specs.declared.events.Command.TheVariants as command
use Rattle.cx_steps.specs.declared.seals.Logged.{Logged}
use Rattle.cx_laws_sessions.specs.cx_wire.specs.Operations.{operation_layout}
use Rattle.cx_laws_run.proofs.sent.Before.{ClientBefore, before-of}
use Rattle.cx_laws_run.proofs.sent.ClientEvents.{each-behind, step-behind}
use Rattle.cx_laws_run.proofs.sent.Presents.{presents-behind}
use Rattle.cx_laws_run.proofs.sent.Sends.{sends-behind, waits-behind}
use Rattle.cx_laws_run.proofs.sent.Steps.{ClientReady, ClientStep}
use Rattle.cx_laws_run.specs.sent.Fitting.{IsFit}

pub client-step : (run : WholeRun) (whole : List Logged) → ClientStep run whole
client-step run whole us vs told log line J name c input reading draw r =
    step-behind run whole us vs told log J name line c input reading draw r.named r.inv r.grows r.known_of r.spelled r.client
    (each-behind run whole us vs told log J name line c input reading draw r.named r.inv r.grows r.known_of r.spelled r.client
    (λ number link stage found is s. presents-behind run whole us vs told log J line name c reading draw before number link stage found is (granted _ s.is))
    (λ daemon session operation seq sends held pushes s. waits-behind run whole us vs told log J line name c reading draw before daemon session operation seq held pushes (fits daemon operation sends))
    (λ daemon session operation seq link s callee cookie sends held pushes found st.
    sends-behind run whole us vs told log J line name c reading draw before daemon session operation seq held pushes (fits daemon operation sends) link s callee cookie found (granted _ st.is)))
    (record { is = refl; inv = r.inv_behind; ok = r.ok_behind })
  where
    before : ClientBefore run whole us vs told log J name c draw
    before = before-of run whole us vs told log J name c draw r.named r.inv r.grows r.inv_behind.one r.known_of r.spelled r.client r.ok r.queues r.bytes

    granted : (o : Outcome WholeClientNode) → o ≡ whole_client_rule c input reading draw → AreGranted run.leaked whole (node.Entity name) line log o.out.seals
    granted o is = subst (λ (p : Outcome WholeClientNode). AreGranted run.leaked whole (node.Entity name) line log p.out.seals) (sym is) r.granted

    fits : (daemon : Name) (operation : Operation) → input ≡ Submit (command.Send daemon operation) → operation_layout.form.Fits operation
    fits daemon operation sends = subst IsFit sends r.fits
