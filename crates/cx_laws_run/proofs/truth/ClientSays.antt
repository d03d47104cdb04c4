-- Each step of a client, behind which what was said is known: what it comes to is true.
use Rattle.std.proofs.Common.{ℕ, List, ◌∙◌}
use Rattle.cx_base.specs.Names.{Name}
use Rattle.cx_journal.specs.declared.entries.Entry.{Entry}
use Rattle.cx_laws_run.specs.cx_laws_keys.proofs.keys.Journal.{entered}
use Rattle.cx_laws_run.specs.cx_laws_keys.proofs.keys.Uses.{Uses, WholeRun}
use Rattle.cx_laws_run.specs.cx_laws_links.proofs.links.Known.{Told}
use Rattle.cx_laws_run.specs.cx_rules.specs.Inputs.{Input}
use Rattle.cx_laws_run.specs.cx_rules_session.specs.ClientRule.{WholeClientNode, whole_client_rule}
use Rattle.cx_laws_run.specs.cx_run.proofs.ClientKept.{whole-named}
use Rattle.cx_steps.specs.declared.seals.Logged.{Logged}
use Rattle.cx_laws_run.specs.cx_laws_links.proofs.answers.Given.{Given}
use Rattle.cx_laws_run.proofs.sent.State.{ClientBehind}
use Rattle.cx_laws_run.proofs.sent.Steps.{ClientReady}
use Rattle.cx_laws_run.proofs.truth.ClientTruths.{step-truth}
use Rattle.cx_laws_run.proofs.truth.Named.{LinksNamed}
use Rattle.cx_laws_run.proofs.truth.State.{AllTrue, ClientHears, ClientTruth}

-- where all of it is known before
pub client-truth : (run : WholeRun) (whole : List Logged) (us vs : Uses) (told : Told) (given : List (List ℕ × Given)) (reads : List (List ℕ × ℕ)) (log : List Logged) (line : ℕ) (J : List Entry)
    (name : Name) (c : WholeClientNode) (input : Input) (reading : ℕ) (draw : List ℕ) → (r : ClientReady run whole us vs told log line J name c input draw (whole_client_rule c input reading draw))
    → AllTrue run us told given reads log J → ClientHears run told given reads c → LinksNamed us c.links
    → (b : ClientBehind run us vs told log line (entered J (whole_client_rule c input reading draw).out.entries) name c (whole_client_rule c input reading draw))
    → ClientTruth run us vs told b.next given reads log line J (entered J (whole_client_rule c input reading draw).out.entries) name b.number (whole_client_rule c input reading draw)
client-truth run whole us vs told given reads log line J name c input reading draw r all hears called b =
    step-truth run whole us vs told given reads log line J name c (whole_client_rule c input reading draw) r.named (whole-named c input reading draw ∙ r.named) r.inv r.inv_behind.one r.grows r.known_of
    r.client r.granted all hears called b
