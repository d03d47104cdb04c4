-- A turn of a link of the monitor that seals and signs nothing, whether a save fails or not; and what a row with no save comes to.
use Rattle.std.proofs.Common.{◌≡◌, ℕ, Bool, true, false, List, [], ◌++◌, Option, Some, None, sym, subst}
use Rattle.std.specs.Prelude.{IfSome}
use Rattle.cx_base.specs.declared.nodes.NodeName.TheVariants as node
use Rattle.cx_journal.specs.declared.entries.Entry.{Entry}
use Rattle.cx_journal.specs.declared.faults.BytesFault.{BytesFault}
use Rattle.cx_laws_run.specs.cx_laws_keys.proofs.keys.Premises.{behind}
use Rattle.cx_laws_run.specs.cx_laws_keys.proofs.keys.Uses.{Uses, WholeRun}
use Rattle.cx_laws_run.specs.cx_rules.specs.Acceptor.{AwaitsBanner, AwaitsHello, AwaitsIdent, AwaitsProof, AwaitsRequest, AwaitsSignature, Open}
use Rattle.cx_laws_run.specs.cx_rules.specs.Links.{Link}
use Rattle.cx_laws_run.specs.cx_rules.specs.Monitor.{Monitor, MonitorArrival, MonitorNode, MonitorRow, MonitorStage}
use Rattle.cx_laws_run.specs.cx_rules.specs.MonitorRule.{noted}
use Rattle.cx_laws_run.specs.cx_rules.specs.Rows.{Handles, Outcome, Refuses, Turned, Waits, carried_out, idles, refuses_bytes, turns}
use Rattle.cx_laws_run.specs.cx_run.specs.Points.{Point}
use Rattle.cx_steps.specs.declared.seals.Logged.{Logged}
use Rattle.cx_steps.specs.declared.seals.SealEntry.{SealEntry}
use Rattle.cx_laws_run.specs.cx_laws_tickets.proofs.fetch.AskedKnown.{Told}
use Rattle.cx_laws_run.specs.cx_laws_tickets.proofs.fetch.MonitorHands.{AreSilent}
use Rattle.cx_laws_run.specs.cx_laws_tickets.proofs.fetch.Retied.{Handed, retied}
use Rattle.cx_laws_run.proofs.cover.EarlyRows.{EarlyRow, EarlyTurn, IsEarly}
use Rattle.cx_laws_run.proofs.cover.MonitorQuiet.{MonitorReady, left-silent, left_of, quiet-behind}
use Rattle.cx_laws_run.proofs.cover.OtherLinks.{behind-others}
use Rattle.cx_laws_run.proofs.cover.State.{MonitorHas}
use Rattle.cx_laws_run.proofs.cover.Steps.{MonitorBehind}

-- a stage without keys has nothing
pub early-has : (run : WholeRun) (us : Uses) (told : Told) (log : List Logged) (number : ℕ) (stage : MonitorStage) → IsEarly stage → MonitorHas run us told log number stage
early-has run us told log number AwaitsBanner early = tt
early-has run us told log number AwaitsHello early = tt
early-has run us told log number AwaitsRequest early = tt
early-has run us told log number (AwaitsProof offered) early = tt
early-has run us told log number (AwaitsSignature s bearer) early = absurd early
early-has run us told log number (AwaitsIdent s bearer) early = absurd early
early-has run us told log number (Open s bearer) early = absurd early

module _ (run : WholeRun) (whole : List Logged) (us vs : Uses) (logins : List Handed) (told : Told) (past : List Point) (p : Point) (log : List Logged) (J K : List Entry) (fails : Bool) where
  -- what the step that comes to this goes by, and what it is to come to
  abbrev pub ReadyOf : Outcome MonitorNode → Type 0
  ReadyOf o = MonitorReady run whole us vs logins told past p log J K (left_of fails o.out.seals) o.state.own o.state.links

  abbrev pub BehindOf : Outcome MonitorNode → Type 0
  BehindOf o = MonitorBehind run us vs logins told past p log (left_of fails o.out.seals) o.state.links

  abbrev pub before : MonitorNode
  before = noted p.nodes.monitor

  abbrev later : List SealEntry → List Logged
  later es = behind node.Monitor p.happening.line es log

  -- a row that seals and signs nothing, behind which its link has what it has to
  pub silent-row : (number : ℕ) (turned : Bool) (row : MonitorRow) → AreSilent row.seals
      → IfSome row.link (λ (l : Link MonitorStage). (l.number ≡ number) × MonitorHas run (retied logins vs) told (later (left_of fails row.seals)) number l.stage)
      → ReadyOf (carried_out before number turned row) → BehindOf (carried_out before number turned row)
  silent-row number turned row silent left r =
      let o : Outcome MonitorNode = carried_out before number turned row in
      quiet-behind run whole us vs logins told past p log J K (left_of fails row.seals) row.own o.state.links r (left-silent fails row.seals silent)
      (λ h. behind-others Has Has number (λ l apart x. x) p.nodes.monitor.links row.sends row.link (by_link row.link left) h)
    where
      Has : Link MonitorStage → Type 0
      Has l = MonitorHas run (retied logins vs) told (later (left_of fails row.seals)) l.number l.stage

      by_link : (o : Option (Link MonitorStage)) → IfSome o (λ (l : Link MonitorStage). (l.number ≡ number) × MonitorHas run (retied logins vs) told (later (left_of fails row.seals)) number l.stage)
          → IfSome o (λ (l : Link MonitorStage). (l.number ≡ number) × Has (record l { sent = l.sent ++ row.sends }))
      by_link None h = tt
      by_link (Some l) h = (h.0, subst (λ (k : ℕ). MonitorHas run (retied logins vs) told (later (left_of fails row.seals)) k l.stage) (sym h.0) h.1)

  pub idle-behind : ReadyOf (idles before) → BehindOf (idles before)
  idle-behind r = quiet-behind run whole us vs logins told past p log J K (left_of fails []) before.own before.links r (left-silent fails [] tt) (λ h. h)

  pub shut-behind : (a : MonitorArrival) (why : BytesFault) (opened : List SealEntry) → AreSilent opened → ReadyOf (turns before a (Refuses why opened)) → BehindOf (turns before a (Refuses why opened))
  shut-behind a why opened silent r = silent-row a.link.number false (refuses_bytes a why opened) silent tt r

  early-row : (a : MonitorArrival) (row : MonitorRow) → EarlyRow a.link.number row → ReadyOf (turns before a (Handles row)) → BehindOf (turns before a (Handles row))
  early-row a row h r = silent-row a.link.number true row h.silent (by_link row.link h.link) r
    where
      by_link : (o : Option (Link MonitorStage)) → IfSome o (λ (l : Link MonitorStage). (l.number ≡ a.link.number) × IsEarly l.stage)
          → IfSome o (λ (l : Link MonitorStage). (l.number ≡ a.link.number) × MonitorHas run (retied logins vs) told (later (left_of fails row.seals)) a.link.number l.stage)
      by_link None k = tt
      by_link (Some l) k = (k.0, early-has run (retied logins vs) told (later (left_of fails row.seals)) a.link.number l.stage k.1)

  -- a turn of a link without keys
  pub early-behind : (a : MonitorArrival) (turned : Turned Monitor MonitorStage) → EarlyTurn a.link.number turned → ReadyOf (turns before a turned) → BehindOf (turns before a turned)
  early-behind a Waits h r = idle-behind r
  early-behind a (Refuses why opened) h r = shut-behind a why opened h r
  early-behind a (Handles row) h r = early-row a row h r
