-- Outcomes of a client's step that say nothing: no link changes, one is shut, more comes on it, or one opens; and all is known as before.
use Rattle.std.proofs.Common.{◌≡◌, ◌==◌, ℕ, Bool, true, false, List, [], ◌∷◌, ◌++◌, Some, refl, sym, subst}
use Rattle.std.specs.Prelude.{if◌then◌else◌, not}
use Rattle.std.specs.List.{AllByRecursion}
use Rattle.cx_base.specs.Names.{Name}
use Rattle.cx_base.specs.declared.nodes.NodeName.{NodeName}
use Rattle.cx_base.specs.declared.nodes.NodeName.TheVariants as node
use Rattle.cx_journal.specs.declared.entries.Entry.{Entry}
use Rattle.cx_journal.specs.declared.outcomes.Reason.TheVariants as reason
use Rattle.cx_laws_run.proofs.cover.MonClientBehind.{MonClientReady}
use Rattle.cx_laws_run.proofs.cover.CallKnown.{AreHarmless, call-comes}
use Rattle.cx_laws_run.proofs.cover.ClientAsks.{ClientStageAsks, IsNoFetch}
use Rattle.cx_laws_run.proofs.cover.ClientLinks.{ClientMoved, LinkBefore, LinkBehind, harmless-moves, link-stays, links-stay}
use Rattle.cx_laws_run.proofs.cover.OtherLinks.{put-others, without-others}
use Rattle.cx_laws_run.proofs.cover.State.{ClientStageHas}
use Rattle.cx_laws_run.specs.cx_laws_tickets.proofs.fetch.AskedKnown.{Told}
use Rattle.cx_laws_run.specs.cx_laws_tickets.proofs.fetch.PointEvents.{events_of}
use Rattle.cx_laws_run.specs.cx_laws_tickets.proofs.fetch.Retied.{Handed, retied}
use Rattle.cx_laws_run.specs.cx_laws_keys.proofs.keys.Lists.{found_all}
use Rattle.cx_laws_run.specs.cx_laws_keys.proofs.keys.Premises.{AreGranted, behind}
use Rattle.cx_laws_run.specs.cx_laws_keys.proofs.keys.Uses.{Uses, WholeRun}
use Rattle.cx_laws_run.specs.cx_laws_keys.proofs.login.Rows.{all-filter}
use Rattle.cx_laws_run.specs.cx_rules.specs.Greetings.{own_banner}
use Rattle.cx_laws_run.specs.cx_rules.specs.Links.{Link, link_of, without_link}
use Rattle.cx_laws_run.specs.cx_rules.specs.Rows.{Outcome, fed, refused_entry}
use Rattle.cx_laws_run.specs.cx_rules_session.specs.ClientRule.{ClientStage, ToDaemon, ToMonitor, Dial, ForCall, ForLogin, WholeClientNode, first_stage, is_open, is_to_monitor, logs_in, loses, me, opens_dialled}
use Rattle.cx_steps.specs.declared.events.Peer.{Peer}
use Rattle.cx_steps.specs.declared.seals.Logged.{Logged}
use Rattle.cx_steps.specs.declared.seals.SealEntry.{SealEntry}
use Rattle.cx_laws_run.specs.cx_run.specs.Points.{Point, stepped_at}

module _ (run : WholeRun) (whole : List Logged) (us vs : Uses) (logins : List Handed) (told : Told) (past : List Point) (p : Point) (log : List Logged) (J : List Entry) (c : WholeClientNode)
    (r : MonClientReady run whole (retied logins us) vs logins told past p c.own.mon_client.name log J)
    (before : AllByRecursion (LinkBefore run whole (retied logins us) vs logins told past p log J c.own.mon_client.name r) c.links) where
  abbrev name : Name
  name = c.own.mon_client.name

  abbrev n : NodeName
  n = node.Entity name

  abbrev line : ℕ
  line = p.happening.line

  abbrev ws : Uses
  ws = retied logins us

  abbrev reading : ℕ
  reading = p.happening.reading

  abbrev draw : List ℕ
  draw = p.happening.draw

  abbrev pub Granted : List SealEntry → Type 0
  Granted es = AreGranted run.leaked whole n line log es

  abbrev pub Moved_ : Outcome WholeClientNode → Type 0
  Moved_ o = ClientMoved run whole ws vs logins told past p log J name r o

  -- where the step comes to this outcome, and what it logs is granted
  abbrev pub Moves : Outcome WholeClientNode → Type 0
  Moves o = (stepped_at p).out ≡ o.out → Granted o.out.seals → Moved_ o

  abbrev pub Before : Link ClientStage → Type 0
  Before l = LinkBefore run whole ws vs logins told past p log J name r l

  abbrev pub Behind : List SealEntry → Link ClientStage → Type 0
  Behind es l = LinkBehind run whole ws vs logins told past p log J name r told (behind n line es log) l

  pub stays : (es : List SealEntry) → AreHarmless vs es → (l : Link ClientStage) → Before l → Behind es l
  stays es harmless l h = link-stays run whole ws vs logins told past p log J name r es harmless l h

  pub moves : (o : Outcome WholeClientNode) → AreHarmless vs o.out.seals → AllByRecursion (Behind o.out.seals) o.state.links → AllByRecursion IsNoFetch o.out.entries → Moved_ o
  moves o harmless links entries = harmless-moves run whole ws vs logins told past p log J name r o harmless links entries

  pub all-stay : (es : List SealEntry) → AreHarmless vs es → AllByRecursion (Behind es) c.links
  all-stay es harmless = links-stay run whole ws vs logins told past p log J name r es harmless c.links before

  -- ---- where no link changes, or one is shut

  pub still : (o : Outcome WholeClientNode) → AreHarmless vs o.out.seals → o.state.links ≡ c.links → AllByRecursion IsNoFetch o.out.entries → Moved_ o
  still o harmless same entries =
      moves o harmless (subst (λ (links : List (Link ClientStage)). AllByRecursion (Behind o.out.seals) links) (sym same) (all-stay o.out.seals harmless)) entries

  pub shut : (o : Outcome WholeClientNode) (number : ℕ) → AreHarmless vs o.out.seals → o.state.links ≡ without_link number c.links → AllByRecursion IsNoFetch o.out.entries → Moved_ o
  shut o number harmless same entries =
      moves o harmless (subst (λ (links : List (Link ClientStage)). AllByRecursion (Behind o.out.seals) links) (sym same)
      (without-others Before (Behind o.out.seals) number (λ l apart h. stays o.out.seals harmless l h) c.links before)) entries

  pub comes-moves : (number : ℕ) (link : Link ClientStage) (bytes : List ℕ) → link_of number c.links ≡ Some link → Moves (fed c bytes (Some link))
  comes-moves number link bytes is = λ at g.
      moves (fed c bytes (Some link)) tt
      (put-others Before (Behind []) link.number (λ l apart h. stays [] tt l h) (record link { received = link.received ++ bytes }) c.links refl (by_stage link.stage here.0, here.1) before) tt
    where
      here : Behind [] link
      here = stays [] tt link (found_all Before (λ (l : Link ClientStage). l.number == number) c.links link before is)

      by_stage : (stage : ClientStage) → ClientStageHas (events_of (p ∷ past)) vs logins told (behind n line [] log) name link.number link.received link.taken link.sent stage
          → ClientStageHas (events_of (p ∷ past)) vs logins told (behind n line [] log) name link.number (link.received ++ bytes) link.taken link.sent stage
      by_stage (ToMonitor stage) k = k
      by_stage (ToDaemon stage) k = call-comes vs link.received bytes link.taken stage k

  pub begins-moves : (number : ℕ) (to : Peer) (dial : Dial) → Moves (opens_dialled c reading draw number to (Some dial))
  begins-moves number to dial = λ at g.
      moves (opens_dialled c reading draw number to (Some dial)) tt
      (put-others Before (Behind []) number (λ l apart h. stays [] tt l h) (record { number = number; received = []; taken = 0; sent = [] ++ own_banner; stage = first_stage dial }) c.links refl (by_dial dial) before) tt
    where
      by_dial : (d : Dial) → ClientStageHas (events_of (p ∷ past)) vs logins told (behind n line [] log) name number [] 0 ([] ++ own_banner) (first_stage d) × ClientStageAsks (first_stage d)
      by_dial (ForLogin services) = (tt, tt)
      by_dial (ForCall called) = (refl, tt)

  pub goes-moves : (number : ℕ) (link : Link ClientStage) → Moves (loses c (Some link))
  goes-moves number link = λ at g. shut (loses c (Some link)) link.number tt refl (by_test (is_open link.stage))
    where
      by_test : (t : Bool) → AllByRecursion IsNoFetch (if t then [] else refused_entry (me c.own) link.number reason.Lost ∷ [])
      by_test true = tt
      by_test false = (tt, tt)

  pub logs-moves : (services : ℕ) → Moves (logs_in c services)
  logs-moves services = λ at g. moves (logs_in c services) tt (all-filter (Behind []) (λ (l : Link ClientStage). not (is_to_monitor l.stage)) c.links (all-stay [] tt)) tt
