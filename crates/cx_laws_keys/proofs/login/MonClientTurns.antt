-- A turn of one that logs in, on its link to the monitor.
use Rattle.std.proofs.Common.{◌≡◌, ℕ, Bool, true, false, List, ◌++◌, Some, sym, ap, ◌∙◌, subst, inl, inr}
use Rattle.std.specs.Prelude.{IsTrue, Contains, ◌⊎◌}
use Rattle.cx_base.specs.Names.{Name}
use Rattle.cx_rules.specs.cx_control.specs.Auth.{auth_signature_layout}
use Rattle.cx_rules.specs.cx_control.specs.Hello.{hello_layout}
use Rattle.cx_laws_keys.specs.cx_journal.specs.declared.entries.Entry.{Entry}
use Rattle.cx_base.specs.declared.nodes.NodeName.{NodeName}
use Rattle.cx_base.specs.declared.nodes.NodeName.TheVariants as node
use Rattle.cx_rules.specs.Connector.{Stage, AwaitsBanner, AwaitsHello, AwaitsChallenge, AwaitsDone, AwaitsSignature, AwaitsIdent, Open, MonClientArrival, on_banner, on_hello, on_signature, turned_at, while_challenged, while_identified, while_proved, MonClientRow}
use Rattle.cx_rules.specs.Holdings.{MonClient}
use Rattle.cx_rules.specs.Payloads.{due}
use Rattle.cx_rules.specs.Rows.{at, with_opened}
use Rattle.cx_rules.specs.Secured.{under, Secured}
use Rattle.cx_rules.specs.cx_steps.specs.Premises.{is_server}
use Rattle.cx_rules.specs.cx_steps.specs.declared.seals.Logged.{Logged}
use Rattle.cx_laws_keys.proofs.keys.Journal.{after-then}
use Rattle.cx_laws_keys.proofs.keys.Known.{Inv}
use Rattle.cx_laws_keys.proofs.keys.Premises.{AreGranted, behind, granted-rest}
use Rattle.cx_laws_keys.proofs.keys.Uses.{Uses, WholeRun, whose}
use Rattle.cx_laws_keys.proofs.login.MonClientRows.{mon_client_says, banner-simple, challenged-simple, hello-simple, identified-simple, proved-after, signature-simple, open-simple, NeverExcepted}
use Rattle.cx_laws_keys.proofs.login.Facts.{MonClientOk, MonClientStageOk, HasMonitorKey}
use Rattle.cx_laws_keys.proofs.login.Rows.{AfterRow, TurnOk, after-simple, reached-allowed, Allowed, RowOk}
use Rattle.cx_laws_keys.proofs.login.Turns.{turn-banner, turn-open, turn-plain, turn-secure}
use Rattle.cx_rules.specs.Requests.{Requests, on_open}
use Rattle.cx_rules.specs.cx_frame.specs.declared.frame.Frame.{Frame}
use Rattle.cx_rules.specs.cx_steps.specs.declared.seals.SealEntry.{SealEntry}

module _ (run : WholeRun) (whole : List Logged) (n : NodeName) (line : ℕ) (us : Uses) (log : List Logged) (J before : List Entry) where
  -- nothing is excepted here under its keys
  pub mon_client-free : (mon_client : MonClient) → n ≡ node.Entity mon_client.name → Inv run whole us log J → MonClientOk run before us J mon_client → NeverExcepted run whole n us mon_client.name
  mon_client-free mon_client here i ok key u means its e = by_trust ok.known.trusted
    where
      none : (b : Bool) → b ≡ false → IsTrue b → ⊥
      none true is h = cc
      none false is h = cc

      same : (m : Name) → whose u ≡ Some m → m ≡ mon_client.name
      same m is = let some : Some m ≡ Some mon_client.name = sym is ∙ its in cc

      by_trust : (is_server (node.Entity mon_client.name) ≡ false) ⊎ (Contains run.leaked mon_client.name → ⊥) → ⊥
      by_trust (inl client) = none (is_server n) (ap is_server here ∙ client) e.server
      by_trust (inr unleaked) =
          let leak = i.leaks key u means e.leak in unleaked (subst (λ (m : Name). Contains run.leaked m) (same leak.0 leak.1) leak.2)

  keyed : (key other : List ℕ) → other ≡ key → HasMonitorKey us n key → HasMonitorKey us n other
  keyed key other same h = subst (λ (k : List ℕ). HasMonitorKey us n k) (sym same) h

  -- a frame on an open link, behind the parts of it that opened
  opened-after : (b : MonClientArrival) (t : Secured) (requests : Requests) (f : Frame) (opened : List SealEntry) → Inv run whole us log J → MonClientOk run before us J b.own
      → n ≡ node.Entity b.own.name → HasMonitorKey us n t.keys.key → Allowed us J n opened → AreGranted run.leaked whole n line log (opened ++ (on_open Open b t requests f).seals)
      → AfterRow (mon_client_says run before n) run whole n line us log J (with_opened opened (on_open Open b t requests f))
  opened-after b t requests f opened i ok here has al g =
      let row : MonClientRow = on_open Open b t requests f in
      let later : List Logged = behind n line opened log in
      let r = reached-allowed run whole n line us log J opened (λ vs. Unit {0}) i al tt in
      let simple = open-simple run whole n line us later J before b t requests f (mon_client-free b.own here i ok) r.inv ok has (granted-rest run.leaked whole n line log opened row.seals g) in
      let x = after-simple (mon_client_says run before n) run whole n line us later J row r.inv simple in
      after-then run whole n line us log J opened row.seals row.entries (λ vs. Unit {0}) (RowOk (mon_client_says run before n) (with_opened opened row)) r (record {
        uses = x.uses;
        grows = x.grows;
        inv = x.inv;
        laws = x.laws;
        good = record { own = x.good.own; link = x.good.link };
      })

  pub turn-ok : (a : MonClientArrival) (stage : Stage) → Inv run whole us log J → MonClientOk run before us J a.own → n ≡ node.Entity a.own.name → MonClientStageOk us n stage
      → TurnOk (mon_client_says run before n) run whole n line us log J a (turned_at a stage)
  turn-ok a (AwaitsBanner asked) i ok here st =
      turn-banner (mon_client_says run before n) run whole n line us log J a (λ l. on_banner (at a l) asked) a.link i (λ l. banner-simple run whole n line us log J before (at a l) asked ok)
  turn-ok a (AwaitsHello asked) i ok here st =
      turn-plain (mon_client_says run before n) run whole n line us log J a (λ l f. on_hello (at a l) asked (due 1 hello_layout.form f)) a.link
      (λ l f g. after-simple (mon_client_says run before n) run whole n line us log J (on_hello (at a l) asked (due 1 hello_layout.form f)) i
      (hello-simple run whole n line us log J before (at a l) asked (due 1 hello_layout.form f) ok))
  turn-ok a (AwaitsChallenge asked) i ok here st =
      turn-plain (mon_client_says run before n) run whole n line us log J a (λ l f. while_challenged (at a l) asked f) a.link
      (λ l f g. after-simple (mon_client_says run before n) run whole n line us log J (while_challenged (at a l) asked f) i (challenged-simple run whole n line us log J before (at a l) asked f ok here))
  turn-ok a AwaitsDone i ok here st =
      turn-plain (mon_client_says run before n) run whole n line us log J a (λ l f. while_proved (at a l) f) a.link
      (λ l f g. proved-after run whole n line us log J before (at a l) f (mon_client-free a.own here i ok) i ok here g)
  turn-ok a (AwaitsSignature s login) i ok here st =
      turn-secure (mon_client_says run before n) run whole n line us log J a s.keys (λ l k f. on_signature (at a l) (under s k) login (due 7 auth_signature_layout.form f)) a.link i
      (λ l k f same. signature-simple run whole n line us log J before (at a l) (under s k) login (due 7 auth_signature_layout.form f) ok (keyed s.keys.key k.key same.key st))
  turn-ok a (AwaitsIdent s session) i ok here st =
      turn-secure (mon_client_says run before n) run whole n line us log J a s.keys (λ l k f. while_identified (at a l) (under s k) session f) a.link i
      (λ l k f same. identified-simple run whole n line us log J before (at a l) (under s k) session f ok (keyed s.keys.key k.key same.key st))
  turn-ok a (Open s requests) i ok here st =
      turn-open (mon_client_says run before n) run whole n line us log J a s.keys (λ l k f. on_open Open (at a l) (under s k) requests f) a.link
      (λ l k f opened same al g. opened-after (at a l) (under s k) requests f opened i ok here (keyed s.keys.key k.key same.key st) al g)
