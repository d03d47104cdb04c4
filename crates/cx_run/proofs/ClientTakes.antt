-- The rows of one that logs in keep their link and its name, and a turn of it takes some of what is ahead.
use Rattle.std.proofs.Common.{refl, ◌≡◌}
use Rattle.cx_rules_session.specs.cx_control.specs.Auth.{auth_signature_layout}
use Rattle.cx_rules_session.specs.cx_control.specs.Hello.{hello_layout}
use Rattle.cx_rules_session.specs.cx_rules.specs.Connector.{MonClientArrival, MonClientRow, Stage, AwaitsBanner, AwaitsHello, AwaitsChallenge, AwaitsDone, AwaitsSignature, AwaitsIdent, Open, on_banner, on_hello, on_signature, turned_at, while_challenged, while_identified, while_proved}
use Rattle.cx_rules_session.specs.cx_rules.specs.Holdings.{MonClient}
use Rattle.cx_rules_session.specs.cx_rules.specs.Payloads.{due}
use Rattle.cx_rules_session.specs.cx_rules.specs.Rows.{Turned, at, with_opened}
use Rattle.cx_rules_session.specs.cx_rules.specs.Secured.{under}
use Rattle.cx_run.proofs.Taking.{EachRow, Keeps, TurnTakes, banner-takes, plain-takes, secure-takes}
use Rattle.cx_rules_session.specs.cx_rules.specs.Requests.{on_open}
use Rattle.cx_rules_session.specs.cx_rules.proofs.MonClientWalk.{MonClientWays, mon_client-walk, banner-row, challenged-row, hello-row, identified-row, open-row, proved-row, signature-row}

-- ---- the link

abbrev KeepsLink : MonClientArrival → MonClientRow → Type 0
KeepsLink a row = Keeps a.link row

keeps-ways : MonClientWays KeepsLink
keeps-ways = record {
  refused = λ a why seals fine. tt;
  gone_on = λ a stage bytes seals logs. record { number = refl; ahead = refl };
  held = λ a holdings row h. h;
  behind = λ a opened row h. h;
}

pub mon_client-takes : (a : MonClientArrival) (stage : Stage) → TurnTakes a.link (turned_at a stage)
mon_client-takes a (AwaitsBanner asked) = banner-takes a.link (λ link _. on_banner (at a link) asked) (λ l opened. banner-row KeepsLink keeps-ways (at a l) asked)
mon_client-takes a (AwaitsHello asked) =
    plain-takes a.link (λ (link, f) _. on_hello (at a link) asked (due 1 hello_layout.form f)) (λ l f opened. hello-row KeepsLink keeps-ways (at a l) asked (due 1 hello_layout.form f))
mon_client-takes a (AwaitsChallenge asked) =
    plain-takes a.link (λ (link, f) _. while_challenged (at a link) asked f) (λ l f opened. challenged-row KeepsLink keeps-ways (at a l) asked f)
mon_client-takes a AwaitsDone = plain-takes a.link (λ (link, f) _. while_proved (at a link) f) (λ l f opened. proved-row KeepsLink keeps-ways (at a l) f)
mon_client-takes a (AwaitsSignature s login) =
    secure-takes s.keys a.link (λ (link, f, keys) opened. with_opened opened (on_signature (at a link) (under s keys) login (due 7 auth_signature_layout.form f)))
    (λ l f keys opened. signature-row KeepsLink keeps-ways (at a l) (under s keys) login (due 7 auth_signature_layout.form f))
mon_client-takes a (AwaitsIdent s session) =
    secure-takes s.keys a.link (λ (link, f, keys) opened. with_opened opened (while_identified (at a link) (under s keys) session f))
    (λ l f keys opened. identified-row KeepsLink keeps-ways (at a l) (under s keys) session f)
mon_client-takes a (Open s requests) =
    secure-takes s.keys a.link (λ (link, f, keys) opened. with_opened opened (on_open Open (at a link) (under s keys) requests f))
    (λ l f keys opened. open-row KeepsLink keeps-ways (at a l) (under s keys) requests f (λ reading generations before is. record { number = refl; ahead = refl }))

-- ---- the name

abbrev KeepsOwnName : MonClientArrival → MonClientRow → Type 0
KeepsOwnName a row = row.own.name ≡ a.own.name

named-ways : MonClientWays KeepsOwnName
named-ways = record {
  refused = λ a why seals fine. refl;
  gone_on = λ a stage bytes seals logs. refl;
  held = λ a holdings row h. h;
  behind = λ a opened row h. h;
}

-- what handles a turn keeps the name
abbrev pub KeepsName : MonClientArrival → Turned MonClient Stage → Type 0
KeepsName a t = EachRow (λ (row : MonClientRow). row.own.name ≡ a.own.name) t

pub mon_client-named : (a : MonClientArrival) (stage : Stage) → KeepsName a (turned_at a stage)
mon_client-named a stage = mon_client-walk KeepsOwnName named-ways (λ b link row h. h) (λ b s r f reading generations opened is. refl) a stage
