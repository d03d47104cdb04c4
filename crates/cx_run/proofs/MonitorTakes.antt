-- The rows of the monitor keep their link, and a turn of it takes some of what is ahead.
use Rattle.std.proofs.Common.{refl}
use Rattle.cx_rules_session.specs.cx_control.specs.Auth.{auth_request_layout, auth_request_more_layout, auth_signature_layout}
use Rattle.cx_rules_session.specs.cx_control.specs.Hello.{hello_layout}
use Rattle.cx_rules_session.specs.cx_rules.specs.Acceptor.{AwaitsBanner, AwaitsHello, AwaitsRequest, AwaitsProof, AwaitsSignature, AwaitsIdent, Open, on_auth_request, on_banner, on_hello, on_signature}
use Rattle.cx_rules_session.specs.cx_rules.specs.Monitor.{MonitorArrival, MonitorStage}
use Rattle.cx_rules_session.specs.cx_rules.specs.MonitorRule.{on_auth_request_more, on_ident, on_request_payload, turned_at}
use Rattle.cx_rules_session.specs.cx_rules.specs.Payloads.{due}
use Rattle.cx_rules_session.specs.cx_rules.specs.Rows.{at, with_opened}
use Rattle.cx_rules_session.specs.cx_rules.specs.Secured.{under}
use Rattle.cx_rules_session.specs.cx_cbc.specs.Envelope.{sealed}
use Rattle.cx_run.proofs.Taking.{Keeps, TurnTakes, banner-takes, plain-takes, secure-takes}
use Rattle.cx_base.specs.declared.kinds.EntityType.TheVariants.{Mon}
use Rattle.cx_rules_session.specs.cx_rules.specs.MonitorRequests.{on_open}
use Rattle.cx_rules_session.specs.cx_rules.proofs.MonitorWalk.{MonitorWays, banner-row, hello-row, ident-row, more-row, open-row, request-row, signature-row}
use Rattle.cx_rules_session.specs.cx_rules.specs.Monitor.{MonitorRow}

abbrev KeepsLink : MonitorArrival → MonitorRow → Type 0
KeepsLink a row = Keeps a.link row

keeps-ways : MonitorWays KeepsLink
keeps-ways = record {
  refused = λ a why seals fine. tt;
  denied = λ a code why seals. tt;
  missed = λ a features sealed. tt;
  gone_on = λ a stage bytes seals. record { number = refl; ahead = refl };
  granted = λ a h done handed. record { number = refl; ahead = refl };
  replied = λ a s bearer seq made sent handed. record { number = refl; ahead = refl };
  served = λ a server row h. h;
  behind = λ a opened row h. h;
}

-- ---- a turn

pub monitor-takes : (a : MonitorArrival) (stage : MonitorStage) → TurnTakes a.link (turned_at a stage)
monitor-takes a AwaitsBanner = banner-takes a.link (λ link _. on_banner Mon (at a link)) (λ l opened. banner-row KeepsLink keeps-ways (at a l))
monitor-takes a AwaitsHello =
    plain-takes a.link (λ (link, f) _. on_hello (at a link) (due 1 hello_layout.form f)) (λ l f opened. hello-row KeepsLink keeps-ways (at a l) (due 1 hello_layout.form f))
monitor-takes a AwaitsRequest =
    plain-takes a.link (λ (link, f) _. on_auth_request on_request_payload (at a link) (due 2 auth_request_layout.form f))
    (λ l f opened. request-row KeepsLink keeps-ways (at a l) (due 2 auth_request_layout.form f))
monitor-takes a (AwaitsProof offered) =
    plain-takes a.link (λ (link, f) _. on_auth_request_more (at a link) offered (due 5 auth_request_more_layout.form f))
    (λ l f opened. more-row KeepsLink keeps-ways (at a l) offered (due 5 auth_request_more_layout.form f))
monitor-takes a (AwaitsSignature s bearer) =
    secure-takes s.keys a.link (λ (link, f, keys) opened. with_opened opened (on_signature (at a link) (under s keys) bearer (due 7 auth_signature_layout.form f)))
    (λ l f keys opened. signature-row KeepsLink keeps-ways (at a l) (under s keys) bearer (due 7 auth_signature_layout.form f))
monitor-takes a (AwaitsIdent s bearer) =
    secure-takes s.keys a.link (λ (link, f, keys) opened. with_opened opened (on_ident (at a link) (under s keys) bearer f))
    (λ l f keys opened. ident-row KeepsLink keeps-ways (at a l) (under s keys) bearer f)
monitor-takes a (Open s bearer) =
    secure-takes s.keys a.link (λ (link, f, keys) opened. with_opened opened (on_open Open (at a link) (under s keys) bearer f))
    (λ l f keys opened. open-row KeepsLink keeps-ways (at a l) (under s keys) bearer f)
