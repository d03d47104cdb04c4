-- A turn of a link of the monitor until its challenge is answered: nothing is sealed or signed, and the link is shut, or waits on without keys.
use Rattle.std.proofs.Common.{◌≡◌, ◌==◌, ℕ, Bool, true, false, List, [], ◌∷◌, Option, Some, None, Result, Ok, Err, refl}
use Rattle.std.specs.Prelude.{IfSome, find, not, if◌then◌else◌}
use Rattle.std.specs.List.{list_any}
use Rattle.cx_base.specs.declared.kinds.EntityType.TheVariants.{Mon}
use Rattle.cx_control.specs.Auth.{auth_reply_more_layout, auth_request_layout}
use Rattle.cx_control.specs.Hello.{hello_layout}
use Rattle.cx_control.specs.declared.auth.AuthRequest.{AuthRequest}
use Rattle.cx_control.specs.declared.hello.Hello.{Hello}
use Rattle.cx_dice.specs.Draws.{challenge_of}
use Rattle.cx_frame.specs.Banners.{banner_at}
use Rattle.cx_frame.specs.declared.banner.Banner.{Banner}
use Rattle.cx_frame.specs.declared.frame.Frame.{Frame}
use Rattle.cx_frame.specs.declared.refusals.BannerRefusal.{BannerRefusal}
use Rattle.cx_frame.specs.declared.refusals.FrameRefusal.{FrameRefusal}
use Rattle.cx_journal.specs.declared.faults.BytesFault.{BytesFault}
use Rattle.cx_journal.specs.declared.faults.LoginFault.TheVariants.{Method, Mode}
use Rattle.cx_keyring.specs.Entries.{is_named}
use Rattle.cx_keyring.specs.declared.entries.Entry.{Entry as Principal}
use Rattle.cx_laws_run.specs.cx_rules.specs.Acceptor.{AwaitsBanner, AwaitsHello, AwaitsIdent, AwaitsProof, AwaitsRequest, AwaitsSignature, Open, denies, on_auth_request, on_banner, on_hello}
use Rattle.cx_laws_run.specs.cx_rules.specs.Fronts.{ahead_of, banner_read, plain_read, taking}
use Rattle.cx_laws_run.specs.cx_rules.specs.Greetings.{own_hello}
use Rattle.cx_laws_run.specs.cx_rules.specs.Links.{Link}
use Rattle.cx_laws_run.specs.cx_rules.specs.Monitor.{Monitor, MonitorArrival, MonitorRow, MonitorStage, Offered}
use Rattle.cx_laws_run.specs.cx_rules.specs.MonitorLogin.{challenges, on_login_hello}
use Rattle.cx_laws_run.specs.cx_rules.specs.MonitorRule.{on_request_payload, turned_at}
use Rattle.cx_laws_run.specs.cx_rules.specs.Payloads.{control, due, whole}
use Rattle.cx_laws_run.specs.cx_rules.specs.Rows.{Handles, Refuses, Turned, Waits, at, plain_sent, turned_by}
use Rattle.cx_laws_run.specs.cx_rules.specs.Secured.{plain_frame}
use Rattle.cx_steps.specs.declared.seals.DrawMark.TheVariants as draw
use Rattle.cx_steps.specs.declared.seals.SealEntry.{SealEntry}
use Rattle.cx_steps.specs.declared.seals.SealEntry.TheVariants as entry
use Rattle.cx_laws_run.specs.cx_stream.specs.PlainStreams.{plain_frame_at}
use Rattle.cx_laws_run.specs.cx_wire.specs.Logins.{login_hello_layout, server_challenge_layout}
use Rattle.cx_laws_run.specs.cx_wire.specs.declared.logins.LoginHello.{LoginHello}
use Rattle.cx_laws_run.specs.cx_laws_tickets.proofs.fetch.MonitorHands.{AreSilent}

-- a stage without keys
abbrev pub IsEarly : MonitorStage → Type 0
IsEarly AwaitsBanner = Unit {0}
IsEarly AwaitsHello = Unit {0}
IsEarly AwaitsRequest = Unit {0}
IsEarly (AwaitsProof offered) = Unit {0}
IsEarly (AwaitsSignature s bearer) = ⊥
IsEarly (AwaitsIdent s bearer) = ⊥
IsEarly (Open s bearer) = ⊥

-- nothing is sealed or signed, and the link of this number goes on without keys
pub record EarlyRow (number : ℕ) (row : MonitorRow) : Type 0 where
  pub silent : AreSilent row.seals
  pub link : IfSome row.link (λ (l : Link MonitorStage). (l.number ≡ number) × IsEarly l.stage)

-- so of whatever a turn comes to
abbrev pub EarlyTurn : ℕ → Turned Monitor MonitorStage → Type 0
EarlyTurn number Waits = Unit {0}
EarlyTurn number (Refuses why opened) = AreSilent opened
EarlyTurn number (Handles row) = EarlyRow number row

-- ---- rows

plain-early : (a : MonitorArrival) (stage : MonitorStage) (seals : List SealEntry) → IsEarly stage → AreSilent seals → (r : Result (List ℕ) BytesFault)
    → EarlyRow a.link.number (plain_sent a stage seals r)
plain-early a stage seals early silent (Ok bytes) = record { silent = silent; link = (refl, early) }
plain-early a stage seals early silent (Err why) = record { silent = silent; link = tt }

hello-early : (a : MonitorArrival) (read : Result Hello BytesFault) → EarlyRow a.link.number (on_hello a read)
hello-early a (Ok hello) = record { silent = tt; link = (refl, tt) }
hello-early a (Err why) = record { silent = tt; link = tt }

challenges-early : (a : MonitorArrival) (hello : LoginHello) (found : Option Principal) → EarlyRow a.link.number (challenges a hello found)
challenges-early a hello None = record { silent = tt; link = tt }
challenges-early a hello (Some principal) =
    let challenge : ℕ = challenge_of a.draw in
    let offered : Offered = record { offer = record { name = hello.name; secret = principal.key.secret; challenge = challenge }; gid = hello.gid } in
    let drawn : List SealEntry = entry.Drawn (draw.Challenge challenge) ∷ [] in
    let silent : AreSilent drawn = (tt, tt) in
    plain-early a (AwaitsProof offered) drawn tt silent
    (plain_frame (control 4 auth_reply_more_layout.form (record { payload = server_challenge_layout.form.text (record { challenge = challenge }) })))

login_hello-early : (a : MonitorArrival) (read : Result LoginHello BytesFault) → EarlyRow a.link.number (on_login_hello a read)
login_hello-early a (Err why) = record { silent = tt; link = tt }
login_hello-early a (Ok hello) = challenges-early a hello (find (is_named hello.name) a.own.server.ring)

request-early : (a : MonitorArrival) (read : Result AuthRequest BytesFault) → EarlyRow a.link.number (on_auth_request on_request_payload a read)
request-early a (Err why) = record { silent = tt; link = tt }
request-early a (Ok request) = by_tests (not (request.method == 2)) (not (list_any (λ mode. mode == 2) request.modes))
  where
    by_tests : (other plain : Bool) → EarlyRow a.link.number (if other then denies a 95 Method [] else if plain then denies a 95 Mode [] else on_request_payload a request.payload)
    by_tests true plain = record { silent = tt; link = tt }
    by_tests false true = record { silent = tt; link = tt }
    by_tests false false = login_hello-early a (whole login_hello_layout.form request.payload)

-- ---- turns

banner-turned : (a : MonitorArrival) (r : Result (Option (Banner × ℕ)) BannerRefusal) → EarlyTurn a.link.number (turned_by (λ link _. on_banner Mon (at a link)) (banner_read a.link r))
banner-turned a (Ok None) = tt
banner-turned a (Ok (Some (b, n))) = plain-early (at a (taking a.link n)) AwaitsHello [] tt tt (plain_frame (own_hello Mon))
banner-turned a (Err why) = tt

plain-turned : (a : MonitorArrival) (rows : MonitorArrival → Frame → MonitorRow) → ((b : MonitorArrival) (f : Frame) → EarlyRow b.link.number (rows b f))
    → (r : Result (Option (Frame × ℕ)) FrameRefusal) → EarlyTurn a.link.number (turned_by (λ (link, f) _. rows (at a link) f) (plain_read a.link r))
plain-turned a rows each (Ok None) = tt
plain-turned a rows each (Ok (Some (f, n))) = each (at a (taking a.link n)) f
plain-turned a rows each (Err why) = tt

-- in these three stages
pub banner-early : (a : MonitorArrival) → EarlyTurn a.link.number (turned_at a AwaitsBanner)
banner-early a = banner-turned a (banner_at (ahead_of a.link))

pub greeting-early : (a : MonitorArrival) → EarlyTurn a.link.number (turned_at a AwaitsHello)
greeting-early a = plain-turned a (λ b f. on_hello b (due 1 hello_layout.form f)) (λ b f. hello-early b (due 1 hello_layout.form f)) (plain_frame_at (ahead_of a.link))

pub asking-early : (a : MonitorArrival) → EarlyTurn a.link.number (turned_at a AwaitsRequest)
asking-early a =
    plain-turned a (λ b f. on_auth_request on_request_payload b (due 2 auth_request_layout.form f)) (λ b f. request-early b (due 2 auth_request_layout.form f)) (plain_frame_at (ahead_of a.link))
