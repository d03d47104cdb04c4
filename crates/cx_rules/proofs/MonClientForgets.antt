-- What may be forgotten of the link of one that logs in, and its rows.
use Rattle.std.proofs.Common.{◌≡◌, ℕ, ◌==◌, ◌++◌, Bool, true, false, List, [], ◌∷◌, Result, Ok, Err, refl}
use Rattle.std.specs.Prelude.{if◌then◌else◌}
use Rattle.cx_base.specs.Names.{is_daemon_type}
use Rattle.cx_login.specs.cx_control.specs.Auth.{auth_signature_layout}
use Rattle.cx_login.specs.cx_control.specs.Hello.{hello_layout}
use Rattle.cx_login.specs.cx_control.specs.Idents.{ident_missing_features_layout, server_ident_layout}
use Rattle.cx_login.specs.cx_control.specs.declared.auth.AuthSignature.{AuthSignature}
use Rattle.cx_login.specs.cx_control.specs.declared.idents.IdentMissingFeatures.{IdentMissingFeatures}
use Rattle.cx_login.specs.cx_control.specs.declared.idents.ServerIdent.{ServerIdent}
use Rattle.cx_keyserver.specs.cx_dice.specs.Draws.{cookie_of}
use Rattle.cx_stream.specs.cx_frame.specs.declared.frame.Frame.{Frame}
use Rattle.cx_login.specs.cx_journal.specs.declared.faults.BytesFault.{BytesFault}
use Rattle.cx_login.specs.cx_journal.specs.declared.faults.BytesFault.TheVariants.{Features}
use Rattle.cx_login.specs.cx_journal.specs.declared.faults.LoginFault.TheVariants.{SignatureWrong}
use Rattle.cx_login.specs.cx_journal.specs.declared.outcomes.Reason.{Reason}
use Rattle.cx_login.specs.cx_journal.specs.declared.outcomes.Reason.TheVariants as reason
use Rattle.cx_login.specs.cx_steps.specs.declared.seals.DrawMark.TheVariants as draw
use Rattle.cx_login.specs.cx_steps.specs.declared.seals.SealEntry.{SealEntry}
use Rattle.cx_login.specs.cx_steps.specs.declared.seals.SealEntry.TheVariants.{Drawn}
use Rattle.cx_login.specs.cx_wire.specs.declared.bodies.Request.TheVariants as asked
use Rattle.cx_rules.specs.Abridged.{IsWithin, abridged_mon_client_at, abridged_mon_client_link, unsigned}
use Rattle.cx_rules.specs.Connector.{MonClientArrival, MonClientRow, Login, Stage, AwaitsBanner, AwaitsHello, AwaitsChallenge, AwaitsDone, AwaitsSignature, AwaitsIdent, Open, client_ident, holding, identifies, on_banner, on_hello, on_missing_features, on_signature, turned_at, while_challenged, while_identified, while_proved}
use Rattle.cx_rules.specs.Holdings.{held_login}
use Rattle.cx_rules.specs.Links.{Link}
use Rattle.cx_rules.specs.Payloads.{due, payload}
use Rattle.cx_rules.specs.Requests.{Requests, asks_rotating, behind_reply, behind_request, fetched_entry, having, no_requests, on_open, on_reply, on_server_ident, opens_to, sealed_request, sends_request, taken, takes, with_tickets, with_view}
use Rattle.cx_rules.specs.Rows.{at, goes_on, refuses}
use Rattle.cx_rules.specs.Secured.{Keys, SealedFrame, Secured, is_signed, secure_frame, signature_found, under}
use Rattle.cx_rules.specs.declared.requests.Taken.{Taken}
use Rattle.cx_rules.specs.declared.requests.Taken.TheVariants.{Refuses, Holds, Views}
use Rattle.cx_rules.specs.declared.requests.Want.{Want}
use Rattle.cx_rules.specs.declared.requests.Want.TheVariants.{Rotating}
use Rattle.cx_rules.proofs.Abridging.{Alike, Forgets}
use Rattle.cx_rules.proofs.AlikeRows.{RowWithin, SameAhead, SameTurn, banner-turn, cut-fed, entered-alike, goes-alike, plain-turn, refuses-alike, same-turn, secure-alike, secure-turn, upkeep-alike}
use Rattle.cx_rules.proofs.MonClientWalk.{MonClientWays, banner-row, challenged-row, hello-row, proved-row}

-- ---- a link

number-of : (l : Link Stage) (stage : Stage) → (abridged_mon_client_at l stage).number ≡ l.number
number-of l (AwaitsBanner asked) = refl
number-of l (AwaitsHello asked) = refl
number-of l (AwaitsChallenge asked) = refl
number-of l AwaitsDone = refl
number-of l (AwaitsSignature s login) = refl
number-of l (AwaitsIdent s session) = refl
number-of l (Open s requests) = refl

twice-of : (l : Link Stage) (stage : Stage) → (let k : Link Stage = record l { stage = stage } in abridged_mon_client_link (abridged_mon_client_link k)) ≡ abridged_mon_client_link (record l { stage = stage })
twice-of l (AwaitsBanner asked) = refl
twice-of l (AwaitsHello asked) = refl
twice-of l (AwaitsChallenge asked) = refl
twice-of l AwaitsDone = refl
twice-of l (AwaitsSignature s login) = refl
twice-of l (AwaitsIdent s session) = refl
twice-of l (Open s requests) = refl

sends-of : (l : Link Stage) (stage : Stage) (bytes : List ℕ)
    → (let k : Link Stage = abridged_mon_client_link (record l { stage = stage }) in abridged_mon_client_link (record k { sent = k.sent ++ bytes }))
    ≡ abridged_mon_client_link (record l { sent = l.sent ++ bytes; stage = stage })
sends-of l (AwaitsBanner asked) bytes = refl
sends-of l (AwaitsHello asked) bytes = refl
sends-of l (AwaitsChallenge asked) bytes = refl
sends-of l AwaitsDone bytes = refl
sends-of l (AwaitsSignature s login) bytes = refl
sends-of l (AwaitsIdent s session) bytes = refl
sends-of l (Open s requests) bytes = refl

comes-of : (l : Link Stage) (stage : Stage) (bytes : List ℕ) → IsWithin l
    → (let k : Link Stage = abridged_mon_client_link (record l { stage = stage }) in abridged_mon_client_link (record k { received = k.received ++ bytes }))
    ≡ abridged_mon_client_link (record l { received = l.received ++ bytes; stage = stage })
comes-of l (AwaitsBanner asked) bytes w = refl
comes-of l (AwaitsHello asked) bytes w = refl
comes-of l (AwaitsChallenge asked) bytes w = refl
comes-of l AwaitsDone bytes w = refl
comes-of l (AwaitsSignature s login) bytes w = cut-fed l (AwaitsSignature s login) bytes w
comes-of l (AwaitsIdent s session) bytes w = cut-fed l (AwaitsIdent (unsigned s) session) bytes w
comes-of l (Open s requests) bytes w = cut-fed l (Open (unsigned s) requests) bytes w

pub mon_client-forgets : Forgets abridged_mon_client_link
mon_client-forgets = record {
  number = λ l. number-of l l.stage;
  twice = λ l. twice-of l l.stage;
  sends = λ l bytes. sends-of l l.stage bytes;
  comes = λ l bytes w. comes-of l l.stage bytes w;
}

-- ---- rows with plain frames: their links are whole

abbrev Within : MonClientArrival → MonClientRow → Type 0
Within a row = IsWithin a.link → RowWithin row

within-ways : MonClientWays Within
within-ways = record {
  refused = λ a why seals fine w. tt;
  gone_on = λ a stage bytes seals logs w. w;
  held = λ a holdings row h w. h w;
  behind = λ a opened row h w. h w;
}

-- ---- AUTH_SIGNATURE

signature-alike : (a : MonClientArrival) (l : Link Stage) (s : Secured) (login : Login) (found : Result AuthSignature BytesFault) → SameAhead l a.link → IsWithin a.link
    → Alike abridged_mon_client_link (on_signature (at a l) s login found) (on_signature a s login found)
signature-alike a l s login (Err why) e w = refuses-alike abridged_mon_client_link a l (reason.Bytes why) [] e.number
signature-alike a l s login (Ok found) e w = by_test (is_signed s found.signature)
  where
    by_test : (right : Bool) → Alike abridged_mon_client_link
        (if right then identifies (at a l) s login else refuses (at a l) (reason.Login SignatureWrong) [])
        (if right then identifies a s login else refuses a (reason.Login SignatureWrong) [])
    by_test true =
        secure-alike abridged_mon_client_link (holding a (held_login a.own.holdings login.gid login.opened)) l s s (λ behind. AwaitsIdent behind login.opened.auth.session)
        (signature_found s ∷ Drawn (draw.Cookie (cookie_of a.draw)) ∷ []) (secure_frame s.keys (client_ident a.own login.gid 1 (cookie_of a.draw))) e w (λ x k. refl)
    by_test false = refuses-alike abridged_mon_client_link a l (reason.Login SignatureWrong) [] e.number

-- ---- SERVER_IDENT, IDENT_MISSING_FEATURES

opens-alike : (a : MonClientArrival) (l : Link Stage) (s : Secured) (requests : Requests) (bytes : List ℕ) (seals : List SealEntry) → SameAhead l a.link → IsWithin a.link
    → Alike abridged_mon_client_link (goes_on (at a l) (Open (unsigned s) requests) bytes seals) (goes_on a (Open s requests) bytes seals)
opens-alike a l s requests bytes seals e w =
    goes-alike abridged_mon_client_link a l (Open (unsigned s) requests) (Open s requests) (Open (unsigned s) requests) bytes seals e w (λ k. refl) (λ k. refl)

request-alike : (a : MonClientArrival) (l : Link Stage) (s : Secured) (requests : Requests) (want : Want) (sealed : Result SealedFrame Reason) → SameAhead l a.link → IsWithin a.link
    → Alike abridged_mon_client_link (sends_request Open (at a l) (unsigned s) requests want sealed) (sends_request Open a s requests want sealed)
request-alike a l s requests want (Ok sealed) e w = opens-alike a l (under s sealed.keys) (behind_request requests want) sealed.bytes sealed.seals e w
request-alike a l s requests want (Err why) e w = refuses-alike abridged_mon_client_link a l why [] e.number

opens_to-alike : (a : MonClientArrival) (l : Link Stage) (s : Secured) (requests : Requests) → SameAhead l a.link → IsWithin a.link
    → Alike abridged_mon_client_link (opens_to Open (at a l) (unsigned s) requests) (opens_to Open a s requests)
opens_to-alike a l s requests e w = by_test (is_daemon_type a.own.name.kind)
  where
    by_test : (daemon : Bool) → Alike abridged_mon_client_link
        (if daemon then asks_rotating Open (at a l) (unsigned s) requests else goes_on (at a l) (Open (unsigned s) requests) [] [])
        (if daemon then asks_rotating Open a s requests else goes_on a (Open s requests) [] [])
    by_test true = request-alike a l s requests (Rotating a.reading) (sealed_request s.keys requests asked.Rotating) e w
    by_test false = opens-alike a l s requests [] [] e w

server_ident-alike : (a : MonClientArrival) (l : Link Stage) (s : Secured) (session : List ℕ) (ident : Result ServerIdent BytesFault) → SameAhead l a.link → IsWithin a.link
    → Alike abridged_mon_client_link (on_server_ident Open (at a l) (unsigned s) session ident) (on_server_ident Open a s session ident)
server_ident-alike a l s session (Err why) e w = refuses-alike abridged_mon_client_link a l (reason.Bytes why) [] e.number
server_ident-alike a l s session (Ok ident) e w = opens_to-alike a l s (no_requests session) e w

-- ---- replies

takes-alike : (a : MonClientArrival) (l : Link Stage) (s : Secured) (requests : Requests) (t : Taken) → SameAhead l a.link → IsWithin a.link
    → Alike abridged_mon_client_link (takes Open (at a l) (unsigned s) requests t) (takes Open a s requests t)
takes-alike a l s requests (Refuses why opened) e w = refuses-alike abridged_mon_client_link a l why opened e.number
takes-alike a l s requests (Holds held opened) e w = opens-alike (having a (with_tickets a.own held)) l s (behind_reply requests) [] opened e w
takes-alike a l s requests (Views reading generations opened) e w =
    let b : MonClientArrival = having a (with_view a.own reading generations) in
    entered-alike abridged_mon_client_link (fetched_entry a.own.name reading generations ∷ [])
    (goes_on (at b l) (Open (unsigned s) (behind_reply requests)) [] opened) (goes_on b (Open s (behind_reply requests)) [] opened)
    (opens-alike b l s (behind_reply requests) [] opened e w)

open-alike : (a : MonClientArrival) (l : Link Stage) (s : Secured) (requests : Requests) (f : Frame) → SameAhead l a.link → IsWithin a.link
    → Alike abridged_mon_client_link (on_open Open (at a l) (unsigned s) requests f) (on_open Open a s requests f)
open-alike a l s requests f e w =
    upkeep-alike abridged_mon_client_link (on_reply Open (at a l) (unsigned s) requests) (on_reply Open a s requests) a l s (λ behind. Open behind requests) f e w (λ x k. refl)
    (takes-alike a l s requests (taken a.own.secret requests f) e w)

missing-alike : (a : MonClientArrival) (l : Link Stage) (missing : Result IdentMissingFeatures BytesFault) → SameAhead l a.link
    → Alike abridged_mon_client_link (on_missing_features (at a l) missing) (on_missing_features a missing)
missing-alike a l (Err why) e = refuses-alike abridged_mon_client_link a l (reason.Bytes why) [] e.number
missing-alike a l (Ok missing) e = refuses-alike abridged_mon_client_link a l (reason.Bytes (Features missing.features)) [] e.number

identified-alike : (a : MonClientArrival) (l : Link Stage) (s : Secured) (session : List ℕ) (f : Frame) → SameAhead l a.link → IsWithin a.link
    → Alike abridged_mon_client_link (while_identified (at a l) (unsigned s) session f) (while_identified a s session f)
identified-alike a l s session f e w = by_test (f.tag == 10)
  where
    by_test : (lacks : Bool) → Alike abridged_mon_client_link
        (if lacks then on_missing_features (at a l) (payload ident_missing_features_layout.form f) else on_server_ident Open (at a l) (unsigned s) session (due 9 server_ident_layout.form f))
        (if lacks then on_missing_features a (payload ident_missing_features_layout.form f) else on_server_ident Open a s session (due 9 server_ident_layout.form f))
    by_test true = missing-alike a l (payload ident_missing_features_layout.form f) e
    by_test false = server_ident-alike a l s session (due 9 server_ident_layout.form f) e w

-- ---- a turn

-- of a link in this stage
abbrev pub TurnsAlike : MonClientArrival → Stage → Type 0
TurnsAlike a stage =
    let k : Link Stage = record a.link { stage = stage } in
    let l : Link Stage = abridged_mon_client_link k in
    SameTurn abridged_mon_client_link (turned_at (at a l) l.stage) (turned_at (at a k) stage)

pub turned-alike : (a : MonClientArrival) (stage : Stage) → IsWithin a.link → TurnsAlike a stage
turned-alike a (AwaitsBanner asked) w =
    let k : Link Stage = record a.link { stage = AwaitsBanner asked } in
    same-turn abridged_mon_client_link (turned_at (at a k) (AwaitsBanner asked))
    (banner-turn (at a k) (λ b. on_banner b asked) w (λ l. banner-row Within within-ways (at a l) asked))
turned-alike a (AwaitsHello asked) w =
    let k : Link Stage = record a.link { stage = AwaitsHello asked } in
    same-turn abridged_mon_client_link (turned_at (at a k) (AwaitsHello asked))
    (plain-turn (at a k) (λ b f. on_hello b asked (due 1 hello_layout.form f)) w (λ l f. hello-row Within within-ways (at a l) asked (due 1 hello_layout.form f)))
turned-alike a (AwaitsChallenge asked) w =
    let k : Link Stage = record a.link { stage = AwaitsChallenge asked } in
    same-turn abridged_mon_client_link (turned_at (at a k) (AwaitsChallenge asked))
    (plain-turn (at a k) (λ b f. while_challenged b asked f) w (λ l f. challenged-row Within within-ways (at a l) asked f))
turned-alike a AwaitsDone w =
    let k : Link Stage = record a.link { stage = AwaitsDone } in
    same-turn abridged_mon_client_link (turned_at (at a k) AwaitsDone) (plain-turn (at a k) (λ b f. while_proved b f) w (λ l f. proved-row Within within-ways (at a l) f))
turned-alike a (AwaitsSignature s login) w =
    let k : Link Stage = record a.link { stage = AwaitsSignature s login } in
    let row : MonClientArrival → Keys → Frame → MonClientRow = λ b keys f. on_signature b (under s keys) login (due 7 auth_signature_layout.form f) in
    secure-turn abridged_mon_client_link (at a k) (AwaitsSignature s login) s.keys row row w
    (λ l n keys f e v. signature-alike (at a n) l (under s keys) login (due 7 auth_signature_layout.form f) e v)
turned-alike a (AwaitsIdent s session) w =
    let k : Link Stage = record a.link { stage = AwaitsIdent s session } in
    let row : Secured → MonClientArrival → Keys → Frame → MonClientRow = λ t b keys f. while_identified b (under t keys) session f in
    secure-turn abridged_mon_client_link (at a k) (AwaitsIdent (unsigned s) session) s.keys (row (unsigned s)) (row s) w
    (λ l n keys f e v. identified-alike (at a n) l (under s keys) session f e v)
turned-alike a (Open s requests) w =
    let k : Link Stage = record a.link { stage = Open s requests } in
    let row : Secured → MonClientArrival → Keys → Frame → MonClientRow = λ t b keys f. on_open Open b (under t keys) requests f in
    secure-turn abridged_mon_client_link (at a k) (Open (unsigned s) requests) s.keys (row (unsigned s)) (row s) w
    (λ l n keys f e v. open-alike (at a n) l (under s keys) requests f e v)
