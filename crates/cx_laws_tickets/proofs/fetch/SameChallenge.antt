-- Where the bytes that the monitor signed are those that one sent before its own signature, both tell the same challenge; and no signature of one that
-- logs in covers what one that logs in sent.
use Rattle.std.proofs.Common.{◌≡◌, ◌<◌, ◌+◌, ◌^◌, ◌∙◌, ℕ, List, [], ◌∷◌, length, map, slice_index, take, Option, Some, None, Result, Ok, Err, refl, sym, ap, subst, arith, length-append}
use Rattle.std.specs.Int.{w32}
use Rattle.std.specs.List.{AllByRecursion}
use Rattle.std.specs.Prelude.{zero, suc}
use Rattle.cx_control.specs.Auth.{auth_request_more_layout}
use Rattle.cx_control.specs.declared.auth.AuthRequestMore.{AuthRequestMore}
use Rattle.cx_dice.specs.Draws.{challenge_of}
use Rattle.cx_enc.specs.Forms.{Form, Spot, little, pair, seen}
use Rattle.cx_enc.specs.Layouts.{Layout, ◌⊗◌, constant, only_if, ticket_field, u16_field, u32_field, u64_field, u8_field}
use Rattle.cx_enc.specs.Whole.{start}
use Rattle.cx_enc.specs.declared.faults.ReadFault.{ReadFault}
use Rattle.cx_enc.specs.declared.tickets.TicketBlob.{TicketBlob}
use Rattle.cx_frame.specs.Preambles.{preamble_of}
use Rattle.cx_frame.specs.declared.frame.Frame.{Frame}
use Rattle.cx_journal.specs.declared.faults.BytesFault.{BytesFault}
use Rattle.cx_laws_tickets.specs.cx_rules_session.specs.cx_rules.proofs.Payloads.{spelled_is}
use Rattle.cx_laws_tickets.specs.cx_rules_session.specs.cx_rules.specs.Connector.{login_request}
use Rattle.cx_laws_tickets.specs.cx_rules_session.specs.cx_rules.specs.Greetings.{own_hello}
use Rattle.cx_laws_tickets.specs.cx_rules_session.specs.cx_rules.specs.Payloads.{to_end, unless_left, whole}
use Rattle.cx_laws_tickets.specs.cx_rules_session.specs.cx_rules.specs.cx_login.specs.Client.{Ask, authenticate, version_of}
use Rattle.cx_laws_tickets.specs.cx_rules_session.specs.cx_rules.specs.cx_login.specs.Held.{Held}
use Rattle.cx_laws_keys.specs.cx_stream.specs.PlainStreams.{IsPlain}
use Rattle.cx_wire.specs.Logins.{authenticate_layout, is_version}
use Rattle.cx_wire.specs.declared.logins.Authenticate.{Authenticate}
use Rattle.cx_laws_tickets.specs.cx_laws_keys.proofs.keys.Reading.{front, unseen}
use Rattle.cx_laws_tickets.proofs.fetch.MonClientFacts.{HasAnswered, HasHeard}
use Rattle.cx_laws_tickets.proofs.fetch.Banners.{IsRead, read-written}
use Rattle.cx_laws_tickets.proofs.fetch.HeardFrames.{HeardAnswer, IsAnswer}
use Rattle.cx_laws_tickets.proofs.fetch.WrittenFrames.{IsWritten, answer_frame, answer_text}

-- ---- frames

-- what was read, where that was written, are the frames that were
pub written-read : (received : List ℕ) (taken : ℕ) (heard sent : List Frame) (covered : List ℕ) → IsRead received heard taken → IsWritten covered sent → take taken received ≡ covered
    → heard ≡ sent
written-read received taken heard sent covered r w same = read-written received heard sent taken w.plain r (same ∙ w.text)

-- ---- a challenge is read as it was written

abbrev left_in : {X : Type 0} → X → Result X BytesFault → X
left_in x (Ok y) = y
left_in x (Err why) = x

-- what all of some bytes spell was read from their beginning
whole-read : {X : Type 0} (form : Form X) (bytes : List ℕ) (x : X) → whole form bytes ≡ Ok x → (next : Spot) × (form.at (start bytes) ≡ Ok (x, next))
whole-read {X} form bytes x is = by_read (form.at (start bytes)) refl is
  where
    by_left : (y : X) (next : Spot) (left : List ℕ) → form.at (start bytes) ≡ Ok (y, next) → unless_left y next.place left ≡ Ok x → (behind : Spot) × (form.at (start bytes) ≡ Ok (x, behind))
    by_left y next [] read all =
        let made : X → Result (X × Spot) ReadFault = λ z. Ok (z, next) in
        (next, read ∙ ap made (ap (left_in x) all))
    by_left y next (b ∷ left) read all = absurd cc

    by_read : (r : Result (X × Spot) ReadFault) → form.at (start bytes) ≡ r → to_end r ≡ Ok x → (behind : Spot) × (form.at (start bytes) ≡ Ok (x, behind))
    by_read (Ok (y, next)) read all = by_left y next next.left read all
    by_read (Err fault) read all = absurd cc

abbrev Last : Type 0
Last = TicketBlob × ℕ

abbrev Parts : Type 0
Parts = ℕ × (ℕ × (ℕ × Last))

abbrev last_layout : Layout Last
last_layout = ticket_field ⊗ u32_field

abbrev key_layout : Layout (ℕ × Last)
key_layout = u64_field ⊗ last_layout

abbrev challenge_layout : Layout (ℕ × (ℕ × Last))
challenge_layout = u64_field ⊗ key_layout

abbrev version_layout : Layout Parts
version_layout = only_if is_version u8_field ⊗ challenge_layout

abbrev code_layout : Layout (Unit {0})
code_layout = constant 0x0100 u16_field

abbrev made_of : Parts → Authenticate
made_of p = record { version = p.0; client_challenge = p.1.0; key = p.1.1.0; old_ticket = p.1.1.1.0; other_keys = p.1.1.1.1 }

abbrev parts_of : Authenticate → Parts
parts_of a = (a.version, (a.client_challenge, (a.key, (a.old_ticket, a.other_keys))))

version-fits : (old : Option Held) → (only_if is_version u8_field).form.Fits (version_of old)
version-fits None = (omega arith, refl)
version-fits (Some held) = (omega arith, refl)

-- a challenge below 2^64 is read so, whatever the other fields are
authenticate-read : (ask : Ask) (server challenge : ℕ) (a : Authenticate) → challenge < 2 ^ 64
    → whole authenticate_layout.form (authenticate_layout.form.text (authenticate ask server challenge)) ≡ Ok a → a.client_challenge ≡ challenge
authenticate-read ask server challenge a small is =
    let w : Authenticate = authenticate ask server challenge in
    let text : List ℕ = authenticate_layout.form.text w in
    let whole_is = whole-read authenticate_layout.form text a is in
    let next : Spot = whole_is.0 in
    let inner : Form Parts = seen (λ (x : Unit {0} × Parts). x.1) (λ (x : Parts). (tt, x)) (pair code_layout.form version_layout.form) in
    let x = unseen made_of parts_of inner (start text) a next whole_is.1 in
    let y = unseen (λ (z : Unit {0} × Parts). z.1) (λ (z : Parts). (tt, z)) (pair code_layout.form version_layout.form) (start text) x.0 next x.2 in
    let code = front code_layout.form version_layout.form code_layout.lawful tt 0 (version_layout.form.text (parts_of w)) y.0 next (omega arith, refl) y.2 in
    let version = front (only_if is_version u8_field).form challenge_layout.form (only_if is_version u8_field).lawful (version_of ask.old) _ (challenge_layout.form.text (parts_of w).1) y.0.1 next
    (version-fits ask.old) code.1 in
    let found = front u64_field.form key_layout.form u64_field.lawful challenge _ (key_layout.form.text (parts_of w).1.1) y.0.1.1 next small version.1 in
    let told : a.client_challenge ≡ x.0.1.0 = ap (λ (z : Authenticate). z.client_challenge) (sym x.1) in
    let read : x.0.1.0 ≡ y.0.1.1.0 = ap (λ (z : Parts). z.1.0) (sym y.1) in
    told ∙ read ∙ found.0

-- ---- a challenge of one's own

payload-short : (ask : Ask) (server challenge : ℕ) → IsPlain (answer_frame ask server challenge) → length (authenticate_layout.form.text (authenticate ask server challenge)) < 2 ^ 32
unfolding preamble_of
payload-short ask server challenge plain =
    let payload : List ℕ = authenticate_layout.form.text (authenticate ask server challenge) in
    let long : length (answer_text ask server challenge) < 2 ^ 32 = plain.each_length 0 in
    let sum : length (answer_text ask server challenge) ≡ length (little w32 (length payload)) + length payload = length-append (little w32 (length payload)) payload in
    omega arith

-- the answer that was read of a frame that one wrote has the challenge that was written
pub answer-read : (ask : Ask) (server challenge told : ℕ) → challenge < 2 ^ 64 → IsPlain (answer_frame ask server challenge) → IsAnswer told (answer_frame ask server challenge) → told ≡ challenge
answer-read ask server challenge told small plain answer =
    let payload : List ℕ = authenticate_layout.form.text (authenticate ask server challenge) in
    let more : AuthRequestMore = record { payload = payload } in
    let again : whole auth_request_more_layout.form (answer_text ask server challenge) ≡ Ok more =
    spelled_is auth_request_more_layout (answer_text ask server challenge) more (payload-short ask server challenge plain, refl) in
    let same : more ≡ answer.more = ap (left_in more) (sym again ∙ answer.read) in
    let read : whole authenticate_layout.form payload ≡ Ok answer.ask = ap (λ (m : AuthRequestMore). whole authenticate_layout.form m.payload) same ∙ answer.told in
    sym answer.challenge_is ∙ authenticate-read ask server challenge answer.ask small read

abbrev third_or : Frame → List Frame → Frame
third_or g (a ∷ b ∷ c ∷ more) = c
third_or g _ = g

-- the monitor heard this challenge in these bytes, all that it took on a link, which it signs
pub record TellsChallenge (challenge : ℕ) (bytes : List ℕ) : Type 0 where
  pub received : List ℕ
  pub taken : ℕ
  pub heard : HeardAnswer received taken
  pub bytes_are : take taken received ≡ bytes
  pub told : heard.challenge ≡ challenge

pub heard-tells : (received : List ℕ) (taken : ℕ) → (heard : HeardAnswer received taken) → TellsChallenge heard.challenge (take taken received)
heard-tells received taken heard = record { received = received; taken = taken; heard = heard; bytes_are = refl; told = refl }

-- where that is what one sent before its own signature, it is the challenge of one's own
pub same-challenge : (D : ℕ → Frame → Type 0) (challenge : ℕ) (bytes : List ℕ) → TellsChallenge challenge bytes → (answered : HasAnswered D bytes) → answered.challenge < 2 ^ 64
    → challenge ≡ answered.challenge
same-challenge D challenge bytes t answered small =
    let heard : HeardAnswer t.received t.taken = t.heard in
    let last : Frame = answer_frame answered.ask answered.server answered.challenge in
    let frames : (heard.hello ∷ heard.request ∷ heard.answer ∷ []) ≡ own_hello answered.kind ∷ login_request answered.mon_client ∷ last ∷ [] =
    written-read t.received t.taken (heard.hello ∷ heard.request ∷ heard.answer ∷ []) (own_hello answered.kind ∷ login_request answered.mon_client ∷ last ∷ []) bytes heard.read answered.written
    t.bytes_are in
    let third : heard.answer ≡ last = ap (third_or last) frames in
    sym t.told ∙ answer-read answered.ask answered.server answered.challenge heard.challenge small answered.written.plain.1.1.0 (subst (IsAnswer heard.challenge) third heard.third)

-- each byte of a draw is below 256: so its challenge is below 2^64
byte-small : (bytes : List ℕ) (n i : ℕ) → AllByRecursion (λ (b : ℕ). b < 256) bytes → slice_index (take n bytes) i < 256
byte-small bytes zero i h = omega arith
byte-small [] (suc n) i h = omega arith
byte-small (b ∷ bytes) (suc n) zero h = h.0
byte-small (b ∷ bytes) (suc n) (suc i) h = byte-small bytes n i h.1

pub challenge-small : (block : List ℕ) → AllByRecursion (λ (b : ℕ). b < 256) block → challenge_of block < 2 ^ 64
challenge-small block h =
    let a : slice_index (take 8 block) 0 < 256 = byte-small block 8 0 h in
    let b : slice_index (take 8 block) 1 < 256 = byte-small block 8 1 h in
    let c : slice_index (take 8 block) 2 < 256 = byte-small block 8 2 h in
    let d : slice_index (take 8 block) 3 < 256 = byte-small block 8 3 h in
    let e : slice_index (take 8 block) 4 < 256 = byte-small block 8 4 h in
    let f : slice_index (take 8 block) 5 < 256 = byte-small block 8 5 h in
    let g : slice_index (take 8 block) 6 < 256 = byte-small block 8 6 h in
    let i : slice_index (take 8 block) 7 < 256 = byte-small block 8 7 h in
    omega arith

-- ---- a signature of one that logs in

abbrev heard_tags : List ℕ
heard_tags = 1 ∷ 4 ∷ 6 ∷ []

abbrev sent_tags : List ℕ
sent_tags = 1 ∷ 2 ∷ 5 ∷ []

differ : heard_tags ≡ sent_tags → ⊥
differ same = let second : slice_index heard_tags 1 ≡ slice_index sent_tags 1 = ap (λ (tags : List ℕ). slice_index tags 1) same in omega arith

-- one that logs in took these bytes on a link, which it signs: a HELLO, an AUTH_REPLY_MORE and an AUTH_DONE
pub record TellsReply (bytes : List ℕ) : Type 0 where
  pub received : List ℕ
  pub taken : ℕ
  pub heard : HasHeard received taken (1 ∷ 4 ∷ 6 ∷ [])
  pub bytes_are : take taken received ≡ bytes

-- that is never what one that logs in sent
pub never-own : (D : ℕ → Frame → Type 0) (bytes : List ℕ) → TellsReply bytes → HasAnswered D bytes → ⊥
never-own D bytes t answered =
    let last : Frame = answer_frame answered.ask answered.server answered.challenge in
    let frames : t.heard.frames ≡ own_hello answered.kind ∷ login_request answered.mon_client ∷ last ∷ [] =
    written-read t.received t.taken t.heard.frames (own_hello answered.kind ∷ login_request answered.mon_client ∷ last ∷ []) bytes t.heard.read answered.written t.bytes_are in
    differ (sym t.heard.tags_are ∙ ap (λ (fs : List Frame). map (λ (f : Frame). f.tag) fs) frames)
