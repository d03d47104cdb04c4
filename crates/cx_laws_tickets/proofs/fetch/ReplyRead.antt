-- What one that asked reads of a reply that the monitor said: the generations that it takes are those of a reply under the number of the request that waits
-- longest, which was one for them.
use Rattle.std.proofs.Common.{◌≡◌, ◌<◌, ◌≤◌, ◌==◌, ◌+◌, ◌^◌, ℕ, Bool, true, false, List, [], ◌∷◌, ◌++◌, length, Option, Some, None, Result, Ok, Err, inl, ◌⊎◌, refl, sym, ap, ◌∙◌, subst, arith, append-nil, length-append, eqb-true}
use Rattle.std.specs.Prelude.{if◌then◌else◌}
use Rattle.cx_base.specs.declared.kinds.EntityType.TheVariants.{Auth}
use Rattle.cx_enc.specs.FormLaws.{blob-lawful, u16-lawful}
use Rattle.cx_enc.specs.Forms.{Form, Spot, ◌>>=◌, blob_form, little, u16_form}
use Rattle.cx_enc.specs.Layouts.{Layout, ◌⊳◌, blob_field, chain_by, constant, u32_field, u8_field}
use Rattle.cx_enc.specs.Whole.{start}
use Rattle.cx_enc.specs.declared.faults.ReadFault.{ReadFault}
use Rattle.cx_frame.specs.declared.frame.Frame.{Frame}
use Rattle.cx_frame.specs.Frames.{total}
use Rattle.cx_journal.specs.declared.faults.BytesFault.{BytesFault}
use Rattle.cx_journal.specs.declared.faults.BytesFault.TheVariants.{Unexpected}
use Rattle.cx_journal.specs.declared.outcomes.Reason.TheVariants as reason
use Rattle.cx_journal.specs.declared.premises.KeyKind.TheVariants as kind
use Rattle.cx_laws_tickets.specs.cx_laws_keys.proofs.keys.Reading.{bind_ok, ok_is, unseen}
use Rattle.cx_laws_tickets.specs.cx_login.specs.Held.{Held}
use Rattle.cx_laws_tickets.specs.cx_login.specs.Unlocking.{told_each, unlocked}
use Rattle.cx_rotate.specs.declared.generations.Generation.{Generation}
use Rattle.cx_laws_keys.specs.cx_rules.proofs.Payloads.{spelled_is}
use Rattle.cx_laws_keys.specs.cx_rules.proofs.Sizes.{total-reply}
use Rattle.cx_laws_keys.specs.cx_rules.specs.Messages.{Message, body_as, body_by, message_in}
use Rattle.cx_laws_keys.specs.cx_rules.specs.Payloads.{to_end, unless_left, whole}
use Rattle.cx_laws_keys.specs.cx_rules.specs.Requests.{Requests, body_taken, message_taken, reply_taken, rotating_taken, taken, tickets_taken, waiting_taken}
use Rattle.cx_laws_keys.specs.cx_rules.specs.declared.messages.Body.{Body}
use Rattle.cx_laws_keys.specs.cx_rules.specs.declared.messages.Body.TheVariants.{Spelled, OtherCode, Misspelled}
use Rattle.cx_laws_keys.specs.cx_rules.specs.declared.requests.Taken.{Taken}
use Rattle.cx_laws_keys.specs.cx_rules.specs.declared.requests.Taken.TheVariants as reply
use Rattle.cx_laws_keys.specs.cx_rules.specs.declared.requests.Waiting.{Waiting}
use Rattle.cx_laws_keys.specs.cx_rules.specs.declared.requests.Want.{Want}
use Rattle.cx_laws_keys.specs.cx_rules.specs.declared.requests.Want.TheVariants.{Tickets, Rotating}
use Rattle.cx_laws_tickets.specs.cx_sealed.specs.Records.{rotating_reply_layout}
use Rattle.cx_laws_tickets.specs.cx_sealed.specs.declared.rotating_reply.RotatingReply.{RotatingReply}
use Rattle.cx_steps.specs.declared.seals.SealEntry.{SealEntry}
use Rattle.cx_wire.specs.Bodies.{reply_content, reply_layout, reply_of, reply_parts}
use Rattle.cx_wire.specs.CodeLaws.{coded}
use Rattle.cx_wire.specs.Codes.{chosen, ended, other_code, rotating_code, tickets_code}
use Rattle.cx_wire.specs.Services.{behind, ticket_part_layout}
use Rattle.cx_wire.specs.declared.bodies.Reply.{Reply}
use Rattle.cx_wire.specs.declared.bodies.Reply.TheVariants as given
use Rattle.cx_wire.specs.declared.headers.Header.{Header}
use Rattle.cx_wire.specs.declared.tickets.TicketPart.{TicketPart}
use Rattle.cx_laws_tickets.proofs.fetch.AskedHeard.{message-again}
use Rattle.cx_laws_tickets.proofs.fetch.AskedWords.{Confirms, Given, Greets, Lacks, Replies, Resets, given_frame}

-- ---- what generations are taken from

-- a message 18 under the number of the request that waits longest, one for generations, with a blob that opens as these
pub record TakenFrom (secret : List ℕ) (r : Requests) (f : Frame) (reading : ℕ) (generations : List Generation) : Type 0 where
  pub m : Message
  pub read : message_in f ≡ Ok m
  pub first : Waiting
  pub rest : List Waiting
  pub waits : r.waiting ≡ first ∷ rest
  pub number : m.header.tid ≡ first.tid
  pub want : first.want ≡ Rotating reading
  pub blob : List ℕ
  pub body : body_as reply_layout.form m.body ≡ Spelled (given.Rotating blob)
  pub told : RotatingReply
  pub opens : (unlocked rotating_reply_layout.form kind.Principal secret blob).value ≡ Some told
  pub told_is : told.generations ≡ generations

module _ (secret : List ℕ) (reading : ℕ) (generations : List Generation) (opened : List SealEntry) where
  abbrev Views_ : Taken
  Views_ = reply.Views reading generations opened

  -- these are taken, at the reading that is waited for
  record IsOpenedAs (want : Want) (x : Reply) : Type 0 where
    blob : List ℕ
    is : x ≡ given.Rotating blob
    want_is : want ≡ Rotating reading
    told : RotatingReply
    opens : (unlocked rotating_reply_layout.form kind.Principal secret blob).value ≡ Some told
    told_is : told.generations ≡ generations

  reading_in : Taken → ℕ
  reading_in (reply.Views at gs seals) = at
  reading_in (reply.Holds held seals) = 0
  reading_in (reply.Refuses why seals) = 0

  generations_in : Taken → List Generation
  generations_in (reply.Views at gs seals) = gs
  generations_in (reply.Holds held seals) = []
  generations_in (reply.Refuses why seals) = []

  opened-as : (session : List ℕ) (want : Want) (x : Reply) → reply_taken secret session want x ≡ Views_ → IsOpenedAs want x
  unfolding reading_in generations_in
  opened-as session Tickets (given.Tickets parts) is = absurd (by_value (told_each session parts).value is)
    where
      by_value : (value : Option (List Held)) → tickets_taken (told_each session parts).seals value ≡ Views_ → ⊥
      by_value None e = cc
      by_value (Some held) e = cc
  opened-as session (Rotating at) (given.Rotating blob) is = by_value (unlocked rotating_reply_layout.form kind.Principal secret blob).value refl is
    where
      seals : List SealEntry
      seals = (unlocked rotating_reply_layout.form kind.Principal secret blob).seals

      by_value : (value : Option RotatingReply) → (unlocked rotating_reply_layout.form kind.Principal secret blob).value ≡ value → rotating_taken at seals value ≡ Views_
          → IsOpenedAs (Rotating at) (given.Rotating blob)
      by_value None e bad = absurd cc
      by_value (Some told) e ok =
          record { blob = blob; is = refl; want_is = ap (λ (k : ℕ). Rotating k) (ap reading_in ok); told = told; opens = e; told_is = ap generations_in ok }
  opened-as session Tickets (given.Rotating blob) is = absurd cc
  opened-as session (Rotating at) (given.Tickets parts) is = absurd cc

  abbrev From : Requests → Frame → Type 0
  From r f = TakenFrom secret r f reading generations

  module _ (r : Requests) (f : Frame) (m : Message) (read : message_in f ≡ Ok m) where
    waiting-from : (x : Reply) → body_as reply_layout.form m.body ≡ Spelled x → (waiting : List Waiting) → r.waiting ≡ waiting → waiting_taken secret r.session waiting m.header.tid x ≡ Views_
        → From r f
    waiting-from x body [] waits is = absurd cc
    waiting-from x body (first ∷ rest) waits is = by_test (m.header.tid == first.tid) refl is
      where
        spelled : Reply → Body Reply
        spelled y = Spelled y

        by_test : (t : Bool) → (m.header.tid == first.tid) ≡ t → (if t then reply_taken secret r.session first.want x else reply.Refuses reason.BadReply []) ≡ Views_ → From r f
        by_test true same ok =
            let h : IsOpenedAs first.want x = opened-as r.session first.want x ok in
            record {
              m = m;
              read = read;
              first = first;
              rest = rest;
              waits = waits;
              number = eqb-true m.header.tid first.tid same;
              want = h.want_is;
              blob = h.blob;
              body = body ∙ ap spelled h.is;
              told = h.told;
              opens = h.opens;
              told_is = h.told_is;
            }
        by_test false same bad = absurd cc

    body-from : (body : Body Reply) → body_as reply_layout.form m.body ≡ body → body_taken secret r m.header.tid body ≡ Views_ → From r f
    body-from (Spelled x) same is = waiting-from x same r.waiting refl is
    body-from OtherCode same is = absurd cc
    body-from (Misspelled why) same is = absurd cc

  -- wherever generations are taken
  pub taken-from : (r : Requests) (f : Frame) → taken secret r f ≡ Views_ → From r f
  taken-from r f is = by_read (message_in f) refl is
    where
      by_read : (read : Result Message BytesFault) → message_in f ≡ read → message_taken secret r read ≡ Views_ → From r f
      by_read (Err why) e bad = absurd cc
      by_read (Ok m) e ok = by_test (m.header.type_ == 18) ok
        where
          by_test : (t : Bool) → (if t then body_taken secret r m.header.tid (body_as reply_layout.form m.body) else reply.Refuses (reason.Bytes (Unexpected 17)) []) ≡ Views_ → From r f
          by_test true good = body-from r f m e (body_as reply_layout.form m.body) refl good
          by_test false bad = absurd cc

-- ---- a reply that was said

abbrev tickets_layout : Layout (List TicketPart)
tickets_layout = constant 1 u8_field ⊳ chain_by u32_field ticket_part_layout behind (Some Auth)

abbrev Either : Type 0
Either = List TicketPart ⊎ List ℕ

-- what all of some bytes spell was read from their beginning
whole-read : {X : Type 0} (form : Form X) (bytes : List ℕ) (x : X) → whole form bytes ≡ Ok x → (next : Spot) × (form.at (start bytes) ≡ Ok (x, next))
whole-read {X} form bytes x is = by_read (form.at (start bytes)) refl is
  where
    made : X → Spot → Result (X × Spot) ReadFault
    made z next = Ok (z, next)

    by_left : (y : X) (next : Spot) (left : List ℕ) → form.at (start bytes) ≡ Ok (y, next) → unless_left y next.place left ≡ Ok x → (behind_it : Spot) × (form.at (start bytes) ≡ Ok (x, behind_it))
    by_left y next [] read all = let same : y ≡ x = cc in (next, read ∙ ap (λ (z : X). made z next) same)
    by_left y next (b ∷ left) read all = absurd cc

    by_read : (r : Result (X × Spot) ReadFault) → form.at (start bytes) ≡ r → to_end r ≡ Ok x → (behind_it : Spot) × (form.at (start bytes) ≡ Ok (x, behind_it))
    by_read (Ok (y, next)) read all = by_left y next next.left read all
    by_read (Err fault) read all = absurd cc

ended-is : (x y : Reply) (place : ℕ) (left : List ℕ) (behind_it next : Spot) → ended x place left behind_it ≡ Ok (y, next) → x ≡ y
ended-is x y place [] behind_it next e = ap (λ (p : Reply × Spot). p.0) (ok_is (x, behind_it) (y, next) e)
ended-is x y place (b ∷ left) behind_it next e = absurd cc

-- behind the code of tickets stand tickets
chosen-first : (code place : ℕ) (a : Result (List TicketPart × Spot) ReadFault) (b : Result (List ℕ × Spot) ReadFault) (x : Either) (next : Spot) → code ≡ tickets_code
    → chosen (code == tickets_code) (code == rotating_code) place a b ≡ Ok (x, next) → (parts : List TicketPart) × (x ≡ inl parts)
chosen-first code place a b x next same e =
    let first : chosen true false place a b ≡ Ok (x, next) = subst (λ (c : ℕ). chosen (c == tickets_code) (c == rotating_code) place a b ≡ Ok (x, next)) same e in
    let v = bind_ok a (λ (y : List TicketPart × Spot). let r : Result (Either × Spot) ReadFault = Ok (inl y.0, y.1) in r) (x, next) first in
    (v.0.0, ap (λ (p : Either × Spot). p.0) (sym (ok_is (inl v.0.0, v.0.1) (x, next) v.2)))

content-first : (parts : List TicketPart) (place : ℕ) (x : Reply) (next : Spot)
    → reply_content.form.at (record { place = place; left = reply_content.form.text (given.Tickets parts) }) ≡ Ok (x, next) → (others : List TicketPart) × (x ≡ given.Tickets others)
content-first parts place x next e =
    let s : Spot = record { place = place; left = reply_content.form.text (given.Tickets parts) } in
    let inner : Form Either = (coded tickets_layout blob_field).form in
    let a = unseen reply_of reply_parts inner s x next e in
    let code = bind_ok (u16_form.at s) (λ (c : ℕ × Spot). chosen (c.0 == tickets_code) (c.0 == rotating_code) s.place (tickets_layout.form.at c.1) (blob_field.form.at c.1)) (a.0, next) a.2 in
    let again = u16-lawful.again tickets_code place (tickets_layout.form.text parts) (omega arith) in
    let first : code.0.0 ≡ tickets_code =
    ap (λ (p : ℕ × Spot). p.0)
    (ok_is code.0 (tickets_code, record { place = place + length (u16_form.text tickets_code); left = tickets_layout.form.text parts }) (sym code.1 ∙ again)) in
    let one = chosen-first code.0.0 s.place (tickets_layout.form.at code.0.1) (blob_field.form.at code.0.1) a.0 next first code.2 in
    (one.0, sym a.1 ∙ ap reply_of one.1)

not-rotating : (parts others : List TicketPart) (blob : List ℕ) → given.Tickets others ≡ given.Rotating blob → ⊥
not-rotating parts others blob e = cc

-- a reply of tickets is never read as one of generations
tickets-read : (parts : List TicketPart) (blob : List ℕ) → length (reply_content.form.text (given.Tickets parts)) < 2 ^ 32
    → whole reply_layout.form (reply_layout.form.text (given.Tickets parts)) ≡ Ok (given.Rotating blob) → ⊥
tickets-read parts blob short e =
    let content : List ℕ = reply_content.form.text (given.Tickets parts) in
    let text : List ℕ = blob_form.text content in
    let w = whole-read reply_layout.form text (given.Rotating blob) e in
    let b = bind_ok (blob_form.at (start text)) (λ (c : List ℕ × Spot). reply_content.form.at (record { place = 0 + 4; left = c.0 }) >>= λ y. ended y.0 y.1.place y.1.left c.1)
    (given.Rotating blob, w.0) w.1 in
    let again = blob-lawful.again content 0 [] short in
    let same_start : start text ≡ record { place = 0; left = text ++ [] } = ap (λ (l : List ℕ). let s : Spot = record { place = 0; left = l } in s) (sym (append-nil text)) in
    let read : b.0.0 ≡ content =
    ap (λ (p : List ℕ × Spot). p.0) (ok_is b.0 (content, record { place = 0 + length text; left = [] }) (sym b.1 ∙ ap (λ (s : Spot). blob_form.at s) same_start ∙ again)) in
    let v = bind_ok (reply_content.form.at (record { place = 0 + 4; left = b.0.0 })) (λ (y : Reply × Spot). ended y.0 y.1.place y.1.left b.0.1) (given.Rotating blob, w.0) b.2 in
    let there : reply_content.form.at (record { place = 0 + 4; left = content }) ≡ Ok (v.0.0, v.0.1) =
    subst (λ (l : List ℕ). reply_content.form.at (record { place = 0 + 4; left = l }) ≡ Ok (v.0.0, v.0.1)) read v.1 in
    let c = content-first parts 4 v.0.0 v.0.1 there in
    not-rotating parts c.0 blob (sym c.1 ∙ ended-is v.0.0 (given.Rotating blob) v.0.1.place v.0.1.left b.0.1 w.0 v.2)

-- ---- by what was said

spelled-is : (code : Option ℕ) (r : Result Reply BytesFault) (x : Reply) → body_by code r ≡ Spelled x → r ≡ Ok x
spelled-is code (Ok y) x e =
    let same : y ≡ x = cc in
    ap (λ (z : Reply). let q : Result Reply BytesFault = Ok z in q) same
spelled-is (Some code) (Err why) x e = absurd cc
spelled-is None (Err why) x e = absurd cc

blob-is : (a b : List ℕ) → (let r : Result Reply BytesFault = Ok (given.Rotating a) in r ≡ Ok (given.Rotating b)) → a ≡ b
blob-is a b e = cc

blob-short : (b : List ℕ) → length (reply_content.form.text (given.Rotating b)) < 2 ^ 32 → length b < 2 ^ 32
unfolding little
blob-short b low = omega (arith, low, length-append {A = ℕ})

-- a reply that is read as one of generations is that one
reply-is : (x : Reply) (blob : List ℕ) → length (reply_content.form.text x) < 2 ^ 32 → body_as reply_layout.form (reply_layout.form.text x) ≡ Spelled (given.Rotating blob) → x ≡ given.Rotating blob
reply-is (given.Tickets parts) blob short e =
    absurd (tickets-read parts blob short (spelled-is (other_code (reply_layout.form.text (given.Tickets parts))) (whole reply_layout.form (reply_layout.form.text (given.Tickets parts)))
    (given.Rotating blob) e))
reply-is (given.Rotating other) blob short e =
    let text : List ℕ = reply_layout.form.text (given.Rotating other) in
    let read = spelled-is (other_code text) (whole reply_layout.form text) (given.Rotating blob) e in
    let again = spelled_is reply_layout text (given.Rotating other) ((blob-short other short, short), refl) in
    ap (λ (l : List ℕ). given.Rotating l) (blob-is other blob (sym again ∙ read))

content-short : (tid : ℕ) (x : Reply) → total (given_frame (Replies tid x)) ≤ 1048576 → length (reply_content.form.text x) < 2 ^ 32
unfolding little
content-short tid x fits =
    let content : List ℕ = reply_content.form.text x in
    let size = total-reply tid (reply_layout.form.text x) in
    omega (arith, fits, size, length-append {A = ℕ})

-- the message was said as the reply to a request under its number
pub reply-said : (word : Given) (f : Frame) (m : Message) (blob : List ℕ) → f ≡ given_frame word → total (given_frame word) ≤ 1048576
    → ((tid : ℕ) (x : Reply) → word ≡ Replies tid x → tid < 2 ^ 64) → message_in f ≡ Ok m → body_as reply_layout.form m.body ≡ Spelled (given.Rotating blob)
    → word ≡ Replies m.header.tid (given.Rotating blob)
reply-said word f m blob is fits low read body = by_word word fits low (ap message_in (sym is) ∙ read)
  where
    message-is : (n : Message) → (let r : Result Message BytesFault = Ok n in r ≡ Ok m) → n ≡ m
    message-is n e = cc

    by_word : (w : Given) → total (given_frame w) ≤ 1048576 → ((tid : ℕ) (x : Reply) → w ≡ Replies tid x → tid < 2 ^ 64) → message_in (given_frame w) ≡ Ok m
        → w ≡ Replies m.header.tid (given.Rotating blob)
    by_word (Greets address) t l e = absurd cc
    by_word Resets t l e = absurd cc
    by_word (Lacks features) t l e = absurd cc
    by_word (Confirms ack) t l e = absurd cc
    by_word (Replies tid x) t l e =
        let header : Header = record { seq = 0; tid = tid; type_ = 18 } in
        let n : Message = record { header = header; body = reply_layout.form.text x } in
        let again : message_in (given_frame (Replies tid x)) ≡ Ok n = message-again 0 tid 18 (reply_layout.form.text x) (omega arith) (l tid x refl) (omega arith) in
        let same : n ≡ m = message-is n (sym again ∙ e) in
        let number : tid ≡ m.header.tid = ap (λ (y : Message). y.header.tid) same in
        let spelled : body_as reply_layout.form (reply_layout.form.text x) ≡ Spelled (given.Rotating blob) = ap (λ (y : Message). body_as reply_layout.form y.body) same ∙ body in
        ap (λ (k : ℕ). Replies k x) number ∙ ap (λ (y : Reply). Replies m.header.tid y) (reply-is x blob (content-short tid x t) spelled)
