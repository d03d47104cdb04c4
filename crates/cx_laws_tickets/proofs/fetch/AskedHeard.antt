-- What the monitor hears in the frame of a request is its number; and the reply by which one that asked takes generations is, where the monitor said it, the one
-- under the number of the request that waits longest.
use Rattle.std.proofs.Common.{◌≡◌, ◌<◌, ◌==◌, ◌+◌, ◌-◌, ◌^◌, ℕ, Bool, true, false, List, [], ◌∷◌, Some, None, Result, Ok, Err, inl, inr, refl, sym, ap, ◌∙◌, subst, arith}
use Rattle.std.specs.Prelude.{if◌then◌else◌}
use Rattle.cx_base.specs.Names.{Name}
use Rattle.cx_frame.specs.declared.frame.Frame.{Frame}
use Rattle.cx_journal.specs.declared.faults.BytesFault.{BytesFault}
use Rattle.cx_journal.specs.declared.faults.BytesFault.TheVariants.{Unexpected}
use Rattle.cx_journal.specs.declared.faults.SessionFault.TheVariants.{Gap}
use Rattle.cx_journal.specs.declared.outcomes.Reason.{Reason}
use Rattle.cx_journal.specs.declared.outcomes.Reason.TheVariants as reason
use Rattle.cx_laws_keys.specs.cx_rules.proofs.Payloads.{spelled_is}
use Rattle.cx_laws_keys.specs.cx_rules.specs.Messages.{Message, body_as, message, message_by, message_in}
use Rattle.cx_laws_keys.specs.cx_rules.specs.MonitorRequests.{demand_as, demand_by, demand_of, heard, ordered}
use Rattle.cx_laws_keys.specs.cx_rules.specs.declared.messages.Body.{Body}
use Rattle.cx_laws_keys.specs.cx_rules.specs.declared.messages.Body.TheVariants.{Spelled, OtherCode, Misspelled}
use Rattle.cx_laws_keys.specs.cx_rules.specs.declared.responses.Bearer.{Bearer}
use Rattle.cx_laws_keys.specs.cx_rules.specs.declared.responses.Demand.{Demand}
use Rattle.cx_wire.specs.Bodies.{request_layout}
use Rattle.cx_wire.specs.Headers.{Fields, header_layout, written_header}
use Rattle.cx_wire.specs.declared.bodies.Request.{Request}
use Rattle.cx_wire.specs.declared.headers.Header.{Header}
use Rattle.cx_laws_keys.specs.cx_rules.specs.Payloads.{whole}
use Rattle.cx_laws_tickets.proofs.fetch.AskedKnown.{Events, WereMade}
use Rattle.cx_laws_tickets.proofs.fetch.AskedWords.{AreNumbered, Asked, Asks, Idents, Acknowledges, IsNumbered, asked_frame, number_after}
use Rattle.cx_laws_tickets.proofs.fetch.Words.{IsIn}

-- ---- a message is read as it was written

header-again : (h : Header) → h.seq < 2 ^ 64 → h.tid < 2 ^ 64 → h.type_ < 2 ^ 16 → whole header_layout.form (header_layout.form.text (written_header h)) ≡ Ok (written_header h)
header-again h seq tid kind =
    spelled_is header_layout (header_layout.form.text (written_header h)) (written_header h)
    ((seq, (tid, (kind, (omega arith, (omega arith, (omega arith, (omega arith, (omega arith, (omega arith, (omega arith, omega arith)))))))))), refl)

pub message-again : (seq tid type_ : ℕ) (body : List ℕ) → seq < 2 ^ 64 → tid < 2 ^ 64 → type_ < 2 ^ 16 → let header : Header = record { seq = seq; tid = tid; type_ = type_ } in
    message_in (message header body) ≡ Ok (record { header = header; body = body })
message-again seq tid type_ body low low_too small =
    let header : Header = record { seq = seq; tid = tid; type_ = type_ } in
    ap (λ (r : Result Fields BytesFault). message_by body [] r) (header-again header low low_too small)

-- ---- what is heard

demand-is : (d e : Demand) → (let r : Result Demand Reason = Ok d in r ≡ Ok e) → d ≡ e
demand-is d e is = cc

demand-same : (d e : Demand) → (let r : Result Demand BytesFault = Ok d in r ≡ Ok e) → d ≡ e
demand-same d e is = cc

ordered-is : (last : ℕ) (read : Result Demand BytesFault) (d : Demand) → ordered last read ≡ Ok d → read ≡ Ok d
ordered-is last (Err why) d is = absurd cc
ordered-is last (Ok e) d is = by_tests (last == 2 ^ 64 - 1) (e.seq == last + 1) is
  where
    read_of : Demand → Result Demand BytesFault
    read_of x = Ok x

    by_tests : (spent next : Bool) → (let r : Result Demand Reason = (if spent then Err reason.Spent else if next then Ok e else Err (reason.Session (Gap (last + 1)))) in r ≡ Ok d) → read_of e ≡ read_of d
    by_tests true next bad = absurd cc
    by_tests false true ok = ap read_of (demand-is e d ok)
    by_tests false false bad = absurd cc

demand-number : (m : Message) (d : Demand) (r : Result Demand BytesFault) → demand_of (Ok m) ≡ r → r ≡ Ok d → d.tid ≡ m.header.tid
demand-number m d r is ok = by_test (m.header.type_ == 17) (is ∙ ok)
  where
    by_body : (body : Body Request) → demand_by m body ≡ Ok d → d.tid ≡ m.header.tid
    by_body (Spelled request) e = ap (λ (x : Demand). x.tid) (sym (demand-same (demand_as m (Some request)) d e))
    by_body OtherCode e = ap (λ (x : Demand). x.tid) (sym (demand-same (demand_as m None) d e))
    by_body (Misspelled why) e = absurd cc

    by_test : (t : Bool) → (let q : Result Demand BytesFault = (if t then demand_by m (body_as request_layout.form m.body) else Ok (demand_as m None)) in q ≡ Ok d) → d.tid ≡ m.header.tid
    by_test true e = by_body (body_as request_layout.form m.body) e
    by_test false e = ap (λ (x : Demand). x.tid) (sym (demand-same (demand_as m None) d e))

-- what is heard in what was said is a request, under its number
pub hears-request : (word : Asked) (bearer : Bearer) (f : Frame) (d : Demand) → f ≡ asked_frame word → ((number reading : ℕ) (request : Request) → word ≡ Asks number reading request → number < 2 ^ 64)
    → heard bearer f ≡ Ok d → (reading : ℕ) × (request : Request) × (word ≡ Asks d.tid reading request)
hears-request word bearer f d is low hears = by_word word low (ordered-is bearer.last (demand_of (message_in f)) d hears) is
  where
    by_word : (x : Asked) → ((number reading : ℕ) (request : Request) → x ≡ Asks number reading request → number < 2 ^ 64) → demand_of (message_in f) ≡ Ok d → f ≡ asked_frame x
        → (reading : ℕ) × (request : Request) × (x ≡ Asks d.tid reading request)
    by_word (Idents mon_client gid cookie) bound read same = absurd (none (sym (ap (λ (g : Frame). demand_of (message_in g)) same) ∙ read))
      where
        none : demand_of (Err (Unexpected 8)) ≡ Ok d → ⊥
        none e = cc
    by_word (Acknowledges ack) bound read same = absurd (none (sym (ap (λ (g : Frame). demand_of (message_in g)) same) ∙ read))
      where
        none : demand_of (Err (Unexpected 19)) ≡ Ok d → ⊥
        none e = cc
    by_word (Asks number reading request) bound read same =
        let header : Header = record { seq = number; tid = number; type_ = 17 } in
        let body : List ℕ = request_layout.form.text request in
        let m : Message = record { header = header; body = body } in
        let low_number : number < 2 ^ 64 = bound number reading request refl in
        let again : message_in f ≡ Ok m = ap message_in same ∙ message-again number number 17 body low_number low_number (omega arith) in
        let tid : d.tid ≡ number = demand-number m d (demand_of (Ok m)) refl (sym (ap demand_of again) ∙ read) in
        (reading, request, ap (λ (n : ℕ). Asks n reading request) (sym tid))

-- ---- of what was said

-- numbers can be written
pub numbered-low : (before number reading : ℕ) (request : Request) (xs : List Asked) → AreNumbered before xs → IsIn (Asks number reading request) xs → number < 2 ^ 64
numbered-low before number reading request [] h there = absurd there
numbered-low before number reading request (x ∷ xs) h (inl here) =
    let own : IsNumbered before (Asks number reading request) = subst (λ (y : Asked). IsNumbered before y) here h.0 in own.1
numbered-low before number reading request (x ∷ xs) h (inr later) = numbered-low (number_after before x) number reading request xs h.1 later

-- each request was made at its reading
pub made-at : (E : Events) (name : Name) (number reading : ℕ) (request : Request) (xs : List Asked) → WereMade E name xs → IsIn (Asks number reading request) xs → E.was_asked name reading
made-at E name number reading request [] h there = absurd there
made-at E name number reading request (x ∷ xs) h (inl here) = by_word x here h
  where
    reading_in : Asked → ℕ
    reading_in (Asks n r q) = r
    reading_in (Idents mon_client gid cookie) = reading
    reading_in (Acknowledges ack) = reading

    by_word : (y : Asked) → y ≡ Asks number reading request → WereMade E name (y ∷ xs) → E.was_asked name reading
    by_word (Asks n r q) same g = subst (λ (k : ℕ). E.was_asked name k) (ap reading_in same) g.0
    by_word (Idents mon_client gid cookie) same g = absurd cc
    by_word (Acknowledges ack) same g = absurd cc
made-at E name number reading request (x ∷ xs) h (inr later) = by_word x h (λ rest. made-at E name number reading request xs rest later)
  where
    by_word : (y : Asked) → WereMade E name (y ∷ xs) → (WereMade E name xs → E.was_asked name reading) → E.was_asked name reading
    by_word (Asks n r q) g on = on g.1
    by_word (Idents mon_client gid cookie) g on = on g
    by_word (Acknowledges ack) g on = on g
