-- What a client reads of message 43 is what was given: the tid, where it has a spelling, and the outcome.
use Rattle.std.proofs.Common.{◌≡◌, ℕ, ◌<◌, ◌^◌, ◌==◌, Bool, true, false, List, [], Result, Ok, Err, refl, sym, ap, ◌∙◌, subst, arith}
use Rattle.std.proofs.lemmas.Bool.{eqb-true}
use Rattle.std.specs.Prelude.{if◌then◌else◌}
use Rattle.cx_enc.specs.Forms.{Spot, pair}
use Rattle.cx_enc.specs.Layouts.{Layout, only_if, u8_field}
use Rattle.cx_enc.specs.Whole.{start}
use Rattle.cx_frame.specs.declared.frame.Frame.{Frame}
use Rattle.cx_journal.specs.declared.faults.BytesFault.{BytesFault}
use Rattle.cx_journal.specs.declared.faults.BytesFault.TheVariants.{Unexpected}
use Rattle.cx_journal.specs.declared.outcomes.Outcome.{Outcome}
use Rattle.cx_journal.specs.declared.outcomes.Outcome.TheVariants.{Done, Denied, NoHandler}
use Rattle.cx_laws_links.specs.cx_laws_keys.proofs.keys.Reading.{ok_is, pair_parts, unseen}
use Rattle.cx_laws_links.specs.cx_rules.specs.Messages.{Message, message_by, message_in, message_of}
use Rattle.cx_laws_links.specs.cx_rules.specs.Payloads.{whole}
use Rattle.cx_laws_links.specs.cx_rules_session.specs.Hosting.{Instruction, answer_data, answer_message, outcome_number}
use Rattle.cx_laws_links.specs.cx_rules_session.specs.Presenter.{OperationEnd, end_by, end_in, outcome_by}
use Rattle.cx_laws_tickets.specs.cx_wire.specs.Headers.{Fields, header_layout, written_header}
use Rattle.cx_laws_tickets.specs.cx_wire.specs.Operations.{answer_layout, data_field, is_outcome}
use Rattle.cx_laws_tickets.specs.cx_wire.specs.declared.answers.Answer.{Answer}
use Rattle.cx_laws_tickets.specs.cx_wire.specs.declared.headers.Header.{Header}
use Rattle.cx_laws_links.proofs.links.Hearing.{whole-again, whole-read}
use Rattle.cx_laws_links.proofs.answers.Given.{Acks, Admits, Answers, Given, KeepsUp, Misses, Replies, Resets, Resumes, Retries, RetriesGlobal, Signs, given_frame}

-- ---- the outcome

abbrev outcome_field : Layout ℕ
outcome_field = only_if is_outcome u8_field

outcome-fits : (outcome : Outcome) → outcome_field.form.Fits (outcome_number outcome)
outcome-fits Done = (omega arith, refl)
outcome-fits Denied = (omega arith, refl)
outcome-fits NoHandler = (omega arith, refl)

abbrev answer_made : ℕ × List ℕ → Answer
answer_made (outcome, bytes) = record { outcome = outcome; bytes = bytes }

abbrev answer_parts : Answer → ℕ × List ℕ
answer_parts a = (a.outcome, a.bytes)

-- it is read as it is, whatever the data
read_outcome : (outcome : Outcome) (bytes : List ℕ) (x : Answer) → whole answer_layout.form (answer_layout.form.text (record { outcome = outcome_number outcome; bytes = bytes })) ≡ Ok x
    → x.outcome ≡ outcome_number outcome
read_outcome outcome bytes x e =
    let made : Answer = record { outcome = outcome_number outcome; bytes = bytes } in
    let text : List ℕ = answer_layout.form.text made in
    let r = whole-read answer_layout.form text x e in
    let a = unseen answer_made answer_parts (pair outcome_field.form data_field.form) (start text) x r.0 r.1 in
    let p = pair_parts outcome_field.form data_field.form (start text) a.0 r.0 a.2 in
    let again = outcome_field.lawful.again (outcome_number outcome) 0 (data_field.form.text bytes) (outcome-fits outcome) in
    let same = ok_is (a.0.0, p.0) (outcome_number outcome, _) (sym p.1 ∙ again) in
    sym (ap (λ (y : Answer). y.outcome) a.1) ∙ ap (λ (q : ℕ × Spot). q.0) same

outcome-back : (outcome : Outcome) → outcome_by (outcome_number outcome) ≡ outcome
outcome-back Done = refl
outcome-back Denied = refl
outcome-back NoHandler = refl

-- ---- message 43

abbrev answer_header : ℕ → Header
answer_header tid = record { seq = 0; tid = tid; type_ = 43 }

-- a header whose tid can be written is read again
header-again : (tid : ℕ) → tid < 2 ^ 64 → whole header_layout.form (header_layout.form.text (written_header (answer_header tid))) ≡ Ok (written_header (answer_header tid))
header-again tid low =
    whole-again header_layout (written_header (answer_header tid))
    (omega arith, (low, (omega arith, (omega arith, (omega arith, (omega arith, (omega arith, (omega arith, (omega arith, (omega arith, omega arith))))))))))

read_end : (i : Instruction) (outcome : Outcome) (end : OperationEnd) → i.tid < 2 ^ 64 → end_in (message_in (answer_message i outcome)) ≡ Ok end → (end.tid ≡ i.tid) × (end.outcome ≡ outcome)
read_end i outcome end low e =
    let body : List ℕ = answer_layout.form.text (record { outcome = outcome_number outcome; bytes = answer_data i.operation outcome }) in
    let m : Message = record { header = answer_header i.tid; body = body } in
    let good : Result Message BytesFault = Ok m in
    let found : message_in (answer_message i outcome) ≡ good = ap (λ (r : Result Fields BytesFault). message_by body [] r) (header-again i.tid low) in
    by_read (whole answer_layout.form body) refl (ap end_in (sym found) ∙ e)
  where
    end-is : (x y : OperationEnd) → (let r : Result OperationEnd BytesFault = Ok x in r ≡ Ok y) → x ≡ y
    end-is x y e = cc

    by_read : (r : Result Answer BytesFault) → whole answer_layout.form (answer_layout.form.text (record { outcome = outcome_number outcome; bytes = answer_data i.operation outcome })) ≡ r
        → end_by (record { header = answer_header i.tid; body = answer_layout.form.text (record { outcome = outcome_number outcome; bytes = answer_data i.operation outcome }) }) r ≡ Ok end
        → (end.tid ≡ i.tid) × (end.outcome ≡ outcome)
    by_read (Err why) is ends = absurd cc
    by_read (Ok answer) is ends =
        let made : OperationEnd = record { tid = i.tid; outcome = outcome_by answer.outcome } in
        let same : made ≡ end = end-is made end ends in (
          sym (ap (λ (x : OperationEnd). x.tid) same),
          sym (ap (λ (x : OperationEnd). x.outcome) same) ∙ ap outcome_by (read_outcome outcome (answer_data i.operation outcome) answer is) ∙ outcome-back outcome,
        )

-- ---- by what was given

-- an end is read of a frame of tag 17
pub end-tag : (f : Frame) (end : OperationEnd) → end_in (message_in f) ≡ Ok end → f.tag ≡ 17
end-tag f end = by_test (f.tag == 17) refl
  where
    by_test : (message : Bool) → (f.tag == 17) ≡ message → end_in (if message then message_of f.segments else Err (Unexpected f.tag)) ≡ Ok end → f.tag ≡ 17
    by_test true e is = eqb-true f.tag 17 e
    by_test false e is = absurd cc

-- a frame that tells an end is one of an answer, and tells its end, where its tid has a spelling
pub hears-answer : (x : Given) (f : Frame) (end : OperationEnd) → f ≡ given_frame x → end_in (message_in f) ≡ Ok end
    → (cookie : ℕ) × (i : Instruction) × (outcome : Outcome) × (x ≡ Answers cookie i outcome) × (i.tid < 2 ^ 64 → (end.tid ≡ i.tid) × (end.outcome ≡ outcome))
hears-answer x f end is read =
    by_word x (ap (λ (g : Frame). g.tag) (sym is) ∙ end-tag f end read) (subst (λ (g : Frame). end_in (message_in g) ≡ Ok end) is read)
  where
    by_word : (y : Given) → (given_frame y).tag ≡ 17 → end_in (message_in (given_frame y)) ≡ Ok end
        → (cookie : ℕ) × (i : Instruction) × (outcome : Outcome) × (y ≡ Answers cookie i outcome) × (i.tid < 2 ^ 64 → (end.tid ≡ i.tid) × (end.outcome ≡ outcome))
    by_word (Answers cookie i outcome) t r = (cookie, i, outcome, refl, λ low. read_end i outcome end low r)
    by_word (Signs code) t r = absurd (omega (arith, t))
    by_word (Replies cookie (Admits address flags own)) t r = absurd (omega (arith, t))
    by_word (Replies cookie (Resumes last)) t r = absurd (omega (arith, t))
    by_word (Replies cookie Resets) t r = absurd (omega (arith, t))
    by_word (Replies cookie (Retries kept)) t r = absurd (omega (arith, t))
    by_word (Replies cookie (RetriesGlobal kept)) t r = absurd (omega (arith, t))
    by_word (Misses features) t r = absurd (omega (arith, t))
    by_word (Acks seq) t r = absurd (omega (arith, t))
    by_word (KeepsUp ack) t r = absurd (omega (arith, t))
