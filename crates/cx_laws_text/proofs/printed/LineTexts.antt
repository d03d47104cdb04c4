-- The line of an entry is the words of what it tells, each two parted by one blank.
use Rattle.std.proofs.Common.{◌≡◌, ℕ, List, [], ◌∷◌, ◌++◌, map, codes, refl, sym, ap, ◌∙◌, append_assoc}
use Rattle.std.specs.Fmt.{decimal}
use Rattle.std.specs.List.{join_with_byte}
use Rattle.std.specs.Option.{option_map}
use Rattle.cx_base.specs.Names.{access_word, name_text, type_word}
use Rattle.cx_base.specs.Nodes.{node_text}
use Rattle.cx_base.specs.declared.operations.Operation.{Operation}
use Rattle.cx_words.specs.Words.{part_word, quoted}
use Rattle.cx_rotate.specs.declared.generations.Generation.{Generation}
use Rattle.cx_journal.specs.JournalText.{line, session_text, ticket_text}
use Rattle.cx_journal.specs.Places.{next_number, rank, ticket_number, ticket_of}
use Rattle.cx_journal.specs.Words.{asked_text, data_text, ids_text, operation_text, outcome_word, reading_text, reason_text, word_text}
use Rattle.cx_journal.specs.declared.entries.Admitted.{Admitted}
use Rattle.cx_journal.specs.declared.entries.Entry.{Entry}
use Rattle.cx_journal.specs.declared.entries.Entry.TheVariants as entry
use Rattle.cx_journal.specs.declared.faults.BytesFault.TheVariants as bytes
use Rattle.cx_journal.specs.declared.faults.LoginFault.TheVariants as login
use Rattle.cx_journal.specs.declared.faults.SessionFault.TheVariants as session
use Rattle.cx_journal.specs.declared.outcomes.Reason.{Reason}
use Rattle.cx_journal.specs.declared.outcomes.Reason.TheVariants as reason
use Rattle.cx_journal.specs.declared.outcomes.TicketFault.TheVariants as fault
use Rattle.cx_audit_text.specs.words.Choices.{head_word}
use Rattle.cx_audit_text.specs.words.Items.{item_word}
use Rattle.cx_audit_text.specs.words.Reasons.{reason_word}
use Rattle.cx_audit_text.specs.lines.Lines.{entry_head, entry_items}
use Rattle.cx_audit_text.specs.lines.Reasons.{reason_form, reason_values}
use Rattle.cx_laws_text.specs.told.Told.{entry_told, ids_told, reason_told}
use Rattle.cx_laws_text.proofs.printed.Spaced.{spaced, spaced-append}

-- words, each two parted by one blank
abbrev parted : List ℕ → List (List ℕ) → List ℕ
parted w [] = w
parted w (v ∷ ws) = w ++ 32 ∷ parted v ws

parted-spaced : (w : List ℕ) (ws : List (List ℕ)) (tail : List ℕ) → parted w ws ++ tail ≡ w ++ spaced ws tail
parted-spaced w [] tail = refl
parted-spaced w (v ∷ ws) tail = append_assoc w (32 ∷ parted v ws) tail ∙ ap (λ rest. w ++ 32 ∷ rest) (parted-spaced v ws tail)

-- ---- values of which the text has another form

part-text : (w : List ℕ) → word_text w ≡ part_word w
part-text [] = refl
part-text (b ∷ bs) = refl

ids-each : (gs : List Generation) → map (λ k. decimal k.id) (ids_told gs) ≡ map (λ k. decimal k.id) gs
ids-each [] = refl
ids-each (g ∷ gs) = ap (λ ws. decimal g.id ∷ ws) (ids-each gs)

ids-text : (gs : List Generation) → ids_text gs ≡ ids_text (ids_told gs)
ids-text [] = refl
ids-text (g ∷ gs) = ap (λ ws. join_with_byte 44 (decimal g.id ∷ ws)) (sym (ids-each gs))

operation-line : (o : Operation) (tail : List ℕ)
    → operation_text o ++ tail ≡ access_word o.access ++ spaced (part_word o.pool ∷ part_word o.namespace ∷ part_word o.object ∷ data_text o.bytes ∷ []) tail
operation-line o tail =
    parted-spaced (access_word o.access) (word_text o.pool ∷ word_text o.namespace ∷ word_text o.object ∷ data_text o.bytes ∷ []) tail
    ∙ ap (λ w. access_word o.access ++ spaced (w ∷ word_text o.namespace ∷ word_text o.object ∷ data_text o.bytes ∷ []) tail) (part-text o.pool)
    ∙ ap (λ w. access_word o.access ++ spaced (part_word o.pool ∷ w ∷ word_text o.object ∷ data_text o.bytes ∷ []) tail) (part-text o.namespace)
    ∙ ap (λ w. access_word o.access ++ spaced (part_word o.pool ∷ part_word o.namespace ∷ w ∷ data_text o.bytes ∷ []) tail) (part-text o.object)

session-line : (rank : ℕ) (a : Admitted) (tail : List ℕ)
    → session_text rank a ++ tail
    ≡ name_text a.daemon ++ spaced (decimal a.session ∷ decimal a.epoch ∷ (99 ∷ decimal rank) ∷ name_text a.entity ∷ decimal a.gid ∷ reading_text a.at ∷ quoted a.caps ∷ []) tail
session-line rank a tail =
    let front : List (List ℕ) = decimal a.session ∷ decimal a.epoch ∷ (99 ∷ decimal rank) ∷ name_text a.entity ∷ [] in
    let rest : List (List ℕ) = reading_text a.at ∷ quoted a.caps ∷ [] in
    append_assoc (parted (name_text a.daemon) front) (32 ∷ parted (decimal a.gid) rest) tail
    ∙ ap (λ end. parted (name_text a.daemon) front ++ 32 ∷ end) (parted-spaced (decimal a.gid) rest tail)
    ∙ parted-spaced (name_text a.daemon) front (32 ∷ (decimal a.gid ++ spaced rest tail))

-- ---- reasons

abbrev IsReasonLine : List Entry → Reason → List ℕ → Type 0
IsReasonLine earlier why tail =
    reason_text why ++ (ticket_text (option_map (ticket_number earlier) (ticket_of why)) ++ tail)
    ≡ reason_word (reason_form (reason_told earlier why)) ++ spaced (map item_word (reason_values (reason_told earlier why))) tail

two-words : (front a b tail : List ℕ) → front ++ (parted a (b ∷ []) ++ tail) ≡ front ++ (a ++ spaced (b ∷ []) tail)
two-words front a b tail = ap (λ rest. front ++ rest) (parted-spaced a (b ∷ []) tail)

reason-line : (earlier : List Entry) (why : Reason) (tail : List ℕ) → IsReasonLine earlier why tail
reason-line earlier (reason.Bytes bytes.BadBanner) tail = refl
reason-line earlier (reason.Bytes bytes.BadCrc) tail = refl
reason-line earlier (reason.Bytes bytes.BadShape) tail = refl
reason-line earlier (reason.Bytes bytes.TooLong) tail = refl
reason-line earlier (reason.Bytes bytes.BadTag) tail = refl
reason-line earlier (reason.Bytes bytes.Aborted) tail = refl
reason-line earlier (reason.Bytes bytes.CounterSpent) tail = refl
reason-line earlier (reason.Bytes (bytes.Features n)) tail = refl
reason-line earlier (reason.Bytes (bytes.Unexpected n)) tail = refl
reason-line earlier (reason.Bytes (bytes.Malformed n)) tail = refl
reason-line earlier reason.LinksFull tail = refl
reason-line earlier (reason.Login login.Method) tail = refl
reason-line earlier (reason.Login login.Mode) tail = refl
reason-line earlier (reason.Login login.UnknownEntity) tail = refl
reason-line earlier (reason.Login login.WrongProof) tail = refl
reason-line earlier (reason.Login login.GidsSpent) tail = refl
reason-line earlier (reason.Login login.IdsSpent) tail = refl
reason-line earlier (reason.Login login.SignatureWrong) tail = refl
reason-line earlier (reason.Login login.Unopened) tail = refl
reason-line earlier (reason.Login (login.Reclaim gid)) tail = refl
reason-line earlier (reason.Login (login.NonceWrong expected got)) tail = two-words (codes "nonce-wrong ") (decimal expected) (decimal got) tail
reason-line earlier reason.NotADaemon tail = refl
reason-line earlier reason.BadRequest tail = refl
reason-line earlier reason.BadReply tail = refl
reason-line earlier reason.Reset tail = refl
reason-line earlier reason.Lost tail = refl
reason-line earlier reason.NoSession tail = refl
reason-line earlier reason.NoLink tail = refl
reason-line earlier reason.Busy tail = refl
reason-line earlier reason.QueueFull tail = refl
reason-line earlier reason.Spent tail = refl
reason-line earlier (reason.Denied code) tail = refl
reason-line earlier (reason.NoTicket service) tail = refl
reason-line earlier (reason.WrongService kept got) tail = two-words (codes "wrong-service ") (type_word kept) (type_word got) tail
reason-line earlier (reason.Session session.BookFull) tail = refl
reason-line earlier (reason.Session session.UnknownSession) tail = refl
reason-line earlier (reason.Session (session.CookieInUse n)) tail = refl
reason-line earlier (reason.Session (session.StaleConnect n)) tail = refl
reason-line earlier (reason.Session (session.StaleGlobal n)) tail = refl
reason-line earlier (reason.Session (session.Gap n)) tail = refl
reason-line earlier (reason.Session (session.Stale n)) tail = refl
reason-line earlier (reason.Session (session.OwnerDiffers entity gid)) tail = two-words (codes "owner-differs ") (name_text entity) (decimal gid) tail
reason-line earlier (reason.Ticket (fault.UnknownGeneration id) blob) tail = refl
reason-line earlier (reason.Ticket (fault.TicketUnopened id) blob) tail = refl
reason-line earlier (reason.Ticket (fault.GidDiffers claimed sealed) blob) tail =
    two-words (codes "gid-differs ") (decimal claimed) (decimal sealed) (codes " ticket=" ++ (decimal (ticket_number earlier blob) ++ tail))
reason-line earlier (reason.Ticket (fault.Expired expires now) blob) tail =
    two-words (codes "expired ") (reading_text expires) (reading_text now) (codes " ticket=" ++ (decimal (ticket_number earlier blob) ++ tail))
reason-line earlier (reason.Ticket fault.AuthorizerUnopened blob) tail = refl
reason-line earlier (reason.Ticket (fault.ChallengeWrong expected got) blob) tail =
    two-words (codes "challenge-wrong ") (decimal expected) (decimal got) (codes " ticket=" ++ (decimal (ticket_number earlier blob) ++ tail))

-- ---- entries

caps-end : (caps tail : List ℕ) → 34 ∷ (caps ++ 34 ∷ tail) ≡ quoted caps ++ tail
caps-end caps tail = ap (λ rest. 34 ∷ rest) (sym (append_assoc caps (34 ∷ []) tail))

line-alone : (earlier : List Entry) (e : Entry) → line earlier e ≡ head_word (entry_head (entry_told earlier e)) ++ spaced (map item_word (entry_items (entry_told earlier e))) (10 ∷ [])
line-alone earlier (entry.Saved next) = refl
line-alone earlier (entry.Issued t) =
    let front : List (List ℕ) = name_text t.entity ∷ type_word t.service ∷ decimal t.gid ∷ [] in
    let behind : List ℕ → List ℕ = λ end. 32 ∷ (decimal t.generation ++ 32 ∷ (reading_text t.created ++ 32 ∷ (reading_text t.expires ++ 32 ∷ end))) in
    ap (λ end. codes "issued " ++ (parted (decimal (next_number earlier)) front ++ behind end)) (caps-end t.caps (10 ∷ []))
    ∙ ap (λ text. codes "issued " ++ text) (parted-spaced (decimal (next_number earlier)) front (behind (quoted t.caps ++ 10 ∷ [])))
line-alone earlier (entry.Fetched f) =
    ap (λ ids. codes "fetched " ++ (name_text f.daemon ++ 32 ∷ (reading_text f.asked ++ 32 ∷ (ids ++ 10 ∷ [])))) (ids-text f.generations)
line-alone earlier (entry.Looked l) =
    ap (λ ids. codes "looked " ++ (name_text l.daemon ++ 32 ∷ (decimal l.link ++ 32 ∷ (ids ++ 32 ∷ (asked_text l.view.asked ++ 10 ∷ []))))) (ids-text l.view.generations)
line-alone earlier (entry.Admitted a) = ap (λ text. codes "admitted " ++ text) (session-line (rank earlier a.cookie) a (10 ∷ []))
line-alone earlier (entry.Resumed a) = ap (λ text. codes "resumed " ++ text) (session-line (rank earlier a.cookie) a (10 ∷ []))
line-alone earlier (entry.Sent s) =
    ap (λ text. codes "sent " ++ (name_text s.client ++ 32 ∷ (name_text s.daemon ++ 32 ∷ 99 ∷ (decimal (rank earlier s.cookie) ++ 32 ∷ (decimal s.seq ++ 32 ∷ text)))))
    (operation-line s.operation (10 ∷ []))
line-alone earlier (entry.Handled h) =
    let front : List (List ℕ) = decimal h.session ∷ decimal h.epoch ∷ (99 ∷ decimal (rank earlier h.cookie)) ∷ [] in
    ap (λ text. codes "handled " ++ (parted (name_text h.daemon) front ++ 32 ∷ (decimal h.seq ++ 32 ∷ text))) (operation-line h.operation (32 ∷ (outcome_word h.outcome ++ 10 ∷ [])))
    ∙ ap (λ text. codes "handled " ++ text) (parted-spaced (name_text h.daemon) front (32 ∷ (decimal h.seq ++ 32 ∷ (access_word h.operation.access
    ++ spaced (part_word h.operation.pool ∷ part_word h.operation.namespace ∷ part_word h.operation.object ∷ data_text h.operation.bytes ∷ []) (32 ∷ (outcome_word h.outcome ++ 10 ∷ []))))))
line-alone earlier (entry.Answered a) = refl
line-alone earlier (entry.Refused r) =
    ap (λ text. codes "refused " ++ (node_text r.node ++ 32 ∷ (decimal r.link ++ 32 ∷ text))) (reason-line earlier r.reason (10 ∷ []))
line-alone earlier (entry.Ended x) = refl
line-alone earlier (entry.Restarted n) = refl
line-alone earlier (entry.Broken b) = refl
line-alone earlier (entry.Leaked client) = refl

-- in front of what stands behind the line
pub line-text : (earlier : List Entry) (e : Entry) (rest : List ℕ)
    → line earlier e ++ rest ≡ head_word (entry_head (entry_told earlier e)) ++ spaced (map item_word (entry_items (entry_told earlier e))) (10 ∷ rest)
line-text earlier e rest = ends e ∙ ap (λ text. head_word (entry_head (entry_told earlier e)) ++ text) (spaced-append (map item_word (entry_items (entry_told earlier e))) (10 ∷ []) rest)
  where
    ends : (x : Entry) → line earlier x ++ rest ≡ head_word (entry_head (entry_told earlier x)) ++ (spaced (map item_word (entry_items (entry_told earlier x))) (10 ∷ []) ++ rest)
    ends x = ap (λ text. text ++ rest) (line-alone earlier x) ∙ append_assoc (head_word (entry_head (entry_told earlier x))) (spaced (map item_word (entry_items (entry_told earlier x))) (10 ∷ [])) rest
