-- A text says one thing: what its lines say is told by their words.
use Rattle.std.proofs.Common.{◌≡◌, ℕ, ◌+◌, ◌<◌, ◌≤◌, ◌^◌, true, List, [], ◌∷◌, map, length, Option, Some, None, refl, sym, ap, subst, ◌∙◌, ◌==◌, arith}
use Rattle.std.specs.Prelude.{max}
use Rattle.std.proofs.lemmas.Bool.{and_parts}
use Rattle.cx_base.specs.declared.nodes.NodeName.{NodeName}
use Rattle.cx_words.specs.Cutting.{lines_of, words_of}
use Rattle.cx_journal.specs.declared.entries.Entry.TheVariants as entry
use Rattle.cx_journal.specs.declared.faults.BytesFault.TheVariants as bytes
use Rattle.cx_journal.specs.declared.faults.LoginFault.TheVariants as login
use Rattle.cx_journal.specs.declared.faults.SessionFault.TheVariants as session
use Rattle.cx_journal.specs.declared.outcomes.Reason.{Reason}
use Rattle.cx_journal.specs.declared.outcomes.Reason.TheVariants as reason
use Rattle.cx_journal.specs.declared.outcomes.TicketFault.TheVariants as fault
use Rattle.cx_audit_text.proofs.words.Chosen.{head_of-word}
use Rattle.cx_audit_text.specs.words.Choices.{head_of, head_word}
use Rattle.cx_audit_text.specs.words.Items.{JournalItem, AccessOf, AdminOutcomeOf, AskedOf, ByteOf, CapsOf, CookieOf, DataOf, EntityOf, FullBookWord, FullWord, IdsOf, KeyKindOf, NextOf, NodeOf, NumberOf, OutcomeOf, PartOf, PremiseOf, ReadingOf, ReasonOf, ShortOf, SpellsItems, TicketOf, TypeOf, VerbOf, are_good, is_whole, item_word}
use Rattle.cx_audit_text.specs.declared.choices.JournalHead.{JournalHead}
use Rattle.cx_audit_text.specs.declared.choices.JournalHead.TheVariants as head
use Rattle.cx_audit_text.specs.declared.words_places.CountedAbove.{CountedAbove}
use Rattle.cx_audit_text.specs.declared.words_places.JournalPlace.{JournalPlace}
use Rattle.cx_audit_text.specs.declared.words_reasons.PlainForm.TheVariants as plain
use Rattle.cx_audit_text.specs.declared.words_reasons.NumberedForm.TheVariants as numbered
use Rattle.cx_audit_text.specs.declared.words_reasons.FullForm.TheVariants as full
use Rattle.cx_audit_text.specs.declared.words_reasons.TicketForm.TheVariants as ticket
use Rattle.cx_audit_text.specs.declared.words_reasons.ReasonForm.{ReasonForm}
use Rattle.cx_audit_text.specs.declared.words_reasons.ReasonForm.TheVariants as form
use Rattle.cx_audit_text.specs.lines.Lines.{Spells, TellsAll, line_head, line_items, operation_items, places}
use Rattle.cx_audit_text.specs.lines.Reading.{IsJournal, Say, counted_behind, nothing}
use Rattle.cx_audit_text.specs.lines.Reasons.{reason_form, reason_values}
use Rattle.cx_audit_text.specs.declared.entries.JournalLine.{JournalLine}
use Rattle.cx_audit_text.specs.declared.entries.JournalLine.TheVariants as line
use Rattle.cx_laws_text.proofs.printed.Good.{place_of}
use Rattle.cx_laws_text.proofs.printed.Places.{entry-places}
use Rattle.cx_laws_text.proofs.printed.ReadItems.{items-back, read_items}

-- ---- a reason, from its form and its values

abbrev reason_from : ReasonForm → List JournalItem → Option Reason
reason_from (form.Plain plain.BadBanner) [] = Some (reason.Bytes bytes.BadBanner)
reason_from (form.Plain plain.BadCrc) [] = Some (reason.Bytes bytes.BadCrc)
reason_from (form.Plain plain.BadShape) [] = Some (reason.Bytes bytes.BadShape)
reason_from (form.Plain plain.TooLong) [] = Some (reason.Bytes bytes.TooLong)
reason_from (form.Plain plain.BadTag) [] = Some (reason.Bytes bytes.BadTag)
reason_from (form.Plain plain.Aborted) [] = Some (reason.Bytes bytes.Aborted)
reason_from (form.Plain plain.CounterSpent) [] = Some (reason.Bytes bytes.CounterSpent)
reason_from (form.Numbered numbered.Features) (NumberOf n ∷ []) = Some (reason.Bytes (bytes.Features n))
reason_from form.Unexpected (ByteOf n ∷ []) = Some (reason.Bytes (bytes.Unexpected n))
reason_from (form.Numbered numbered.Malformed) (NumberOf n ∷ []) = Some (reason.Bytes (bytes.Malformed n))
reason_from (form.Full full.Links) (FullWord ∷ []) = Some (reason.LinksFull)
reason_from (form.Plain plain.Method) [] = Some (reason.Login login.Method)
reason_from (form.Plain plain.Mode) [] = Some (reason.Login login.Mode)
reason_from (form.Plain plain.UnknownEntity) [] = Some (reason.Login login.UnknownEntity)
reason_from (form.Plain plain.WrongProof) [] = Some (reason.Login login.WrongProof)
reason_from (form.Plain plain.GidsSpent) [] = Some (reason.Login login.GidsSpent)
reason_from (form.Plain plain.IdsSpent) [] = Some (reason.Login login.IdsSpent)
reason_from (form.Plain plain.SignatureWrong) [] = Some (reason.Login login.SignatureWrong)
reason_from (form.Plain plain.Unopened) [] = Some (reason.Login login.Unopened)
reason_from (form.Numbered numbered.Reclaim) (NumberOf n ∷ []) = Some (reason.Login (login.Reclaim n))
reason_from form.NonceWrong (NumberOf n ∷ NumberOf m ∷ []) = Some (reason.Login (login.NonceWrong n m))
reason_from (form.Plain plain.NotADaemon) [] = Some (reason.NotADaemon)
reason_from (form.Plain plain.BadRequest) [] = Some (reason.BadRequest)
reason_from (form.Plain plain.BadReply) [] = Some (reason.BadReply)
reason_from (form.Plain plain.Reset) [] = Some (reason.Reset)
reason_from (form.Plain plain.Lost) [] = Some (reason.Lost)
reason_from (form.Plain plain.NoSession) [] = Some (reason.NoSession)
reason_from (form.Plain plain.NoLink) [] = Some (reason.NoLink)
reason_from (form.Plain plain.Busy) [] = Some (reason.Busy)
reason_from (form.Plain plain.Spent) [] = Some (reason.Spent)
reason_from (form.Full full.Queue) (FullWord ∷ []) = Some (reason.QueueFull)
reason_from form.Denied (ShortOf n ∷ []) = Some (reason.Denied n)
reason_from form.NoTicket (TypeOf k ∷ []) = Some (reason.NoTicket k)
reason_from form.WrongService (TypeOf k ∷ TypeOf l ∷ []) = Some (reason.WrongService k l)
reason_from (form.Full full.Book) (FullBookWord ∷ []) = Some (reason.Session session.BookFull)
reason_from (form.Plain plain.UnknownSession) [] = Some (reason.Session session.UnknownSession)
reason_from (form.Numbered numbered.CookieInUse) (NumberOf n ∷ []) = Some (reason.Session (session.CookieInUse n))
reason_from (form.Numbered numbered.StaleConnect) (NumberOf n ∷ []) = Some (reason.Session (session.StaleConnect n))
reason_from (form.Numbered numbered.StaleGlobal) (NumberOf n ∷ []) = Some (reason.Session (session.StaleGlobal n))
reason_from (form.Numbered numbered.Gap) (NumberOf n ∷ []) = Some (reason.Session (session.Gap n))
reason_from (form.Numbered numbered.Stale) (NumberOf n ∷ []) = Some (reason.Session (session.Stale n))
reason_from form.OwnerDiffers (EntityOf e ∷ NumberOf n ∷ []) = Some (reason.Session (session.OwnerDiffers e n))
reason_from (form.Ticket ticket.UnknownGeneration) (NumberOf n ∷ TicketOf blob ∷ []) = Some (reason.Ticket (fault.UnknownGeneration n) blob)
reason_from (form.Ticket ticket.TicketUnopened) (NumberOf n ∷ TicketOf blob ∷ []) = Some (reason.Ticket (fault.TicketUnopened n) blob)
reason_from (form.Ticket ticket.GidDiffers) (NumberOf n ∷ NumberOf m ∷ TicketOf blob ∷ []) = Some (reason.Ticket (fault.GidDiffers n m) blob)
reason_from (form.Ticket ticket.Expired) (ReadingOf n ∷ ReadingOf m ∷ TicketOf blob ∷ []) = Some (reason.Ticket (fault.Expired n m) blob)
reason_from (form.Ticket ticket.AuthorizerUnopened) (TicketOf blob ∷ []) = Some (reason.Ticket fault.AuthorizerUnopened blob)
reason_from (form.Ticket ticket.ChallengeWrong) (NumberOf n ∷ NumberOf m ∷ TicketOf blob ∷ []) = Some (reason.Ticket (fault.ChallengeWrong n m) blob)
reason_from _ _ = None

reason-from : (why : Reason) → reason_from (reason_form why) (reason_values why) ≡ Some why
reason-from (reason.Bytes bytes.BadBanner) = refl
reason-from (reason.Bytes bytes.BadCrc) = refl
reason-from (reason.Bytes bytes.BadShape) = refl
reason-from (reason.Bytes bytes.TooLong) = refl
reason-from (reason.Bytes bytes.BadTag) = refl
reason-from (reason.Bytes bytes.Aborted) = refl
reason-from (reason.Bytes bytes.CounterSpent) = refl
reason-from (reason.Bytes (bytes.Features n)) = refl
reason-from (reason.Bytes (bytes.Unexpected n)) = refl
reason-from (reason.Bytes (bytes.Malformed n)) = refl
reason-from reason.LinksFull = refl
reason-from (reason.Login login.Method) = refl
reason-from (reason.Login login.Mode) = refl
reason-from (reason.Login login.UnknownEntity) = refl
reason-from (reason.Login login.WrongProof) = refl
reason-from (reason.Login login.GidsSpent) = refl
reason-from (reason.Login login.IdsSpent) = refl
reason-from (reason.Login login.SignatureWrong) = refl
reason-from (reason.Login login.Unopened) = refl
reason-from (reason.Login (login.Reclaim n)) = refl
reason-from (reason.Login (login.NonceWrong n m)) = refl
reason-from reason.NotADaemon = refl
reason-from reason.BadRequest = refl
reason-from reason.BadReply = refl
reason-from reason.Reset = refl
reason-from reason.Lost = refl
reason-from reason.NoSession = refl
reason-from reason.NoLink = refl
reason-from reason.Busy = refl
reason-from reason.Spent = refl
reason-from reason.QueueFull = refl
reason-from (reason.Denied n) = refl
reason-from (reason.NoTicket k) = refl
reason-from (reason.WrongService k l) = refl
reason-from (reason.Session session.BookFull) = refl
reason-from (reason.Session session.UnknownSession) = refl
reason-from (reason.Session (session.CookieInUse n)) = refl
reason-from (reason.Session (session.StaleConnect n)) = refl
reason-from (reason.Session (session.StaleGlobal n)) = refl
reason-from (reason.Session (session.Gap n)) = refl
reason-from (reason.Session (session.Stale n)) = refl
reason-from (reason.Session (session.OwnerDiffers e n)) = refl
reason-from (reason.Ticket (fault.UnknownGeneration n) blob) = refl
reason-from (reason.Ticket (fault.TicketUnopened n) blob) = refl
reason-from (reason.Ticket (fault.GidDiffers n m) blob) = refl
reason-from (reason.Ticket (fault.Expired n m) blob) = refl
reason-from (reason.Ticket fault.AuthorizerUnopened blob) = refl
reason-from (reason.Ticket (fault.ChallengeWrong n m) blob) = refl

-- ---- a line, from its kind and its values

abbrev refused_from : NodeName → ℕ → Option Reason → Option JournalLine
refused_from n l None = None
refused_from n l (Some why) = Some (line.Entry (entry.Refused (record { node = n; link = l; reason = why })))

abbrev line_from : JournalHead → List JournalItem → Option JournalLine
line_from head.Saved (NumberOf n ∷ []) = Some (line.Entry (entry.Saved n))
line_from head.Issued (NextOf b ∷ EntityOf e ∷ TypeOf s ∷ NumberOf g ∷ NumberOf i ∷ ReadingOf c ∷ ReadingOf x ∷ CapsOf t ∷ []) =
    Some (line.Entry (entry.Issued (record { entity = e; service = s; gid = g; generation = i; created = c; expires = x; caps = t; blob = b })))
line_from head.Fetched (EntityOf d ∷ ReadingOf a ∷ IdsOf gs ∷ []) = Some (line.Entry (entry.Fetched (record { daemon = d; asked = a; generations = gs })))
line_from head.Looked (EntityOf d ∷ ShortOf l ∷ IdsOf gs ∷ AskedOf a ∷ []) =
    Some (line.Entry (entry.Looked (record { daemon = d; link = l; view = record { generations = gs; asked = a } })))
line_from head.Admitted (EntityOf d ∷ NumberOf s ∷ NumberOf p ∷ CookieOf k ∷ EntityOf e ∷ NumberOf g ∷ ReadingOf a ∷ CapsOf t ∷ []) =
    Some (line.Entry (entry.Admitted (record { daemon = d; session = s; epoch = p; cookie = k; entity = e; gid = g; at = a; caps = t })))
line_from head.Resumed (EntityOf d ∷ NumberOf s ∷ NumberOf p ∷ CookieOf k ∷ EntityOf e ∷ NumberOf g ∷ ReadingOf a ∷ CapsOf t ∷ []) =
    Some (line.Entry (entry.Resumed (record { daemon = d; session = s; epoch = p; cookie = k; entity = e; gid = g; at = a; caps = t })))
line_from head.Sent (EntityOf c ∷ EntityOf d ∷ CookieOf k ∷ NumberOf q ∷ AccessOf a ∷ PartOf p ∷ PartOf n ∷ PartOf o ∷ DataOf b ∷ []) =
    Some (line.Entry (entry.Sent (record { client = c; daemon = d; cookie = k; seq = q; operation = record { access = a; pool = p; namespace = n; object = o; bytes = b } })))
line_from head.Handled (EntityOf d ∷ NumberOf s ∷ NumberOf e ∷ CookieOf k ∷ NumberOf q ∷ AccessOf a ∷ PartOf p ∷ PartOf n ∷ PartOf o ∷ DataOf b ∷ OutcomeOf u ∷ []) =
    Some (line.Entry (entry.Handled (record { daemon = d; session = s; epoch = e; cookie = k; seq = q; operation = record { access = a; pool = p; namespace = n; object = o; bytes = b }; outcome = u })))
line_from head.Answered (EntityOf c ∷ EntityOf d ∷ NumberOf t ∷ OutcomeOf u ∷ []) =
    Some (line.Entry (entry.Answered (record { client = c; daemon = d; cookie = 0; tid = t; outcome = u })))
line_from head.Refused (NodeOf n ∷ ShortOf l ∷ ReasonOf f ∷ values) = refused_from n l (reason_from f values)
line_from head.Ended (EntityOf d ∷ NumberOf s ∷ []) = Some (line.Entry (entry.Ended (record { daemon = d; session = s })))
line_from head.Restarted (NodeOf n ∷ []) = Some (line.Entry (entry.Restarted n))
line_from head.Broken (PremiseOf w ∷ NodeOf n ∷ KeyKindOf k ∷ ShortOf l ∷ []) = Some (line.Entry (entry.Broken (record { why = w; node = n; kind = k; line = l })))
line_from head.Leaked (EntityOf c ∷ []) = Some (line.Entry (entry.Leaked c))
line_from head.Administered (EntityOf a ∷ VerbOf v ∷ PartOf n ∷ ReadingOf r ∷ AdminOutcomeOf u ∷ []) =
    Some (line.Administered (record { actor = a; verb = v; name = n; at = r; outcome = u }))
line_from _ _ = None

line-from : (said : JournalLine) → TellsAll said → line_from (line_head said) (line_items said) ≡ Some said
line-from (line.Entry (entry.Saved x)) h = refl
line-from (line.Entry (entry.Issued x)) h = refl
line-from (line.Entry (entry.Fetched x)) h = refl
line-from (line.Entry (entry.Looked x)) h = refl
line-from (line.Entry (entry.Admitted x)) h = refl
line-from (line.Entry (entry.Resumed x)) h = refl
line-from (line.Entry (entry.Sent x)) h = refl
line-from (line.Entry (entry.Handled x)) h = refl
line-from (line.Entry (entry.Ended x)) h = refl
line-from (line.Entry (entry.Restarted x)) h = refl
line-from (line.Entry (entry.Broken x)) h = refl
line-from (line.Entry (entry.Leaked x)) h = refl
line-from (line.Entry (entry.Answered a)) h = ap (λ k. Some (line.Entry (entry.Answered (record { client = a.client; daemon = a.daemon; cookie = k; tid = a.tid; outcome = a.outcome })))) (sym h)
line-from (line.Entry (entry.Refused r)) h = ap (refused_from r.node r.link) (reason-from r.reason)
line-from (line.Administered a) h = refl

-- ---- the places of what words spell

words-are : (counted : CountedAbove) (items : List JournalItem) (ws : List (List ℕ)) → SpellsItems counted items ws → ws ≡ map item_word items
words-are counted [] [] p = refl
words-are counted [] (w ∷ ws) p = absurd p
words-are counted (i ∷ is) [] p = absurd p
words-are counted (i ∷ is) (w ∷ ws) p = ap (λ k. k ∷ ws) p.0.1 ∙ ap (λ ks. item_word i ∷ ks) (words-are counted is ws p.1)

line-places : (said : JournalLine) → places (line_head said) (map item_word (line_items said)) ≡ map place_of (line_items said)
line-places (line.Entry e) = entry-places e
line-places (line.Administered a) = refl

places-are : (counted : CountedAbove) (said : JournalLine) (ws : List (List ℕ)) → SpellsItems counted (line_items said) ws → places (line_head said) ws ≡ map place_of (line_items said)
places-are counted said ws p = ap (places (line_head said)) (words-are counted (line_items said) ws p) ∙ line-places said

-- what is read at the places of a line are its values
values-read : (counted : CountedAbove) (said : JournalLine) (ws : List (List ℕ)) → counted.cookies + 1 < 2 ^ 64 → SpellsItems counted (line_items said) ws
    → is_whole counted (places (line_head said) ws) ws ≡ true → read_items (places (line_head said) ws) ws ≡ Some (line_items said)
values-read counted said ws low p whole =
    let same = places-are counted said ws p in
    let good : are_good counted (places (line_head said) ws) ws ≡ true = (and_parts (length (places (line_head said) ws) == length ws) (are_good counted (places (line_head said) ws) ws) whole).1 in
    ap (λ (ps : List JournalPlace). read_items ps ws) same
    ∙ items-back counted (line_items said) ws low p (subst (λ (ps : List JournalPlace). are_good counted ps ws ≡ true) same good)

same-head : (a b : JournalLine) (word : List ℕ) → word ≡ head_word (line_head a) → word ≡ head_word (line_head b) → line_head a ≡ line_head b
same-head a b word p q =
    let e : Some (line_head a) ≡ Some (line_head b) = sym (head_of-word (line_head a)) ∙ ap head_of (sym p ∙ q) ∙ head_of-word (line_head b) in cc

line-once : (counted : CountedAbove) (a b : JournalLine) (ws : List (List ℕ)) → counted.cookies + 1 < 2 ^ 64 → Spells counted a ws → Spells counted b ws → a ≡ b
line-once counted a b [] low p q = absurd p
line-once counted a b (w ∷ ws) low p q =
    let heads : line_head a ≡ line_head b = same-head a b w p.0 q.0 in
    let ours : read_items (places (line_head a) ws) ws ≡ Some (line_items a) = values-read counted a ws low p.1 p.3 in
    let theirs : read_items (places (line_head b) ws) ws ≡ Some (line_items b) = values-read counted b ws low q.1 q.3 in
    let both : Some (line_items a) ≡ Some (line_items b) = sym ours ∙ ap (λ (h : JournalHead). read_items (places h ws) ws) heads ∙ theirs in
    let items : line_items a ≡ line_items b = cc in
    let e : Some a ≡ Some b = sym (line-from a p.2) ∙ ap (λ (h : JournalHead). line_from h (line_items a)) heads ∙ ap (line_from (line_head b)) items ∙ line-from b q.2 in
    cc

-- ---- all lines

third : (counted : CountedAbove) (a b : JournalItem) (k : ℕ) (is : List JournalItem) (ws : List (List ℕ)) → SpellsItems counted (a ∷ b ∷ CookieOf k ∷ is) ws → k ≤ counted.cookies + 1
third counted a b k is [] p = absurd p
third counted a b k is (u ∷ []) p = absurd p.1
third counted a b k is (u ∷ v ∷ []) p = absurd p.1.1
third counted a b k is (u ∷ v ∷ w ∷ ws) p = p.1.1.0.0.1

fourth : (counted : CountedAbove) (a b c : JournalItem) (k : ℕ) (is : List JournalItem) (ws : List (List ℕ)) → SpellsItems counted (a ∷ b ∷ c ∷ CookieOf k ∷ is) ws → k ≤ counted.cookies + 1
fourth counted a b c k is [] p = absurd p
fourth counted a b c k is (x ∷ ws) p = third counted b c k is ws p.1

at-most : (n k : ℕ) → k ≤ n + 1 → max n k ≤ n + 1
at-most n k low = omega (arith, low)

more-cookies : (counted : CountedAbove) (said : JournalLine) (ws : List (List ℕ)) → SpellsItems counted (line_items said) ws → (counted_behind counted said).cookies ≤ counted.cookies + 1
more-cookies counted (line.Entry (entry.Admitted a)) ws p =
    at-most counted.cookies a.cookie (fourth counted (EntityOf a.daemon) (NumberOf a.session) (NumberOf a.epoch) a.cookie (EntityOf a.entity ∷ NumberOf a.gid ∷ ReadingOf a.at ∷ CapsOf a.caps ∷ []) ws p)
more-cookies counted (line.Entry (entry.Resumed a)) ws p =
    at-most counted.cookies a.cookie (fourth counted (EntityOf a.daemon) (NumberOf a.session) (NumberOf a.epoch) a.cookie (EntityOf a.entity ∷ NumberOf a.gid ∷ ReadingOf a.at ∷ CapsOf a.caps ∷ []) ws p)
more-cookies counted (line.Entry (entry.Sent s)) ws p =
    at-most counted.cookies s.cookie (third counted (EntityOf s.client) (EntityOf s.daemon) s.cookie (NumberOf s.seq ∷ operation_items s.operation []) ws p)
more-cookies counted (line.Entry (entry.Handled h)) ws p =
    at-most counted.cookies h.cookie (fourth counted (EntityOf h.daemon) (NumberOf h.session) (NumberOf h.epoch) h.cookie (NumberOf h.seq ∷ operation_items h.operation (OutcomeOf h.outcome ∷ [])) ws p)
more-cookies counted (line.Entry (entry.Saved x)) ws p = omega arith
more-cookies counted (line.Entry (entry.Issued x)) ws p = omega arith
more-cookies counted (line.Entry (entry.Fetched x)) ws p = omega arith
more-cookies counted (line.Entry (entry.Looked x)) ws p = omega arith
more-cookies counted (line.Entry (entry.Answered x)) ws p = omega arith
more-cookies counted (line.Entry (entry.Refused x)) ws p = omega arith
more-cookies counted (line.Entry (entry.Ended x)) ws p = omega arith
more-cookies counted (line.Entry (entry.Restarted x)) ws p = omega arith
more-cookies counted (line.Entry (entry.Broken x)) ws p = omega arith
more-cookies counted (line.Entry (entry.Leaked x)) ws p = omega arith
more-cookies counted (line.Administered x) ws p = omega arith

behind-words : (counted : CountedAbove) (said : JournalLine) (ws : List (List ℕ)) → Spells counted said ws → (counted_behind counted said).cookies ≤ counted.cookies + 1
behind-words counted said [] p = absurd p
behind-words counted said (w ∷ ws) p = more-cookies counted said ws p.1

lines-once : (counted : CountedAbove) (lines : List (List ℕ)) (said other : List JournalLine) → counted.cookies + length lines < 2 ^ 64 → Say counted lines said → Say counted lines other → said ≡ other
lines-once counted [] [] [] low p q = refl
lines-once counted [] [] (o ∷ os) low p q = absurd q
lines-once counted [] (s ∷ ss) other low p q = absurd p
lines-once counted (l ∷ ls) [] other low p q = absurd p
lines-once counted (l ∷ ls) (s ∷ ss) [] low p q = absurd q
lines-once counted (l ∷ ls) (s ∷ ss) (o ∷ os) low p q =
    let same : s ≡ o = line-once counted s o (words_of true l) (omega arith) p.0 q.0 in
    let more = behind-words counted s (words_of true l) p.0 in
    let rest : Say (counted_behind counted s) ls os = subst (λ (x : JournalLine). Say (counted_behind counted x) ls os) (sym same) q.1 in
    ap (λ x. x ∷ ss) same ∙ ap (λ xs. o ∷ xs) (lines-once (counted_behind counted s) ls ss os (omega (arith, more)) p.1 rest)

pub journal-once : (text : List ℕ) (said other : List JournalLine) → length (lines_of text) < 2 ^ 64 → IsJournal text said → IsJournal text other → said ≡ other
journal-once text said other low p q = lines-once nothing (lines_of text) said other (omega (arith, low)) p q
