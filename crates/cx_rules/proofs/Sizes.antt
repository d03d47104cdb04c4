-- How long what the monitor hands out is at most, whatever the keys are.
use Rattle.std.proofs.Common.{◌≡◌, ℕ, ◌+◌, ◌*◌, ◌/◌, ◌-◌, ◌%◌, ◌≤◌, List, [], ◌∷◌, ◌++◌, length, map, replicate, Option, Some, None, refl, ap, arith, length-append}
use Rattle.std.specs.Prelude.{◌^◌}
use Rattle.std.specs.List.{AllByRecursion, concat, flat_map}
use Rattle.std.proofs.lemmas.List.{length-replicate}
use Rattle.std.proofs.lemmas.List.Concat.{flat_map-cons}
use Rattle.sha2.proofs.Facts256.{length-sha256}
use Rattle.cx_stream.specs.cx_aes.specs.Cipher.{add, aes, next_key, round_key, shift_rows, sub_bytes, rounds, turned_word, word}
use Rattle.cx_base.specs.Names.{Name}
use Rattle.cx_base.specs.declared.kinds.EntityType.{EntityType}
use Rattle.cx_keyserver.specs.cx_cbc.specs.Chain.{blocks_of, cbc}
use Rattle.cx_keyserver.specs.cx_cbc.specs.Envelope.{enveloped, head, initial_vector, padded, padding, sealed}
use Rattle.cx_keyserver.specs.cx_cbc.proofs.Blocks.{length-first_chunks}
use Rattle.cx_stream.specs.cx_digest.specs.Code.{hmac}
use Rattle.cx_login.specs.cx_enc.specs.Forms.{blob_form, chain_text, little}
use Rattle.cx_login.specs.cx_enc.specs.Layouts.{◌⊗◌, ◌⊳◌, blob_field, constant, ticket_field, u8_field}
use Rattle.cx_login.specs.cx_enc.specs.declared.tickets.TicketBlob.{TicketBlob}
use Rattle.cx_login.specs.cx_enc.specs.Values.{key_form, kind_form, name_form, reading_form, secret_form, sized_form, ticket_form, time_form}
use Rattle.cx_rotate.specs.declared.generations.Generation.{Generation}
use Rattle.cx_keyserver.specs.cx_sealed.specs.Records.{connection_secret_layout, generation_layout, service_ticket_layout, ticket_info_layout}
use Rattle.cx_keyserver.specs.cx_sealed.specs.declared.service_ticket.ServiceTicket.{ServiceTicket}
use Rattle.cx_keyserver.specs.cx_sealed.specs.declared.ticket_info.TicketInfo.{TicketInfo}
use Rattle.cx_base.specs.declared.kinds.EntityType.TheVariants.{Auth}
use Rattle.std.specs.Prelude.{Ok}
use Rattle.std.proofs.lemmas.Bool.{le-ltb}
use Rattle.cx_stream.specs.cx_frame.specs.Frames.{frame_text, total}
use Rattle.cx_stream.specs.cx_frame.specs.Preambles.{preamble_of, preamble_text}
use Rattle.cx_stream.specs.cx_frame.specs.declared.frame.Frame.{Frame}
use Rattle.cx_stream.specs.cx_frame.specs.declared.frame.Segment.{Segment}
use Rattle.cx_stream.specs.cx_secure.specs.Plains.{filled, last_plain, nonempty, parts_of, plains, plains_of, second_plain, up16}
use Rattle.cx_rules.specs.Answering.{challenge_frame}
use Rattle.cx_rules.specs.Messages.{segment}
use Rattle.cx_rules.specs.MonitorRequests.{reply_message}
use Rattle.cx_rules.specs.Secured.{Keys, plain_frame, sealed_under, secure_frame}
use Rattle.cx_keyserver.specs.declared.tickets.Ticket.{Ticket}
use Rattle.cx_login.specs.cx_wire.specs.Bodies.{reply_layout}
use Rattle.cx_login.specs.cx_wire.specs.Logins.{login_done_layout}
use Rattle.cx_login.specs.cx_wire.specs.declared.bodies.Reply.TheVariants as given
use Rattle.cx_rules.specs.Replies.{told_content}
use Rattle.cx_rules.specs.Tickets.{ticket_part}
use Rattle.cx_rules.specs.Verdicts.{done_payload, login_done}
use Rattle.cx_login.specs.cx_wire.specs.Services.{behind, ticket_part_layout}
use Rattle.cx_login.specs.cx_wire.specs.declared.tickets.TicketPart.{TicketPart}

-- ---- envelopes

length-add : (xs ys : List ℕ) (n : ℕ) → length ys ≤ n → length (add xs ys) ≤ n
unfolding add
length-add [] ys n h = omega arith
length-add (x ∷ xs) [] n h = omega arith
length-add (x ∷ xs) (y ∷ ys) n h = omega (arith, length-add xs ys (n - 1) (omega arith))

length-four : (a b c d : List ℕ) → length a ≤ 4 → length b ≤ 4 → length c ≤ 4 → length d ≤ 4 → length (a ++ b ++ c ++ d) ≤ 16
length-four a b c d ha hb hc hd = omega (arith, length-append {A = ℕ})

-- a word of a round key has at most four bytes, and so has the sum of two
length-next_key : (k : List ℕ) (n : ℕ) → length (next_key k n) ≤ 16
unfolding next_key word turned_word
length-next_key k n =
    let w0 = add (word k 0) (turned_word (word k 3) n) in
    let w1 = add (word k 1) w0 in
    let w2 = add (word k 2) w1 in
    let w3 = add (word k 3) w2 in
    let l0 : length w0 ≤ 4 = length-add (word k 0) (turned_word (word k 3) n) 4 (omega arith) in
    let l1 : length w1 ≤ 4 = length-add (word k 1) w0 4 l0 in
    let l2 : length w2 ≤ 4 = length-add (word k 2) w1 4 l1 in
    let l3 : length w3 ≤ 4 = length-add (word k 3) w2 4 l2 in
    length-four w0 w1 w2 w3 l0 l1 l2 l3

length-cipher : (k s : List ℕ) → length (aes k s) ≤ 16
unfolding aes round_key
length-cipher k s = length-add (shift_rows (sub_bytes (rounds k s 9))) (round_key k 10) 16 (length-next_key (round_key k 9) 10)

length-chained : (key before : List ℕ) (blocks : List (List ℕ)) → length (concat (cbc key before blocks)) ≤ 16 * length blocks
unfolding cbc
length-chained key before [] = omega arith
length-chained key before (block ∷ blocks) =
    let first : List ℕ = aes key (add block before) in
    omega (arith, length-append first (concat (cbc key first blocks)), length-cipher key (add block before), length-chained key first blocks)

length-envelope : (content : List ℕ) → length (enveloped content) ≤ length content + 25
unfolding enveloped padded padding
length-envelope content =
    let missing : ℕ = 16 - length (head ++ content) % 16 in
    omega (arith, length-append (head ++ content) (replicate missing missing), length-append head content, length-replicate missing missing)

-- an envelope is at most 25 bytes longer than its content
pub length-sealed : (key content : List ℕ) → length (sealed key content) ≤ length content + 25
unfolding sealed
length-sealed key content =
    let whole : List ℕ = enveloped content in
    omega (arith, length-chained key initial_vector (blocks_of whole), length-first_chunks (length whole / 16) whole, length-envelope content)

-- ---- records

length-secret : (s : List ℕ) → length (secret_form.text s) ≡ 12 + length s
unfolding secret_form key_form little
length-secret s = omega arith

length-reading : (r : ℕ) → length (reading_form.text r) ≡ 8
unfolding reading_form time_form little
length-reading r = refl

length-name : (name : Name) → length (name_form.text name) ≡ 8 + length name.id
unfolding name_form little
length-name name = omega arith

length-kind : (k : EntityType) → length (kind_form.text k) ≡ 4
unfolding kind_form little
length-kind k = refl

pub length-service_ticket : (x : ServiceTicket) → length (service_ticket_layout.form.text x) ≡ 49 + (length x.session + length x.name.id + length x.caps)
unfolding little
length-service_ticket x = omega (arith, length-append {A = ℕ}, length-secret x.session, length-name x.name, length-reading x.created, length-reading x.expires)

pub length-ticket_info : (x : TicketInfo) → length (ticket_info_layout.form.text x) ≡ 33 + length x.session
unfolding little
length-ticket_info x = omega (arith, length-append {A = ℕ}, length-kind x.service, length-secret x.session, length-reading x.created, length-reading x.expires)

pub length-connection_secret : (secret : List ℕ) → length (connection_secret_layout.form.text (record { secret = secret })) ≡ 5 + length secret
unfolding little sized_form
length-connection_secret secret = omega arith

length-generation : (g : Generation) → length (generation_layout.form.text g) ≡ 28 + length g.key
unfolding little
length-generation g = omega (arith, length-append {A = ℕ}, length-secret g.key, length-reading g.expires)

length-generations : (gs : List Generation) → AllByRecursion (λ (g : Generation). length g.key ≡ 16) gs → length (flat_map generation_layout.form.text gs) ≡ 44 * length gs
length-generations [] fits = refl
length-generations (g ∷ gs) fits =
    omega (arith, ap length (flat_map-cons generation_layout.form.text g gs), length-append (generation_layout.form.text g) (flat_map generation_layout.form.text gs), length-generation g, fits.0, length-generations gs fits.1)

pub length-told : (kind : EntityType) (gs : List Generation) → AllByRecursion (λ (g : Generation). length g.key ≡ 16) gs → length (told_content kind gs) ≡ 9 + 44 * length gs
unfolding little
length-told kind gs fits = omega (arith, length-append {A = ℕ}, length-kind kind, length-generations gs fits)

-- ---- tickets

-- what is told of a ticket, and the ticket itself, as long as one with the longest name and the longest caps
pub record IsShort (ticket : Ticket) : Type 0 where
  pub info : length ticket.info ≤ 74
  pub blob : length ticket.blob ≤ 4250

length-blob : (ticket : TicketBlob) → length (ticket_form.text ticket) ≡ 13 + length ticket.blob
unfolding ticket_form little
length-blob ticket = omega arith

length-part : (last : Option EntityType) (part : TicketPart) → length ((ticket_part_layout last).form.text part) ≡ 22 + length part.info + length part.ticket.blob
unfolding little
length-part last part =
    let ticket : List ℕ = ticket_form.text part.ticket in
    let rest : List ℕ = (constant 1 u8_field ⊳ blob_field ⊗ ticket_field).form.text (part.info, part.ticket) in
    omega (arith, length-append (kind_form.text part.service) rest, length-kind part.service, length-append part.info ticket, length-blob part.ticket)

pub length-parts : (last : Option EntityType) (tickets : List Ticket) → AllByRecursion IsShort tickets
    → length (chain_text (λ b. (ticket_part_layout b).form.text) behind last (map ticket_part tickets)) ≤ 4346 * length tickets
unfolding chain_text
length-parts last [] short = omega arith
length-parts last (t ∷ tickets) short =
    let first : List ℕ = (ticket_part_layout last).form.text (ticket_part t) in
    let rest : List ℕ = chain_text (λ b. (ticket_part_layout b).form.text) behind (Some t.service) (map ticket_part tickets) in
    let info : length t.info ≤ 74 = short.0.info in
    let blob : length t.blob ≤ 4250 = short.0.blob in
    omega (arith, length-append first rest, length-part last (ticket_part t), length-parts (Some t.service) tickets short.1)

-- ---- payloads

length-login_done : (tickets : List Ticket) (secret : List ℕ) → AllByRecursion IsShort tickets → length (login_done_layout.form.text (login_done tickets secret)) ≤ 15 + 4346 * length tickets + length secret
unfolding little
length-login_done tickets secret short =
    let parts : List ℕ = chain_text (λ b. (ticket_part_layout b).form.text) behind None (map ticket_part tickets) in
    omega (arith, length-append parts (blob_form.text secret), length-parts None tickets short)

pub length-done : (gid : ℕ) (tickets : List Ticket) (secret : List ℕ) → AllByRecursion IsShort tickets → length (done_payload gid (login_done tickets secret)) ≤ 31 + 4346 * length tickets + length secret
unfolding little
length-done gid tickets secret short = omega (arith, length-append {A = ℕ}, length-login_done tickets secret short)

pub length-reply_tickets : (tickets : List Ticket) → AllByRecursion IsShort tickets → length (reply_layout.form.text (given.Tickets (map ticket_part tickets))) ≤ 11 + 4346 * length tickets
unfolding little
length-reply_tickets tickets short = omega (arith, length-append {A = ℕ}, length-parts (Some Auth) tickets short)

pub length-reply_rotating : (bytes : List ℕ) → length (reply_layout.form.text (given.Rotating bytes)) ≡ 10 + length bytes
unfolding little
length-reply_rotating bytes = omega (arith, length-append {A = ℕ})

pub length-code : (key text : List ℕ) → length (hmac key text) ≡ 32
unfolding hmac
length-code key text = length-sha256 _

-- ---- frames

at_most_one : (xs : List ℕ) → length (nonempty xs) ≤ 1
at_most_one [] = omega arith
at_most_one (x ∷ xs) = omega arith

parts-segments : (preamble : List ℕ) (ss : List Segment) → length (plains_of preamble ss) ≤ 3
unfolding plains_of parts_of
parts-segments preamble [] = omega arith
parts-segments preamble (s ∷ ss) =
    omega (arith, length-append (nonempty (second_plain s.bytes)) (nonempty (last_plain ss)), at_most_one (second_plain s.bytes), at_most_one (last_plain ss))

-- a frame has at most three parts
pub few-parts : (f : Frame) → length (plains f) ≤ 3
unfolding plains
few-parts f = parts-segments (preamble_text (preamble_of f)) f.segments

-- a reply has two, since its header stands in the first
pub reply-parts : (tid : ℕ) (body : List ℕ) → length (plains (reply_message tid body)) ≤ 2
unfolding plains plains_of parts_of second_plain filled up16 little
reply-parts tid body = omega (arith, at_most_one (last_plain (segment body ∷ [])))

pub total-reply : (tid : ℕ) (body : List ℕ) → total (reply_message tid body) ≡ 41 + length body
unfolding little
total-reply tid body = omega arith

-- a plain frame that isn't too long is sent
pub plain-sent : (f : Frame) → total f ≤ 65536 → plain_frame f ≡ Ok (frame_text f)
plain-sent f short = rw (le-ltb 65536 (total f) short) refl

-- a secure frame that isn't too long is sealed, where counters are left for its parts
pub secure-sent : (keys : Keys) (f : Frame) → keys.out.counter + length (plains f) ≤ 2 ^ 64 - 1 → total f ≤ 1048576 → secure_frame keys f ≡ Ok (sealed_under keys f)
secure-sent keys f left short = rw (le-ltb (2 ^ 64 - 1) (keys.out.counter + length (plains f)) left, le-ltb 1048576 (total f) short) refl

-- AUTH_REPLY_MORE with a challenge isn't too long
pub challenge-short : (draw : List ℕ) → total (challenge_frame draw) ≤ 65536
unfolding little
challenge-short draw = omega arith
