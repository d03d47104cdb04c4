-- What is read again of a record that was written, also where not all of its fields have a spelling.
use Rattle.std.proofs.Common.{◌≡◌, ℕ, ◌+◌, ◌*◌, ◌/◌, ◌%◌, ◌^◌, ◌<◌, ◌≤◌, ◌==◌, Bool, true, false, cond, List, [], ◌∷◌, ◌++◌, length, Some, None, Result, Ok, Err, refl, sym, ap, ◌∙◌, subst, arith, append-nil}
use Rattle.std.specs.Int.{w32}
use Rattle.cx_base.specs.Names.{Name}
use Rattle.cx_base.specs.Texts.{is_caps}
use Rattle.cx_base.specs.declared.kinds.EntityType.{EntityType}
use Rattle.cx_sealed.specs.cx_enc.specs.declared.faults.ReadFault.{ReadFault}
use Rattle.cx_sealed.specs.cx_enc.specs.FieldLaws.{reading_fits, kind_fits}
use Rattle.cx_sealed.specs.cx_enc.specs.FormLaws.{u8-lawful, u64-lawful, blob-lawful}
use Rattle.cx_sealed.specs.cx_enc.specs.FieldLaws.{secret-lawful, name-lawful, kind-lawful, reading-lawful, fixed-lawful}
use Rattle.cx_sealed.specs.cx_enc.specs.Forms.{Spot, ◌>>=◌, Form, IsLawful, little, pair, seen, or_bad, passed, judged, u8_form, u64_form, blob_form}
use Rattle.cx_sealed.specs.cx_enc.specs.Values.{fixed, fixed_of, flag_form, key_form, kind_form, name_form, reading_form, secret_form, sized_form, time_form}
use Rattle.cx_sealed.specs.cx_enc.specs.Whole.{start}
use Rattle.cx_sealed.specs.cx_rotate.specs.declared.generations.Generation.{Generation}
use Rattle.cx_sealed.specs.Records.{authorize_layout, authorize_challenge_layout, authorize_reply_layout, connection_secret_layout, generations_layout, rotating_reply_layout, service_ticket_layout, ticket_info_layout}
use Rattle.cx_sealed.specs.Unsealing.{read_to_end, spelled_by, unless_left}
use Rattle.cx_sealed.specs.declared.authorize.Authorize.{Authorize}
use Rattle.cx_sealed.specs.declared.authorize_challenge.AuthorizeChallenge.{AuthorizeChallenge}
use Rattle.cx_sealed.specs.declared.authorize_reply.AuthorizeReply.{AuthorizeReply}
use Rattle.cx_sealed.specs.declared.connection_secret.ConnectionSecret.{ConnectionSecret}
use Rattle.cx_sealed.specs.declared.rotating_reply.RotatingReply.{RotatingReply}
use Rattle.cx_sealed.specs.declared.service_ticket.ServiceTicket.{ServiceTicket}
use Rattle.cx_sealed.specs.declared.ticket_info.TicketInfo.{TicketInfo}

-- ---- steps

abbrev pub done : {A : Type 0} → A → Result A ReadFault
done x = Ok x

pub ok_is : {A : Type 0} (x y : A) → done x ≡ done y → x ≡ y
ok_is x y e = cc

pub bind_ok : {A B : Type 0} (r : Result A ReadFault) (f : A → Result B ReadFault) (y : B) → (r >>= f) ≡ Ok y → (x : A) × (r ≡ Ok x) × (f x ≡ Ok y)
bind_ok (Ok x) f y e = (x, refl, e)
bind_ok (Err d) f y e = absurd cc

-- what a content spells was read from its beginning
pub spelled_read : {X : Type 0} (form : Form X) (content : List ℕ) (x : X) → spelled_by form content ≡ Some x → (next : Spot) × (form.at (start content) ≡ Ok (x, next))
spelled_read {X} form content x e = by_read (form.at (start content)) e
  where
    by_left : (y : X) (next : Spot) (left : List ℕ) → unless_left y left ≡ Some x → done {A = X × Spot} (y, next) ≡ Ok (x, next)
    by_left y next [] is = let same : y ≡ x = cc in ap (λ (z : X). done {A = X × Spot} (z, next)) same
    by_left y next (b ∷ left) is = absurd cc

    by_read : (r : Result (X × Spot) ReadFault) → read_to_end r ≡ Some x → (next : Spot) × (r ≡ Ok (x, next))
    by_read (Ok (y, next)) is = (next, by_left y next next.left is)
    by_read (Err fault) is = absurd cc

-- what is seen as another type was read as the first one
pub unseen : {A X : Type 0} (made : A → X) (parts : X → A) (f : Form A) (s : Spot) (x : X) (next : Spot) → (seen made parts f).at s ≡ Ok (x, next)
    → (a : A) × (made a ≡ x) × (f.at s ≡ Ok (a, next))
unseen {A} {X} made parts f s x next e =
    let a = bind_ok (f.at s) (λ a. Ok (made a.0, a.1)) (x, next) e in
    let same : (made a.0.0, a.0.1) ≡ (x, next) = ok_is (made a.0.0, a.0.1) (x, next) a.2 in
    (a.0.0, ap (λ (p : X × Spot). p.0) same, a.1 ∙ ap (λ (s : Spot). done (a.0.0, s)) (ap (λ (p : X × Spot). p.1) same))

-- a field in front that fits is read as it is, and what follows it is read behind it
pub front : {A B : Type 0} (f : Form A) (g : Form B) → IsLawful f → (a : A) (place : ℕ) (rest : List ℕ) (y : A × B) (next : Spot) → f.Fits a
    → (pair f g).at (record { place = place; left = f.text a ++ rest }) ≡ Ok (y, next)
    → (y.0 ≡ a) × (g.at (record { place = place + length (f.text a); left = rest }) ≡ Ok (y.1, next))
front {A} {B} f g lawful a place rest y next fits e =
    let behind : Spot = record { place = place + length (f.text a); left = rest } in
    let read : f.at (record { place = place; left = f.text a ++ rest }) ≡ Ok (a, behind) = lawful.again a place rest fits in
    let step : A × Spot → Result ((A × B) × Spot) ReadFault = λ p. g.at p.1 >>= λ b. Ok ((p.0, b.0), b.1) in
    let there : (g.at behind >>= λ b. Ok ((a, b.0), b.1)) ≡ Ok (y, next) = ap (λ (r : Result (A × Spot) ReadFault). r >>= step) (sym read) ∙ e in
    let b = bind_ok (g.at behind) (λ b. Ok ((a, b.0), b.1)) (y, next) there in
    let same : ((a, b.0.0), b.0.1) ≡ (y, next) = ok_is ((a, b.0.0), b.0.1) (y, next) b.2 in
    let first : a ≡ y.0 = ap (λ (p : (A × B) × Spot). p.0.0) same in
    let second : b.0.0 ≡ y.1 = ap (λ (p : (A × B) × Spot). p.0.1) same in
    let third : b.0.1 ≡ next = ap (λ (p : (A × B) × Spot). p.1) same in
    (sym first, b.1 ∙ ap (λ (v : B). done (v, b.0.1)) second ∙ ap (λ (s : Spot). done (y.1, s)) third)

-- both parts of a pair were read, one behind the other
pub pair_parts : {A B : Type 0} (f : Form A) (g : Form B) (s : Spot) (y : A × B) (next : Spot) → (pair f g).at s ≡ Ok (y, next)
    → (mid : Spot) × (f.at s ≡ Ok (y.0, mid)) × (g.at mid ≡ Ok (y.1, next))
pair_parts {A} {B} f g s y next e =
    let a = bind_ok (f.at s) (λ a. g.at a.1 >>= λ b. Ok ((a.0, b.0), b.1)) (y, next) e in
    let b = bind_ok (g.at a.0.1) (λ b. Ok ((a.0.0, b.0), b.1)) (y, next) a.2 in
    let same : ((a.0.0, b.0.0), b.0.1) ≡ (y, next) = ok_is ((a.0.0, b.0.0), b.0.1) (y, next) b.2 in
    let first : a.0.0 ≡ y.0 = ap (λ (p : (A × B) × Spot). p.0.0) same in
    let second : b.0.0 ≡ y.1 = ap (λ (p : (A × B) × Spot). p.0.1) same in
    let third : b.0.1 ≡ next = ap (λ (p : (A × B) × Spot). p.1) same in
    let mid : Spot = a.0.1 in
    (mid, a.1 ∙ ap (λ (v : A). done {A = A × Spot} (v, mid)) first, b.1 ∙ ap (λ (v : B). done {A = B × Spot} (v, b.0.1)) second ∙ ap (λ (s : Spot). done {A = B × Spot} (y.1, s)) third)

-- ---- fields

pub secret_fits : (secret : List ℕ) → length secret ≡ 16 → secret_form.Fits secret
unfolding secret_form key_form
secret_fits secret sixteen = (((omega arith, (omega arith, (omega arith, (omega arith, sixteen)))), refl), refl)

-- a reading is written as the one that its seconds have in four bytes
pub clipped : ℕ → ℕ
clipped r = (r / 1000000000 % 4294967296) * 1000000000 + r % 1000000000

same_four : (n m : ℕ) → m ≡ n % 4294967296 → little w32 n ≡ little w32 m
unfolding little
same_four n m is =
    let a : n % 256 ≡ m % 256 = omega arith in
    let b : n / 256 % 256 ≡ m / 256 % 256 = omega arith in
    let c : n / 65536 % 256 ≡ m / 65536 % 256 = omega arith in
    let d : n / 16777216 % 256 ≡ m / 16777216 % 256 = omega arith in
    cc

pub clipped-text : (r : ℕ) → reading_form.text r ≡ reading_form.text (clipped r)
unfolding clipped reading_form time_form
clipped-text r =
    let secs : clipped r / 1000000000 ≡ r / 1000000000 % 4294967296 = omega arith in
    let nanos : r % 1000000000 ≡ clipped r % 1000000000 = omega arith in
    ap (λ (b : List ℕ). b ++ little w32 (r % 1000000000)) (same_four (r / 1000000000) (clipped r / 1000000000) secs)
    ∙ ap (λ (n : ℕ). little w32 (clipped r / 1000000000) ++ little w32 n) nanos

pub clipped-fits : (r : ℕ) → reading_form.Fits (clipped r)
unfolding clipped
clipped-fits r = reading_fits (clipped r) (omega arith)

clipped-below : (r : ℕ) → clipped r ≤ r
unfolding clipped
clipped-below r = omega arith

clipped-is : (r : ℕ) → r < 4294967296000000000 → clipped r ≡ r
unfolding clipped
clipped-is r below = omega arith

-- a reading in front is read as one that isn't later, and as itself where it has a spelling; and what follows it is read behind it
pub front_reading : {B : Type 0} (g : Form B) (r place : ℕ) (rest : List ℕ) (y : ℕ × B) (next : Spot)
    → (pair reading_form g).at (record { place = place; left = reading_form.text r ++ rest }) ≡ Ok (y, next)
    → (y.0 ≤ r) × (r < 4294967296000000000 → y.0 ≡ r) × (place : ℕ) × (g.at (record { place = place; left = rest }) ≡ Ok (y.1, next))
front_reading {B} g r place rest y next e =
    let moved : (pair reading_form g).at (record { place = place; left = reading_form.text (clipped r) ++ rest }) ≡ Ok (y, next) =
    ap (λ (t : List ℕ). (pair reading_form g).at (record { place = place; left = t ++ rest })) (sym (clipped-text r)) ∙ e in
    let parts = front reading_form g reading-lawful (clipped r) place rest y next (clipped-fits r) moved in
    let below : clipped r ≤ r = clipped-below r in
    (omega (arith, parts.0), λ h. parts.0 ∙ clipped-is r h, place + length (reading_form.text (clipped r)), parts.1)

-- a byte in front that says another kind of record is refused
pub other_kind : {B : Type 0} (n m : ℕ) (g : Form B) (rest : List ℕ) (y : Unit {0} × B) (next : Spot) → m < 2 ^ 8 → (m == n) ≡ false
    → (pair (fixed n u8_form) g).at (start (u8_form.text m ++ rest)) ≡ Ok (y, next) → ⊥
other_kind {B} n m g rest y next fits other e =
    let a = bind_ok ((fixed n u8_form).at (start (u8_form.text m ++ rest))) (λ a. g.at a.1 >>= λ b. Ok ((a.0, b.0), b.1)) (y, next) e in
    let b = bind_ok (u8_form.at (start (u8_form.text m ++ rest))) (λ a. or_bad 0 (fixed_of n a.0) a.1) a.0 a.1 in
    let behind : Spot = record { place = 0 + length (u8_form.text m); left = rest } in
    let same : b.0 ≡ (m, behind) = ok_is b.0 (m, behind) (sym b.1 ∙ u8-lawful.again m 0 rest fits) in
    let none : or_bad 0 (fixed_of n m) behind ≡ Ok a.0 = subst (λ (p : ℕ × Spot). or_bad 0 (fixed_of n p.0) p.1 ≡ Ok a.0) same b.2 in
    by_test (m == n) behind a.0 other none
  where
    by_test : (t : Bool) (s : Spot) (x : Unit {0} × Spot) → t ≡ false → or_bad 0 (cond t (Some tt) None) s ≡ Ok x → ⊥
    by_test true s x other is = cc
    by_test false s x other is = cc

-- ---- records

-- a kind byte, and what follows it, seen as a record
abbrev pub of_kind : {A X : Type 0} → ℕ → (A → X) → (X → A) → Form A → Form X
of_kind {A} n made parts f = seen made parts (seen (λ (a : Unit {0} × A). a.1) (λ x. (tt, x)) (pair (fixed n u8_form) f))

-- what is read behind the kind byte
pub behind_kind : {A X : Type 0} (n : ℕ) (made : A → X) (parts : X → A) (f : Form A) (t x : X) → n < 2 ^ 8 → fixed_of n n ≡ Some tt
    → spelled_by (of_kind n made parts f) ((of_kind n made parts f).text t) ≡ Some x
    → (a : A) × (made a ≡ x) × (place : ℕ) × (next : Spot) × (f.at (record { place = place; left = f.text (parts t) }) ≡ Ok (a, next))
behind_kind {A} {X} n made parts f t x small is e =
    let text : List ℕ = u8_form.text n ++ f.text (parts t) in
    let read = spelled_read (of_kind n made parts f) text x e in
    let inner : Form A = seen (λ (a : Unit {0} × A). a.1) (λ x. (tt, x)) (pair (fixed n u8_form) f) in
    let a = unseen made parts inner (start text) x read.0 read.1 in
    let b = unseen (λ (a : Unit {0} × A). a.1) (λ x. (tt, x)) (pair (fixed n u8_form) f) (start text) a.0 read.0 a.2 in
    let c = front (fixed n u8_form) f (fixed-lawful n u8_form u8-lawful) tt 0 (f.text (parts t)) b.0 read.0 (small, is) b.2 in
    let same : b.0.1 ≡ a.0 = b.1 in
    (b.0.1, ap made same ∙ a.1, 0 + length (u8_form.text n), read.0, c.1)

-- what is read again of a ticket
pub record IsReadFrom (written read : ServiceTicket) : Type 0 where
  pub session : read.session ≡ written.session
  pub name : read.name ≡ written.name
  pub gid : read.gid ≡ written.gid
  pub expires : read.expires ≤ written.expires
  -- where it has a spelling
  pub exact : written.expires < 4294967296000000000 → read.expires ≡ written.expires
  pub caps : length written.caps < 2 ^ 32 → read.caps ≡ written.caps

abbrev caps_form : Form (List ℕ)
caps_form = judged is_caps blob_form

abbrev expiry_form : Form (ℕ × List ℕ)
expiry_form = pair reading_form caps_form

abbrev created_form : Form (ℕ × (ℕ × List ℕ))
created_form = pair reading_form expiry_form

abbrev gid_form : Form (ℕ × (ℕ × (ℕ × List ℕ)))
gid_form = pair u64_form created_form

abbrev named_form : Form (Name × (ℕ × (ℕ × (ℕ × List ℕ))))
named_form = pair name_form gid_form

abbrev ticket_form : Form (List ℕ × (Name × (ℕ × (ℕ × (ℕ × List ℕ)))))
ticket_form = pair secret_form named_form

abbrev Parts : Type 0
Parts = List ℕ × (Name × (ℕ × (ℕ × (ℕ × List ℕ))))

abbrev ticket_made : Parts → ServiceTicket
ticket_made (session, (name, (gid, (created, (expires, caps))))) =
    record { session = session; name = name; gid = gid; created = created; expires = expires; caps = caps }

abbrev ticket_parts : ServiceTicket → Parts
ticket_parts t = (t.session, (t.name, (t.gid, (t.created, (t.expires, t.caps)))))

record AreReadFrom (t : ServiceTicket) (a : Parts) : Type 0 where
  session : a.0 ≡ t.session
  name : a.1.0 ≡ t.name
  gid : a.1.1.0 ≡ t.gid
  expires : a.1.1.1.1.0 ≤ t.expires
  exact : t.expires < 4294967296000000000 → a.1.1.1.1.0 ≡ t.expires
  caps : length t.caps < 2 ^ 32 → a.1.1.1.1.1 ≡ t.caps

-- a blob that is judged is read as it is
judged_read : (good : List ℕ → Bool) (bytes : List ℕ) (place : ℕ) (y : List ℕ) (next : Spot) → length bytes < 2 ^ 32
    → (judged good blob_form).at (record { place = place; left = blob_form.text bytes }) ≡ Ok (y, next) → y ≡ bytes
judged_read good bytes place y next short e =
    let text : List ℕ = blob_form.text bytes in
    let behind : Spot = record { place = place + length text; left = [] } in
    let again : blob_form.at (record { place = place; left = text }) ≡ Ok (bytes, behind) =
    ap (λ (t : List ℕ). blob_form.at (record { place = place; left = t })) (sym (append-nil text)) ∙ blob-lawful.again bytes place [] short in
    let a = bind_ok (blob_form.at (record { place = place; left = text })) (λ a. or_bad place (passed good a.0) a.1) (y, next) e in
    let same : a.0 ≡ (bytes, behind) = ok_is a.0 (bytes, behind) (sym a.1 ∙ again) in
    let found : or_bad place (passed good bytes) behind ≡ Ok (y, next) = subst (λ (p : List ℕ × Spot). or_bad place (passed good p.0) p.1 ≡ Ok (y, next)) same a.2 in
    by_test (good bytes) behind found
  where
    by_test : (t : Bool) (s : Spot) → or_bad place (cond t (Some bytes) None) s ≡ Ok (y, next) → y ≡ bytes
    by_test true s is = let same : (bytes, s) ≡ (y, next) = ok_is (bytes, s) (y, next) is in sym (ap (λ (p : List ℕ × Spot). p.0) same)
    by_test false s is = absurd cc

parts_read : (t : ServiceTicket) (a : Parts) (place : ℕ) (next : Spot) → length t.session ≡ 16 → name_form.Fits t.name → t.gid < 2 ^ 64
    → ticket_form.at (record { place = place; left = ticket_form.text (ticket_parts t) }) ≡ Ok (a, next) → AreReadFrom t a
parts_read t a place next sixteen named numbered e =
    let p1 = front secret_form named_form secret-lawful t.session place (named_form.text (ticket_parts t).1) a next (secret_fits t.session sixteen) e in
    let p2 = front name_form gid_form name-lawful t.name _ (gid_form.text (ticket_parts t).1.1) a.1 next named p1.1 in
    let p3 = front u64_form created_form u64-lawful t.gid _ (created_form.text (ticket_parts t).1.1.1) a.1.1 next numbered p2.1 in
    let p4 = front_reading expiry_form t.created _ (expiry_form.text (ticket_parts t).1.1.1.1) a.1.1.1 next p3.1 in
    let p5 = front_reading caps_form t.expires _ (caps_form.text t.caps) a.1.1.1.1 next p4.3 in
    record { session = p1.0; name = p2.0; gid = p3.0; expires = p5.0; exact = p5.1; caps = λ short. judged_read is_caps t.caps p5.2 a.1.1.1.1.1 next short p5.3 }

pub read_ticket : (t x : ServiceTicket) → length t.session ≡ 16 → name_form.Fits t.name → t.gid < 2 ^ 64
    → spelled_by service_ticket_layout.form (service_ticket_layout.form.text t) ≡ Some x → IsReadFrom t x
read_ticket t x sixteen named numbered e =
    let b = behind_kind 1 ticket_made ticket_parts ticket_form t x (omega arith) refl e in
    let p = parts_read t b.0 b.2 b.3 sixteen named numbered b.4 in
    subst (λ (y : ServiceTicket). IsReadFrom t y) b.1 (record { session = p.session; name = p.name; gid = p.gid; expires = p.expires; exact = p.exact; caps = p.caps })

-- what is read again of what is told of a ticket
pub record IsInfoFrom (written read : TicketInfo) : Type 0 where
  pub service : read.service ≡ written.service
  pub session : read.session ≡ written.session

abbrev info_times : Form (ℕ × ℕ)
info_times = pair reading_form reading_form

abbrev info_session : Form (List ℕ × (ℕ × ℕ))
info_session = pair secret_form info_times

abbrev info_form : Form (EntityType × (List ℕ × (ℕ × ℕ)))
info_form = pair kind_form info_session

abbrev info_made : EntityType × (List ℕ × (ℕ × ℕ)) → TicketInfo
info_made (service, (session, (created, expires))) = record { service = service; session = session; created = created; expires = expires }

abbrev info_parts : TicketInfo → EntityType × (List ℕ × (ℕ × ℕ))
info_parts t = (t.service, (t.session, (t.created, t.expires)))

pub read_info : (t x : TicketInfo) → length t.session ≡ 16 → spelled_by ticket_info_layout.form (ticket_info_layout.form.text t) ≡ Some x → IsInfoFrom t x
read_info t x sixteen e =
    let b = behind_kind 2 info_made info_parts info_form t x (omega arith) refl e in
    let p1 = front kind_form info_session kind-lawful t.service _ (info_session.text (info_parts t).1) b.0 b.3 (kind_fits t.service) b.4 in
    let p2 = front secret_form info_times secret-lawful t.session _ (info_times.text (info_parts t).1.1) b.0.1 b.3 (secret_fits t.session sixteen) p1.1 in
    subst (λ (y : TicketInfo). IsInfoFrom t y) b.1 (record { service = p1.0; session = p2.0 })

-- a blob of so many bytes is read as it is
sized_read : (n : ℕ) (bytes : List ℕ) (place : ℕ) (y : List ℕ) (next : Spot) → length bytes < 2 ^ 32
    → (sized_form n).at (record { place = place; left = (sized_form n).text bytes }) ≡ Ok (y, next) → y ≡ bytes
unfolding sized_form
sized_read n bytes place y next short e = judged_read (λ (b : List ℕ). length b == n) bytes place y next short e

pub read_connection : (t x : ConnectionSecret) → length t.secret < 2 ^ 32
    → spelled_by connection_secret_layout.form (connection_secret_layout.form.text t) ≡ Some x → x.secret ≡ t.secret
read_connection t x short e =
    let b = behind_kind 7 (λ (secret : List ℕ). record { secret = secret }) (λ (c : ConnectionSecret). c.secret) (sized_form 64) t x (omega arith) refl e in
    ap (λ (c : ConnectionSecret). c.secret) (sym b.1) ∙ sized_read 64 t.secret _ b.0 b.3 short b.4

-- what is told of a ticket is no connection secret and no generations, nor is such a secret told of a ticket
kinds_differ : {A X : Type 0} (n m : ℕ) (made : A → X) (parts : X → A) (f : Form A) (rest : List ℕ) (x : X) → m < 2 ^ 8 → (m == n) ≡ false
    → spelled_by (of_kind n made parts f) (u8_form.text m ++ rest) ≡ Some x → ⊥
kinds_differ {A} {X} n m made parts f rest x small other e =
    let text : List ℕ = u8_form.text m ++ rest in
    let read = spelled_read (of_kind n made parts f) text x e in
    let inner : Form A = seen (λ (a : Unit {0} × A). a.1) (λ x. (tt, x)) (pair (fixed n u8_form) f) in
    let a = unseen made parts inner (start text) x read.0 read.1 in
    let b = unseen (λ (a : Unit {0} × A). a.1) (λ x. (tt, x)) (pair (fixed n u8_form) f) (start text) a.0 read.0 a.2 in
    other_kind n m f rest b.0 read.0 small other b.2

pub info_no_connection : (t : TicketInfo) (x : ConnectionSecret) → spelled_by connection_secret_layout.form (ticket_info_layout.form.text t) ≡ Some x → ⊥
info_no_connection t x e =
    kinds_differ 7 2 (λ (secret : List ℕ). record { secret = secret }) (λ (c : ConnectionSecret). c.secret) (sized_form 64) (info_form.text (info_parts t)) x (omega arith) refl e

abbrev pub rotating_made : EntityType × List Generation → RotatingReply
rotating_made (service, generations) = record { service = service; generations = generations }

pub info_no_rotating : (t : TicketInfo) (x : RotatingReply) → spelled_by rotating_reply_layout.form (ticket_info_layout.form.text t) ≡ Some x → ⊥
info_no_rotating t x e =
    kinds_differ 6 2 rotating_made (λ (r : RotatingReply). (r.service, r.generations)) (pair kind_form generations_layout.form)
    (info_form.text (info_parts t)) x (omega arith) refl e

pub connection_no_info : (t : ConnectionSecret) (x : TicketInfo) → spelled_by ticket_info_layout.form (connection_secret_layout.form.text t) ≡ Some x → ⊥
connection_no_info t x e = kinds_differ 2 7 info_made info_parts info_form ((sized_form 64).text t.secret) x (omega arith) refl e

-- generations that are told are those of the service that was written, and are nothing told of a ticket
pub rotating_no_info : (t : RotatingReply) (x : TicketInfo) → spelled_by ticket_info_layout.form (rotating_reply_layout.form.text t) ≡ Some x → ⊥
rotating_no_info t x e =
    kinds_differ 2 6 info_made info_parts info_form ((pair kind_form generations_layout.form).text (t.service, t.generations)) x (omega arith) refl e

-- ---- what a client and a daemon seal for each other

abbrev reply_form : Form (ℕ × List ℕ)
reply_form = pair u64_form (sized_form 64)

abbrev reply_made : ℕ × List ℕ → AuthorizeReply
reply_made (raised, secret) = record { nonce_plus_one = raised; secret = secret }

abbrev reply_parts : AuthorizeReply → ℕ × List ℕ
reply_parts r = (r.nonce_plus_one, r.secret)

-- a reply is read as it is
pub read_reply : (t x : AuthorizeReply) → t.nonce_plus_one < 2 ^ 64 → length t.secret < 2 ^ 32
    → spelled_by authorize_reply_layout.form (authorize_reply_layout.form.text t) ≡ Some x → (x.nonce_plus_one ≡ t.nonce_plus_one) × (x.secret ≡ t.secret)
read_reply t x numbered short e =
    let b = behind_kind 5 reply_made reply_parts reply_form t x (omega arith) refl e in
    let p = front u64_form (sized_form 64) u64-lawful t.nonce_plus_one _ ((sized_form 64).text t.secret) b.0 b.3 numbered b.4 in
    (ap (λ (r : AuthorizeReply). r.nonce_plus_one) (sym b.1) ∙ p.0, ap (λ (r : AuthorizeReply). r.secret) (sym b.1) ∙ sized_read 64 t.secret _ b.0.1 b.3 short p.1)

-- nothing else that is sealed under a session key is a reply: what is told of a ticket, the secret of a link to the monitor, a challenge, or what a
-- client shows; nor does a client show what is told of a ticket, or such a secret
pub info_no_reply : (t : TicketInfo) (x : AuthorizeReply) → spelled_by authorize_reply_layout.form (ticket_info_layout.form.text t) ≡ Some x → ⊥
info_no_reply t x e = kinds_differ 5 2 reply_made reply_parts reply_form (info_form.text (info_parts t)) x (omega arith) refl e

pub connection_no_reply : (t : ConnectionSecret) (x : AuthorizeReply) → spelled_by authorize_reply_layout.form (connection_secret_layout.form.text t) ≡ Some x → ⊥
connection_no_reply t x e = kinds_differ 5 7 reply_made reply_parts reply_form ((sized_form 64).text t.secret) x (omega arith) refl e

pub challenge_no_reply : (t : AuthorizeChallenge) (x : AuthorizeReply) → spelled_by authorize_reply_layout.form (authorize_challenge_layout.form.text t) ≡ Some x → ⊥
challenge_no_reply t x e = kinds_differ 5 4 reply_made reply_parts reply_form (u64_form.text t.challenge) x (omega arith) refl e

abbrev shown_form : Form (ℕ × (Bool × ℕ))
shown_form = pair u64_form (pair flag_form u64_form)

abbrev shown_parts : Authorize → ℕ × (Bool × ℕ)
shown_parts t = (t.nonce, (t.have_challenge, t.server_challenge_plus_one))

pub authorize_no_reply : (t : Authorize) (x : AuthorizeReply) → spelled_by authorize_reply_layout.form (authorize_layout.form.text t) ≡ Some x → ⊥
authorize_no_reply t x e = kinds_differ 5 3 reply_made reply_parts reply_form (shown_form.text (shown_parts t)) x (omega arith) refl e

pub authorize_no_info : (t : Authorize) (x : TicketInfo) → spelled_by ticket_info_layout.form (authorize_layout.form.text t) ≡ Some x → ⊥
authorize_no_info t x e = kinds_differ 2 3 info_made info_parts info_form (shown_form.text (shown_parts t)) x (omega arith) refl e

pub authorize_no_connection : (t : Authorize) (x : ConnectionSecret) → spelled_by connection_secret_layout.form (authorize_layout.form.text t) ≡ Some x → ⊥
authorize_no_connection t x e =
    kinds_differ 7 3 (λ (secret : List ℕ). record { secret = secret }) (λ (c : ConnectionSecret). c.secret) (sized_form 64) (shown_form.text (shown_parts t)) x (omega arith) refl e
