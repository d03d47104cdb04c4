-- What a daemon reads of a frame that a connector spoke is what was spoken: the cookie of an ident, and an operation with its seq. Other fields need have no
-- spelling: each is read at the place at which it stands, and takes as many bytes there whatever they are.
use Rattle.std.proofs.Common.{◌≡◌, ℕ, ◌+◌, ◌-◌, ◌^◌, ◌<◌, ◌≤◌, Bool, true, false, cond, List, [], ◌∷◌, ◌++◌, length, take, drop, nat_lt, Option, Some, None, Result, Ok, Err, refl, sym, ap, ◌∙◌, subst, arith, append-nil, append_assoc, length-append, length-drop, drop_at, drop-drop}
use Rattle.std.proofs.lemmas.Bool.{le-leb, leb-true, ltb-false}
use Rattle.std.specs.Int.{Width, byte_len, from_le_bytes, w16, w32, w64, w8}
use Rattle.std.specs.List.{list_all}
use Rattle.std.specs.Prelude.{◌&&◌, codes, if◌then◌else◌, nat_le, not}
use Rattle.std.specs.Str.{bytes_eq}
use Rattle.cx_base.specs.Texts.{is_part, is_part_byte}
use Rattle.cx_base.specs.declared.addresses.Addr.{Addr}
use Rattle.cx_base.specs.declared.kinds.Access.{Access}
use Rattle.cx_base.specs.declared.kinds.Access.TheVariants.{Read, Write, Exec}
use Rattle.cx_base.specs.declared.operations.Operation.{Operation}
use Rattle.cx_control.specs.Idents.{client_ident_layout}
use Rattle.cx_control.specs.Reconnects.{session_reconnect_layout}
use Rattle.cx_control.specs.declared.idents.ClientIdent.{ClientIdent}
use Rattle.cx_control.specs.declared.reconnects.SessionReconnect.{SessionReconnect}
use Rattle.cx_enc.specs.FieldLaws.{both_true}
use Rattle.cx_enc.specs.FormLaws.{u64-lawful}
use Rattle.cx_enc.specs.Forms.{Form, Spot, bytes_at, bytes_form, checked, field, little, number_at, or_bad, pair, passed, seen, short_at, u16_form, u32_form, u64_form, u8_form}
use Rattle.cx_enc.specs.Layouts.{Layout}
use Rattle.cx_enc.specs.Values.{addr_form, addr_of, addr_parts, fixed, fixed_of}
use Rattle.cx_enc.specs.Whole.{start}
use Rattle.cx_enc.specs.declared.faults.ReadFault.{ReadFault}
use Rattle.cx_enc.specs.declared.faults.ReadFault.TheVariants.{Short}
use Rattle.cx_frame.specs.declared.frame.Frame.{Frame}
use Rattle.cx_journal.specs.declared.faults.BytesFault.{BytesFault}
use Rattle.cx_laws_keys.proofs.keys.Reading.{bind_ok, ok_is, pair_parts, unseen}
use Rattle.cx_laws_keys.specs.cx_rules.specs.Holdings.{MonClient}
use Rattle.cx_laws_keys.specs.cx_rules.specs.Messages.{Message, message_by, message_in}
use Rattle.cx_laws_keys.specs.cx_rules.specs.Payloads.{payload, to_end, unless_left, whole}
use Rattle.cx_laws_tickets.specs.cx_run.specs.cx_rules_session.specs.Hosting.{Instruction, instruction_by, instruction_of}
use Rattle.cx_laws_tickets.specs.cx_run.specs.cx_rules_session.specs.Sessions.{HeldSession, operation_message}
use Rattle.cx_laws_keys.specs.cx_wire.specs.Headers.{Fields, header_layout, written_header}
use Rattle.cx_laws_keys.specs.cx_wire.specs.Operations.{IsWritable, access_field, is_data, operation_layout, part_field}
use Rattle.cx_laws_keys.specs.cx_wire.specs.declared.headers.Header.{Header}
use Rattle.cx_laws_links.proofs.links.Spoken.{Idents, KeepsUp, Orders, Reconnects, Signs, Spoken, cookie_after, frame_of}

-- ---- forms that take as many bytes, whatever they read

pub record Takes {X : Type 0} (f : Form X) (n : ℕ) : Type 0 where
  pub enough : (s : Spot) (x : X) (next : Spot) → f.at s ≡ Ok (x, next) → n ≤ length s.left
  pub left : (s : Spot) (x : X) (next : Spot) → f.at s ≡ Ok (x, next) → next.left ≡ drop n s.left

bytes-taken : (n : ℕ) (s : Spot) (x : List ℕ) (next : Spot) → bytes_at n s ≡ Ok (x, next) → (n ≤ length s.left) × (next.left ≡ drop n s.left)
unfolding bytes_at
bytes-taken n s x next e = by_test (nat_lt (length s.left) n) refl e
  where
    read : List ℕ × Spot → Result (List ℕ × Spot) ReadFault
    read p = Ok p

    made : List ℕ × Spot
    made = (take n s.left, record { place = s.place + n; left = drop n s.left })

    by_test : (t : Bool) → nat_lt (length s.left) n ≡ t → (if t then Err (Short s.place) else Ok made) ≡ read (x, next)
        → (n ≤ length s.left) × (next.left ≡ drop n s.left)
    by_test true short is = absurd cc
    by_test false enough is =
        let same = ok_is made (x, next) is in
        (ltb-false (length s.left) n enough, sym (ap (λ (p : List ℕ × Spot). p.1.left) same))

bytes-take : (n : ℕ) → Takes (bytes_form n) n
bytes-take n = record { enough = λ s x next e. (bytes-taken n s x next e).0; left = λ s x next e. (bytes-taken n s x next e).1 }

number-taken : (w : Width) (s : Spot) (x : ℕ) (next : Spot) → number_at w s ≡ Ok (x, next) → (byte_len w ≤ length s.left) × (next.left ≡ drop (byte_len w) s.left)
unfolding number_at
number-taken w s x next e =
    let a = bind_ok (bytes_at (byte_len w) s) (λ b. Ok (from_le_bytes w b.0, b.1)) (x, next) e in
    let same = ok_is (from_le_bytes w a.0.0, a.0.1) (x, next) a.2 in
    let t = bytes-taken (byte_len w) s a.0.0 a.0.1 a.1 in
    (t.0, sym (ap (λ (p : ℕ × Spot). p.1.left) same) ∙ t.1)

u8-take : Takes u8_form 1
u8-take = record { enough = λ s x next e. (number-taken w8 s x next e).0; left = λ s x next e. (number-taken w8 s x next e).1 }

u16-take : Takes u16_form 2
u16-take = record { enough = λ s x next e. (number-taken w16 s x next e).0; left = λ s x next e. (number-taken w16 s x next e).1 }

u32-take : Takes u32_form 4
u32-take = record { enough = λ s x next e. (number-taken w32 s x next e).0; left = λ s x next e. (number-taken w32 s x next e).1 }

u64-take : Takes u64_form 8
u64-take = record { enough = λ s x next e. (number-taken w64 s x next e).0; left = λ s x next e. (number-taken w64 s x next e).1 }

pair-take : {A B : Type 0} (f : Form A) (g : Form B) (n m : ℕ) → Takes f n → Takes g m → Takes (pair f g) (n + m)
pair-take {A} {B} f g n m hf hg = record {
  enough = λ s x next e.
      let p = pair_parts f g s x next e in
      let first = hf.enough s x.0 p.0 p.1 in
      let second = hg.enough p.0 x.1 next p.2 in
      let mid : length p.0.left ≡ length s.left - n = ap (λ (l : List ℕ). length l) (hf.left s x.0 p.0 p.1) ∙ length-drop n s.left in
      omega (arith, first, second, mid);
  left = λ s x next e.
      let p = pair_parts f g s x next e in
      hg.left p.0 x.1 next p.2 ∙ ap (λ (l : List ℕ). drop m l) (hf.left s x.0 p.0 p.1) ∙ drop-drop m n s.left;
}

field-is : {A : Type 0} (place : ℕ) (r : Result A ReadFault) (x : A) → short_at place r ≡ Ok x → r ≡ Ok x
field-is place (Ok y) x e = e
field-is place (Err d) x e = absurd cc

field-take : {A : Type 0} (f : Form A) (n : ℕ) → Takes f n → Takes (field f) n
field-take f n h = record {
  enough = λ s x next e. h.enough s x next (field-is s.place (f.at s) (x, next) e);
  left = λ s x next e. h.left s x next (field-is s.place (f.at s) (x, next) e);
}

bad-next : {X : Type 0} (place : ℕ) (o : Option X) (behind : Spot) (x : X) (next : Spot) → or_bad place o behind ≡ Ok (x, next) → behind ≡ next
bad-next {X} place (Some y) behind x next e = let same : (y, behind) ≡ (x, next) = ok_is (y, behind) (x, next) e in ap (λ (p : X × Spot). p.1) same
bad-next place None behind x next e = absurd cc

checked-take : {A X : Type 0} (made : A → Option X) (parts : X → A) (f : Form A) (n : ℕ) → Takes f n → Takes (checked made parts f) n
checked-take {A} {X} made parts f n h = record {
  enough = λ s x next e. let a = bind_ok (f.at s) (λ a. or_bad s.place (made a.0) a.1) (x, next) e in h.enough s a.0.0 a.0.1 a.1;
  left = λ s x next e.
      let a = bind_ok (f.at s) (λ a. or_bad s.place (made a.0) a.1) (x, next) e in
      ap (λ (p : Spot). p.left) (sym (bad-next s.place (made a.0.0) a.0.1 x next a.2)) ∙ h.left s a.0.0 a.0.1 a.1;
}

-- an address has 15 bytes
addr-take : Takes addr_form 15
unfolding addr_form
addr-take =
    checked-take addr_of addr_parts (field (pair u8_form (pair u32_form (pair u32_form (pair (bytes_form 4) u16_form))))) 15
    (field-take (pair u8_form (pair u32_form (pair u32_form (pair (bytes_form 4) u16_form)))) 15
    (pair-take u8_form (pair u32_form (pair u32_form (pair (bytes_form 4) u16_form))) 1 14 u8-take
    (pair-take u32_form (pair u32_form (pair (bytes_form 4) u16_form)) 4 10 u32-take
    (pair-take u32_form (pair (bytes_form 4) u16_form) 4 6 u32-take
    (pair-take (bytes_form 4) u16_form 4 2 (bytes-take 4) u16-take)))))

constant-take : Takes (fixed 1 u32_form) 4
constant-take = checked-take (fixed_of 1) (λ _. 1) u32_form 4 u32-take

-- ---- what is read to its end

-- all was read
pub whole-read : {X : Type 0} (form : Form X) (bytes : List ℕ) (x : X) → whole form bytes ≡ Ok x → (next : Spot) × (form.at (start bytes) ≡ Ok (x, next)) × (next.left ≡ [])
whole-read {X} form bytes x e = by_read (form.at (start bytes)) e
  where
    read : X × Spot → Result (X × Spot) ReadFault
    read p = Ok p

    by_left : (y : X) (place : ℕ) (next : Spot) (left : List ℕ) → left ≡ next.left → unless_left y place left ≡ Ok x → (read (y, next) ≡ read (x, next)) × (next.left ≡ [])
    by_left y place next [] none is = let same : y ≡ x = cc in (ap (λ (z : X). read (z, next)) same, sym none)
    by_left y place next (b ∷ left) none is = absurd cc

    by_read : (r : Result (X × Spot) ReadFault) → to_end r ≡ Ok x → (next : Spot) × (r ≡ Ok (x, next)) × (next.left ≡ [])
    by_read (Ok (y, next)) is = let both = by_left y next.place next next.left refl is in (next, both.0, both.1)
    by_read (Err fault) is = absurd cc

-- what fits is read again
pub whole-again : {X : Type 0} (l : Layout X) (x : X) → l.form.Fits x → whole l.form (l.form.text x) ≡ Ok x
whole-again l x fits =
    ap (λ (t : List ℕ). to_end (l.form.at (start t))) (sym (append-nil (l.form.text x))) ∙ rw (l.lawful.again x 0 [] fits) refl

-- ---- a number in its place

-- these bytes stand at the end, behind some others
record EndsIn (text last : List ℕ) : Type 0 where
  before : List ℕ
  is : text ≡ before ++ last

ends-here : (last : List ℕ) → EndsIn last last
ends-here last = record { before = []; is = refl }

ends-behind : (x text last : List ℕ) → EndsIn text last → EndsIn (x ++ text) last
ends-behind x text last h = record { before = x ++ h.before; is = ap (λ (l : List ℕ). x ++ l) h.is ∙ sym (append_assoc x h.before last) }

-- a number that stands at the end of some bytes, before so many, is the one that is read so far before their end
number-there : (text behind : List ℕ) (k n : ℕ) → EndsIn text (u64_form.text k ++ behind) → length (u64_form.text k) ≡ 8 → length text ≡ n + (8 + length behind) → k < 2 ^ 64
    → (s : Spot) (x : ℕ) (next : Spot) → s.left ≡ drop n text → u64_form.at s ≡ Ok (x, next) → x ≡ k
number-there text behind k n ends eight long low s x next at e =
    let size : length ends.before ≡ n = omega (arith, ap (λ (l : List ℕ). length l) ends.is, length-append ends.before (u64_form.text k ++ behind), length-append (u64_form.text k) behind, eight, long) in
    let here : s.left ≡ u64_form.text k ++ behind = at ∙ ap (λ (l : List ℕ). drop n l) ends.is ∙ drop_at ends.before (u64_form.text k ++ behind) n size in
    let again = u64-lawful.again k s.place behind low in
    let moved : u64_form.at (record { place = s.place; left = u64_form.text k ++ behind }) ≡ Ok (x, next) =
    subst (λ (l : List ℕ). u64_form.at (record { place = s.place; left = l }) ≡ Ok (x, next)) here e in
    let same = ok_is (x, next) (k, record { place = s.place + length (u64_form.text k); left = behind }) (sym moved ∙ again) in
    ap (λ (p : ℕ × Spot). p.0) same

eight-bytes : (k : ℕ) → length (u64_form.text k) ≡ 8
unfolding little
eight-bytes k = refl

-- what is read behind a field that takes as many bytes
record Behind {B : Type 0} (g : Form B) (text : List ℕ) (n : ℕ) (y : B) (next : Spot) : Type 0 where
  mid : Spot
  at : mid.left ≡ drop n text
  enough : n ≤ length text
  read : g.at mid ≡ Ok (y, next)

skip : {A B : Type 0} (f : Form A) (g : Form B) (n m : ℕ) (text : List ℕ) (y : A × B) (next : Spot) → Takes f m → Behind (pair f g) text n y next → Behind g text (n + m) y.1 next
skip f g n m text y next h b =
    let p = pair_parts f g b.mid y next b.read in
    let room = h.enough b.mid y.0 p.0 p.1 in
    let size : length b.mid.left ≡ length text - n = ap (λ (l : List ℕ). length l) b.at ∙ length-drop n text in
    let low = b.enough in
    record {
      mid = p.0;
      at = h.left b.mid y.0 p.0 p.1 ∙ ap (λ (l : List ℕ). drop m l) b.at ∙ drop-drop m n text;
      enough = omega (arith, room, size, low);
      read = p.2;
    }

-- where nothing is left behind the last field, all bytes are counted
all-counted : {B : Type 0} (g : Form B) (text : List ℕ) (n m : ℕ) (y : B) (next : Spot) → Takes g m → Behind g text n y next → next.left ≡ [] → length text ≡ n + m
all-counted g text n m y next h b none =
    let room = h.enough b.mid y next b.read in
    let size : length b.mid.left ≡ length text - n = ap (λ (l : List ℕ). length l) b.at ∙ length-drop n text in
    let end : length (drop m b.mid.left) ≡ 0 = ap (λ (l : List ℕ). length l) (sym (h.left b.mid y next b.read) ∙ none) in
    let low = b.enough in
    omega (arith, room, size, low, end, length-drop m b.mid.left)

abbrev numbers : Form (ℕ × ℕ)
numbers = pair u64_form u64_form

abbrev three : Form (ℕ × (ℕ × ℕ))
three = pair u64_form numbers

abbrev four : Form (ℕ × (ℕ × (ℕ × ℕ)))
four = pair u64_form three

abbrev five : Form (ℕ × (ℕ × (ℕ × (ℕ × ℕ))))
five = pair u64_form four

abbrev six : Form (ℕ × (ℕ × (ℕ × (ℕ × (ℕ × ℕ)))))
six = pair u64_form five

four-take : Takes four 32
four-take = pair-take u64_form three 8 24 u64-take (pair-take u64_form numbers 8 16 u64-take (pair-take u64_form u64_form 8 8 u64-take u64-take))

-- ---- CLIENT_IDENT

abbrev IdentParts : Type 0
IdentParts = Addr × (Addr × (ℕ × (ℕ × (ℕ × (ℕ × (ℕ × ℕ))))))

abbrev ident_form : Form IdentParts
ident_form = pair addr_form (pair addr_form six)

abbrev ident_made : IdentParts → ClientIdent
ident_made (addr, (target, (gid, (global_seq, (supported, (required, (flags, cookie))))))) = record {
  addr = addr;
  target = target;
  gid = gid;
  global_seq = global_seq;
  supported = supported;
  required = required;
  flags = flags;
  cookie = cookie;
}

abbrev ident_parts : ClientIdent → IdentParts
ident_parts i = (i.addr, (i.target, (i.gid, (i.global_seq, (i.supported, (i.required, (i.flags, i.cookie)))))))

-- the cookie of an ident is read as it is
pub read_ident : (t x : ClientIdent) → t.cookie < 2 ^ 64 → whole client_ident_layout.form (client_ident_layout.form.text t) ≡ Ok x → x.cookie ≡ t.cookie
read_ident t x low e =
    let text : List ℕ = client_ident_layout.form.text t in
    let r = whole-read client_ident_layout.form text x e in
    let inner : Form IdentParts = seen (λ (a : Unit {0} × IdentParts). a.1) (λ x. (tt, x)) (pair (fixed 1 u32_form) ident_form) in
    let a = unseen ident_made ident_parts inner (start text) x r.0 r.1 in
    let b = unseen (λ (a : Unit {0} × IdentParts). a.1) (λ x. (tt, x)) (pair (fixed 1 u32_form) ident_form) (start text) a.0 r.0 a.2 in
    let b0 : Behind (pair (fixed 1 u32_form) ident_form) text 0 b.0 r.0 = record { mid = start text; at = refl; enough = omega arith; read = b.2 } in
    let b1 : Behind ident_form text 4 b.0.1 r.0 = skip (fixed 1 u32_form) ident_form 0 4 text b.0 r.0 constant-take b0 in
    let b2 : Behind (pair addr_form six) text 19 b.0.1.1 r.0 = skip addr_form (pair addr_form six) 4 15 text b.0.1 r.0 addr-take b1 in
    let b3 : Behind six text 34 b.0.1.1.1 r.0 = skip addr_form six 19 15 text b.0.1.1 r.0 addr-take b2 in
    let b4 : Behind five text 42 b.0.1.1.1.1 r.0 = skip u64_form five 34 8 text b.0.1.1.1 r.0 u64-take b3 in
    let b5 : Behind four text 50 b.0.1.1.1.1.1 r.0 = skip u64_form four 42 8 text b.0.1.1.1.1 r.0 u64-take b4 in
    let b6 : Behind three text 58 b.0.1.1.1.1.1.1 r.0 = skip u64_form three 50 8 text b.0.1.1.1.1.1 r.0 u64-take b5 in
    let b7 : Behind numbers text 66 b.0.1.1.1.1.1.1.1 r.0 = skip u64_form numbers 58 8 text b.0.1.1.1.1.1.1 r.0 u64-take b6 in
    let b8 : Behind u64_form text 74 b.0.1.1.1.1.1.1.1.1 r.0 = skip u64_form u64_form 66 8 text b.0.1.1.1.1.1.1.1 r.0 u64-take b7 in
    let long : length text ≡ 74 + 8 = all-counted u64_form text 74 8 b.0.1.1.1.1.1.1.1.1 r.0 u64-take b8 r.2 in
    let last : List ℕ = u64_form.text t.cookie in
    let ends : EndsIn text last =
    ends-behind (u32_form.text 1) _ last (ends-behind (addr_form.text t.addr) _ last (ends-behind (addr_form.text t.target) _ last (ends-behind (u64_form.text t.gid) _ last
    (ends-behind (u64_form.text t.global_seq) _ last (ends-behind (u64_form.text t.supported) _ last (ends-behind (u64_form.text t.required) _ last
    (ends-behind (u64_form.text t.flags) last last (ends-here last)))))))) in
    let cookie : b.0.1.1.1.1.1.1.1.1 ≡ t.cookie =
    number-there text [] t.cookie 74 (subst (λ (l : List ℕ). EndsIn text l) (sym (append-nil last)) ends) (eight-bytes t.cookie) (omega (arith, long)) low b8.mid b.0.1.1.1.1.1.1.1.1 r.0 b8.at b8.read in
    sym (ap (λ (i : ClientIdent). i.cookie) a.1) ∙ ap (λ (p : IdentParts). p.1.1.1.1.1.1.1) (sym b.1) ∙ cookie

-- ---- SESSION_RECONNECT

abbrev ReconnectParts : Type 0
ReconnectParts = Addr × (ℕ × (ℕ × (ℕ × (ℕ × ℕ))))

abbrev reconnect_form : Form ReconnectParts
reconnect_form = pair addr_form five

abbrev reconnect_made : ReconnectParts → SessionReconnect
reconnect_made (addr, (client_cookie, (server_cookie, (global_seq, (connect_seq, msg_seq))))) = record {
  addr = addr;
  client_cookie = client_cookie;
  server_cookie = server_cookie;
  global_seq = global_seq;
  connect_seq = connect_seq;
  msg_seq = msg_seq;
}

abbrev reconnect_parts : SessionReconnect → ReconnectParts
reconnect_parts r = (r.addr, (r.client_cookie, (r.server_cookie, (r.global_seq, (r.connect_seq, r.msg_seq)))))

four-bytes : (a b c d : ℕ) → length (four.text (a, (b, (c, d)))) ≡ 32
unfolding little
four-bytes a b c d = refl

-- the client's cookie is read as it is
pub read_reconnect : (t x : SessionReconnect) → t.client_cookie < 2 ^ 64 → whole session_reconnect_layout.form (session_reconnect_layout.form.text t) ≡ Ok x
    → x.client_cookie ≡ t.client_cookie
read_reconnect t x low e =
    let text : List ℕ = session_reconnect_layout.form.text t in
    let r = whole-read session_reconnect_layout.form text x e in
    let inner : Form ReconnectParts = seen (λ (a : Unit {0} × ReconnectParts). a.1) (λ x. (tt, x)) (pair (fixed 1 u32_form) reconnect_form) in
    let a = unseen reconnect_made reconnect_parts inner (start text) x r.0 r.1 in
    let b = unseen (λ (a : Unit {0} × ReconnectParts). a.1) (λ x. (tt, x)) (pair (fixed 1 u32_form) reconnect_form) (start text) a.0 r.0 a.2 in
    let b0 : Behind (pair (fixed 1 u32_form) reconnect_form) text 0 b.0 r.0 = record { mid = start text; at = refl; enough = omega arith; read = b.2 } in
    let b1 : Behind reconnect_form text 4 b.0.1 r.0 = skip (fixed 1 u32_form) reconnect_form 0 4 text b.0 r.0 constant-take b0 in
    let b2 : Behind five text 19 b.0.1.1 r.0 = skip addr_form five 4 15 text b.0.1 r.0 addr-take b1 in
    let b3 : Behind four text 27 b.0.1.1.1 r.0 = skip u64_form four 19 8 text b.0.1.1 r.0 u64-take b2 in
    let long : length text ≡ 27 + 32 = all-counted four text 27 32 b.0.1.1.1 r.0 four-take b3 r.2 in
    let there = pair_parts u64_form four b2.mid b.0.1.1 r.0 b2.read in
    let behind : List ℕ = four.text (t.server_cookie, (t.global_seq, (t.connect_seq, t.msg_seq))) in
    let size : length behind ≡ 32 = four-bytes t.server_cookie t.global_seq t.connect_seq t.msg_seq in
    let last : List ℕ = u64_form.text t.client_cookie ++ behind in
    let ends : EndsIn text last = ends-behind (u32_form.text 1) _ last (ends-behind (addr_form.text t.addr) last last (ends-here last)) in
    let cookie : b.0.1.1.0 ≡ t.client_cookie =
    number-there text behind t.client_cookie 19 ends (eight-bytes t.client_cookie) (omega (arith, long, size)) low b2.mid b.0.1.1.0 there.0 b2.at there.1 in
    sym (ap (λ (i : SessionReconnect). i.client_cookie) a.1) ∙ ap (λ (p : ReconnectParts). p.1.0) (sym b.1) ∙ cookie

-- ---- message 42

-- a header whose seq can be written is read again
header-again : (seq : ℕ) → seq < 2 ^ 64 → let header : Header = record { seq = seq; tid = seq; type_ = 42 } in
    whole header_layout.form (header_layout.form.text (written_header header)) ≡ Ok (written_header header)
header-again seq low =
    let header : Header = record { seq = seq; tid = seq; type_ = 42 } in
    whole-again header_layout (written_header header)
    (low, (low, (omega arith, (omega arith, (omega arith, (omega arith, (omega arith, (omega arith, (omega arith, (omega arith, omega arith))))))))))

-- an operation that has a spelling is read as it is, with its seq, which is its tid too
pub read_instruction : (seq : ℕ) (operation : Operation) (i : Instruction) → seq < 2 ^ 64 → operation_layout.form.Fits operation
    → instruction_of (message_in (operation_message (seq, operation))) ≡ Ok i → (i.seq ≡ seq) × (i.tid ≡ seq) × (i.operation ≡ operation)
read_instruction seq operation i low fits e =
    let header : Header = record { seq = seq; tid = seq; type_ = 42 } in
    let body : List ℕ = operation_layout.form.text operation in
    let m : Message = record { header = header; body = body } in
    let good : Result Message BytesFault = Ok m in
    let found : message_in (operation_message (seq, operation)) ≡ good = ap (λ (r : Result Fields BytesFault). message_by body [] r) (header-again seq low) in
    let made : Instruction = record { seq = seq; tid = seq; operation = operation } in
    let read : Result Instruction BytesFault = Ok made in
    let is : instruction_of good ≡ read = ap (λ (r : Result Operation BytesFault). instruction_by m r) (whole-again operation_layout operation fits) in
    let both : read ≡ Ok i = sym is ∙ ap instruction_of (sym found) ∙ e in
    let same : made ≡ i = instruction-is made i both in
    (sym (ap (λ (x : Instruction). x.seq) same), sym (ap (λ (x : Instruction). x.tid) same), sym (ap (λ (x : Instruction). x.operation) same))
  where
    instruction-is : (x y : Instruction) → (let r : Result Instruction BytesFault = Ok x in r ≡ Ok y) → x ≡ y
    instruction-is x y e = cc

-- ---- operations that have a spelling

passed-true : (good : List ℕ → Bool) (bytes : List ℕ) → good bytes ≡ true → passed good bytes ≡ Some bytes
passed-true good bytes is = ap (λ (t : Bool). cond t (Some bytes) None) is

part-short : (text : List ℕ) → is_part text ≡ true → length text ≤ 255
part-short [] good = omega arith
part-short (b ∷ bs) good =
    let text : List ℕ = b ∷ bs in
    let short = both_true (not (bytes_eq text (codes "-")) && nat_le 1 (length text) && nat_le (length text) 255) (list_all is_part_byte text) good in
    leb-true (length text) 255 (both_true (not (bytes_eq text (codes "-")) && nat_le 1 (length text)) (nat_le (length text) 255) short.0).1

part-fits : (text : List ℕ) → is_part text ≡ true → part_field.form.Fits text
part-fits text good = let short = part-short text good in (omega (arith, short), passed-true is_part text good)

access-fits : (access : Access) → access_field.form.Fits access
access-fits Read = (omega arith, refl)
access-fits Write = (omega arith, refl)
access-fits Exec = (omega arith, refl)

-- one that can be written has one
pub writable-fits : (operation : Operation) → IsWritable operation → operation_layout.form.Fits operation
writable-fits operation w =
    let short = w.bytes in (
      access-fits operation.access,
      (part-fits operation.pool w.pool, (part-fits operation.namespace w.namespace, (part-fits operation.object w.object, (omega (arith, short), passed-true is_data operation.bytes (le-leb (length operation.bytes) 65536 short))))),
    )

-- ---- by what was spoken

-- what is told of a session, and an operation, can be written
abbrev pub IsSpelled : Spoken → Type 0
IsSpelled (Signs code) = Unit {0}
IsSpelled (Idents mon_client gid flags cookie) = cookie < 2 ^ 64
IsSpelled (Reconnects mon_client session) = session.client_cookie < 2 ^ 64
IsSpelled (Orders order) = (order.0 < 2 ^ 64) × operation_layout.form.Fits order.1
IsSpelled (KeepsUp ack) = Unit {0}

-- a frame of CLIENT_IDENT asks for the session of the cookie that is read
pub hears-ident : (x : Spoken) (f : Frame) (ident : ClientIdent) → f ≡ frame_of x → f.tag ≡ 8 → IsSpelled x → payload client_ident_layout.form f ≡ Ok ident
    → (mon_client : MonClient) × (gid : ℕ) × (flags : ℕ) × (x ≡ Idents mon_client gid flags ident.cookie)
hears-ident x f ident is tag spelled read =
    by_word x (ap (λ (g : Frame). g.tag) (sym is) ∙ tag) spelled (subst (λ (g : Frame). payload client_ident_layout.form g ≡ Ok ident) is read)
  where
    by_word : (y : Spoken) → (frame_of y).tag ≡ 8 → IsSpelled y → payload client_ident_layout.form (frame_of y) ≡ Ok ident
        → (mon_client : MonClient) × (gid : ℕ) × (flags : ℕ) × (y ≡ Idents mon_client gid flags ident.cookie)
    by_word (Signs code) t s r = absurd (omega (arith, t))
    by_word (Idents mon_client gid flags cookie) t s r =
        (mon_client, gid, flags, ap (λ (k : ℕ). Idents mon_client gid flags k) (sym (read_ident _ ident s r)))
    by_word (Reconnects mon_client session) t s r = absurd (omega (arith, t))
    by_word (Orders order) t s r = absurd (omega (arith, t))
    by_word (KeepsUp ack) t s r = absurd (omega (arith, t))

-- one of SESSION_RECONNECT takes up the session of the client's cookie that is read
pub hears-reconnect : (x : Spoken) (f : Frame) (reconnect : SessionReconnect) → f ≡ frame_of x → f.tag ≡ 11 → IsSpelled x → payload session_reconnect_layout.form f ≡ Ok reconnect
    → (mon_client : MonClient) × (session : HeldSession) × (x ≡ Reconnects mon_client session) × (session.client_cookie ≡ reconnect.client_cookie)
hears-reconnect x f reconnect is tag spelled read =
    by_word x (ap (λ (g : Frame). g.tag) (sym is) ∙ tag) spelled (subst (λ (g : Frame). payload session_reconnect_layout.form g ≡ Ok reconnect) is read)
  where
    by_word : (y : Spoken) → (frame_of y).tag ≡ 11 → IsSpelled y → payload session_reconnect_layout.form (frame_of y) ≡ Ok reconnect
        → (mon_client : MonClient) × (session : HeldSession) × (y ≡ Reconnects mon_client session) × (session.client_cookie ≡ reconnect.client_cookie)
    by_word (Signs code) t s r = absurd (omega (arith, t))
    by_word (Idents mon_client gid flags cookie) t s r = absurd (omega (arith, t))
    by_word (Reconnects mon_client session) t s r = (mon_client, session, refl, sym (read_reconnect _ reconnect s r))
    by_word (Orders order) t s r = absurd (omega (arith, t))
    by_word (KeepsUp ack) t s r = absurd (omega (arith, t))

-- a message is the order of the operation that is read, with its seq
pub hears-order : (x : Spoken) (f : Frame) (i : Instruction) → f ≡ frame_of x → f.tag ≡ 17 → IsSpelled x → instruction_of (message_in f) ≡ Ok i
    → (x ≡ Orders (i.seq, i.operation)) × (i.tid ≡ i.seq)
hears-order x f i is tag spelled read =
    by_word x (ap (λ (g : Frame). g.tag) (sym is) ∙ tag) spelled (subst (λ (g : Frame). instruction_of (message_in g) ≡ Ok i) is read)
  where
    by_word : (y : Spoken) → (frame_of y).tag ≡ 17 → IsSpelled y → instruction_of (message_in (frame_of y)) ≡ Ok i → (y ≡ Orders (i.seq, i.operation)) × (i.tid ≡ i.seq)
    by_word (Signs code) t s r = absurd (omega (arith, t))
    by_word (Idents mon_client gid flags cookie) t s r = absurd (omega (arith, t))
    by_word (Reconnects mon_client session) t s r = absurd (omega (arith, t))
    by_word (Orders (seq, operation)) t s r =
        let same = read_instruction seq operation i s.0 s.1 r in
        (ap (λ (n : ℕ). Orders (n, operation)) (sym same.0) ∙ ap (λ (o : Operation). Orders (i.seq, o)) (sym same.2), same.1 ∙ sym same.0)
    by_word (KeepsUp ack) t s r = absurd (omega (arith, t))

-- all else leaves the session that was spoken of last
pub hears-else : (x : Spoken) (f : Frame) (before : Option ℕ) → f ≡ frame_of x → (f.tag ≡ 8 → ⊥) → (f.tag ≡ 11 → ⊥) → cookie_after before x ≡ before
hears-else x f before is ident again = by_word x (λ t. ident (ap (λ (g : Frame). g.tag) is ∙ t)) (λ t. again (ap (λ (g : Frame). g.tag) is ∙ t))
  where
    by_word : (y : Spoken) → ((frame_of y).tag ≡ 8 → ⊥) → ((frame_of y).tag ≡ 11 → ⊥) → cookie_after before y ≡ before
    by_word (Signs code) a b = refl
    by_word (Idents mon_client gid flags cookie) a b = absurd (a refl)
    by_word (Reconnects mon_client session) a b = absurd (b refl)
    by_word (Orders order) a b = refl
    by_word (KeepsUp ack) a b = refl
