-- The laws of times, readings, keys, ticket blobs, addresses, entity types, names, fixed numbers and flags.
use Rattle.std.proofs.Common.{◌≡◌, ℕ, ◌^◌, ◌/◌, ◌%◌, ◌<◌, length, eq-eqb, Bool, true, false, cond, List, Option, Some, None, refl, sym, ap, ◌∙◌, arith}
use Rattle.std.specs.Prelude.{◌&&◌, ◌==◌, nat_lt, nat_le}
use Rattle.std.proofs.lemmas.Bool.{eqb-true, ltb-true, lt-ltb}
use Rattle.cx_base.specs.declared.kinds.EntityType.{EntityType}
use Rattle.cx_base.specs.declared.kinds.EntityType.TheVariants.{Mon, Mds, Osd, Client, Mgr, Auth}
use Rattle.cx_base.specs.declared.addresses.Addr.{Addr}
use Rattle.cx_base.specs.Names.{Name, is_id, with_id}
use Rattle.cx_enc.specs.Moments.{Moment}
use Rattle.cx_enc.specs.declared.keys.Key.{Key}
use Rattle.cx_enc.specs.declared.tickets.TicketBlob.{TicketBlob}
use Rattle.cx_enc.specs.Forms.{Form, IsLawful, u8_form, u16_form, u32_form, u64_form, bytes_form, blob_form, pair, field}
use Rattle.cx_enc.specs.Values.{moment_of, moment_parts, time_form, reading_of, moment_at, reading_form, secret_of, secret_key, secret_form, sized_form, ticket_of, ticket_parts, ticket_form, count_form, key_of, key_parts, key_form, addr_of, addr_parts, addr_form, number_of, kind_of, kind_form, name_of, name_parts, name_form, fixed_of, fixed, flag_of, flag_number, flag_form}
use Rattle.cx_enc.specs.FormLaws.{u8-lawful, u16-lawful, u32-lawful, u64-lawful, bytes-lawful, blob-lawful, pair-lawful, seen-lawful, field-lawful, checked-lawful, judged-lawful}

-- a test that makes a value
some_if : {X : Type 0} (b : Bool) (v x : X) → cond b (Some v) None ≡ Some x → (b ≡ true) × (v ≡ x)
some_if true v x e = (refl, cc)
some_if false v x e = absurd cc

pub both_true : (a b : Bool) → (a && b) ≡ true → (a ≡ true) × (b ≡ true)
both_true true b e = (refl, e)
both_true false b e = absurd cc

moment_back : (a : ℕ × ℕ) (x : Moment) → moment_of a ≡ Some x → moment_parts x ≡ a
moment_back a x e = let made = some_if (nat_lt a.1 1000000000) (record { secs = a.0; nanos = a.1 }) x e in ap moment_parts (sym made.1)

pub time-lawful : IsLawful time_form
unfolding time_form
time-lawful = checked-lawful moment_of moment_parts (field (pair u32_form u32_form)) (field-lawful (pair u32_form u32_form) (pair-lawful u32_form u32_form u32-lawful u32-lawful)) (λ a x fits. moment_back a x)

key_back : (a : ℕ × (ℕ × (ℕ × (ℕ × List ℕ)))) (x : Key) → key_of a ≡ Some x → key_parts x ≡ a
key_back a x e =
    let value : Key = record { created = record { secs = a.1.0; nanos = a.1.1.0 }; secret = a.1.1.1.1 } in
    let made = some_if ((a.0 == 1) && ((a.1.1.1.0 == 16) && nat_lt a.1.1.0 1000000000)) value x e in
    let tests = both_true (a.0 == 1) ((a.1.1.1.0 == 16) && nat_lt a.1.1.0 1000000000) made.0 in
    let kind : a.0 ≡ 1 = eqb-true a.0 1 tests.0 in
    let length : a.1.1.1.0 ≡ 16 = eqb-true a.1.1.1.0 16 (both_true (a.1.1.1.0 == 16) (nat_lt a.1.1.0 1000000000) tests.1).0 in
    let by_kind : ℕ → ℕ × (ℕ × (ℕ × (ℕ × List ℕ))) = λ k. (k, (a.1.0, (a.1.1.0, (16, a.1.1.1.1)))) in
    let by_length : ℕ → ℕ × (ℕ × (ℕ × (ℕ × List ℕ))) = λ l. (a.0, (a.1.0, (a.1.1.0, (l, a.1.1.1.1)))) in
    ap key_parts (sym made.1) ∙ ap by_kind (sym kind) ∙ ap by_length (sym length)

pub key-lawful : IsLawful key_form
unfolding key_form
key-lawful =
    checked-lawful key_of key_parts (field (pair u16_form (pair u32_form (pair u32_form (pair u16_form (bytes_form 16))))))
    (field-lawful (pair u16_form (pair u32_form (pair u32_form (pair u16_form (bytes_form 16)))))
    (pair-lawful u16_form (pair u32_form (pair u32_form (pair u16_form (bytes_form 16)))) u16-lawful
    (pair-lawful u32_form (pair u32_form (pair u16_form (bytes_form 16))) u32-lawful
    (pair-lawful u32_form (pair u16_form (bytes_form 16)) u32-lawful
    (pair-lawful u16_form (bytes_form 16) u16-lawful (bytes-lawful 16))))))
    (λ a x fits. key_back a x)

moment_is : (s n : ℕ) (a b : ℕ) → a ≡ s → b ≡ n → let t : Moment = record { secs = a; nanos = b } in let u : Moment = record { secs = s; nanos = n } in t ≡ u
moment_is s n a b p q = cc

reading_back : (t : Moment) → time_form.Fits t → moment_at (reading_of t) ≡ t
unfolding time_form
reading_back t fits =
    let below : t.nanos < 1000000000 = ltb-true t.nanos 1000000000 (some_if (nat_lt t.nanos 1000000000) (record { secs = t.secs; nanos = t.nanos }) t fits.1).0 in
    moment_is t.secs t.nanos (reading_of t / 1000000000) (reading_of t % 1000000000) (omega arith) (omega arith)

reading_again : (r : ℕ) → reading_of (moment_at r) ≡ r
reading_again r = omega arith

pub reading-lawful : IsLawful reading_form
unfolding reading_form
reading-lawful = seen-lawful reading_of moment_at time_form time-lawful reading_back (λ r _. reading_again r)

-- the readings that are spelled: those below 4,294,967,296 s
pub reading_fits : (r : ℕ) → r < 4294967296000000000 → reading_form.Fits r
unfolding reading_form time_form
reading_fits r lt = ((omega arith, omega arith), rw (lt-ltb (r % 1000000000) 1000000000 (omega arith)) refl)

pub reading_is : (r : ℕ) → reading_form.Fits r → r < 4294967296000000000
unfolding reading_form time_form
reading_is r fits = let seconds : r / 1000000000 < 2 ^ 32 = fits.0.0 in omega arith

key_is : (key : Key) (s n : ℕ) → key.created.secs ≡ s → key.created.nanos ≡ n → let k : Key = record { created = record { secs = s; nanos = n }; secret = key.secret } in k ≡ key
key_is key s n p q =
    let by : ℕ → ℕ → Key = λ a b. record { created = record { secs = a; nanos = b }; secret = key.secret } in
    ap (λ a. by a n) (sym p) ∙ ap (λ b. by key.created.secs b) (sym q)

secret_back : (key : Key) (bytes : List ℕ) → secret_of key ≡ Some bytes → secret_key bytes ≡ key
secret_back key bytes e =
    let made = some_if ((key.created.secs == 0) && (key.created.nanos == 0)) key.secret bytes e in
    let tests = both_true (key.created.secs == 0) (key.created.nanos == 0) made.0 in
    ap secret_key (sym made.1) ∙ key_is key 0 0 (eqb-true key.created.secs 0 tests.0) (eqb-true key.created.nanos 0 tests.1)

pub secret-lawful : IsLawful secret_form
unfolding secret_form
secret-lawful = checked-lawful secret_of secret_key key_form key-lawful (λ key bytes fits. secret_back key bytes)

pub sized-lawful : (n : ℕ) → IsLawful (sized_form n)
unfolding sized_form
sized-lawful n = judged-lawful (λ bytes. length bytes == n) blob_form blob-lawful

pub sized_fits : (n : ℕ) (bytes : List ℕ) → n < 2 ^ 32 → length bytes ≡ n → (sized_form n).Fits bytes
unfolding sized_form
sized_fits n bytes lt is = (omega arith, rw (eq-eqb (length bytes) n is) refl)

ticket_back : (a : (ℕ × ℕ) × List ℕ) (x : TicketBlob) → ticket_of a ≡ Some x → ticket_parts x ≡ a
ticket_back a x e =
    let made = some_if (a.0.0 == 1) (record { generation = a.0.1; blob = a.1 }) x e in
    let by_marker : ℕ → (ℕ × ℕ) × List ℕ = λ m. ((m, a.0.1), a.1) in
    ap ticket_parts (sym made.1) ∙ ap by_marker (sym (eqb-true a.0.0 1 made.0))

pub ticket-lawful : IsLawful ticket_form
unfolding ticket_form
ticket-lawful =
    checked-lawful ticket_of ticket_parts (field (pair (pair u8_form u64_form) blob_form)) (field-lawful (pair (pair u8_form u64_form) blob_form)
    (pair-lawful (pair u8_form u64_form) blob_form (pair-lawful u8_form u64_form u8-lawful u64-lawful) blob-lawful)) (λ a x fits. ticket_back a x)

pub count-lawful : (least most : ℕ) → IsLawful (count_form least most)
count-lawful least most = judged-lawful (λ n. nat_le least n && nat_le n most) u32_form u32-lawful

addr_back : (a : ℕ × (ℕ × (ℕ × (List ℕ × ℕ)))) (x : Addr) → addr_of a ≡ Some x → addr_parts x ≡ a
addr_back a x e =
    let value : Addr = record { nonce = a.1.1.0; ip = a.1.1.1.0; port = a.1.1.1.1 } in
    let made = some_if ((a.0 == 1) && (a.1.0 == 2)) value x e in
    let tests = both_true (a.0 == 1) (a.1.0 == 2) made.0 in
    let marker : a.0 ≡ 1 = eqb-true a.0 1 tests.0 in
    let kind : a.1.0 ≡ 2 = eqb-true a.1.0 2 tests.1 in
    let by_marker : ℕ → ℕ × (ℕ × (ℕ × (List ℕ × ℕ))) = λ m. (m, (2, a.1.1)) in
    let by_kind : ℕ → ℕ × (ℕ × (ℕ × (List ℕ × ℕ))) = λ k. (a.0, (k, a.1.1)) in
    ap addr_parts (sym made.1) ∙ ap by_marker (sym marker) ∙ ap by_kind (sym kind)

pub addr-lawful : IsLawful addr_form
unfolding addr_form
addr-lawful =
    checked-lawful addr_of addr_parts (field (pair u8_form (pair u32_form (pair u32_form (pair (bytes_form 4) u16_form)))))
    (field-lawful (pair u8_form (pair u32_form (pair u32_form (pair (bytes_form 4) u16_form))))
    (pair-lawful u8_form (pair u32_form (pair u32_form (pair (bytes_form 4) u16_form))) u8-lawful
    (pair-lawful u32_form (pair u32_form (pair (bytes_form 4) u16_form)) u32-lawful
    (pair-lawful u32_form (pair (bytes_form 4) u16_form) u32-lawful
    (pair-lawful (bytes_form 4) u16_form (bytes-lawful 4) u16-lawful)))))
    (λ a x fits. addr_back a x)

-- one link of the chain of numbers: this one, or the rest
link : (b : Bool) (n k : ℕ) (v : EntityType) (rest : Option EntityType) (x : EntityType) → (b ≡ true → n ≡ k) → number_of v ≡ k → (rest ≡ Some x → number_of x ≡ n) → cond b (Some v) rest ≡ Some x → number_of x ≡ n
link true n k v rest x is number others e = let same : v ≡ x = cc in ap number_of (sym same) ∙ number ∙ sym (is refl)
link false n k v rest x is number others e = others e

kind_back : (n : ℕ) (x : EntityType) → kind_of n ≡ Some x → number_of x ≡ n
unfolding kind_of
kind_back n x e =
    link (n == 1) n 1 Mon _ x (eqb-true n 1) refl
    (link (n == 2) n 2 Mds _ x (eqb-true n 2) refl
    (link (n == 4) n 4 Osd _ x (eqb-true n 4) refl
    (link (n == 8) n 8 Client _ x (eqb-true n 8) refl
    (link (n == 16) n 16 Mgr _ x (eqb-true n 16) refl
    (link (n == 32) n 32 Auth None x (eqb-true n 32) refl (λ none. absurd cc))))))
    e

-- each entity type has a number, and is read by it
pub kind_again : (x : EntityType) → kind_of (number_of x) ≡ Some x
unfolding kind_of
kind_again Mon = refl
kind_again Mds = refl
kind_again Osd = refl
kind_again Client = refl
kind_again Mgr = refl
kind_again Auth = refl

number_fits : (x : EntityType) → number_of x < 2 ^ 32
number_fits Mon = omega arith
number_fits Mds = omega arith
number_fits Osd = omega arith
number_fits Client = omega arith
number_fits Mgr = omega arith
number_fits Auth = omega arith

pub kind_fits : (x : EntityType) → kind_form.Fits x
unfolding kind_form
kind_fits x = (number_fits x, kind_again x)

pub kind-lawful : IsLawful kind_form
unfolding kind_form
kind-lawful = checked-lawful kind_of number_of u32_form u32-lawful (λ a x fits. kind_back a x)

with_id_back : (id : List ℕ) (o : Option EntityType) (x : Name) → with_id id o ≡ Some x → (o ≡ Some x.kind) × (id ≡ x.id)
with_id_back id None x e = absurd cc
with_id_back id (Some kind) x e =
    let made = some_if (is_id kind id) (record { kind = kind; id = id }) x e in
    (ap (λ (n : Name). Some n.kind) made.1, ap (λ (n : Name). n.id) made.1)

name_back : (a : ℕ × List ℕ) (x : Name) → name_of a ≡ Some x → name_parts x ≡ a
name_back a x e =
    let parts = with_id_back a.1 (kind_of a.0) x e in
    let number : number_of x.kind ≡ a.0 = kind_back a.0 x.kind parts.0 in
    let by_number : ℕ → ℕ × List ℕ = λ n. (n, x.id) in
    let by_id : List ℕ → ℕ × List ℕ = λ id. (a.0, id) in
    ap by_number number ∙ ap by_id (sym parts.1)

pub name-lawful : IsLawful name_form
unfolding name_form
name-lawful = checked-lawful name_of name_parts (field (pair u32_form blob_form)) (field-lawful (pair u32_form blob_form) (pair-lawful u32_form blob_form u32-lawful blob-lawful)) (λ a x fits. name_back a x)

fixed_back : (n a : ℕ) (x : Unit {0}) → fixed_of n a ≡ Some x → n ≡ a
fixed_back n a x e = sym (eqb-true a n (some_if (a == n) tt x e).0)

pub fixed-lawful : (n : ℕ) (f : Form ℕ) → IsLawful f → IsLawful (fixed n f)
fixed-lawful n f h = checked-lawful (fixed_of n) (λ _. n) f h (λ a x fits. fixed_back n a x)

flag_by : (zero one : Bool) (a : ℕ) (x : Bool) → (zero ≡ true → a ≡ 0) → (one ≡ true → a ≡ 1) → cond zero (Some false) (cond one (Some true) None) ≡ Some x → flag_number x ≡ a
flag_by true one a x is_zero is_one e = let same : false ≡ x = cc in ap flag_number (sym same) ∙ sym (is_zero refl)
flag_by false true a x is_zero is_one e = let same : true ≡ x = cc in ap flag_number (sym same) ∙ sym (is_one refl)
flag_by false false a x is_zero is_one e = absurd cc

flag_back : (a : ℕ) (x : Bool) → flag_of a ≡ Some x → flag_number x ≡ a
flag_back a x e = flag_by (a == 0) (a == 1) a x (eqb-true a 0) (eqb-true a 1) e

pub flag-lawful : IsLawful flag_form
unfolding flag_form
flag-lawful = checked-lawful flag_of flag_number u8_form u8-lawful (λ a x fits. flag_back a x)
