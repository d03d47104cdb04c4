-- What a ticket says can be written, and so its blob opens under the key that sealed it.
use Rattle.std.proofs.Common.{◌≡◌, ℕ, ◌≤◌, ◌<◌, ◌^◌, ◌/◌, ◌%◌, All, Bool, true, List, [], ◌∷◌, ◌++◌, length, Option, Some, refl, ap, ◌∙◌, arith}
use Rattle.std.specs.Prelude.{◌&&◌, ◌||◌, nat_le}
use Rattle.std.specs.Int.{w8, w16, w32, w64}
use Rattle.std.specs.List.{AllByRecursion, list_all}
use Rattle.std.proofs.lemmas.Bool.Decides.{nat_tests}
use Rattle.std.proofs.lemmas.List.Elements.{All-from_recursion}
use Rattle.cx_aes.specs.Cipher.{IsBlock}
use Rattle.cx_base.specs.Names.{Name, is_id, is_id_byte, same_kind, with_id}
use Rattle.cx_base.specs.Texts.{is_caps, is_caps_byte}
use Rattle.cx_base.specs.declared.kinds.EntityType.{EntityType}
use Rattle.cx_base.specs.declared.kinds.EntityType.TheVariants.{Mon}
use Rattle.cx_enc.specs.FieldLaws.{both_true, kind_fits, reading_fits}
use Rattle.cx_enc.specs.Forms.{little, passed, u8_form, u64_form, blob_form}
use Rattle.cx_enc.specs.Values.{key_form, kind_form, name_form, number_of, reading_form, secret_form, time_form}
use Rattle.cx_enc.specs.Whole.{Spells}
use Rattle.cx_journal.specs.declared.entries.Issued.{Issued}
use Rattle.cx_journal.specs.declared.premises.KeyKind.TheVariants as kind
use Rattle.cx_laws_links.specs.cx_laws_tickets.specs.cx_login.specs.Unlocking.{unlocked, unlocked_as}
use Rattle.cx_rotate.specs.declared.generations.Generation.{Generation}
use Rattle.cx_laws_links.specs.cx_laws_tickets.specs.cx_sealed.proofs.Found.{unsealed_only}
use Rattle.cx_laws_links.specs.cx_laws_tickets.specs.cx_sealed.specs.Lengths.{service_ticket_short}
use Rattle.cx_laws_links.specs.cx_laws_tickets.specs.cx_sealed.specs.Records.{service_ticket_layout}
use Rattle.cx_laws_links.specs.cx_laws_tickets.specs.cx_sealed.specs.declared.service_ticket.ServiceTicket.{ServiceTicket}
use Rattle.cx_laws_links.specs.cx_laws_tickets.specs.cx_sealed.specs.declared.unsealed.Unsealed.{Unsealed}
use Rattle.cx_laws_links.specs.cx_laws_tickets.specs.chain.Chain.{IsSealedUnder, said_by}
use Rattle.cx_laws_links.specs.cx_laws_tickets.specs.cx_laws_keys.proofs.keys.Lists.{all-append}
use Rattle.cx_laws_links.specs.cx_laws_tickets.specs.cx_laws_keys.proofs.keys.Reading.{secret_fits}
use Rattle.cx_laws_run.specs.run.Laws.{AreBytes}

-- ---- bytes

abbrev IsByte : ℕ → Type 0
IsByte b = b < 256

pub both : (xs ys : List ℕ) → AreBytes xs → AreBytes ys → AreBytes (xs ++ ys)
both xs ys h g = all-append IsByte xs ys h g

pub bytes_1 : (n : ℕ) → AreBytes (little w8 n)
unfolding little
bytes_1 n = (omega arith, tt)

bytes_2 : (n : ℕ) → AreBytes (little w16 n)
unfolding little
bytes_2 n = (omega arith, (omega arith, tt))

pub bytes_4 : (n : ℕ) → AreBytes (little w32 n)
unfolding little
bytes_4 n = (omega arith, (omega arith, (omega arith, (omega arith, tt))))

pub bytes_8 : (n : ℕ) → AreBytes (little w64 n)
unfolding little
bytes_8 n = (omega arith, (omega arith, (omega arith, (omega arith, (omega arith, (omega arith, (omega arith, (omega arith, tt))))))))

pub secret-bytes : (secret : List ℕ) → AreBytes secret → AreBytes (secret_form.text secret)
unfolding secret_form key_form
secret-bytes secret h =
    both (little w16 1) (little w32 0 ++ (little w32 0 ++ (little w16 16 ++ secret))) (bytes_2 1)
    (both (little w32 0) (little w32 0 ++ (little w16 16 ++ secret)) (bytes_4 0)
    (both (little w32 0) (little w16 16 ++ secret) (bytes_4 0) (both (little w16 16) secret (bytes_2 16) h)))

name-bytes : (name : Name) → AreBytes name.id → AreBytes (name_form.text name)
unfolding name_form
name-bytes name h =
    both (little w32 (number_of name.kind)) (little w32 (length name.id) ++ name.id) (bytes_4 (number_of name.kind))
    (both (little w32 (length name.id)) name.id (bytes_4 (length name.id)) h)

pub reading-bytes : (r : ℕ) → AreBytes (reading_form.text r)
unfolding reading_form time_form
reading-bytes r = both (little w32 (r / 1000000000)) (little w32 (r % 1000000000)) (bytes_4 (r / 1000000000)) (bytes_4 (r % 1000000000))

blob-bytes : (bytes : List ℕ) → AreBytes bytes → AreBytes (blob_form.text bytes)
blob-bytes bytes h = both (little w32 (length bytes)) bytes (bytes_4 (length bytes)) h

ticket-bytes : (x : ServiceTicket) → AreBytes x.session → AreBytes x.name.id → AreBytes x.caps → AreBytes (service_ticket_layout.form.text x)
ticket-bytes x session id caps =
    both (u8_form.text 1) _ (bytes_1 1)
    (both (secret_form.text x.session) _ (secret-bytes x.session session)
    (both (name_form.text x.name) _ (name-bytes x.name id)
    (both (u64_form.text x.gid) _ (bytes_8 x.gid)
    (both (reading_form.text x.created) _ (reading-bytes x.created)
    (both (reading_form.text x.expires) (blob_form.text x.caps) (reading-bytes x.expires) (blob-bytes x.caps caps))))))

-- ---- texts and names

pub all-true : {X : Type 0} (P : X → Type 0) (test : X → Bool) → ((x : X) → test x ≡ true → P x) → (xs : List X) → list_all test xs ≡ true → AllByRecursion P xs
all-true P test f [] h = tt
all-true P test f (x ∷ xs) h = let parts = both_true (test x) (list_all test xs) h in (f x parts.0, all-true P test f xs parts.1)

caps-byte : (b : ℕ) → is_caps_byte b ≡ true → b < 256
caps-byte b good = grind (arith, nat_tests)

id-byte : (b : ℕ) → is_id_byte b ≡ true → b < 256
id-byte b good = grind (arith, nat_tests)

pub record AreCaps (caps : List ℕ) : Type 0 where
  pub short : length caps ≤ 4096
  pub bytes : AreBytes caps

pub caps-are : (caps : List ℕ) → is_caps caps ≡ true → AreCaps caps
caps-are caps good =
    let parts = both_true (nat_le (length caps) 4096) (list_all is_caps_byte caps) good in
    record { short = let le : nat_le (length caps) 4096 ≡ true = parts.0 in grind (arith, nat_tests); bytes = all-true IsByte is_caps_byte caps-byte caps parts.1 }

passed_if : {A : Type 0} (good : A → Bool) (a : A) → good a ≡ true → passed good a ≡ Some a
passed_if good a is = rw is refl

record IsNamed (name : Name) : Type 0 where
  fits : name_form.Fits name
  bytes : AreBytes name.id

name-is : (name : Name) → is_id name.kind name.id ≡ true → IsNamed name
unfolding name_form kind_form
name-is name good =
    let parts = both_true (same_kind name.kind Mon || nat_le 1 (length name.id)) (nat_le (length name.id) 64 && list_all is_id_byte name.id) good in
    let more = both_true (nat_le (length name.id) 64) (list_all is_id_byte name.id) parts.1 in
    let short : nat_le (length name.id) 64 ≡ true = more.0 in
    let number = kind_fits name.kind in
    record {
      fits = ((number.0, grind (arith, nat_tests)), ap (λ (k : Option EntityType). with_id name.id k) number.1 ∙ rw good refl);
      bytes = all-true IsByte is_id_byte id-byte name.id more.1;
    }

-- ---- tickets

-- what a ticket says can be written: it is read again as it was, and seals as a content
pub record IsWritable (x : ServiceTicket) : Type 0 where
  pub spells : Spells service_ticket_layout.form (service_ticket_layout.form.text x) x
  pub size : length (service_ticket_layout.form.text x) ≤ 1048576
  pub octets : All (λ b. b < 256) (service_ticket_layout.form.text x)

pub is-writable : (x : ServiceTicket) → length x.session ≡ 16 → AreBytes x.session → is_id x.name.kind x.name.id ≡ true → x.gid < 2 ^ 64 → x.created < 4294967296000000000
    → x.expires < 4294967296000000000 → is_caps x.caps ≡ true → IsWritable x
is-writable x sixteen session named numbered created expires caps =
    let n : IsNamed x.name = name-is x.name named in
    let c : AreCaps x.caps = caps-are x.caps caps in
    let short : length x.caps ≤ 4096 = c.short in
    let fits : service_ticket_layout.form.Fits x = (
      (omega arith, refl),
      (secret_fits x.session sixteen, (n.fits, (numbered, (reading_fits x.created created, (reading_fits x.expires expires, (omega arith, passed_if is_caps x.caps caps)))))),
    ) in
    record {
      spells = (fits, refl);
      size = service_ticket_short x fits;
      octets = All-from_recursion IsByte (service_ticket_layout.form.text x) (ticket-bytes x session n.bytes c.bytes);
    }

-- a ticket that is sealed under a generation opens under its key, where it can be written
pub under-opens : (g : Generation) (t : Issued) (u : IsSealedUnder g t) → IsBlock g.key → IsWritable (said_by t u.session)
    → (unlocked service_ticket_layout.form kind.Service g.key t.blob).value ≡ Some (said_by t u.session)
under-opens g t u block w =
    ap (λ (found : Option (Unsealed ServiceTicket)). (unlocked_as kind.Service g.key found).value)
    (unsealed_only service_ticket_layout.form service_ticket_layout.lawful g.key t.blob (said_by t u.session) block
    (service_ticket_layout.form.text (said_by t u.session), record { size = w.size; octets = w.octets; is_sealed = u.blob }, w.spells))
