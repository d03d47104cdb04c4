-- How long the contents of the records are: laws, which hold no definition.
use Rattle.std.proofs.Common.{◌≡◌, ℕ, ◌+◌, ◌*◌, ◌<◌, ◌≤◌, Bool, true, false, cond, List, [], ◌∷◌, ◌++◌, length, Option, Some, None, refl, sym, ap, ◌∙◌, arith, length-append}
use Rattle.std.specs.Prelude.{nat_le, ◌==◌, ◌&&◌, ◌||◌}
use Rattle.std.specs.List.{AllByRecursion, flat_map, list_all}
use Rattle.std.specs.Int.{w8, w16, w32, w64}
use Rattle.std.proofs.lemmas.Bool.{leb-true, eqb-true}
use Rattle.std.proofs.lemmas.Bool.Decides.{nat_tests}
use Rattle.std.proofs.lemmas.List.Concat.{flat_map-cons}
use Rattle.cx_base.specs.declared.kinds.EntityType.{EntityType}
use Rattle.cx_base.specs.declared.kinds.EntityType.TheVariants.{Mon}
use Rattle.cx_base.specs.Names.{Name, is_id, is_id_byte, same_kind, with_id}
use Rattle.cx_base.specs.Texts.{is_caps, is_caps_byte}
use Rattle.cx_rotate.specs.declared.generations.Generation.{Generation}
use Rattle.cx_enc.specs.Forms.{little, passed}
use Rattle.cx_enc.specs.FieldLaws.{both_true}
use Rattle.cx_enc.specs.Values.{time_form, reading_form, key_form, secret_form, sized_form, kind_form, kind_of, number_of, name_form, flag_form}
use Rattle.cx_sealed.specs.Records.{service_ticket_layout, ticket_info_layout, authorize_layout, authorize_challenge_layout, authorize_reply_layout, generation_layout, rotating_reply_layout, connection_secret_layout, is_rising, is_none_or_three}
use Rattle.cx_sealed.specs.declared.service_ticket.ServiceTicket.{ServiceTicket}
use Rattle.cx_sealed.specs.declared.ticket_info.TicketInfo.{TicketInfo}
use Rattle.cx_sealed.specs.declared.authorize.Authorize.{Authorize}
use Rattle.cx_sealed.specs.declared.authorize_challenge.AuthorizeChallenge.{AuthorizeChallenge}
use Rattle.cx_sealed.specs.declared.authorize_reply.AuthorizeReply.{AuthorizeReply}
use Rattle.cx_sealed.specs.declared.rotating_reply.RotatingReply.{RotatingReply}
use Rattle.cx_sealed.specs.declared.connection_secret.ConnectionSecret.{ConnectionSecret}

-- ---- fields

length-reading : (r : ℕ) → length (reading_form.text r) ≡ 8
unfolding reading_form time_form little
length-reading r = refl

length-secret : (s : List ℕ) → secret_form.Fits s → length (secret_form.text s) ≡ 28
unfolding secret_form key_form little
length-secret s fits = let len : length s ≡ 16 = fits.0.0.1.1.1.1 in omega (arith, len)

length-kind : (k : EntityType) → length (kind_form.text k) ≡ 4
unfolding kind_form little
length-kind k = refl

length-sized : (n : ℕ) (bytes : List ℕ) → length bytes ≡ n → length ((sized_form n).text bytes) ≡ 4 + n
unfolding sized_form little
length-sized n bytes len = omega (arith, len)

passed_good : {A : Type 0} (good : A → Bool) (a x : A) → passed good a ≡ Some x → good a ≡ true
passed_good {A} good a x e = by_test (good a) refl e
  where
    by_test : (t : Bool) → good a ≡ t → cond t (Some a) None ≡ Some x → good a ≡ true
    by_test true is made = is
    by_test false is made = absurd cc

sized_len : (n : ℕ) (bytes : List ℕ) → (sized_form n).Fits bytes → length bytes ≡ n
unfolding sized_form
sized_len n bytes fits = eqb-true (length bytes) n (passed_good (λ (b : List ℕ). length b == n) bytes bytes fits.1)

length-name : (name : Name) → length (name_form.text name) ≡ 8 + length name.id
unfolding name_form little
length-name name = omega arith

id_short : (id : List ℕ) (o : Option EntityType) (name : Name) → with_id id o ≡ Some name → length id ≤ 64
id_short id None name e = absurd cc
id_short id (Some kind) name e = by_test (is_id kind id) refl e
  where
    by_test : (t : Bool) → is_id kind id ≡ t → cond t (Some (record { kind = kind; id = id })) None ≡ Some name → length id ≤ 64
    by_test true good made =
        let parts = both_true (same_kind kind Mon || nat_le 1 (length id)) (nat_le (length id) 64 && list_all is_id_byte id) good in
        let short = both_true (nat_le (length id) 64) (list_all is_id_byte id) parts.1 in
        leb-true (length id) 64 short.0
    by_test false bad made = absurd cc

name_short : (name : Name) → name_form.Fits name → length name.id ≤ 64
unfolding name_form
name_short name fits = id_short name.id (kind_of (number_of name.kind)) name fits.1

caps_short : (caps : List ℕ) → is_caps caps ≡ true → length caps ≤ 4096
caps_short caps good = leb-true (length caps) 4096 (both_true (nat_le (length caps) 4096) (list_all is_caps_byte caps) good).0

-- ---- records

pub length-service_ticket : (x : ServiceTicket) → service_ticket_layout.form.Fits x → length (service_ticket_layout.form.text x) ≡ 65 + (length x.name.id + length x.caps)
unfolding little
length-service_ticket x fits =
    omega (arith, length-append {A = ℕ}, length-secret x.session fits.1.0, length-name x.name, length-reading x.created, length-reading x.expires)

pub service_ticket_short : (x : ServiceTicket) → service_ticket_layout.form.Fits x → length (service_ticket_layout.form.text x) ≤ 1048576
service_ticket_short x fits =
    let caps : is_caps x.caps ≡ true = passed_good is_caps x.caps x.caps fits.1.1.1.1.1.1.1 in
    omega (arith, length-service_ticket x fits, name_short x.name fits.1.1.0, caps_short x.caps caps)

pub length-ticket_info : (x : TicketInfo) → ticket_info_layout.form.Fits x → length (ticket_info_layout.form.text x) ≡ 49
unfolding little
length-ticket_info x fits =
    omega (arith, length-append {A = ℕ}, length-kind x.service, length-secret x.session fits.1.1.0, length-reading x.created, length-reading x.expires)

pub ticket_info_short : (x : TicketInfo) → ticket_info_layout.form.Fits x → length (ticket_info_layout.form.text x) ≤ 1048576
ticket_info_short x fits = omega (arith, length-ticket_info x fits)

pub length-authorize : (x : Authorize) → length (authorize_layout.form.text x) ≡ 18
unfolding little flag_form
length-authorize x = refl

pub authorize_short : (x : Authorize) → authorize_layout.form.Fits x → length (authorize_layout.form.text x) ≤ 1048576
authorize_short x fits = omega (arith, length-authorize x)

pub length-authorize_challenge : (x : AuthorizeChallenge) → length (authorize_challenge_layout.form.text x) ≡ 9
unfolding little
length-authorize_challenge x = refl

pub authorize_challenge_short : (x : AuthorizeChallenge) → authorize_challenge_layout.form.Fits x → length (authorize_challenge_layout.form.text x) ≤ 1048576
authorize_challenge_short x fits = omega (arith, length-authorize_challenge x)

pub length-authorize_reply : (x : AuthorizeReply) → authorize_reply_layout.form.Fits x → length (authorize_reply_layout.form.text x) ≡ 77
unfolding little
length-authorize_reply x fits = omega (arith, length-sized 64 x.secret (sized_len 64 x.secret fits.1.1))

pub authorize_reply_short : (x : AuthorizeReply) → authorize_reply_layout.form.Fits x → length (authorize_reply_layout.form.text x) ≤ 1048576
authorize_reply_short x fits = omega (arith, length-authorize_reply x fits)

pub length-connection_secret : (x : ConnectionSecret) → connection_secret_layout.form.Fits x → length (connection_secret_layout.form.text x) ≡ 69
unfolding little
length-connection_secret x fits = omega (arith, length-sized 64 x.secret (sized_len 64 x.secret fits.1))

pub connection_secret_short : (x : ConnectionSecret) → connection_secret_layout.form.Fits x → length (connection_secret_layout.form.text x) ≤ 1048576
connection_secret_short x fits = omega (arith, length-connection_secret x fits)

length-generation : (g : Generation) → generation_layout.form.Fits g → length (generation_layout.form.text g) ≡ 44
unfolding little
length-generation g fits = omega (arith, length-append {A = ℕ}, length-secret g.key fits.1.0, length-reading g.expires)

length-generations : (gs : List Generation) → AllByRecursion generation_layout.form.Fits gs → length (flat_map generation_layout.form.text gs) ≡ 44 * length gs
length-generations [] fits = refl
length-generations (g ∷ gs) fits =
    omega (arith, ap length (flat_map-cons generation_layout.form.text g gs), length-append (generation_layout.form.text g) (flat_map generation_layout.form.text gs), length-generation g fits.0, length-generations gs fits.1)

at_most_three : (n : ℕ) → is_none_or_three n ≡ true → n ≤ 3
at_most_three n good = grind (arith, nat_tests)

pub length-rotating_reply : (x : RotatingReply) → rotating_reply_layout.form.Fits x → length (rotating_reply_layout.form.text x) ≡ 9 + 44 * length x.generations
unfolding little
length-rotating_reply x fits = omega (arith, length-append {A = ℕ}, length-kind x.service, length-generations x.generations fits.1.1.0.1.1)

pub rotating_reply_short : (x : RotatingReply) → rotating_reply_layout.form.Fits x → length (rotating_reply_layout.form.text x) ≤ 1048576
rotating_reply_short x fits =
    let count : is_none_or_three (length x.generations) ≡ true = passed_good is_none_or_three (length x.generations) (length x.generations) fits.1.1.0.0.1 in
    omega (arith, length-rotating_reply x fits, at_most_three (length x.generations) count)
