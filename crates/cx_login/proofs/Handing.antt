-- What the key server hands out is read as exactly these tickets and this secret.
use Rattle.std.proofs.Common.{◌≡◌, ℕ, ◌<◌, List, [], ◌∷◌, ◌++◌, All, length, get_or, map, take, drop, Option, Some, None, Result, Ok, Err, refl, ap, subst, ◌∙◌}
use Rattle.std.specs.List.{AllByRecursion}
use Rattle.std.proofs.lemmas.List.{take_at}
use Rattle.std.proofs.lemmas.List.Elements.{All-take, All-drop}
use Rattle.cx_sealed.specs.cx_aes.specs.Cipher.{IsBlock}
use Rattle.cx_sealed.specs.cx_aes.proofs.Keys.{IsBlock-array}
use Rattle.cx_enc.specs.Forms.{Form, IsLawful, little}
use Rattle.cx_enc.specs.Whole.{Spells}
use Rattle.cx_enc.specs.Values.{kind_form, reading_form, secret_form, key_form, time_form}
use Rattle.cx_steps.specs.cx_journal.specs.declared.premises.KeyKind.{KeyKind}
use Rattle.cx_steps.specs.cx_journal.specs.declared.premises.KeyKind.TheVariants as kind
use Rattle.cx_sealed.specs.Records.{ticket_info_layout, connection_secret_layout}
use Rattle.cx_sealed.specs.Sealing.{OpensTo}
use Rattle.cx_sealed.specs.declared.ticket_info.TicketInfo.{TicketInfo}
use Rattle.cx_sealed.specs.declared.unsealed.Unsealed.{Unsealed}
use Rattle.cx_sealed.proofs.Found.{unsealed_only}
use Rattle.cx_steps.specs.declared.seals.SealEntry.{SealEntry}
use Rattle.cx_wire.specs.Logins.{login_done_layout}
use Rattle.cx_wire.specs.declared.logins.LoginDone.{LoginDone}
use Rattle.cx_login.specs.Held.{held_as, Yields}
use Rattle.cx_login.specs.Unlocking.{Unlocked, made, going_on, ◌>>=◌, unlocked_as, unlocked, told, told_each, login_of_parts, login_in}
use Rattle.cx_login.specs.Client.{IsDone}
use Rattle.cx_login.specs.Handed.{Handed, IsToldUnder, held_of, part_of, IsHandedOut, login_of, TakesHandedOut}
use Rattle.cx_login.specs.declared.client.LoggedIn.{LoggedIn}
use Rattle.cx_login.specs.declared.refusals.LoginRefusal.{LoginRefusal}
use Rattle.cx_login.specs.declared.refusals.LoginRefusal.TheVariants.{Malformed, Unopened, OutOfMemory}
use Rattle.cx_login.proofs.Tried.{spells_one}

-- 16 bytes are a block
pub is_block : (s : List ℕ) → length s ≡ 16 → ((i : ℕ) → get_or s i 0 < 256) → IsBlock s
is_block s len octets = IsBlock-array s len octets

-- the session key that a TicketInfo tells is a block
session_block : (key bytes : List ℕ) (info : TicketInfo) → OpensTo ticket_info_layout.form key bytes info → IsBlock info.session
unfolding little kind_form secret_form key_form time_form
session_block key bytes info (content, opens, (fits, is)) =
    let len : length info.session ≡ 16 = fits.1.1.0.0.0.1.1.1.1 in
    let at : take 16 (drop 17 content) ≡ info.session = ap (λ (c : List ℕ). take 16 (drop 17 c)) is ∙ take_at info.session (reading_form.text info.created ++ reading_form.text info.expires) 16 len in
    record { len = len; bytes = subst (All (λ b. b < 256)) at (All-take (λ b. b < 256) 16 (drop 17 content) (All-drop (λ b. b < 256) 17 content opens.octets)) }

-- ---- one part and then the next

opens_to : {X : Type 0} (form : Form X) → IsLawful form → (k : KeyKind) (key bytes : List ℕ) (x : X) → IsBlock key → OpensTo form key bytes x → (unlocked form k key bytes).value ≡ Some x
opens_to {X} form lawful k key bytes x block to = ap (λ (u : Option (Unsealed X)). (unlocked_as k key u).value) (unsealed_only form lawful key bytes x block to)

then_is : {A B : Type 0} (u : Unlocked A) (next : A → Unlocked B) (a : A) → u.value ≡ Some a → (u >>= next).value ≡ (next a).value
then_is {A} u next a e = ap (λ (v : Option A). (going_on u.seals v next).value) e

-- ---- the tickets

told_is : (k : KeyKind) (key : List ℕ) (ticket : Handed) → IsBlock key → IsToldUnder key ticket → (told k key ticket.part).value ≡ Some (held_of ticket)
told_is k key ticket block to =
    then_is (unlocked ticket_info_layout.form k key ticket.part.info) (λ info. made (held_as ticket.part info)) ticket.info
    (opens_to ticket_info_layout.form ticket_info_layout.lawful k key ticket.part.info ticket.info block to)

each_is : (key : List ℕ) (tickets : List Handed) → IsBlock key → AllByRecursion (IsToldUnder key) tickets → (told_each key (map part_of tickets)).value ≡ Some (map held_of tickets)
each_is key [] block to = refl
each_is key (ticket ∷ tickets) block to =
    then_is (told kind.Session key ticket.part) (λ held. told_each key (map part_of tickets) >>= λ rest. made (held ∷ rest)) (held_of ticket) (told_is kind.Session key ticket block to.0)
    ∙ then_is (told_each key (map part_of tickets)) (λ rest. made (held_of ticket ∷ rest)) (map held_of tickets) (each_is key tickets block to.1)

-- ---- the login

login_is : (secret : List ℕ) (auth : Handed) (others : List Handed) (connection payload : List ℕ) (out : IsHandedOut secret auth others connection payload) → IsBlock secret
    → (login_of_parts secret (auth.part ∷ map part_of others) out.sealed).value ≡ Some (login_of auth others connection)
login_is secret auth others connection payload out block =
    let session : List ℕ = auth.info.session in
    let whole : IsBlock session = session_block secret auth.part.info auth.info out.auth_told in
    then_is (told kind.Principal secret auth.part)
    (λ held. told_each held.session (map part_of others) >>= λ tickets. unlocked connection_secret_layout.form kind.Session held.session out.sealed >>= λ opened. made (record { auth = held; tickets = tickets; secret = opened.secret }))
    (held_of auth) (told_is kind.Principal secret auth block out.auth_told)
    ∙ then_is (told_each session (map part_of others))
    (λ tickets. unlocked connection_secret_layout.form kind.Session session out.sealed >>= λ opened. made (record { auth = held_of auth; tickets = tickets; secret = opened.secret }))
    (map held_of others) (each_is session others whole out.others_told)
    ∙ then_is (unlocked connection_secret_layout.form kind.Session session out.sealed) (λ opened. made (record { auth = held_of auth; tickets = map held_of others; secret = opened.secret }))
    (record { secret = connection }) (opens_to connection_secret_layout.form connection_secret_layout.lawful kind.Session session out.sealed (record { secret = connection }) whole out.connection_told)

pub handed_by : (secret payload : List ℕ) (old new : List SealEntry) (result : Result LoggedIn LoginRefusal) → IsBlock secret → IsDone secret payload old new result → TakesHandedOut secret payload result
handed_by secret payload old new result block is auth others connection out = by_result result is
  where
    due : LoginDone
    due = record { tickets = auth.part ∷ map part_of others; connection_secret = out.sealed }

    value_is : (done : LoginDone) → Spells login_done_layout.form payload done → (login_in secret done).value ≡ Some (login_of auth others connection)
    value_is done spells = ap (λ (d : LoginDone). (login_in secret d).value) (spells_one login_done_layout payload done due spells out.spells) ∙ login_is secret auth others connection payload out block

    by_result : (r : Result LoggedIn LoginRefusal) → IsDone secret payload old new r → Yields r (login_of auth others connection)
    by_result (Ok login) (done, spells, made) = let e : Some login ≡ Some (login_of auth others connection) = made.0 ∙ value_is done spells in cc
    by_result (Err Unopened) (done, spells, made) = let e : None ≡ Some (login_of auth others connection) = made.0 ∙ value_is done spells in absurd cc
    by_result (Err (Malformed place)) is = absurd (is.0.0 due out.spells)
    by_result (Err OutOfMemory) is = refl
