-- What sealed bytes open to as a function is the record that they are tried to open to.
use Rattle.std.proofs.Common.{◌≡◌, ℕ, ◌<◌, List, All, length, take, drop, Option, Some, None, refl, ap, subst, ◌∙◌}
use Rattle.std.proofs.lemmas.List.{take_at}
use Rattle.std.proofs.lemmas.List.Elements.{All-take, All-drop}
use Rattle.cx_sealed.specs.cx_aes.specs.Cipher.{IsBlock}
use Rattle.cx_enc.specs.Forms.{Form, IsLawful, little}
use Rattle.cx_enc.specs.Values.{secret_form, key_form, time_form}
use Rattle.cx_journal.specs.declared.premises.KeyKind.{KeyKind}
use Rattle.cx_sealed.specs.Records.{service_ticket_layout}
use Rattle.cx_sealed.specs.Sealing.{OpensTo}
use Rattle.cx_sealed.specs.Unsealing.{unsealed}
use Rattle.cx_sealed.specs.declared.refusals.SealedRefusal.TheVariants.{Unopened, Misread}
use Rattle.cx_sealed.specs.declared.service_ticket.ServiceTicket.{ServiceTicket}
use Rattle.cx_sealed.specs.declared.unsealed.Unsealed.{Unsealed}
use Rattle.cx_sealed.proofs.Found.{is_found, is_misread, is_unopened, unsealed_found}
use Rattle.cx_login.specs.Opening.{IsTried}
use Rattle.cx_login.specs.Unlocking.{unlocked_as, unlocked}
use Rattle.cx_login.proofs.Tried.{tried_ok, tried_misread, tried_unopened}

-- the bytes open to the record that is found in them
pub opens_of : {X : Type 0} (form : Form X) → IsLawful form → (kind : KeyKind) (key bytes : List ℕ) (x : X) → (unlocked form kind key bytes).value ≡ Some x → OpensTo form key bytes x
opens_of {X} form lawful kind key bytes x is = by_found (unsealed form key bytes) refl is
  where
    by_found : (found : Option (Unsealed X)) → found ≡ unsealed form key bytes → (unlocked_as kind key found).value ≡ Some x → OpensTo form key bytes x
    by_found None e is = absurd cc
    by_found (Some u) e is = unsealed_found form lawful key bytes u x e is

-- that record, or none, is what they are tried to open to
pub tried_of : {X : Type 0} (form : Form X) → IsLawful form → (kind : KeyKind) (key bytes : List ℕ) → IsBlock key → IsTried form key bytes (unlocked form kind key bytes).value
tried_of {X} form lawful kind key bytes block = by_found (unsealed form key bytes) refl
  where
    by_value : (u : Unsealed X) (value : Option X) → Some u ≡ unsealed form key bytes → u.value ≡ value → IsTried form key bytes value
    by_value u None e is = tried_misread form key bytes Misread refl (is_misread form lawful key bytes block u e is)
    by_value u (Some x) e is = tried_ok form key bytes x (is_found form lawful key bytes block u x e is)

    by_found : (found : Option (Unsealed X)) → found ≡ unsealed form key bytes → IsTried form key bytes (unlocked_as kind key found).value
    by_found None e = tried_unopened form key bytes Unopened refl (is_unopened form key bytes block e)
    by_found (Some u) e = by_value u u.value e refl

-- the session key of a ticket that opened is a block
pub session_block : (key bytes : List ℕ) (ticket : ServiceTicket) → OpensTo service_ticket_layout.form key bytes ticket → IsBlock ticket.session
unfolding little secret_form key_form time_form
session_block key bytes ticket (content, opens, (fits, is)) =
    let len : length ticket.session ≡ 16 = fits.1.0.0.0.1.1.1.1 in
    let at : take 16 (drop 13 content) ≡ ticket.session = ap (λ (c : List ℕ). take 16 (drop 13 c)) is ∙ take_at ticket.session _ 16 len in
    record { len = len; bytes = subst (All (λ b. b < 256)) at (All-take (λ b. b < 256) 16 (drop 13 content) (All-drop (λ b. b < 256) 13 content opens.octets)) }
