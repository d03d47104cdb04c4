-- The kind byte tells which record a content spells, and its layout which value.
use Rattle.std.proofs.Common.{◌≡◌, ℕ, ◌==◌, List, Option, Some, None, Result, Ok, Err, length, refl, ap, sym, ◌∙◌, arith}
use Rattle.std.specs.Prelude.{slice_index, if◌then◌else◌}
use Rattle.cx_enc.specs.declared.faults.ReadFault.{ReadFault}
use Rattle.cx_enc.specs.Forms.{Spot, little}
use Rattle.cx_enc.specs.Whole.{start}
use Rattle.cx_enc.proofs.Wholes.{read_again}
use Rattle.cx_sealed.specs.Kinds.{AnyRecord, of_service_ticket, of_ticket_info, of_authorize, of_authorize_challenge, of_authorize_reply, of_rotating_reply, of_connection_secret, SpellsAny, SpellsOne, IsNoProof}
use Rattle.cx_sealed.specs.Records.{service_ticket_layout, ticket_info_layout, authorize_layout, authorize_challenge_layout, authorize_reply_layout, rotating_reply_layout, connection_secret_layout}
use Rattle.cx_sealed.specs.Lengths.{length-service_ticket, length-ticket_info, length-authorize, length-authorize_challenge, length-authorize_reply, length-rotating_reply, length-connection_secret}

abbrev read_as : {X : Type 0} → (X → AnyRecord) → Result (X × Spot) ReadFault → Option AnyRecord
read_as of (Ok a) = Some (of a.0)
read_as of (Err e) = None

-- the record that a content spells, by its kind byte
record_of : ℕ → List ℕ → Option AnyRecord
record_of kind content =
    if kind == 1 then read_as of_service_ticket (service_ticket_layout.form.at (start content))
    else if kind == 2 then read_as of_ticket_info (ticket_info_layout.form.at (start content))
    else if kind == 3 then read_as of_authorize (authorize_layout.form.at (start content))
    else if kind == 4 then read_as of_authorize_challenge (authorize_challenge_layout.form.at (start content))
    else if kind == 5 then read_as of_authorize_reply (authorize_reply_layout.form.at (start content))
    else if kind == 6 then read_as of_rotating_reply (rotating_reply_layout.form.at (start content))
    else if kind == 7 then read_as of_connection_secret (connection_secret_layout.form.at (start content))
    else None

abbrev some : AnyRecord → Option AnyRecord
some x = Some x

-- what is spelled is the record of its kind byte
spelled_is : (content : List ℕ) (x : AnyRecord) → SpellsAny content x → record_of (slice_index content 0) content ≡ some x
unfolding record_of little
spelled_is content (of_service_ticket x) spells =
    let kind : slice_index content 0 ≡ 1 = ap (λ (c : List ℕ). slice_index c 0) spells.1 in
    rw (kind, read_again service_ticket_layout.form service_ticket_layout.lawful content x spells) refl
spelled_is content (of_ticket_info x) spells =
    let kind : slice_index content 0 ≡ 2 = ap (λ (c : List ℕ). slice_index c 0) spells.1 in
    rw (kind, read_again ticket_info_layout.form ticket_info_layout.lawful content x spells) refl
spelled_is content (of_authorize x) spells =
    let kind : slice_index content 0 ≡ 3 = ap (λ (c : List ℕ). slice_index c 0) spells.1 in
    rw (kind, read_again authorize_layout.form authorize_layout.lawful content x spells) refl
spelled_is content (of_authorize_challenge x) spells =
    let kind : slice_index content 0 ≡ 4 = ap (λ (c : List ℕ). slice_index c 0) spells.1 in
    rw (kind, read_again authorize_challenge_layout.form authorize_challenge_layout.lawful content x spells) refl
spelled_is content (of_authorize_reply x) spells =
    let kind : slice_index content 0 ≡ 5 = ap (λ (c : List ℕ). slice_index c 0) spells.1 in
    rw (kind, read_again authorize_reply_layout.form authorize_reply_layout.lawful content x spells) refl
spelled_is content (of_rotating_reply x) spells =
    let kind : slice_index content 0 ≡ 6 = ap (λ (c : List ℕ). slice_index c 0) spells.1 in
    rw (kind, read_again rotating_reply_layout.form rotating_reply_layout.lawful content x spells) refl
spelled_is content (of_connection_secret x) spells =
    let kind : slice_index content 0 ≡ 7 = ap (λ (c : List ℕ). slice_index c 0) spells.1 in
    rw (kind, read_again connection_secret_layout.form connection_secret_layout.lawful content x spells) refl

pub spells_one : SpellsOne
spells_one content x y first second = one (record_of (slice_index content 0) content) x y (spelled_is content x first) (spelled_is content y second)
  where
    one : (r : Option AnyRecord) (x y : AnyRecord) → r ≡ some x → r ≡ some y → x ≡ y
    one r x y a b = cc

pub is_no_proof : IsNoProof
is_no_proof content (of_service_ticket x) spells = λ sixteen. omega (arith, sixteen, ap length spells.1, length-service_ticket x spells.0)
is_no_proof content (of_ticket_info x) spells = λ sixteen. omega (arith, sixteen, ap length spells.1, length-ticket_info x spells.0)
is_no_proof content (of_authorize x) spells = λ sixteen. omega (arith, sixteen, ap length spells.1, length-authorize x)
is_no_proof content (of_authorize_challenge x) spells = λ sixteen. omega (arith, sixteen, ap length spells.1, length-authorize_challenge x)
is_no_proof content (of_authorize_reply x) spells = λ sixteen. omega (arith, sixteen, ap length spells.1, length-authorize_reply x spells.0)
is_no_proof content (of_rotating_reply x) spells = λ sixteen. omega (arith, sixteen, ap length spells.1, length-rotating_reply x spells.0)
is_no_proof content (of_connection_secret x) spells = λ sixteen. omega (arith, sixteen, ap length spells.1, length-connection_secret x spells.0)
