-- What the steps of the chain say, one behind the other, and that the chain is the verdict.
use Rattle.std.proofs.Common.{◌≡◌, ℕ, ◌<◌, Bool, true, false, cond, List, [], ◌∷◌, All, Option, Some, None, Result, Ok, Err, refl, sym, ap, subst, ◌∙◌, inl, inr}
use Rattle.std.specs.Prelude.{MatchBool, find, ◌==◌}
use Rattle.std.specs.List.{AllByRecursion}
use Rattle.std.specs.Option.{option_map}
use Rattle.std.specs.declared.alloc.AllocError.{AllocError}
use Rattle.std.proofs.lemmas.List.{append-nil}
use Rattle.cx_sealed.specs.cx_aes.specs.Cipher.{IsBlock}
use Rattle.cx_base.specs.Names.{same_kind}
use Rattle.cx_wire.specs.cx_control.specs.Calls.{IsRefusedFor, stop_of}
use Rattle.cx_wire.specs.cx_control.specs.declared.refusals.WireRefusal.TheVariants as wire
use Rattle.cx_enc.specs.Forms.{Spot, IsBytes}
use Rattle.cx_enc.specs.Layouts.{Layout}
use Rattle.cx_enc.specs.Whole.{start, Spells}
use Rattle.cx_enc.specs.declared.faults.ReadFault.{ReadFault}
use Rattle.cx_enc.proofs.Wholes.{spelled}
use Rattle.cx_journal.specs.declared.premises.KeyKind.TheVariants as kind
use Rattle.cx_rotate.specs.declared.generations.Generation.{Generation}
use Rattle.cx_sealed.specs.Records.{service_ticket_layout, authorize_layout}
use Rattle.cx_sealed.specs.Unsealing.{read_to_end, spelled_by, unless_left}
use Rattle.cx_sealed.specs.declared.service_ticket.ServiceTicket.{ServiceTicket}
use Rattle.cx_sealed.proofs.Found.{spelled_found, spelled_only}
use Rattle.cx_steps.specs.declared.seals.SealEntry.{SealEntry}
use Rattle.cx_wire.specs.Logins.{authorizer_layout}
use Rattle.cx_wire.specs.declared.authorizers.Authorizer.{Authorizer}
use Rattle.cx_login.specs.Opening.{generation_key}
use Rattle.cx_login.specs.Unlocking.{unlocked}
use Rattle.cx_authorize.specs.declared.refusals.AuthFault.{AuthFault}
use Rattle.cx_authorize.specs.declared.refusals.AuthRefusal.{AuthRefusal}
use Rattle.cx_authorize.specs.declared.refusals.AuthRefusal.TheVariants.{Malformed, WrongService}
use Rattle.cx_authorize.specs.declared.judging.Terms.{Terms}
use Rattle.cx_authorize.specs.declared.judging.Shown.{Shown}
use Rattle.cx_authorize.specs.Verdict.{fault_of, with_blob, IsJudgedByFault, IsJudgedByTicket, IsJudgedByKey, IsVerdict}
use Rattle.cx_authorize.specs.Judging.{refused_as, judged_by_fault, judged_by_ticket, judged_by_key, judged_with, judged_by_service, judged_by_payload, judged, Judges}
use Rattle.cx_authorize.specs.Agreement.{IsTheVerdict}
use Rattle.cx_authorize.proofs.Opened.{opens_of, session_block, tried_of}
use Rattle.cx_authorize.proofs.Verdicts.{verdict_one}

-- ---- the steps

-- ---- the payload

-- what all of the bytes spell
pub spelled_is : {X : Type 0} (layout : Layout X) (bytes : List ℕ) (x : X) → Spells layout.form bytes x → spelled_by layout.form bytes ≡ Some x
spelled_is layout bytes x spells = spelled_only layout.form layout.lawful bytes x spells

-- bytes that spell nothing
pub unspelled_is : {X : Type 0} (layout : Layout X) (bytes : List ℕ) → IsBytes bytes → ((x : X) → Spells layout.form bytes x → ⊥) → spelled_by layout.form bytes ≡ None
unspelled_is {X} layout bytes octets none = by_read (layout.form.at (start bytes)) refl
  where
    by_left : (x : X) (next : Spot) (left : List ℕ) → next.left ≡ left → layout.form.at (start bytes) ≡ Ok (x, next) → unless_left x left ≡ None
    by_left x next [] empty read = absurd (none x (spelled layout.form layout.lawful bytes x next octets read empty))
    by_left x next (b ∷ left) some read = refl

    by_read : (r : Result (X × Spot) ReadFault) → layout.form.at (start bytes) ≡ r → read_to_end r ≡ None
    by_read (Ok (x, next)) is = by_left x next next.left refl is
    by_read (Err fault) is = refl

pub judges_spelled : (terms : Terms) (payload : List ℕ) (a : Authorizer) (old new : List SealEntry) (result : Result (Result Shown AuthRefusal) AllocError)
    → Spells authorizer_layout.form payload a → Judges (judged_by_service terms a) old new result → Judges (judged terms payload) old new result
judges_spelled terms payload a old new result spells is =
    subst (λ (o : Option Authorizer). Judges (judged_by_payload terms o (stop_of (authorizer_layout.form.at (start payload)))) old new result)
    (sym (spelled_is authorizer_layout payload a spells)) is

pub judges_malformed : (terms : Terms) (payload : List ℕ) (place : ℕ) (old new : List SealEntry) → IsBytes payload
    → IsRefusedFor authorizer_layout.form payload (wire.Malformed place) → new ≡ old → Judges (judged terms payload) old new (Ok (Err (Malformed place)))
judges_malformed terms payload place old new octets (none, at) same =
    subst (λ (o : Option Authorizer). Judges (judged_by_payload terms o (stop_of (authorizer_layout.form.at (start payload)))) old new (Ok (Err (Malformed place))))
    (sym (unspelled_is authorizer_layout payload octets none))
    (ap (λ p. Err (Malformed p)) at, same ∙ sym (append-nil old))

-- ---- the chain is the verdict

by_fault : (terms : Terms) (a : Authorizer) (ticket : ServiceTicket) (fault : Option AuthFault) → IsBlock ticket.session → IsJudgedByFault terms a ticket fault (judged_by_fault terms a ticket fault).value
by_fault terms a ticket (Some fault) block = refl
by_fault terms a ticket None block = (
  (unlocked authorize_layout.form kind.Session ticket.session a.authorize).value,
  tried_of authorize_layout.form authorize_layout.lawful kind.Session ticket.session a.authorize block,
  refl,
)

by_ticket : (terms : Terms) (a : Authorizer) (opened : Option ServiceTicket) → ((ticket : ServiceTicket) → opened ≡ Some ticket → IsBlock ticket.session)
    → IsJudgedByTicket terms a opened (judged_by_ticket terms a opened).value
by_ticket terms a None block = refl
by_ticket terms a (Some ticket) block = by_fault terms a ticket (fault_of terms.reading a ticket) (block ticket refl)

by_key : (terms : Terms) (a : Authorizer) (found : Option (List ℕ)) → ((key : List ℕ) → found ≡ Some key → IsBlock key) → IsJudgedByKey terms a found (judged_by_key terms a found).value
by_key terms a None block = refl
by_key terms a (Some key) block =
    let opened : Option ServiceTicket = (unlocked service_ticket_layout.form kind.Service key a.ticket.blob).value in (
      opened,
      tried_of service_ticket_layout.form service_ticket_layout.lawful kind.Service key a.ticket.blob (block key refl),
      by_ticket terms a opened
          (λ ticket is. session_block key a.ticket.blob ticket (opens_of service_ticket_layout.form service_ticket_layout.lawful kind.Service key a.ticket.blob ticket is)),
    )

-- the key of a generation is a block
key_block : (generations : List Generation) (id : ℕ) (key : List ℕ) → AllByRecursion (λ g. IsBlock g.key) generations → generation_key generations id ≡ Some key → IsBlock key
key_block [] id key blocks is = absurd cc
key_block (g ∷ gs) id key blocks is = by_test (g.id == id) (find (λ g. g.id == id) gs) (key_block gs id key blocks.1) is
  where
    by_test : (b : Bool) (rest : Option Generation) → (option_map (λ g. g.key) rest ≡ Some key → IsBlock key) → option_map (λ g. g.key) (cond b (Some g) rest) ≡ Some key → IsBlock key
    by_test true rest more is = let same : g.key ≡ key = cc in subst IsBlock same blocks.0
    by_test false rest more is = more is

by_service : (terms : Terms) (a : Authorizer) (b : Bool) → AllByRecursion (λ g. IsBlock g.key) terms.view.generations
    → MatchBool b
    ((j : Result Shown AuthFault) × IsJudgedByKey terms a (generation_key terms.view.generations a.ticket.generation) j
    × ((cond b (judged_with a.ticket.blob (judged_by_key terms a (generation_key terms.view.generations a.ticket.generation))) (refused_as (WrongService terms.service a.service))).value
    ≡ with_blob a.ticket.blob j))
    ((cond b (judged_with a.ticket.blob (judged_by_key terms a (generation_key terms.view.generations a.ticket.generation))) (refused_as (WrongService terms.service a.service))).value
    ≡ Err (WrongService terms.service a.service))
by_service terms a true blocks =
    let found : Option (List ℕ) = generation_key terms.view.generations a.ticket.generation in
    ((judged_by_key terms a found).value, by_key terms a found (λ key is. key_block terms.view.generations a.ticket.generation key blocks is), refl)
by_service terms a false blocks = refl

none_is : (a : Authorizer) (o : Option Authorizer) → o ≡ None → o ≡ Some a → ⊥
none_is a o none some = cc

by_payload : (terms : Terms) (payload : List ℕ) (o : Option Authorizer) → spelled_by authorizer_layout.form payload ≡ o → All (λ b. b < 256) payload
    → AllByRecursion (λ g. IsBlock g.key) terms.view.generations
    → IsVerdict terms payload (judged_by_payload terms o (stop_of (authorizer_layout.form.at (start payload)))).value
by_payload terms payload (Some a) is octets blocks =
    inl (a, spelled_found authorizer_layout.form authorizer_layout.lawful payload a octets is, by_service terms a (same_kind terms.service a.service) blocks)
by_payload terms payload None is octets blocks =
    inr (
      stop_of (authorizer_layout.form.at (start payload)),
      (λ a spells. none_is a (spelled_by authorizer_layout.form payload) is (spelled_is authorizer_layout payload a spells), refl),
      refl,
    )

judged_is : (terms : Terms) (payload : List ℕ) → All (λ b. b < 256) payload → AllByRecursion (λ g. IsBlock g.key) terms.view.generations → IsVerdict terms payload (judged terms payload).value
judged_is terms payload octets blocks = by_payload terms payload (spelled_by authorizer_layout.form payload) refl octets blocks

pub the_verdict : IsTheVerdict
the_verdict terms payload verdict octets blocks =
    let is : IsVerdict terms payload (judged terms payload).value = judged_is terms payload octets blocks in
    (λ other. verdict_one terms payload verdict (judged terms payload).value other is, λ same. subst (λ (v : Result Shown AuthRefusal). IsVerdict terms payload v) (sym same) is)
