use Rattle.std.proofs.Common.{◌≡◌, List, ℕ, Option, Some, None, ap, ◌∙◌}
use Rattle.std.proofs.lemmas.Result.{IfOk-weaker}
use Rattle.cx_gcm.specs.GcmKeyOf.{gcm_key_of}
use Rattle.cx_secure.specs.Opening.{IsHead, IsPlainHead, head_of}
use Rattle.cx_secure.specs.Parts.{nonce_at, opened}
use Rattle.cx_secure.proofs.HeadLaws.{head_sealed, opened_again}
use Rattle.cx_secure.proofs.opening.head_step.Goals as goal

pub returns-in-Some-clause-found : goal.returns-in-Some-clause-found
returns-in-Some-clause-found c =
    let key : List ℕ = gcm_key_of c.args.key.now in
    let nonce : List ℕ = nonce_at c.args.way.now.fixed c.args.way.now.counter in
    let is : Some c.in-Some.plain ≡ opened key nonce 80 c.args.bytes.now = c.in-Some.ensures ∙ ap (λ n. opened key n 80 c.args.bytes.now) c.nonce_at-nonce.ensures.value in
    IfOk-weaker c.head_of.result (IsPlainHead c.in-Some.plain) (IsHead key nonce c.args.bytes.now)
    (λ h plain. head_sealed key nonce c.args.bytes.now c.in-Some.plain h c.args.key.now.schedule.expanded.block c.nonce_at-nonce.ensures.nonce c.told-bytes is plain) c.head_of.ensures.found

pub returns-in-Some-clause-only : goal.returns-in-Some-clause-only
returns-in-Some-clause-only c = λ h below sealed.
    let key : List ℕ = gcm_key_of c.args.key.now in
    let nonce : List ℕ = nonce_at c.args.way.now.fixed c.args.way.now.counter in
    let is : Some c.in-Some.plain ≡ opened key nonce 80 c.args.bytes.now = c.in-Some.ensures ∙ ap (λ n. opened key n 80 c.args.bytes.now) c.nonce_at-nonce.ensures.value in
    c.head_of.ensures.value ∙ (ap head_of is ∙ opened_again key nonce c.args.bytes.now h c.args.key.now.schedule.expanded.block c.nonce_at-nonce.ensures.nonce sealed)

pub returns-in-None-clause-only : goal.returns-in-None-clause-only
unfolding head_of
returns-in-None-clause-only c = λ h below sealed.
    let key : List ℕ = gcm_key_of c.args.key.now in
    let nonce : List ℕ = nonce_at c.args.way.now.fixed c.args.way.now.counter in
    let none : Option (List ℕ) = None in
    let is : none ≡ opened key nonce 80 c.args.bytes.now = c.in-None.ensures ∙ ap (λ n. opened key n 80 c.args.bytes.now) c.nonce_at-nonce.ensures.value in
    ap head_of is ∙ opened_again key nonce c.args.bytes.now h c.args.key.now.schedule.expanded.block c.nonce_at-nonce.ensures.nonce sealed
