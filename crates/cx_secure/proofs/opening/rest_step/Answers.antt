use Rattle.std.proofs.Common.{◌≡◌, ℕ, List, Result, ◌+◌, subst, sym, ap, ◌∙◌}
use Rattle.cx_frame.specs.declared.frame.Frame.{Frame}
use Rattle.cx_gcm.specs.GcmKeyOf.{gcm_key_of}
use Rattle.cx_gcm.specs.Gcm.{IsNonce}
use Rattle.cx_secure.specs.Opening.{IsRestBehind, rest_of}
use Rattle.cx_secure.specs.Parts.{nonce_at}
use Rattle.cx_secure.specs.Plains.{one_if, second_len}
use Rattle.cx_secure.specs.declared.refusals.SecureRefusal.{SecureRefusal}
use Rattle.cx_secure.specs.Refusing.{Agrees}
use Rattle.cx_secure.proofs.Answering.{agrees_ok}
use Rattle.cx_secure.proofs.SealedLaws.{rest_again, rest_found}
use Rattle.cx_secure.proofs.opening.rest_step.Goals as goal

pub returns-clause-only : goal.returns-clause-only
returns-clause-only c = λ f below is.
    let key : List ℕ = gcm_key_of c.args.key.now in
    let fixed : List ℕ = c.args.way.now.fixed in
    let counter : ℕ = c.args.way.now.counter in
    let h = c.args.head.now in
    let bytes : List ℕ = c.args.bytes.now in
    let after : counter + c.one_if.result ≡ counter + one_if (second_len h.preamble) = ap (λ m. counter + m) (c.one_if.ensures.value ∙ ap (λ m. one_if m) c.second_len.ensures.value) in
    let next : IsNonce (nonce_at fixed (counter + one_if (second_len h.preamble))) = subst (λ m. IsNonce (nonce_at fixed m)) after c.nonce_at-next_nonce.ensures.nonce in
    subst (λ (r : Result Frame SecureRefusal). Agrees c.rest_of.result r)
    (ap (λ n. rest_of key n c.nonce_at-next_nonce.result h bytes) c.nonce_at-first_nonce.ensures.value
    ∙ ap (λ n. rest_of key (nonce_at fixed counter) n h bytes) (c.nonce_at-next_nonce.ensures.value ∙ ap (nonce_at fixed) after)
    ∙ rest_again key fixed counter h bytes f c.args.key.now.schedule.expanded.block c.nonce_at-first_nonce.ensures.nonce next c.requires.allowed is)
    c.rest_of.ensures.value

pub returns-clause-found : goal.returns-clause-found
returns-clause-found c =
    let key : List ℕ = gcm_key_of c.args.key.now in
    let fixed : List ℕ = c.args.way.now.fixed in
    let counter : ℕ = c.args.way.now.counter in
    let h = c.args.head.now in
    let bytes : List ℕ = c.args.bytes.now in
    let after : counter + c.one_if.result ≡ counter + one_if (second_len h.preamble) = ap (λ m. counter + m) (c.one_if.ensures.value ∙ ap (λ m. one_if m) c.second_len.ensures.value) in
    let next : IsNonce (nonce_at fixed (counter + one_if (second_len h.preamble))) = subst (λ m. IsNonce (nonce_at fixed m)) after c.nonce_at-next_nonce.ensures.nonce in
    let same : rest_of key (nonce_at fixed counter) (nonce_at fixed (counter + one_if (second_len h.preamble))) h bytes ≡ rest_of key c.nonce_at-first_nonce.result c.nonce_at-next_nonce.result h bytes =
    ap (λ n. rest_of key n (nonce_at fixed (counter + one_if (second_len h.preamble))) h bytes) (sym c.nonce_at-first_nonce.ensures.value)
    ∙ ap (λ n. rest_of key c.nonce_at-first_nonce.result n h bytes) (sym (c.nonce_at-next_nonce.ensures.value ∙ ap (nonce_at fixed) after))
    in
    agrees_ok c.rest_of.result (rest_of key c.nonce_at-first_nonce.result c.nonce_at-next_nonce.result h bytes) (IsRestBehind key fixed counter h bytes) c.rest_of.ensures.value c.rest_of.ensures.inline
    (λ f inline read. rest_found key fixed counter h bytes f c.args.key.now.schedule.expanded.block c.nonce_at-first_nonce.ensures.nonce next c.requires.allowed inline c.requires.len (same ∙ read))
