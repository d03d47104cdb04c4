use Rattle.std.proofs.Common.{◌≡◌, ◌<◌, ◌++◌, ℕ, List, Option, Ok, Result, Err, length, take, drop, refl, sym, subst, ap, ◌∙◌, arith, length-take}
use Rattle.std.proofs.lemmas.List.{take-append-drop}
use Rattle.cx_secure.specs.Contents.{head_contents}
use Rattle.cx_secure.specs.Sealings.{connection_key}
use Rattle.cx_secure.specs.declared.sealing.Head.{Head}
use Rattle.cx_secure.specs.declared.sealing.Sealing.{Sealing}
use Rattle.cx_secure.specs.declared.refusals.SecureRefusal.{SecureRefusal}
use Rattle.cx_stream.specs.Held.{IsOpen}
use Rattle.cx_stream.proofs.Contents.{err_is, refused_front, refused_needs}
use Rattle.cx_stream.proofs.SecureTurns.{Read, already_open, head_read, none_ready, now_open, refused_answer, refused_unkept, refuses_head, steady_now}
use Rattle.cx_stream.proofs.stages.Secure.ready.Goals as goal

pub returns-in-Some-head-clause-readied : goal.returns-in-Some-head-clause-readied
returns-in-Some-head-clause-readied c =
    already_open c.args.self.now c.self.inside.sealing c.self.inside.head c.in-Some-head.head c.self.inside.rest.items c.self.view_is c.in-Some-head.is (sym c.in_default.ensures) c.self.invariant

pub returns-in_default-split_first_chunk-clause-readied : goal.returns-in_default-split_first_chunk-clause-readied
returns-in_default-split_first_chunk-clause-readied c =
    let short : length c.self.inside.rest.items < 96 = omega (arith, ap length c.as_slice.ensures, c.in_default-split_first_chunk.ensures.cases) in
    let both = none_ready c.args.self.now c.self.inside.sealing c.self.inside.head c.self.inside.rest.items c.self.view_is c.in_default-head.is (sym c.in_default.ensures) short in
    (refl, both.0, both.1)

pub invariant_of-self : goal.invariant_of-self
invariant_of-self c =
    let parts = c.in-Some-split_first_chunk.ensures.cases in
    let front : List ℕ = c.in-Some-split_first_chunk.front.now in
    let len : length front ≡ 96 = omega (arith, ap length parts.0, length-take 96 c.as_slice.result.now, parts.2) in
    let answer : Result Head SecureRefusal = Ok c.in-Ok.head in
    subst (λ (x : Sealing). IsOpen x c.in-Ok.head) (sym c.pass_head.ensures)
    (steady_now c.self.inside.sealing front c.in-Ok.head len (head_read c.self.inside.sealing front answer (sym c.in_default.ensures) (sym c.in-Ok.ensures.exact)) c.in-Ok.ensures.found)

pub returns-in-Ok-clause-readied : goal.returns-in-Ok-clause-readied
returns-in-Ok-clause-readied c =
    let parts = c.in-Some-split_first_chunk.ensures.cases in
    let front : List ℕ = c.in-Some-split_first_chunk.front.now in
    let left : List ℕ = c.advance.new.self.items in
    let len : length front ≡ 96 = omega (arith, ap length parts.0, length-take 96 c.as_slice.result.now, parts.2) in
    let answer : Result Head SecureRefusal = Ok c.in-Ok.head in
    let bytes_are : c.self.inside.rest.items ≡ front ++ left =
    sym (take-append-drop 96 c.self.inside.rest.items) ∙ ap (λ b. b ++ drop 96 c.self.inside.rest.items) (ap (take 96) (sym c.as_slice.ensures) ∙ sym parts.0) ∙ ap (λ b. front ++ b) (sym c.advance.ensures.items)
    in
    now_open c.args.self.now _ c.self.inside.sealing c.pass_head.new.self c.self.inside.head c.self.inside.rest.items front left c.in-Ok.head c.self.view_is c.in_default-head.is refl
    bytes_are len (sym c.in_default.ensures) c.pass_head.ensures
    (head_read c.self.inside.sealing front answer (sym c.in_default.ensures) (sym c.in-Ok.ensures.exact)) c.in-Ok.ensures.found

pub returns-in_ok-hand_out_head-in-Err-clause-readied : goal.returns-in_ok-hand_out_head-in-Err-clause-readied
returns-in_ok-hand_out_head-in-Err-clause-readied c =
    let parts = c.in-Some-split_first_chunk.ensures.cases in
    let rest : List ℕ = c.self.inside.rest.items in
    let front : List ℕ = c.in-Some-split_first_chunk.front.now in
    let len : length front ≡ 96 = omega (arith, ap length parts.0, length-take 96 c.as_slice.result.now, parts.2) in
    let bytes_are : rest ≡ front ++ drop 96 rest = sym (take-append-drop 96 rest) ∙ ap (λ b. b ++ drop 96 rest) (ap (take 96) (sym c.as_slice.ensures) ∙ sym parts.0) in
    refuses_head c.args.self.now _ c.self.inside.sealing c.keep.new.self c.self.inside.head rest front (drop 96 rest) c.in-Err.refusal c.self.view_is c.in_default-head.is refl
    bytes_are len (sym c.in_default.ensures) c.keep.ensures (sym c.in-Err.ensures.exact)

pub returns-in_ok-hand_out_head-in-Err-clause-handed : goal.returns-in_ok-hand_out_head-in-Err-clause-handed
returns-in_ok-hand_out_head-in-Err-clause-handed c = λ refusal free is not.
    let parts = c.in-Some-split_first_chunk.ensures.cases in
    let rest : List ℕ = c.self.inside.rest.items in
    let front : List ℕ = c.in-Some-split_first_chunk.front.now in
    let len : length front ≡ 96 = omega (arith, ap length parts.0, length-take 96 c.as_slice.result.now, parts.2) in
    let bytes_are : rest ≡ front ++ drop 96 rest = sym (take-append-drop 96 rest) ∙ ap (λ b. b ++ drop 96 rest) (ap (take 96) (sym c.as_slice.ensures) ∙ sym parts.0) in
    c.in_ok-hand_out_head-in-Err.ensures.ok
    ∙ ap (λ (cs : List (List ℕ)). c.args.opened.now ++ cs)
    (sym (refused_front c.args.self.now c.self.inside.sealing c.self.inside.head rest front (drop 96 rest) c.in-Err.refusal c.self.view_is c.in_default-head.is bytes_are len (sym c.in_default.ensures) (sym c.in-Err.ensures.exact)))

pub returns-in_ok-hand_out_head-in-Err-clause-sure : goal.returns-in_ok-hand_out_head-in-Err-clause-sure
returns-in_ok-hand_out_head-in-Err-clause-sure c = λ refusal sure is.
    let parts = c.in-Some-split_first_chunk.ensures.cases in
    let rest : List ℕ = c.self.inside.rest.items in
    let front : List ℕ = c.in-Some-split_first_chunk.front.now in
    let len : length front ≡ 96 = omega (arith, ap length parts.0, length-take 96 c.as_slice.result.now, parts.2) in
    let bytes_are : rest ≡ front ++ drop 96 rest = sym (take-append-drop 96 rest) ∙ ap (λ b. b ++ drop 96 rest) (ap (take 96) (sym c.as_slice.ensures) ∙ sym parts.0) in
    refused_unkept c.args.self.now c.in-Err.refusal
    (refused_answer c.args.self.now c.self.inside.sealing c.self.inside.head rest front (drop 96 rest) c.in-Err.refusal c.self.view_is c.in_default-head.is bytes_are len (sym c.in_default.ensures) (sym c.in-Err.ensures.exact))
    ∙ ap (λ (e : SecureRefusal). let r : Read = Err e in r) (err_is {X = Option Head} c.in-Err.refusal refusal is)

pub returns-in_err-hand_out_head-in-Err-clause-sure : goal.returns-in_err-hand_out_head-in-Err-clause-sure
returns-in_err-hand_out_head-in-Err-clause-sure c = λ refusal sure is.
    let parts = c.in-Some-split_first_chunk.ensures.cases in
    let rest : List ℕ = c.self.inside.rest.items in
    let front : List ℕ = c.in-Some-split_first_chunk.front.now in
    let len : length front ≡ 96 = omega (arith, ap length parts.0, length-take 96 c.as_slice.result.now, parts.2) in
    let bytes_are : rest ≡ front ++ drop 96 rest = sym (take-append-drop 96 rest) ∙ ap (λ b. b ++ drop 96 rest) (ap (take 96) (sym c.as_slice.ensures) ∙ sym parts.0) in
    absurd (refused_needs c.args.self.now c.in-Err.refusal (head_contents (connection_key c.self.inside.sealing) c.self.inside.sealing.into.fixed c.self.inside.sealing.into.counter front)
    (refused_answer c.args.self.now c.self.inside.sealing c.self.inside.head rest front (drop 96 rest) c.in-Err.refusal c.self.view_is c.in_default-head.is bytes_are len (sym c.in_default.ensures) (sym c.in-Err.ensures.exact))
    (refused_front c.args.self.now c.self.inside.sealing c.self.inside.head rest front (drop 96 rest) c.in-Err.refusal c.self.view_is c.in_default-head.is bytes_are len (sym c.in_default.ensures) (sym c.in-Err.ensures.exact))
    c.in_err-hand_out_head-in-Err.ensures.memory sure)
