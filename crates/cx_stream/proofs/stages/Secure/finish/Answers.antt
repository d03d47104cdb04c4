use Rattle.std.proofs.Common.{◌≡◌, ◌≤◌, ℕ, List, length, take, drop, refl, ap, ◌∙◌, arith}
use Rattle.cx_secure.specs.Plains.{rest_len}
use Rattle.cx_stream.proofs.Contents.{finish_contents, not_memory}
use Rattle.cx_stream.proofs.SecureTurns.{free_of, gives, refuses_rest}
use Rattle.cx_stream.proofs.stages.Secure.finish.Goals as goal

pub returns-in-Ok-clause-finished : goal.returns-in-Ok-clause-finished
returns-in-Ok-clause-finished c =
    let rest : List ℕ = c.self.inside.rest.items in
    let n : ℕ = rest_len c.args.head.preamble in
    let long : n ≤ length rest = omega (arith, c.rest_len-length.ensures, c.len.ensures.value, c.if-len-length.false) in
    let behind_is : c.split_at.result.0.now ≡ take n rest = c.split_at.ensures.front ∙ ap (λ k. take k c.as_slice.result.now) c.rest_len-length.ensures ∙ ap (take n) c.as_slice.ensures in
    let left_is : c.advance.new.self.items ≡ drop n rest = c.advance.ensures.items ∙ ap (λ k. drop k rest) c.rest_len-length.ensures in
    gives c.args.self.now _ c.self.inside.sealing c.open_rest.new.self c.self.inside.head rest c.advance.new.self.items c.split_at.result.0.now c.args.head c.in-Ok.frame c.self.view_is refl
    long behind_is left_is (free_of c.args.self.now c.self.inside.sealing c.self.inside.head rest c.self.view_is c.requires.free) c.in-Ok.ensures.after c.in-Ok.ensures.exact
    c.in-Ok.ensures.found

pub returns-in-Err-clause-finished : goal.returns-in-Err-clause-finished
returns-in-Err-clause-finished c =
    let rest : List ℕ = c.self.inside.rest.items in
    let n : ℕ = rest_len c.args.head.preamble in
    let long : n ≤ length rest = omega (arith, c.rest_len-length.ensures, c.len.ensures.value, c.if-len-length.false) in
    let behind_is : c.split_at.result.0.now ≡ take n rest = c.split_at.ensures.front ∙ ap (λ k. take k c.as_slice.result.now) c.rest_len-length.ensures ∙ ap (take n) c.as_slice.ensures in
    refuses_rest c.args.self.now _ c.self.inside.sealing c.open_rest.new.self c.self.inside.head rest c.split_at.result.0.now c.args.head c.in-Err.refusal c.self.view_is refl
    long behind_is (free_of c.args.self.now c.self.inside.sealing c.self.inside.head rest c.self.view_is c.requires.free) c.in-Err.ensures.exact c.in-Err.ensures.after

pub returns-in-Err-clause-handed : goal.returns-in-Err-clause-handed
returns-in-Err-clause-handed c = λ some not.
    let rest : List ℕ = c.self.inside.rest.items in
    let n : ℕ = rest_len c.args.head.preamble in
    let behind_is : c.split_at.result.0.now ≡ take n rest = c.split_at.ensures.front ∙ ap (λ k. take k c.as_slice.result.now) c.rest_len-length.ensures ∙ ap (take n) c.as_slice.ensures in
    finish_contents c.args.self.now c.self.inside.sealing c.self.inside.head rest c.split_at.result.0.now c.args.head c.args.opened.now c.push.new.self c.open_rest.new.contents c.in_ok-content.content
    c.self.view_is behind_is c.in_ok-content.ensures c.in_ok-push.ensures.ok
    (c.in-Err.ensures.handed (free_of c.args.self.now c.self.inside.sealing c.self.inside.head rest c.self.view_is c.requires.free) (not_memory c.in-Err.refusal not))
