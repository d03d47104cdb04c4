use Rattle.std.proofs.Common.{◌≡◌, ◌+◌, ◌-◌, ◌++◌, length, ap, sym, ◌∙◌, arith, length-append}
use Rattle.cx_secure.proofs.Answering.{always}
use Rattle.cx_secure.specs.Plains.{last_len, second_len, tagged}
use Rattle.cx_secure.proofs.Lengths.{behind_len, last_small, second_room, tagged_large, tagged_most, tagged_text}
use Rattle.cx_secure.proofs.opening.rest_of.Goals as goal

pub opened_some-requires-clause-long : goal.opened_some-requires-clause-long
opened_some-requires-clause-long c = λ some.
    let e : length c.split_at.result.0.now ≡ tagged c.second_len.result = c.split_at.ensures.front_len ∙ c.tagged-front.ensures.value in
    rw e (tagged_large c.second_len.result (λ z. some (e ∙ z)))

pub opened_some-requires-2-clause-long : goal.opened_some-requires-2-clause-long
opened_some-requires-2-clause-long c = λ some.
    let p = c.args.head.now.preamble in
    let e : length c.split_at.result.1.now ≡ tagged (last_len p) =
    behind_len p (length c.args.bytes.now) (length c.split_at.result.1.now) c.requires.len (let front : c.tagged-front.result ≡ tagged (second_len p) = c.tagged-front.ensures.value ∙ ap tagged c.second_len.ensures.value in omega (arith, c.split_at.ensures.back_len, front))
    in
    rw e (tagged_large (last_len p) (λ z. some (e ∙ z)))

pub opened_some-requires-2-clause-short : goal.opened_some-requires-2-clause-short
opened_some-requires-2-clause-short c =
    let p = c.args.head.now.preamble in
    let e : length c.split_at.result.1.now ≡ tagged (last_len p) =
    behind_len p (length c.args.bytes.now) (length c.split_at.result.1.now) c.requires.len (let front : c.tagged-front.result ≡ tagged (second_len p) = c.tagged-front.ensures.value ∙ ap tagged c.second_len.ensures.value in omega (arith, c.split_at.ensures.back_len, front))
    in
    omega (arith, e, tagged_most (last_len p), last_small p c.requires.allowed)

pub frame_at-requires-clause-room : goal.frame_at-requires-clause-room
frame_at-requires-clause-room c =
    let p = c.args.head.now.preamble in
    let e : length c.split_at.result.0.now ≡ tagged (second_len p) = c.split_at.ensures.front_len ∙ c.tagged-front.ensures.value ∙ ap tagged c.second_len.ensures.value in
    let len : length c.in-Some.second ≡ length c.split_at.result.0.now - 16 = rw c.in-Some.is at c.in_ok-second.ensures.len in
    let second : length c.in-Some.second ≡ second_len p = len ∙ ap (λ n. n - 16) e ∙ tagged_text (second_len p) in
    let seen : length c.bytes.result.now ≡ length c.in-Some.second = ap length c.bytes.ensures in
    omega (arith, second_room p, c.in_ok-room.ensures.len, second, seen)

pub frame_at-requires-clause-last : goal.frame_at-requires-clause-last
frame_at-requires-clause-last c =
    let p = c.args.head.now.preamble in
    let e : length c.split_at.result.1.now ≡ tagged (last_len p) =
    behind_len p (length c.args.bytes.now) (length c.split_at.result.1.now) c.requires.len (let front : c.tagged-front.result ≡ tagged (second_len p) = c.tagged-front.ensures.value ∙ ap tagged c.second_len.ensures.value in omega (arith, c.split_at.ensures.back_len, front))
    in
    let len : length c.in-Some-last.last ≡ length c.split_at.result.1.now - 16 = rw c.in-Some-last.is at c.in_ok-last.ensures.len in
    ap length c.bytes-2.ensures ∙ len ∙ ap (λ n. n - 16) e ∙ tagged_text (last_len p)

pub returns-clause-inline : goal.returns-clause-inline
returns-clause-inline c =
    let all : length (c.args.head.now.inline ++ c.bytes.result.now) ≡ 48 + length c.bytes.result.now = ap length (sym c.in_ok-room.ensures.text) ∙ c.in_ok-room.ensures.len in
    always c.frame_at.result (omega (arith, all, length-append c.args.head.now.inline c.bytes.result.now))
