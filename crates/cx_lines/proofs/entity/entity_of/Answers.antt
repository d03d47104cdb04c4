use Rattle.std.proofs.Common.{◌≤◌, ◌+◌, sym, refl, arith, length, Bor, List, ℕ}
use Rattle.cx_lines.proofs.Pairs.{all_read, bad_pair, half_pair, named_front, not_whole, reads_more}
use Rattle.cx_lines.proofs.entity.entity_of.Goals as goal

pub returns-in_default-2 : goal.returns-in_default-2
returns-in_default-2 c =
    let some : 1 ≤ length c.args.words.now = omega (arith, c.pairs.invariant.within, c.pairs.invariant.some) in
    let read = rw c.in_default-2.is at c.in_ok-grant.ensures.read in
    not_whole c.args.known.now (λ (w : Bor (List ℕ)). w.now) c.args.words.now some
    (bad_pair c.args.known.now (λ (w : Bor (List ℕ)). w.now) c.args.words.now c.pairs.at c.pairs.grants _ _ c.pairs.invariant c.pairs-test.true (sym read))

pub pairs-preserved : goal.pairs-preserved
pairs-preserved c =
    let read = rw c.in-Some-2.is at c.in_ok-grant.ensures.read in
    let spelled = rw c.in-Some-2.is at c.in_ok-grant.ensures.spelled in
    rw c.in_ok-push.ensures.ok
    (reads_more c.args.known.now (λ (w : Bor (List ℕ)). w.now) c.args.words.now c.pairs.at c.pairs.grants c.in-Some-2.grant _ _ c.pairs.invariant c.pairs-test.true (sym read) spelled.0 spelled.1)

pub returns-then-at-words : goal.returns-then-at-words
returns-then-at-words c =
    let some : 1 ≤ length c.args.words.now = omega (arith, c.pairs.invariant.within, c.pairs.invariant.some) in
    let last : length c.args.words.now ≤ c.pairs.at + 1 = omega arith in
    not_whole c.args.known.now (λ (w : Bor (List ℕ)). w.now) c.args.words.now some
    (half_pair c.args.known.now (λ (w : Bor (List ℕ)). w.now) c.args.words.now c.pairs.at c.pairs.grants c.pairs.invariant c.if-at-words.true last)

pub returns : goal.returns
returns c =
    let some : 1 ≤ length c.args.words.now = omega (arith, c.pairs.invariant.within, c.pairs.invariant.some) in
    let name = rw c.in-Some.is at c.in_ok-name.ensures.spelled in (
      refl,
      named_front c.args.known.now (λ (w : Bor (List ℕ)). w.now) c.args.words.now _ c.in-Some.name c.pairs.grants some name
          (all_read c.args.known.now (λ (w : Bor (List ℕ)). w.now) c.args.words.now c.pairs.at c.pairs.grants c.pairs.invariant c.if-at-words.false),
    )
