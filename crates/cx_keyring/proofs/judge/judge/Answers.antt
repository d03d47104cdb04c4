use Rattle.std.proofs.Common.{◌≡◌, ◌+◌, List, [], ◌∷◌, ◌++◌, take, drop, length, sym, ap, ◌∙◌, arith, subst}
use Rattle.std.proofs.lemmas.List.{length-take-le, take_more}
use Rattle.cx_keyring.specs.declared.lines.Line.{Line}
use Rattle.cx_keyring.specs.Faults.{first_bad, or_later}
use Rattle.cx_keyring.specs.Judged.{Judges}
use Rattle.cx_keyring.proofs.Judging.{judged_line}
use Rattle.cx_keyring.proofs.judge.judge.Goals as goal

pub returns-in-Some-clause-bad : goal.returns-in-Some-clause-bad
returns-in-Some-clause-bad c =
    let step = judged_line c.loop-i.judged c.args.lines.now c.loop-i.i c.index-lines-i.result c.is_repeated-repeated.result c.is_keyless-keyless.result c.fault_of.result c.loop-i-test.true c.index-lines-i.is c.loop-i.invariant.judges c.is_repeated-repeated.ensures c.is_keyless-keyless.ensures c.fault_of.ensures in
    c.loop-i.invariant.same ∙ step ∙ ap (λ fault. or_later (c.loop-i.i + 1) fault (first_bad (take (c.loop-i.i + 1) c.args.lines.now) (drop (c.loop-i.i + 1) c.args.lines.now))) c.in-Some.is

pub loop-i-preserved : goal.loop-i-preserved
loop-i-preserved c =
    let all = c.args.lines.now in
    let i = c.loop-i.i in
    let step = judged_line c.loop-i.judged all i c.index-lines-i.result c.is_repeated-repeated.result c.is_keyless-keyless.result c.fault_of.result c.loop-i-test.true c.index-lines-i.is c.loop-i.invariant.judges c.is_repeated-repeated.ensures c.is_keyless-keyless.ensures c.fault_of.ensures in
    let n : length (take i all) ≡ i = length-take-le i all (omega arith) in
    let more : take i all ++ c.index-lines-i.result ∷ [] ≡ take (i + 1) all = ap (λ (x : Line). take i all ++ x ∷ []) c.index-lines-i.is ∙ sym (take_more all i c.index-lines-i.result c.loop-i-test.true) in
    let P : List Line → Type 0 = λ before. Judges c.go_on.new.self before in
    record {
      judges = subst P more (c.in_ok-go_on.ensures (take i all) n c.loop-i.invariant.judges);
      same = c.loop-i.invariant.same ∙ step ∙ ap (λ fault. or_later (i + 1) fault (first_bad (take (i + 1) all) (drop (i + 1) all))) c.in_default.is;
    }
