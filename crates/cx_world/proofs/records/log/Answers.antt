use Rattle.std.proofs.Common.{◌≡◌, List, ◌++◌, map, map-id, sym, ◌∙◌, subst, rules}
use Rattle.std.proofs.lemmas.Iterator.Adapters.{YieldsList-from_vec}
use Rattle.std.proofs.lemmas.Iterator.Consumers.{YieldsList-end}
use Rattle.cx_premises.specs.Ledgers.{StandsFor}
use Rattle.cx_steps.specs.declared.seals.SealEntry.{SealEntry}
use Rattle.cx_world.specs.Logs.{logged_at}
use Rattle.cx_world.proofs.records.log.Goals as goal

pub returns : goal.returns
returns c =
    λ leaked log k.
    let end = YieldsList-end (YieldsList-from_vec {s = c.into_iter-seal-iterator.result} c.args.seals (search rules) (search rules))
    c.loop-seal.yielded c.loop-seal.seal-iterator c.loop-seal.yielded_by c.next.result c.next.new.self c.in-None.is c.next.ensures.steps in
    let all : c.loop-seal.yielded ≡ c.args.seals = sym (map-id c.loop-seal.yielded) ∙ end.0 in
    let P : List SealEntry → Type 0 = λ es. StandsFor c.loop-seal.ledger leaked (log ++ map (λ (e : SealEntry). logged_at c.args.who.now c.args.line e) es) in
    subst P all (c.loop-seal.invariant leaked log k)
