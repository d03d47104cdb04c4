use Rattle.std.proofs.Common.{[], map, ap, ◌∙◌, arith, get_or-set_other, get_or-set_same}
use Rattle.cx_aes.specs.Inverse.{inverse_mix_columns}
use Rattle.cx_aes.specs.InverseBasis.{back}
use Rattle.cx_aes.proofs.Keys.{key_at, round_key_none}
use Rattle.cx_aes.proofs.expansion.backward_keys.Goals as goal

pub returns : goal.returns
returns c = λ k e.
    let keys = c.args.keys.now in
    let backward = c.loop-n.backward in
    let all = c.loop-n.invariant in
    let last = c.back-2.result in
    record {
      first = get_or-set_other backward 10 0 last [] (omega arith) ∙ all.first ∙ key_at k keys e 0 (omega arith) ∙ round_key_none k;
      within = λ n low lt.
          get_or-set_other backward 10 n last [] (omega arith) ∙ all.changed n low (omega arith)
          ∙ ap (λ v. map back (inverse_mix_columns v)) (key_at k keys e n (omega arith));
      final = get_or-set_same backward 10 last [] (omega (arith, all.len)) ∙ c.back-2.ensures ∙ ap (map back) (key_at k keys e 10 (omega arith));
    }
