use Rattle.std.proofs.Common.{◌≡◌, ◌+◌, [], refl, ap, ◌∙◌, sym, inl, inr, arith, length-set, get_or-set_same, get_or-set_other}
use Rattle.std.proofs.lemmas.Bool.{cases_lt}
use Rattle.std.proofs.lemmas.List.FromFn.{fill_by_all}
use Rattle.cx_aes.specs.Field.{xtimes}
use Rattle.cx_aes.specs.Cipher.{next_key, round_constant, round_key}
use Rattle.cx_aes.proofs.Keys.{round_constant_more, round_key_more}
use Rattle.cx_aes.proofs.expansion.round_keys.Goals as goal

pub loop-made-init : goal.loop-made-init
unfolding round_constant round_key
loop-made-init c = record {
  len = refl;
  constant = refl;
  expanded = λ k le. let zero : k ≡ 0 = omega arith in rw zero refl;
}

pub loop-made-preserved : goal.loop-made-preserved
loop-made-preserved c =
    let i = c.loop-made.made in
    let before = c.loop-made.invariant in
    record {
      len = length-set _ _ _ ∙ before.len;
      constant = c.doubled-constant.ensures ∙ ap xtimes before.constant ∙ sym (round_constant_more i);
      expanded = λ k le.
          elim (cases_lt k (i + 1)) [
            | inl lt ↦
                get_or-set_other c.loop-made.keys (i + 1) k c.next_key.result [] (omega arith) ∙ before.expanded k (omega arith)
            | inr ge ↦
                let here : k ≡ i + 1 = omega arith in
                rw here
                (get_or-set_same c.loop-made.keys (i + 1) c.next_key.result [] (omega arith)
                ∙ c.next_key.ensures (i + 1) before.constant
                ∙ ap (λ v. next_key v (i + 1)) (before.expanded i (omega arith))
                ∙ sym (round_key_more c.args.key.now i))
          ];
    }

pub returns : goal.returns
returns c =
    let filled = c.loop-made.invariant in
    fill_by_all (round_key c.args.key.now) c.loop-made.keys 11 [] filled.len (λ k lt. filled.expanded k (omega arith))
