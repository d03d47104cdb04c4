use Rattle.std.proofs.Common.{◌%◌, ◌≡◌, length, drop, ap, ◌∙◌, arith}
use Rattle.std.proofs.lemmas.List.{take_at}
use Rattle.std.specs.List.{concat}
use Rattle.std.proofs.lemmas.List.Elements.{All-from_get_or}
use Rattle.cx_aes.specs.KeyOf.{key_of}
use Rattle.cx_cbc.specs.Chain.{blocks_of, cbc}
use Rattle.cx_cbc.specs.Envelope.{initial_vector, sealed}
use Rattle.cx_cbc.proofs.Contents.{IsByte, whole-enveloped}
use Rattle.cx_cbc.proofs.sealing.seal.Goals as goal

pub chain_in_place-requires : goal.chain_in_place-requires
chain_in_place-requires c = ap (λ xs. length xs % 16) (c.as_mut_slice.ensures.value ∙ c.in_ok-bytes.ensures) ∙ whole-enveloped c.args.content.now

pub returns-clause-bytes : goal.returns-clause-bytes
unfolding sealed
returns-clause-bytes c =
    let len : length c.chain_in_place.new.bytes ≡ c.in_ok-bytes.bytes.len = c.chain_in_place.ensures.len ∙ c.as_mut_slice.ensures.len in
    c.from.ensures
    ∙ take_at c.chain_in_place.new.bytes (drop (length c.chain_in_place.new.bytes) c.in_ok-bytes.bytes.items) c.in_ok-bytes.bytes.len len
    ∙ c.chain_in_place.ensures.sealed
    ∙ ap (λ plain. concat (cbc (key_of c.args.key.now) initial_vector (blocks_of plain))) (c.as_mut_slice.ensures.value ∙ c.in_ok-bytes.ensures)

pub returns-clause-opens : goal.returns-clause-opens
returns-clause-opens c = record {
  size = c.if-content-gt-LONGEST.false;
  octets = All-from_get_or IsByte c.args.content.now 0 (λ i lt. omega (arith, c.type_inv.content i));
  is_sealed = returns-clause-bytes c;
}
