-- The numbers are those of the sealed bytes behind their length.
use Rattle.std.proofs.Common.{◌≡◌, ◌++◌, refl, ap, ◌∙◌}
use Rattle.std.specs.Int.{w32, w64, to_le_bytes}
use Rattle.cx_cbc.specs.Envelope.{sealed}
use Rattle.cx_sealed.specs.Proof.{first_four_added}
use Rattle.cx_sealed.proofs.Words.{added_behind}
use Rattle.cx_sealed.proofs.login_proof.proof.Goals as goal

pub returns : goal.returns
returns c =
    let bytes : c.seal_16-sealed.result ≡ sealed c.args.key.now (to_le_bytes w64 c.args.server_challenge ++ to_le_bytes w64 c.args.client_challenge) =
    rw (c.seal_16-sealed.ensures, c.new.ensures, c.to_le_bytes-server.ensures, c.to_le_bytes-client.ensures) refl in
    rw (c.first_number.ensures, c.number_at.ensures, c.number_at-2.ensures, c.number_at-3.ensures)
    (added_behind c.seal_16-sealed.result ∙ ap (λ s. first_four_added (to_le_bytes w32 32 ++ s)) bytes)
