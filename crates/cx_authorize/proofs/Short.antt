-- A sealed record can be written in a blob, and that blob in a frame.
use Rattle.std.proofs.Common.{◌≡◌, ℕ, ◌≤◌, ◌<◌, ◌^◌, List, length, get_or, ap, arith}
use Rattle.cx_sealed.specs.cx_aes.proofs.Keys.{IsBlock-array}
use Rattle.cx_sealed.specs.cx_cbc.proofs.Contents.{length-opens}
use Rattle.cx_enc.specs.Forms.{Form, little}
use Rattle.cx_enc.specs.Whole.{Spells}
use Rattle.cx_sealed.specs.Sealing.{IsSealed}
use Rattle.cx_wire.specs.Logins.{authorize_challenge_layout, authorize_reply_layout}
use Rattle.cx_wire.specs.declared.authorizers.AuthorizeChallenge.{AuthorizeChallenge}
use Rattle.cx_wire.specs.declared.authorizers.AuthorizeReply.{AuthorizeReply}

pub short_sealed : {X : Type 0} (form : Form X) (key : List ℕ) (x : X) (bytes : List ℕ) → length key ≡ 16 → ((i : ℕ) → get_or key i 0 < 256) → IsSealed form key x bytes → length bytes ≤ 1048592
short_sealed form key x bytes len small is = length-opens key bytes is.opens.0 (IsBlock-array key len small) is.opens.1

pub short_challenge : (challenge : AuthorizeChallenge) (bytes : List ℕ) → length challenge.sealed ≤ 1048592 → Spells authorize_challenge_layout.form bytes challenge
    → length bytes < 2 ^ 32
unfolding little
short_challenge challenge bytes short spells = omega (arith, ap length spells.1)

pub short_reply : (reply : AuthorizeReply) (bytes : List ℕ) → length reply.sealed ≤ 1048592 → Spells authorize_reply_layout.form bytes reply → length bytes < 2 ^ 32
unfolding little
short_reply reply bytes short spells = omega (arith, ap length spells.1)
