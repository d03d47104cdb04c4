-- The challenge is short enough for its frame.
use Rattle.std.proofs.Common.{◌≡◌, ◌<◌, ℕ, refl, length, arith}
use Rattle.cx_enc.specs.Forms.{little}
use Rattle.cx_wire.specs.Logins.{server_challenge_layout}

-- a ServerChallenge has nine bytes
pub challenge_short : (n : ℕ) → length (server_challenge_layout.form.text (record { challenge = n })) < 4294967296
unfolding little
challenge_short n =
    let nine : length (server_challenge_layout.form.text (record { challenge = n })) ≡ 9 = refl in omega (arith, nine)
