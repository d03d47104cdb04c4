-- The proof of a login, as a word that no proof above opens.
use Rattle.std.specs.Prelude.{ℕ, List}
use Rattle.cx_sealed.specs.Proof.{login_proof}

-- the proof that is due: what this secret makes of the monitor's challenge and the client's
unfoldable pub due_proof : List ℕ → ℕ → ℕ → ℕ
due_proof secret server client = login_proof secret server client
