-- The server whose state was rotated.
use Rattle.std.proofs.Common.{◌≡◌, ℕ, List, ap, ◌∙◌}
use Rattle.cx_keyring.specs.declared.entries.Entry.{Entry}
use Rattle.cx_rotate.specs.declared.states.KeptState.{KeptState}
use Rattle.cx_keyserver.specs.Servers.{Server, rotated_server, rotated_state}

pub rotated_is : (now : ℕ) (draw : List ℕ) (old : Server) (ring : List Entry) (state new : KeptState) → let held : Server = record { ring = ring; state = state } in held ≡ old → new ≡ rotated_state now draw state
    → let behind : Server = record { ring = ring; state = new } in behind ≡ rotated_server now draw old
rotated_is now draw old ring state new is rotated =
    let with_state : KeptState → Server = λ s. record { ring = ring; state = s } in
    ap with_state rotated ∙ ap (rotated_server now draw) is
