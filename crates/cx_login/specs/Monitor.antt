-- The monitor's side of a login ("detailed cephx protocol": the proof is compared, and the global id of an old ticket is kept).
use Rattle.std.specs.Prelude.{ℕ, ◌≡◌, ◌==◌, ◌&&◌, ◌++◌, not, List, Option, Some, None, Result, Ok, Err, nat_lt, if◌then◌else◌}
use Rattle.std.specs.Int.{w64, to_le_bytes}
use Rattle.cx_base.specs.Names.{Name, same_name}
use Rattle.cx_steps.specs.cx_journal.specs.declared.premises.KeyKind.TheVariants.{Proof}
use Rattle.cx_sealed.specs.declared.service_ticket.ServiceTicket.{ServiceTicket}
use Rattle.cx_steps.specs.declared.seals.SealEntry.{SealEntry}
use Rattle.cx_steps.specs.declared.seals.SealEntry.TheVariants.{Checked}
use Rattle.cx_wire.specs.declared.logins.Authenticate.{Authenticate}
use Rattle.cx_login.specs.Proving.{due_proof}
use Rattle.cx_login.specs.declared.monitor.Reclaim.{Reclaim}
use Rattle.cx_login.specs.declared.monitor.Reclaim.TheVariants.{Kept, Fresh, Denied}
use Rattle.cx_login.specs.declared.refusals.WrongProof.{WrongProof}

-- a challenge that was offered to the entity of this name, which has this secret
pub record Offer : Type 0 where
  pub name : Name
  pub secret : List ℕ
  pub challenge : ℕ

-- an offer, and the Authenticate that proved it
pub record Proven : Type 0 where
  pub offer : Offer
  pub ask : Authenticate

-- the proof of the Authenticate is the one that is due
abbrev pub IsProved : Offer → Authenticate → Type 0
IsProved offer ask = due_proof offer.secret offer.challenge ask.client_challenge ≡ ask.key

-- an Authenticate proves an offer where its proof is the one that is due
abbrev pub compared : ℕ → Offer → Authenticate → Result Proven WrongProof
compared due offer ask =
    if due == ask.key
    then Ok (record { offer = offer; ask = ask })
    else Err (record { expected = due; got = ask.key })

abbrev pub proving : Offer → Authenticate → Result Proven WrongProof
proving offer ask = compared (due_proof offer.secret offer.challenge ask.client_challenge) offer ask

-- what is found equal: the content of a proof, which is both challenges, under the entity's secret
abbrev pub proof_found : Offer → ℕ → SealEntry
proof_found offer client_challenge = Checked (record {
  key = offer.secret;
  kind = Proof;
  content = to_le_bytes w64 offer.challenge ++ to_le_bytes w64 client_challenge;
})

-- the global id that an opened old ticket keeps: it is the proved entity's, and expires after the reading
abbrev pub kept_gid : Name → ℕ → Option ServiceTicket → Option ℕ
kept_gid name now None = None
kept_gid name now (Some ticket) = if same_name ticket.name name && nat_lt now ticket.expires then Some ticket.gid else None

-- What is decided, by the global id of the LoginHello, the version of the Authenticate, and the id that is kept. Version 3 beside a
-- global id would rather be denied than get a new one.
abbrev pub reclaimed : ℕ → ℕ → Option ℕ → Reclaim
reclaimed hello version (Some gid) = Kept gid
reclaimed hello version None = if (version == 3) && not (hello == 0) then Denied hello else Fresh
