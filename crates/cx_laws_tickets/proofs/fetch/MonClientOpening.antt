-- A link to the monitor of one that logs in, from the monitor's signature until it is open: CLIENT_IDENT is what it says first under a key of its own challenge, and
-- a daemon's first request behind SERVER_IDENT.
use Rattle.std.proofs.Common.{◌≡◌, ℕ, List, Some, Ok}
use Rattle.cx_base.specs.Names.{Name}
use Rattle.cx_base.specs.declared.nodes.NodeName.{NodeName}
use Rattle.cx_control.specs.Auth.{auth_signature_layout}
use Rattle.cx_control.specs.declared.auth.AuthSignature.{AuthSignature}
use Rattle.cx_frame.specs.declared.frame.Frame.{Frame}
use Rattle.cx_journal.specs.declared.entries.Entry.{Entry}
use Rattle.cx_laws_tickets.specs.cx_laws_keys.proofs.keys.Known.{Inv}
use Rattle.cx_laws_tickets.specs.cx_laws_keys.proofs.keys.Premises.{AreGranted, behind}
use Rattle.cx_laws_tickets.specs.cx_laws_keys.proofs.keys.Uses.{Grows, Means, Use, Uses, WholeRun}
use Rattle.cx_laws_keys.specs.cx_rules.specs.Connector.{MonClientArrival, MonClientRow, AwaitsIdent, Login, Open, Stage, on_signature, while_identified}
use Rattle.cx_laws_keys.specs.cx_rules.specs.Fronts.{keys_behind, opened_parts, sealed_ahead, taking}
use Rattle.cx_laws_keys.specs.cx_rules.specs.Links.{Link}
use Rattle.cx_laws_keys.specs.cx_rules.specs.Payloads.{due}
use Rattle.cx_laws_keys.specs.cx_rules.specs.Requests.{no_requests}
use Rattle.cx_laws_keys.specs.cx_rules.specs.Rows.{at, with_opened}
use Rattle.cx_laws_keys.specs.cx_rules.specs.Secured.{Secured, under}
use Rattle.cx_steps.specs.Premises.{IsExcepted}
use Rattle.cx_steps.specs.declared.seals.Logged.{Logged}
use Rattle.cx_steps.specs.declared.seals.SealEntry.{SealEntry}
use Rattle.cx_laws_keys.specs.cx_stream.specs.SecureStreams.{secure_frame_at}
use Rattle.cx_laws_tickets.proofs.fetch.AskedKnown.{AreFirst, AreTold, MonClientTold, Events, IsLoginKey, IsUnsaid, MoreEvents, Told}
use Rattle.cx_laws_tickets.proofs.fetch.AskedWords.{asked_frame}
use Rattle.cx_laws_tickets.proofs.fetch.MonClientMoves.{MonClientMoves, mon_client-moves, mon_client-taken, mon_client-takes}
use Rattle.cx_laws_tickets.proofs.fetch.MonClientSays.{IsSaidAt, KeepsIdent, KeepsOpen, identified-says, signature-says}
use Rattle.cx_laws_tickets.proofs.fetch.MonitorMoves.{IsAnyLogin}
use Rattle.cx_laws_tickets.proofs.fetch.RowWords.{opened-quiet, opened-says}
use Rattle.cx_laws_tickets.proofs.fetch.Signed.{mon_client-begins, signature-part}

module _ (run : WholeRun) (whole : List Logged) (us vs : Uses) (log : List Logged) (J : List Entry) (n : NodeName) (line : ℕ)
    (one : (k : List ℕ) (u v : Use) → Means vs k u → Means vs k v → u ≡ v) (f : Grows us vs) (i : Inv run whole us log J) (E F : Events) (more : MoreEvents E F) (told : Told)
    (t : AreTold run E us told log) (name : Name) (link : ℕ) (s : Secured) (l : Link Stage) (g : Frame) (m : ℕ) where
  -- behind the monitor's signature, where the key is of the challenge that this link drew
  pub signature-moves : (challenge : ℕ) → IsLoginKey us s.keys.key name challenge → IsUnsaid E us told name link challenge → AreFirst s.keys → (login : Login) (a : MonClientArrival)
      → F.was_asked name a.reading → (found : AuthSignature) → due 7 auth_signature_layout.form g ≡ Ok found
      → (let row : MonClientRow = with_opened (opened_parts (sealed_ahead s.keys l)) (on_signature (at a (taking l m)) (under s (keys_behind s.keys g)) login (due 7 auth_signature_layout.form g)) in
      MonClientMoves (KeepsIdent l.number) run F vs told (behind n line row.seals log) name link s.keys.key row)
  signature-moves challenge is unsaid first login a now found read =
      let k : Secured = under s (keys_behind s.keys g) in
      let b : MonClientArrival = at a (taking l m) in
      let opened : List SealEntry = opened_parts (sealed_ahead s.keys l) in
      let row : MonClientRow = with_opened opened (on_signature b k login (due 7 auth_signature_layout.form g)) in
      let begins = mon_client-begins run E us told log name link challenge s g t is unsaid first (signature-part g found read) in
      mon_client-moves run whole us vs log J n line one f i E F more told t name link k begins.0 (KeepsIdent l.number) a.reading 0 now begins.1 row
      (opened-says asked_frame (IsAnyLogin vs) (KeepsIdent l.number) (IsSaidAt a.reading 0) opened k (on_signature b k login (due 7 auth_signature_layout.form g))
      (opened-quiet (sealed_ahead s.keys l)) (signature-says (IsAnyLogin vs) b k login (due 7 auth_signature_layout.form g)))

  -- behind SERVER_IDENT
  pub ident-moves : (session : List ℕ) → MonClientTold E us told log name link (AwaitsIdent s session) → (IsExcepted run.leaked whole n s.keys.key → ⊥)
      → AreGranted run.leaked whole n line log (opened_parts (sealed_ahead s.keys l)) → secure_frame_at (sealed_ahead s.keys l) ≡ Ok (Some (g, m)) → (a : MonClientArrival)
      → F.was_asked name a.reading
      → (let row : MonClientRow = with_opened (opened_parts (sealed_ahead s.keys l)) (while_identified (at a (taking l m)) (under s (keys_behind s.keys g)) session g) in
      MonClientMoves (KeepsOpen Open l.number (no_requests session)) run F vs told (behind n line row.seals log) name link s.keys.key row)
  ident-moves session so held granted read a now =
      let k : Secured = under s (keys_behind s.keys g) in
      let b : MonClientArrival = at a (taking l m) in
      let opened : List SealEntry = opened_parts (sealed_ahead s.keys l) in
      let row : MonClientRow = with_opened opened (while_identified b k session g) in
      let word = mon_client-takes run whole us vs log J n line one f i E F more told t name link s so.0 held l g m granted read in
      let mon_client = mon_client-taken run whole us vs log J n line one f i E F more told t name link s so.0 g word.behind in
      mon_client-moves run whole us vs log J n line one f i E F more told t name link k mon_client (KeepsOpen Open l.number (no_requests session)) a.reading 0 now so.1 row
      (opened-says asked_frame (IsAnyLogin vs) (KeepsOpen Open l.number (no_requests session)) (IsSaidAt a.reading 0) opened k (while_identified b k session g)
      (opened-quiet (sealed_ahead s.keys l)) (identified-says (IsAnyLogin vs) b k session g))
