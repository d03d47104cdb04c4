-- What may be forgotten of an acceptor's link, and its rows in which acceptors don't differ.
use Rattle.std.proofs.Common.{◌≡◌, ℕ, ◌==◌, ◌++◌, Bool, true, false, List, [], ◌∷◌, map, Result, Ok, Err, refl, ap}
use Rattle.std.specs.Prelude.{not, if◌then◌else◌}
use Rattle.std.specs.List.{list_any}
use Rattle.std.specs.Option.{option_map}
use Rattle.cx_login.specs.cx_control.specs.Idents.{ident_missing_features_layout}
use Rattle.cx_login.specs.cx_control.specs.declared.auth.AuthRequest.{AuthRequest}
use Rattle.cx_login.specs.cx_control.specs.declared.auth.AuthSignature.{AuthSignature}
use Rattle.cx_login.specs.cx_control.specs.declared.hello.Hello.{Hello}
use Rattle.cx_login.specs.cx_journal.specs.declared.faults.BytesFault.{BytesFault}
use Rattle.cx_login.specs.cx_journal.specs.declared.faults.BytesFault.TheVariants.{Features}
use Rattle.cx_login.specs.cx_journal.specs.declared.faults.LoginFault.TheVariants.{Method, Mode, SignatureWrong}
use Rattle.cx_login.specs.cx_journal.specs.declared.outcomes.Reason.TheVariants as reason
use Rattle.cx_rules.specs.Abridged.{IsWithin, abridged_at, abridged_link, unsigned}
use Rattle.cx_rules.specs.Acceptor.{Stage, AwaitsBanner, AwaitsHello, AwaitsRequest, AwaitsProof, AwaitsSignature, AwaitsIdent, Open, denies, misses, missing_told, on_auth_request, on_hello, on_signature}
use Rattle.cx_rules.specs.Links.{Link, link_of}
use Rattle.cx_rules.specs.Payloads.{control}
use Rattle.cx_rules.specs.Rows.{Arrival, Row, at, goes_on, refused_entry, refuses}
use Rattle.cx_rules.specs.Secured.{SealedFrame, Secured, is_signed, secure_frame, signature_found}
use Rattle.cx_rules.proofs.Abridging.{Alike, Forgets, link_of_map}
use Rattle.cx_rules.proofs.AlikeRows.{RowWithin, SameAhead, cut-fed, goes-alike, refuses-alike}

module _ {Pending Proven Peer : Type 0} where
  number-of : (l : Link (Stage Pending Proven Peer)) (stage : Stage Pending Proven Peer) → (abridged_at l stage).number ≡ l.number
  number-of l AwaitsBanner = refl
  number-of l AwaitsHello = refl
  number-of l AwaitsRequest = refl
  number-of l (AwaitsProof pending) = refl
  number-of l (AwaitsSignature s peer) = refl
  number-of l (AwaitsIdent s peer) = refl
  number-of l (Open s peer) = refl

  twice-of : (l : Link (Stage Pending Proven Peer)) (stage : Stage Pending Proven Peer)
      → (let k : Link (Stage Pending Proven Peer) = record l { stage = stage } in abridged_link (abridged_link k)) ≡ abridged_link (record l { stage = stage })
  twice-of l AwaitsBanner = refl
  twice-of l AwaitsHello = refl
  twice-of l AwaitsRequest = refl
  twice-of l (AwaitsProof pending) = refl
  twice-of l (AwaitsSignature s peer) = refl
  twice-of l (AwaitsIdent s peer) = refl
  twice-of l (Open s peer) = refl

  sends-of : (l : Link (Stage Pending Proven Peer)) (stage : Stage Pending Proven Peer) (bytes : List ℕ)
      → (let k : Link (Stage Pending Proven Peer) = abridged_link (record l { stage = stage }) in abridged_link (record k { sent = k.sent ++ bytes }))
      ≡ abridged_link (record l { sent = l.sent ++ bytes; stage = stage })
  sends-of l AwaitsBanner bytes = refl
  sends-of l AwaitsHello bytes = refl
  sends-of l AwaitsRequest bytes = refl
  sends-of l (AwaitsProof pending) bytes = refl
  sends-of l (AwaitsSignature s peer) bytes = refl
  sends-of l (AwaitsIdent s peer) bytes = refl
  sends-of l (Open s peer) bytes = refl

  comes-of : (l : Link (Stage Pending Proven Peer)) (stage : Stage Pending Proven Peer) (bytes : List ℕ) → IsWithin l
      → (let k : Link (Stage Pending Proven Peer) = abridged_link (record l { stage = stage }) in abridged_link (record k { received = k.received ++ bytes }))
      ≡ abridged_link (record l { received = l.received ++ bytes; stage = stage })
  comes-of l AwaitsBanner bytes w = refl
  comes-of l AwaitsHello bytes w = refl
  comes-of l AwaitsRequest bytes w = refl
  comes-of l (AwaitsProof pending) bytes w = refl
  comes-of l (AwaitsSignature s peer) bytes w = cut-fed l (AwaitsSignature s peer) bytes w
  comes-of l (AwaitsIdent s peer) bytes w = cut-fed l (AwaitsIdent (unsigned s) peer) bytes w
  comes-of l (Open s peer) bytes w = cut-fed l (Open (unsigned s) peer) bytes w

  pub acceptor-forgets : Forgets (abridged_link {Pending = Pending} {Proven = Proven} {Peer = Peer})
  acceptor-forgets = record {
    number = λ l. number-of l l.stage;
    twice = λ l. twice-of l l.stage;
    sends = λ l bytes. sends-of l l.stage bytes;
    comes = λ l bytes w. comes-of l l.stage bytes w;
  }

  -- ---- a table of them

  pub acceptor_link_of : (n : ℕ) (links : List (Link (Stage Pending Proven Peer))) → link_of n (map abridged_link links) ≡ option_map abridged_link (link_of n links)
  acceptor_link_of n links = link_of_map abridged_link acceptor-forgets.number n links

module _ {Own Pending Proven Peer : Type 0} where
  -- ---- rows with plain frames

  pub hello-within : (a : Arrival Own (Stage Pending Proven Peer)) (hello : Result Hello BytesFault) → IsWithin a.link → RowWithin (on_hello a hello)
  hello-within a (Ok hello) w = w
  hello-within a (Err why) w = tt

  pub request-within : (by_role : Arrival Own (Stage Pending Proven Peer) → List ℕ → Row Own (Stage Pending Proven Peer)) (a : Arrival Own (Stage Pending Proven Peer))
      (request : Result AuthRequest BytesFault) → ((bytes : List ℕ) → RowWithin (by_role a bytes)) → RowWithin (on_auth_request by_role a request)
  request-within by_role a (Err why) each = tt
  request-within by_role a (Ok request) each = by_tests (not (request.method == 2)) (not (list_any (λ mode. mode == 2) request.modes))
    where
      by_tests : (other plain : Bool) → RowWithin (if other then denies a 95 Method [] else if plain then denies a 95 Mode [] else by_role a request.payload)
      by_tests true plain = tt
      by_tests false true = tt
      by_tests false false = each request.payload

  -- ---- AUTH_SIGNATURE, CLIENT_IDENT

  pub signature-alike : (a : Arrival Own (Stage Pending Proven Peer)) (l : Link (Stage Pending Proven Peer)) (s : Secured) (peer : Proven) (found : Result AuthSignature BytesFault)
      → SameAhead l a.link → IsWithin a.link → Alike abridged_link (on_signature (at a l) s peer found) (on_signature a s peer found)
  signature-alike a l s peer (Err why) e w = refuses-alike abridged_link a l (reason.Bytes why) [] e.number
  signature-alike a l s peer (Ok found) e w = by_test (is_signed s found.signature)
    where
      by_test : (right : Bool) → Alike abridged_link
          (if right then goes_on (at a l) (AwaitsIdent s peer) [] (signature_found s ∷ []) else refuses (at a l) (reason.Login SignatureWrong) [])
          (if right then goes_on a (AwaitsIdent s peer) [] (signature_found s ∷ []) else refuses a (reason.Login SignatureWrong) [])
      by_test true =
          goes-alike abridged_link a l (AwaitsIdent s peer) (AwaitsIdent s peer) (AwaitsIdent (unsigned s) peer) [] (signature_found s ∷ []) e w (λ k. refl) (λ k. refl)
      by_test false = refuses-alike abridged_link a l (reason.Login SignatureWrong) [] e.number

  missing-alike : (a : Arrival Own (Stage Pending Proven Peer)) (l : Link (Stage Pending Proven Peer)) (features : ℕ) (sealed : Result SealedFrame BytesFault)
      → SameAhead l a.link → Alike abridged_link (missing_told (at a l) features sealed) (missing_told a features sealed)
  missing-alike a l features (Err why) e = refuses-alike abridged_link a l (reason.Bytes why) [] e.number
  missing-alike a l features (Ok sealed) e =
      let with : ℕ → Row Own (Stage Pending Proven Peer) = λ n. record (missing_told a features (Ok sealed)) { entries = refused_entry a.me n (reason.Bytes (Features features)) ∷ [] } in
      record { kept = ap with e.number; within = tt }

  pub misses-alike : (a : Arrival Own (Stage Pending Proven Peer)) (l : Link (Stage Pending Proven Peer)) (s : Secured) (features : ℕ)
      → SameAhead l a.link → Alike abridged_link (misses (at a l) (unsigned s) features) (misses a s features)
  misses-alike a l s features e =
      missing-alike a l features (secure_frame s.keys (control 10 ident_missing_features_layout.form (record { features = features }))) e
