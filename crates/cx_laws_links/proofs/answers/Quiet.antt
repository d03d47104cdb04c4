-- What a client's link seals behind authentication is nothing of an acceptor: so what was given stays known behind its turns.
use Rattle.std.proofs.Common.{◌≡◌, ℕ, false, List, [], ◌∷◌, ◌++◌, map, Option, Result, Ok, Err, inr, refl, sym, ap, ◌∙◌, subst, arith}
use Rattle.std.proofs.lemmas.Bool.Decides.{nat_tests}
use Rattle.cx_base.specs.declared.operations.Operation.{Operation}
use Rattle.cx_frame.specs.declared.frame.Frame.{Frame}
use Rattle.cx_journal.specs.declared.faults.BytesFault.{BytesFault}
use Rattle.cx_laws_links.specs.cx_laws_keys.proofs.keys.Known.{IsOfConnector}
use Rattle.cx_laws_links.specs.cx_laws_keys.proofs.series.Contents.{contents_by, parts-others}
use Rattle.cx_laws_links.specs.cx_laws_keys.proofs.series.Frames.{frame-sealed}
use Rattle.cx_laws_links.specs.cx_rules.specs.Messages.{sealed_behind, sealed_then, secure_frames}
use Rattle.cx_laws_links.specs.cx_rules.specs.Secured.{Keys, SealedFrame, Secured, secure_frame}
use Rattle.cx_laws_links.specs.cx_rules_session.specs.Presenter.{CallRow}
use Rattle.cx_laws_links.specs.cx_rules_session.specs.Sessions.{Callee}
use Rattle.cx_secure.specs.Parts.{nonce_at}
use Rattle.cx_secure.specs.Plains.{plains}
use Rattle.cx_steps.specs.declared.seals.SealEntry.{SealEntry}
use Rattle.cx_laws_links.proofs.links.CallTells.{by-append, quiet-none}
use Rattle.cx_laws_links.proofs.links.CallWords.{Says}
use Rattle.cx_laws_links.proofs.links.Spoken.{frame_of}
use Rattle.cx_laws_links.proofs.answers.Given.{is_acceptors}

-- what begins with the nonce of a connector is nothing of an acceptor
fails-connector : (fixed : List ℕ) → IsOfConnector fixed → (m : ℕ) (plain : List ℕ) → is_acceptors (nonce_at fixed m ++ plain) ≡ false
unfolding nonce_at
fails-connector [] h m plain = absurd h
fails-connector (b ∷ bytes) h m plain = grind (arith, nat_tests)

-- some frames in one piece, where they were sealed
abbrev SealsNone : Keys → Result SealedFrame BytesFault → Type 0
SealsNone keys (Ok s) = (s.keys.out.fixed ≡ keys.out.fixed) × ((key : List ℕ) → contents_by key is_acceptors s.seals ≡ [])
SealsNone keys (Err why) = Unit {0}

one-none : (keys : Keys) (f : Frame) → IsOfConnector keys.out.fixed → SealsNone keys (secure_frame keys f)
one-none keys f connector = by_sealed (secure_frame keys f) refl
  where
    by_sealed : (r : Result SealedFrame BytesFault) → secure_frame keys f ≡ r → SealsNone keys r
    by_sealed (Err why) e = tt
    by_sealed (Ok s) e =
        let is = (frame-sealed keys f s e).0 in (
          ap (λ (x : SealedFrame). x.keys.out.fixed) is,
          λ key. ap (λ (x : SealedFrame). contents_by key is_acceptors x.seals) is
              ∙ parts-others key is_acceptors keys.key keys.out.fixed (inr (fails-connector keys.out.fixed connector)) keys.out.counter (plains f),
        )

some-none : (keys : Keys) (fs : List Frame) → IsOfConnector keys.out.fixed → SealsNone keys (secure_frames keys fs)
some-none keys [] connector = (refl, λ key. refl)
some-none keys (f ∷ fs) connector = by_first (secure_frame keys f) (one-none keys f connector) (λ k own. some-none k fs own)
  where
    by_rest : (one : SealedFrame) → SealsNone keys (Ok one) → (r : Result SealedFrame BytesFault) → SealsNone one.keys r → SealsNone keys (sealed_behind one r)
    by_rest one ok (Err why) rest = tt
    by_rest one ok (Ok more) rest = (rest.0 ∙ ok.0, λ key. by-append key is_acceptors one.seals more.seals (ok.1 key) (rest.1 key))

    by_first : (r : Result SealedFrame BytesFault) → SealsNone keys r → ((k : Keys) → IsOfConnector k.out.fixed → SealsNone k (secure_frames k fs))
        → SealsNone keys (sealed_then r (λ one. sealed_behind one (secure_frames one.keys fs)))
    by_first (Err why) ok rest = tt
    by_first (Ok one) ok rest = by_rest one ok (secure_frames one.keys fs) (rest one.keys (subst IsOfConnector (sym ok.0) connector))

-- a row that says some words seals nothing as an acceptor
pub says-none : (W : ℕ → ℕ × Operation → Type 0) (number : ℕ) (callee : Callee) (s : Secured) (before : Option ℕ) (row : CallRow) → Says W number callee s before row
    → IsOfConnector s.keys.out.fixed → (key : List ℕ) → contents_by key is_acceptors row.seals ≡ []
says-none W number callee s before row h connector key =
    ap (λ (es : List SealEntry). contents_by key is_acceptors es) h.seals
    ∙ by-append key is_acceptors h.quiet h.sealed.seals (quiet-none key is_acceptors h.quiet h.silent)
    ((subst (λ (r : Result SealedFrame BytesFault). SealsNone s.keys r) h.made (some-none s.keys (map frame_of h.words) connector)).1 key)

-- ---- what is sealed under keys of other uses
