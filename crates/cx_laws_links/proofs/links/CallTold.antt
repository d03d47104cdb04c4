-- What a client's link to a daemon asks for in a step, and what is known of one that has a key.
use Rattle.std.proofs.Common.{◌≡◌, ℕ, List, [], ◌∷◌, ◌++◌, Option}
use Rattle.std.specs.List.{AllByRecursion}
use Rattle.cx_base.specs.Names.{Name}
use Rattle.cx_base.specs.declared.operations.Operation.{Operation}
use Rattle.cx_laws_keys.proofs.keys.Uses.{Uses}
use Rattle.cx_laws_keys.proofs.series.Contents.{content_of}
use Rattle.cx_laws_keys.specs.cx_rules.specs.Secured.{Secured}
use Rattle.cx_laws_tickets.specs.cx_run.specs.cx_rules_session.specs.Presenter as call
use Rattle.cx_laws_tickets.specs.cx_run.specs.cx_rules_session.specs.Presenter.{CallStage, callee_of}
use Rattle.cx_steps.specs.declared.seals.Logged.{Logged}
use Rattle.cx_laws_links.proofs.links.CallWords.{AreQuiet, HeldAt, Identified, KeyedStage, Opened, Reconnecting, SignedOn}
use Rattle.cx_laws_links.proofs.links.Known.{CallTold, IsKeyed, Told}
use Rattle.cx_laws_links.proofs.links.Moving.{KeepsNonces}
use Rattle.cx_laws_links.proofs.links.Spoken.{asked, said_under}

-- a link that has a key, as its stage says
pub keyed-told : (us : Uses) (told : Told) (log : List Logged) (name : Name) (number : ℕ) (stage : CallStage) (s : Secured) (cookie : Option ℕ) → KeyedStage stage s cookie
    → IsKeyed us told log name number s cookie → CallTold us told log name number stage
keyed-told us told log name number _ _ _ (SignedOn s callee) h = h
keyed-told us told log name number _ _ _ (Identified s callee cookie) h = h
keyed-told us told log name number _ _ _ (Reconnecting s callee cookie) h = h
keyed-told us told log name number _ _ _ (Opened s callee cookie) h = h

-- ---- what a link asks for

-- of a link that has a key: what was asked for under it, and behind that this
abbrev pub KeyedAsks : Told → Told → Secured → List ℕ → Type 0
KeyedAsks told next s pending = asked (said_under s.keys.key next.said) ≡ asked (said_under s.keys.key told.said) ++ pending

-- what a link waits for was asked for in this step
abbrev pub AsksOn : Told → Told → CallStage → Type 0
AsksOn told next (call.AwaitsSignature s callee) = KeyedAsks told next s []
AsksOn told next (call.AwaitsIdent s callee cookie) = KeyedAsks told next s (cookie ∷ [])
AsksOn told next (call.AwaitsReconnect s callee cookie) = KeyedAsks told next s (cookie ∷ [])
AsksOn told next (call.Open s callee cookie) = KeyedAsks told next s []
AsksOn told next _ = Unit {0}

pub same-nonces : (told : Told) (name : Name) (number : ℕ) → KeepsNonces told name number told.nonces
same-nonces told name number = record { bound = λ nonce whose second key stands. stands; shown = λ nonce whose second apart stands. stands }
