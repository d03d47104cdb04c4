-- What a step on one link of a client does to all that is known of links to daemons: it moves a nonce of its own, and says some words under its own key. So
-- all other links, at either end, keep what is known of them.
use Rattle.std.proofs.Common.{◌≡◌, ℕ, Bool, true, false, List, [], ◌∷◌, ◌++◌, length, Option, Some, None, refl, sym, ap, ◌∙◌, subst, append-nil}
use Rattle.std.specs.List.{AllByRecursion}
use Rattle.std.specs.Str.{bytes_eq}
use Rattle.cx_laws_tickets.specs.cx_run.specs.cx_authorize.specs.Verdict.{raised}
use Rattle.cx_base.specs.Names.{Name}
use Rattle.cx_base.specs.declared.nodes.NodeName.{NodeName}
use Rattle.cx_laws_keys.proofs.keys.Premises.{behind}
use Rattle.cx_laws_keys.proofs.keys.Uses.{Connected, Grows, Means, Use, Uses, WholeRun}
use Rattle.cx_laws_keys.proofs.series.Contents.{contents-behind, contents_by, contents_in}
use Rattle.cx_laws_keys.proofs.series.Frames.{HasParts}
use Rattle.cx_laws_keys.specs.cx_rules.specs.Acceptor as acceptor
use Rattle.cx_laws_keys.specs.cx_rules.specs.Secured.{Secured}
use Rattle.cx_laws_tickets.specs.cx_run.specs.cx_rules_session.specs.IncomingLinks.{IncomingStage}
use Rattle.cx_laws_tickets.specs.cx_run.specs.cx_rules_session.specs.Presenter as call
use Rattle.cx_laws_tickets.specs.cx_run.specs.cx_rules_session.specs.Presenter.{CallStage}
use Rattle.cx_steps.specs.declared.seals.Logged.{Logged}
use Rattle.cx_steps.specs.declared.seals.SealEntry.{SealEntry}
use Rattle.cx_laws_links.proofs.links.Known.{Bound, CallTold, IncomingTold, HasTaken, IsIncoming, IsKeyed, IsShown, NoncePlace, Shown, Told}
use Rattle.cx_laws_links.proofs.links.Lifting.{link-grows}
use Rattle.cx_laws_links.proofs.links.Others.{incoming_told-stays, keyed-stays}
use Rattle.cx_laws_links.proofs.links.Speaking.{speaking}
use Rattle.cx_laws_links.proofs.links.Spoken.{Spoken, is_connectors, parts_of, said_under}
use Rattle.cx_laws_links.proofs.links.Written.{IsLinkKey}

-- nonces of other links stand where they stood, and what is bound stays bound
pub record KeepsNonces (told : Told) (name : Name) (number : ℕ) (nonces : ℕ → NoncePlace) : Type 0 where
  pub bound : (nonce : ℕ) (whose : Name) (second : ℕ) (key : List ℕ) → told.nonces nonce ≡ Bound whose second key → nonces nonce ≡ Bound whose second key
  pub shown : (nonce : ℕ) (whose : Name) (second : ℕ) → ((whose ≡ name) × (second ≡ number) → ⊥) → told.nonces nonce ≡ Shown whose second → nonces nonce ≡ Shown whose second

-- a step says nothing, and moves nonces alone; or it says some words under a key that no other link has
pub data Moved (us vs : Uses) (told : Told) (log : List Logged) (es : List SealEntry) (name : Name) (number : ℕ) : Told → Type 0 where
  Quiets : (nonces : ℕ → NoncePlace) → KeepsNonces told name number nonces
      → ((other : List ℕ) (whose : Name) (tie : ℕ) → IsLinkKey vs other whose tie → contents_by other is_connectors es ≡ []) → Moved us vs told log es name number (record told { nonces = nonces })
  Speaks : (nonces : ℕ → NoncePlace) (key : List ℕ) (words : List Spoken) → KeepsNonces told name number nonces
      → ((other : List ℕ) (whose : Name) (tie : ℕ) → IsLinkKey vs other whose tie → bytes_eq key other ≡ false → contents_by other is_connectors es ≡ [])
      → ((whose : Name) (second : ℕ) (s : Secured) (before : Option ℕ) → IsKeyed us told log whose second s before → ((whose ≡ name) × (second ≡ number) → ⊥) → bytes_eq key s.keys.key ≡ false)
      → Moved us vs told log es name number (speaking told nonces key words)

module _ (us vs : Uses) (one : (k : List ℕ) (u v : Use) → Means us k u → Means us k v → u ≡ v) (f : Grows us vs) (told : Told) (log : List Logged) (n : NodeName) (line : ℕ) (es : List SealEntry)
    (name : Name) (number : ℕ) where
  abbrev later : List Logged
  later = behind n line es log

  -- a link with a key, behind a step that says nothing
  quiet-keyed : (nonces : ℕ → NoncePlace) (whose : Name) (second : ℕ) (s : Secured) (before : Option ℕ) → KeepsNonces told name number nonces
      → ((other : List ℕ) (by : Name) (tie : ℕ) → IsLinkKey vs other by tie → contents_by other is_connectors es ≡ []) → IsKeyed us told log whose second s before
      → IsKeyed vs (record told { nonces = nonces }) later whose second s before
  quiet-keyed nonces whose second s before keeps none h =
      let is : IsLinkKey vs s.keys.key whose (raised h.nonce) = link-grows us vs s.keys.key whose (raised h.nonce) f h.is in
      record {
        nonce = h.nonce;
        low = h.low;
        is = is;
        stands = keeps.bound h.nonce whose second s.keys.key h.stands;
        parts = record {
          sealed = contents-behind s.keys.key is_connectors n line es log ∙ ap (λ (l : List (List ℕ)). contents_in s.keys.key is_connectors log ++ l) (none s.keys.key whose (raised h.nonce) is)
              ∙ append-nil (contents_in s.keys.key is_connectors log) ∙ h.parts.sealed;
          counter = h.parts.counter;
        };
        connector = h.connector;
        four = h.four;
        fits = h.fits;
        session = h.session;
      }

  moved-keyed : (next : Told) → Moved us vs told log es name number next → (whose : Name) (second : ℕ) (s : Secured) (before : Option ℕ) → ((whose ≡ name) × (second ≡ number) → ⊥)
      → IsKeyed us told log whose second s before → IsKeyed vs next later whose second s before
  moved-keyed _ (Quiets nonces keeps none) whose second s before apart h = quiet-keyed nonces whose second s before keeps none h
  moved-keyed _ (Speaks nonces key words keeps none own) whose second s before apart h =
      let differs = own whose second s before h apart in
      keyed-stays us vs one f told log n line es key words nonces whose second s before differs
      (none s.keys.key whose (raised h.nonce) (link-grows us vs s.keys.key whose (raised h.nonce) f h.is) differs) (λ nonce second k stands. keeps.bound nonce whose second k stands) h

  moved-shown : (next : Told) → Moved us vs told log es name number next → (whose : Name) (second nonce : ℕ) → ((whose ≡ name) × (second ≡ number) → ⊥) → IsShown told whose second nonce
      → IsShown next whose second nonce
  moved-shown _ (Quiets nonces keeps none) whose second nonce apart h = record { low = h.low; stands = keeps.shown nonce whose second apart h.stands }
  moved-shown _ (Speaks nonces key words keeps none own) whose second nonce apart h = record { low = h.low; stands = keeps.shown nonce whose second apart h.stands }

  -- any other link of a client
  pub moved-call : (next : Told) → Moved us vs told log es name number next → (whose : Name) (second : ℕ) → ((whose ≡ name) × (second ≡ number) → ⊥) → (stage : CallStage)
      → CallTold us told log whose second stage → CallTold vs next later whose second stage
  moved-call next m whose second apart (call.AwaitsBanner called) h = tt
  moved-call next m whose second apart (call.AwaitsHello called) h = tt
  moved-call next m whose second apart (call.AwaitsChallenge callee p) h = moved-shown next m whose second p.nonce apart h
  moved-call next m whose second apart (call.AwaitsDone callee answered) h = moved-shown next m whose second answered.nonce apart h
  moved-call next m whose second apart (call.AwaitsSignature s callee) h = moved-keyed next m whose second s None apart h
  moved-call next m whose second apart (call.AwaitsIdent s callee cookie) h = moved-keyed next m whose second s (Some cookie) apart h
  moved-call next m whose second apart (call.AwaitsReconnect s callee cookie) h = moved-keyed next m whose second s (Some cookie) apart h
  moved-call next m whose second apart (call.Open s callee cookie) h = moved-keyed next m whose second s (Some cookie) apart h

  -- ---- incoming links

  incoming-quiet : (run : WholeRun) (nonces : ℕ → NoncePlace) (at : NodeName) (second : ℕ) (stage : IncomingStage) → IncomingTold run us told at second stage
      → IncomingTold run vs (record told { nonces = nonces }) at second stage
  incoming-quiet run nonces at second stage h = by_stage stage h
    where
      incoming : (s : Secured) (by : Name) → IsIncoming run us told at second s by → IsIncoming run vs (record told { nonces = nonces }) at second s by
      incoming s by g = record { service = g.service; tie = g.tie; means = f.means s.keys.key _ g.means; connector = g.connector; four = g.four }

      taken : (s : Secured) (cookie : Option ℕ) → HasTaken told s cookie → HasTaken (record told { nonces = nonces }) s cookie
      taken s cookie g = record { taken = g.taken; rest = g.rest; front = g.front; counter = g.counter; session = g.session }

      by_stage : (st : IncomingStage) → IncomingTold run us told at second st → IncomingTold run vs (record told { nonces = nonces }) at second st
      by_stage (acceptor.AwaitsSignature s owner) g = (incoming s owner.ticket.name g.0, λ free. let k = g.1 free in (k.0, taken s k.0 k.1), g.2)
      by_stage (acceptor.AwaitsIdent s owner) g = (incoming s owner.ticket.name g.0, λ free. let k = g.1 free in (k.0, taken s k.0 k.1), g.2)
      by_stage (acceptor.Open s served) g = (g.0, incoming s g.0 g.1, λ free. taken s (Some served.cookie) (g.2 free))
      by_stage acceptor.AwaitsBanner g = tt
      by_stage acceptor.AwaitsHello g = tt
      by_stage acceptor.AwaitsRequest g = tt
      by_stage (acceptor.AwaitsProof awaited) g = tt

  pub moved-incoming : (run : WholeRun) (next : Told) → Moved us vs told log es name number next → (at : NodeName) (second : ℕ) (stage : IncomingStage) → IncomingTold run us told at second stage
      → IncomingTold run vs next at second stage
  moved-incoming run _ (Quiets nonces keeps none) at second stage h = incoming-quiet run nonces at second stage h
  moved-incoming run _ (Speaks nonces key words keeps none own) at second stage h = incoming_told-stays us vs one f told log n line es key words nonces run at second stage h
