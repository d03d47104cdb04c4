-- What is said on one link leaves what is known of all others: of links with keys, of nonces that were shown, and of what daemons took.
use Rattle.std.proofs.Common.{◌≡◌, ℕ, ◌+◌, ◌%◌, ◌<◌, ◌≤◌, ◌^◌, Bool, true, false, List, [], ◌∷◌, ◌++◌, length, Option, Some, None, inl, inr, ◌⊎◌, refl, sym, ap, ◌∙◌, subst, arith, append-nil, append_assoc}
use Rattle.std.proofs.lemmas.Slice.Eq.{bytes_eq-Decides}
use Rattle.std.specs.Prelude.{Contains}
use Rattle.std.specs.List.{AllByRecursion}
use Rattle.std.specs.Str.{bytes_eq}
use Rattle.cx_laws_tickets.specs.cx_run.specs.cx_authorize.specs.Verdict.{raised}
use Rattle.cx_base.specs.Names.{Name}
use Rattle.cx_base.specs.declared.nodes.NodeName.{NodeName}
use Rattle.cx_laws_keys.proofs.keys.Premises.{behind}
use Rattle.cx_laws_keys.proofs.keys.Uses.{AtDaemon, Connected, Grows, Means, Tie, Use, Uses, WholeRun}
use Rattle.cx_laws_keys.proofs.series.Contents.{contents-behind, contents_by, contents_in}
use Rattle.cx_laws_keys.proofs.series.Frames.{HasParts}
use Rattle.cx_laws_keys.specs.cx_rules.specs.Acceptor as acceptor
use Rattle.cx_laws_keys.specs.cx_rules.specs.Secured.{Keys, Secured}
use Rattle.cx_laws_tickets.specs.cx_run.specs.cx_rules_session.specs.IncomingLinks.{IncomingStage}
use Rattle.cx_laws_tickets.specs.cx_run.specs.cx_rules_session.specs.Presenter as call
use Rattle.cx_laws_tickets.specs.cx_run.specs.cx_rules_session.specs.Presenter.{CallStage}
use Rattle.cx_secure.specs.Contents.{sealed_contents}
use Rattle.cx_steps.specs.declared.seals.Logged.{Logged}
use Rattle.cx_steps.specs.declared.seals.SealEntry.{SealEntry}
use Rattle.cx_laws_links.proofs.links.Known.{Bound, CallTold, IncomingTold, HasTaken, IsIncoming, IsKeyed, IsShown, NoncePlace, Shown, Told}
use Rattle.cx_laws_links.proofs.links.Lifting.{link-grows}
use Rattle.cx_laws_links.proofs.links.Speaking.{said-append, said-other, speaking}
use Rattle.cx_laws_links.proofs.links.Spoken.{Spoken, cookie_behind, is_connectors, parts_of, said_under, tagged}
use Rattle.cx_laws_links.proofs.links.Written.{IsLinkKey}

-- a number plus one, modulo 2^64, is that of one number
pub raised-one : (m n : ℕ) → m < 2 ^ 64 → n < 2 ^ 64 → raised m ≡ raised n → m ≡ n
raised-one m n low low_too same = omega (arith, same)

-- one key is that of one entity, tied to one number
abbrev tie_of : Use → ℕ
tie_of (Connected acceptor number name (AtDaemon service tie)) = tie
tie_of _ = 0

abbrev name_of : Name → Use → Name
name_of other (Connected acceptor number name tie) = name
name_of other _ = other

pub link-one : (us : Uses) → ((k : List ℕ) (u v : Use) → Means us k u → Means us k v → u ≡ v) → (key : List ℕ) (name other : Name) (tie tied : ℕ) → IsLinkKey us key name tie → IsLinkKey us key other tied
    → (name ≡ other) × (tie ≡ tied)
link-one us one key name other tie tied h g =
    let same = one key (Connected h.acceptor h.number name (AtDaemon h.service tie)) (Connected g.acceptor g.number other (AtDaemon g.service tied)) h.means g.means in
    (ap (λ (u : Use). name_of name u) same, ap tie_of same)

-- where a nonce is bound, for one link and one key
number_of : NoncePlace → ℕ
number_of (Bound name number key) = number
number_of (Shown name number) = number
number_of _ = 0

-- one key is that of one link
pub keyed-one : (us : Uses) → ((k : List ℕ) (u v : Use) → Means us k u → Means us k v → u ≡ v) → (told : Told) (log : List Logged) (name other : Name) (number second : ℕ) (s r : Secured) (before after : Option ℕ)
    → IsKeyed us told log name number s before → IsKeyed us told log other second r after → s.keys.key ≡ r.keys.key → (name ≡ other) × (number ≡ second)
unfolding number_of
keyed-one us one told log name other number second s r before after h g same =
    let moved : IsLinkKey us r.keys.key name (raised h.nonce) = subst (λ (k : List ℕ). IsLinkKey us k name (raised h.nonce)) same h.is in
    let both = link-one us one r.keys.key name other (raised h.nonce) (raised g.nonce) moved g.is in
    let nonce : h.nonce ≡ g.nonce = raised-one h.nonce g.nonce h.low g.low both.1 in
    (both.0, ap number_of (sym h.stands ∙ ap (λ (n : ℕ). told.nonces n) nonce ∙ g.stands))

module _ (us vs : Uses) (one : (k : List ℕ) (u v : Use) → Means us k u → Means us k v → u ≡ v) (f : Grows us vs) (told : Told) (log : List Logged) (n : NodeName) (line : ℕ) (es : List SealEntry)
    (key : List ℕ) (words : List Spoken) (nonces : ℕ → NoncePlace) where
  abbrev next : Told
  next = speaking told nonces key words

  abbrev later : List Logged
  later = behind n line es log

  pub other-said : (other : List ℕ) → bytes_eq key other ≡ false → said_under other next.said ≡ said_under other told.said
  other-said other apart =
      said-append other told.said (tagged key words) ∙ ap (λ (l : List Spoken). said_under other told.said ++ l) (said-other other key apart words) ∙ append-nil (said_under other told.said)

  -- a link with another key keeps it
  pub keyed-stays : (name : Name) (number : ℕ) (s : Secured) (before : Option ℕ) → bytes_eq key s.keys.key ≡ false → contents_by s.keys.key is_connectors es ≡ []
      → ((nonce : ℕ) (number : ℕ) (k : List ℕ) → told.nonces nonce ≡ Bound name number k → nonces nonce ≡ Bound name number k)
      → IsKeyed us told log name number s before → IsKeyed vs next later name number s before
  keyed-stays name number s before apart none keeps h = record {
    nonce = h.nonce;
    low = h.low;
    is = link-grows us vs s.keys.key name (raised h.nonce) f h.is;
    stands = keeps h.nonce number s.keys.key h.stands;
    parts = record {
      sealed = contents-behind s.keys.key is_connectors n line es log ∙ ap (λ (l : List (List ℕ)). contents_in s.keys.key is_connectors log ++ l) none
          ∙ append-nil (contents_in s.keys.key is_connectors log) ∙ h.parts.sealed
          ∙ ap (λ (l : List Spoken). sealed_contents s.keys.out.fixed 0 (parts_of l)) (sym (other-said s.keys.key apart));
      counter = h.parts.counter ∙ ap (λ (l : List Spoken). length (parts_of l)) (sym (other-said s.keys.key apart));
    };
    connector = h.connector;
    four = h.four;
    fits = h.fits;
    session = ap (λ (l : List Spoken). cookie_behind None l) (other-said s.keys.key apart) ∙ h.session;
  }

  -- ---- what daemons took

  said-more : (other : List ℕ) → (more : List Spoken) × (said_under other next.said ≡ said_under other told.said ++ more)
  said-more other = (said_under other (tagged key words), said-append other told.said (tagged key words))

  pub taken-stays : (s : Secured) (cookie : Option ℕ) → HasTaken told s cookie → HasTaken next s cookie
  taken-stays s cookie h =
      let more = said-more s.keys.key in
      record {
        taken = h.taken;
        rest = h.rest ++ more.0;
        front = more.1 ∙ ap (λ (l : List Spoken). l ++ more.0) h.front ∙ append_assoc h.taken h.rest more.0;
        counter = h.counter;
        session = h.session;
      }

  incoming-stays : (run : WholeRun) (at : NodeName) (number : ℕ) (s : Secured) (name : Name) → IsIncoming run us told at number s name → IsIncoming run vs next at number s name
  incoming-stays run at number s name h = record {
    service = h.service;
    tie = h.tie;
    means = f.means s.keys.key (Connected at number name (AtDaemon h.service h.tie)) h.means;
    connector = h.connector;
    four = h.four;
  }

  pub incoming_told-stays : (run : WholeRun) (at : NodeName) (number : ℕ) (stage : IncomingStage) → IncomingTold run us told at number stage → IncomingTold run vs next at number stage
  incoming_told-stays run at number (acceptor.AwaitsSignature s owner) h =
      (incoming-stays run at number s owner.ticket.name h.0, λ free. let k = h.1 free in (k.0, taken-stays s k.0 k.1), h.2)
  incoming_told-stays run at number (acceptor.AwaitsIdent s owner) h =
      (incoming-stays run at number s owner.ticket.name h.0, λ free. let k = h.1 free in (k.0, taken-stays s k.0 k.1), h.2)
  incoming_told-stays run at number (acceptor.Open s served) h = (h.0, incoming-stays run at number s h.0 h.1, λ free. taken-stays s (Some served.cookie) (h.2 free))
  incoming_told-stays run at number acceptor.AwaitsBanner h = tt
  incoming_told-stays run at number acceptor.AwaitsHello h = tt
  incoming_told-stays run at number acceptor.AwaitsRequest h = tt
  incoming_told-stays run at number (acceptor.AwaitsProof awaited) h = tt
