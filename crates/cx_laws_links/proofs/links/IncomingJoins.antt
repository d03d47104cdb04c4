-- A session that is admitted on a link is joined to the link's key: all that is known stays known behind it, and so do all other links of the daemon.
use Rattle.std.proofs.Common.{◌≡◌, ℕ, List, [], ◌∷◌, ◌++◌, Option, Some, None, inl, inr, ◌⊎◌, ap, subst}
use Rattle.std.proofs.lemmas.List.Elements.{Contains-append_left, Contains-push, Contains-push_cases}
use Rattle.std.specs.Prelude.{Contains}
use Rattle.cx_base.specs.Names.{Name}
use Rattle.cx_base.specs.declared.nodes.NodeName.{NodeName}
use Rattle.cx_journal.specs.declared.entries.Admitted.{Admitted}
use Rattle.cx_journal.specs.declared.entries.Entry.{Entry}
use Rattle.cx_journal.specs.declared.entries.Entry.TheVariants as journal
use Rattle.cx_laws_keys.proofs.keys.Known.{Within}
use Rattle.cx_laws_keys.proofs.keys.Uses.{AtDaemon, Connected, Means, Use, Uses, WholeRun}
use Rattle.cx_laws_keys.specs.cx_rules.specs.Acceptor as acceptor
use Rattle.cx_laws_keys.specs.cx_rules.specs.Secured.{Secured}
use Rattle.cx_laws_tickets.specs.cx_run.specs.cx_rules_session.specs.IncomingLinks.{IncomingStage}
use Rattle.cx_steps.specs.declared.seals.Logged.{Logged}
use Rattle.cx_laws_links.proofs.links.Known.{AreTold, AsksFor, IncomingTold, HasTaken, IsAsked, IsIncoming, IsJoined, IsSpoken, Told}
use Rattle.cx_laws_links.proofs.links.Lifting.{words-grow}
use Rattle.cx_laws_links.proofs.links.Spoken.{said_under}
use Rattle.cx_laws_links.proofs.links.Written.{IsLinkKey}

-- the session of a cookie is joined to a key
abbrev pub joining : Told → List ℕ → ℕ → Told
joining told key cookie = record told { joins = told.joins ++ (key, cookie) ∷ [] }

same-session : (x y : Admitted) → journal.Admitted x ≡ journal.Admitted y → x ≡ y
same-session x y e = cc

-- where its client, if it didn't leak, asked for it on that link
pub told-joins : (run : WholeRun) (us : Uses) (told : Told) (log : List Logged) (J : List Entry) → AreTold run us told log J → (session : Admitted) (key : List ℕ) (tie : ℕ)
    → IsLinkKey us key session.entity tie → ((Contains run.leaked session.entity → ⊥) → AsksFor told.said key session.cookie)
    → AreTold run us (joining told key session.cookie) log (J ++ journal.Admitted session ∷ [])
told-joins run us told log J t session key tie is asks = record {
  spoken = λ other x has. let h : IsSpoken us told log J other = t.spoken other x has in
      record {
        name = h.name;
        tie = h.tie;
        is = h.is;
        written = h.written;
        words = words-grow J later h.name longer None (said_under other told.said) h.words;
        frames = h.frames;
        bound = record { nonce = h.bound.nonce; number = h.bound.number; low = h.bound.low; tied = h.bound.tied; stands = h.bound.stands };
      };
  silent = t.silent;
  cookies = t.cookies;
  once = t.once;
  nonces = t.nonces;
  joined = λ other has. by_session other (Contains-push_cases J (journal.Admitted session) (journal.Admitted other) has);
  asked = λ other cookie has. by_join other cookie (Contains-push_cases told.joins (key, session.cookie) (other, cookie) has);
}
  where
    later : List Entry
    later = J ++ journal.Admitted session ∷ []

    longer : Within J (J ++ journal.Admitted session ∷ [])
    longer = record { has = λ e has. Contains-append_left J (journal.Admitted session ∷ []) e has }

    next : Told
    next = joining told key session.cookie

    new-joined : IsJoined us (joining told key session.cookie) session
    new-joined = record { key = key; tie = tie; is = is; joined = Contains-push told.joins (key, session.cookie) }

    new-asked : IsAsked run us (joining told key session.cookie) key session.cookie
    new-asked = record { name = session.entity; tie = tie; is = is; asks = asks }

    by_session : (other : Admitted) → Contains J (journal.Admitted other) ⊎ (journal.Admitted session ≡ journal.Admitted other) → IsJoined us (joining told key session.cookie) other
    by_session other (inl was) = let h : IsJoined us told other = t.joined other was in
        record { key = h.key; tie = h.tie; is = h.is; joined = Contains-append_left told.joins ((key, session.cookie) ∷ []) (h.key, other.cookie) h.joined }
    by_session other (inr same) = subst (λ (a : Admitted). IsJoined us (joining told key session.cookie) a) (same-session session other same) new-joined

    by_join : (other : List ℕ) (cookie : ℕ) → Contains told.joins (other, cookie) ⊎ (let p : List ℕ × ℕ = (key, session.cookie) in let q : List ℕ × ℕ = (other, cookie) in p ≡ q)
        → IsAsked run us (joining told key session.cookie) other cookie
    by_join other cookie (inl was) = let h : IsAsked run us told other cookie = t.asked other cookie was in record { name = h.name; tie = h.tie; is = h.is; asks = h.asks }
    by_join other cookie (inr same) = subst (λ (p : List ℕ × ℕ). IsAsked run us (joining told key session.cookie) p.0 p.1) same new-asked

-- ---- links

-- no more sessions are joined to the key of a link that waits
abbrev pub JoinsNone : List (List ℕ × ℕ) → List (List ℕ × ℕ) → IncomingStage → Type 0
JoinsNone before joins (acceptor.AwaitsSignature s owner) = (cookie : ℕ) → Contains joins (s.keys.key, cookie) → Contains before (s.keys.key, cookie)
JoinsNone before joins (acceptor.AwaitsIdent s owner) = (cookie : ℕ) → Contains joins (s.keys.key, cookie) → Contains before (s.keys.key, cookie)
JoinsNone before joins _ = Unit {0}

abbrev number_of : Use → ℕ
number_of (Connected acceptor number name tie) = number
number_of _ = 0

-- as that of each other link is
pub incoming_links-apart : (run : WholeRun) (us : Uses) (told : Told) (n : NodeName) (number second : ℕ) (s r : Secured) (name other : Name) → ((k : List ℕ) (u v : Use) → Means us k u → Means us k v → u ≡ v)
    → IsIncoming run us told n number s name → IsIncoming run us told n second r other → (number ≡ second → ⊥) → s.keys.key ≡ r.keys.key → ⊥
incoming_links-apart run us told n number second s r name other one g h apart same =
    let moved : Means us r.keys.key (Connected n number name (AtDaemon g.service g.tie)) = subst (λ (k : List ℕ). Means us k (Connected n number name (AtDaemon g.service g.tie))) same g.means in
    apart (ap number_of (one r.keys.key (Connected n number name (AtDaemon g.service g.tie)) (Connected n second other (AtDaemon h.service h.tie)) moved h.means))

-- so all that is known of a link stays so
module _ (run : WholeRun) (us : Uses) (told : Told) (n : NodeName) (number : ℕ) (joins : List (List ℕ × ℕ)) where
  abbrev next : Told
  next = record told { joins = joins }

  taken-joins : (s : Secured) (before : Option ℕ) → HasTaken told s before → HasTaken next s before
  taken-joins s before h = record { taken = h.taken; rest = h.rest; front = h.front; counter = h.counter; session = h.session }

  incoming-joined : (s : Secured) (name : Name) → IsIncoming run us told n number s name → IsIncoming run us next n number s name
  incoming-joined s name g = record { service = g.service; tie = g.tie; means = g.means; connector = g.connector; four = g.four }

  pub incoming-joins : (stage : IncomingStage) → JoinsNone told.joins joins stage → IncomingTold run us told n number stage → IncomingTold run us next n number stage
  incoming-joins (acceptor.AwaitsSignature s owner) none h = (
    incoming-joined s owner.ticket.name h.0,
    λ free. let k = h.1 free in (k.0, taken-joins s k.0 k.1),
    λ cookie has. h.2 cookie (none cookie has),
  )
  incoming-joins (acceptor.AwaitsIdent s owner) none h = (
    incoming-joined s owner.ticket.name h.0,
    λ free. let k = h.1 free in (k.0, taken-joins s k.0 k.1),
    λ cookie has. h.2 cookie (none cookie has),
  )
  incoming-joins (acceptor.Open s served) none h = (h.0, incoming-joined s h.0 h.1, λ free. taken-joins s (Some served.cookie) (h.2 free))
  incoming-joins acceptor.AwaitsBanner none h = tt
  incoming-joins acceptor.AwaitsHello none h = tt
  incoming-joins acceptor.AwaitsRequest none h = tt
  incoming-joins (acceptor.AwaitsProof awaited) none h = tt
