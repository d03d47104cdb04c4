-- What the connector of a link sealed under the link's key, read off the log: the parts of what it is said to have spoken, numbered from 0 on. Steps of
-- other nodes, and what is sealed under other keys, change nothing of it.
use Rattle.std.proofs.Common.{◌≡◌, ℕ, ◌<◌, ◌≤◌, ◌^◌, Bool, true, false, nat_lt, List, [], ◌∷◌, ◌++◌, length, Option, None, inl, inr, ◌⊎◌, refl, sym, ap, ◌∙◌, subst, arith, append-nil}
use Rattle.std.proofs.lemmas.Bool.Decides.{nat_tests}
use Rattle.std.proofs.lemmas.Slice.Eq.{bytes_eq-Decides}
use Rattle.std.specs.Prelude.{◌&&◌}
use Rattle.std.specs.List.{AllByRecursion, cons_option}
use Rattle.std.specs.Str.{bytes_eq}
use Rattle.cx_base.specs.Names.{Name}
use Rattle.cx_base.specs.declared.kinds.EntityType.{EntityType}
use Rattle.cx_base.specs.declared.nodes.NodeName.{NodeName}
use Rattle.cx_base.specs.declared.nodes.NodeName.TheVariants as node
use Rattle.cx_journal.specs.declared.entries.Entry.{Entry}
use Rattle.cx_laws_keys.proofs.keys.Known.{IsAcceptorOr, IsAllowed, IsOfAcceptor, SealedAt}
use Rattle.cx_laws_keys.proofs.keys.Premises.{behind, logged}
use Rattle.cx_laws_keys.proofs.keys.Uses.{AtDaemon, Connected, Means, Use, Uses}
use Rattle.cx_laws_keys.proofs.series.Contents.{content_where, contents-behind, contents_by, contents_in}
use Rattle.cx_laws_keys.specs.cx_rules.specs.Secured.{Keys}
use Rattle.cx_secure.specs.Contents.{sealed_contents}
use Rattle.cx_secure.specs.Parts.{nonce_at}
use Rattle.cx_steps.specs.declared.seals.Logged.{Logged}
use Rattle.cx_steps.specs.declared.seals.SealEntry.{SealEntry}
use Rattle.cx_steps.specs.declared.seals.SealEntry.TheVariants as entry
use Rattle.cx_steps.specs.declared.seals.SealMark.{SealMark}
use Rattle.cx_laws_links.proofs.links.Spoken.{Spoken, is_connectors, parts_of, said_under}

-- the key of a link of a daemon to this entity, tied to this number: the nonce of its authorizers plus one
pub record IsLinkKey (us : Uses) (key : List ℕ) (name : Name) (tie : ℕ) : Type 0 where
  pub acceptor : NodeName
  pub number : ℕ
  pub service : EntityType
  pub means : Means us key (Connected acceptor number name (AtDaemon service tie))

-- what was sealed under a key as by its connector is what was spoken there, numbered from 0 on, under one nonce
pub record IsWritten (log : List Logged) (said : List (List ℕ × Spoken)) (key : List ℕ) : Type 0 where
  pub fixed : List ℕ
  pub four : length fixed ≡ 4
  pub connector : (m : ℕ) (plain : List ℕ) → is_connectors (nonce_at fixed m ++ plain) ≡ true
  pub contents : contents_in key is_connectors log ≡ sealed_contents fixed 0 (parts_of (said_under key said))
  pub fits : length (parts_of (said_under key said)) ≤ 2 ^ 64

-- a step that seals nothing there as a connector leaves it so
pub written-stays : (n : NodeName) (line : ℕ) (es : List SealEntry) (log : List Logged) (said : List (List ℕ × Spoken)) (key : List ℕ) → contents_by key is_connectors es ≡ []
    → IsWritten log said key → IsWritten (behind n line es log) said key
written-stays n line es log said key none h = record {
  fixed = h.fixed;
  four = h.four;
  connector = h.connector;
  contents = contents-behind key is_connectors n line es log ∙ ap (λ (l : List (List ℕ)). contents_in key is_connectors log ++ l) none
      ∙ append-nil (contents_in key is_connectors log) ∙ h.contents;
  fits = h.fits;
}

-- ---- steps of others

not-connectors : (content : List ℕ) → IsOfAcceptor content → is_connectors content ≡ false
not-connectors [] h = absurd h
not-connectors (b ∷ bytes) h = grind (arith, nat_tests)

module _ (us : Uses) (J : List Entry) (n : NodeName) (key : List ℕ) (name : Name) (tie : ℕ) (one : (k : List ℕ) (u v : Use) → Means us k u → Means us k v → u ≡ v)
    (is : IsLinkKey us key name tie) (apart : n ≡ node.Entity name → ⊥) where
  none-of : (other : SealMark) → IsAllowed us J n (entry.Sealed other) → (there : Bool) → bytes_eq other.key key ≡ there
      → content_where (there && is_connectors other.content) other.content ≡ None
  none-of other a false e = refl
  none-of other a true e =
      let same : other.key ≡ key = (bytes_eq-Decides other.key key).0 e in
      let means : Means us key a.0 = subst (λ (k : List ℕ). Means us k a.0) same a.1 in
      let purpose : a.0 ≡ Connected is.acceptor is.number name (AtDaemon is.service tie) = one key a.0 (Connected is.acceptor is.number name (AtDaemon is.service tie)) means is.means in
      by_place (subst (λ (u : Use). SealedAt n u other.content) purpose a.3)
    where
      by_place : (n ≡ node.Entity name) ⊎ IsOfAcceptor other.content × IsAcceptorOr n is.acceptor → content_where (is_connectors other.content) other.content ≡ None
      by_place (inl here) = absurd (apart here)
      by_place (inr (sends, acceptor)) = ap (λ (t : Bool). content_where t other.content) (not-connectors other.content sends)

  -- what a node that isn't the entity's own seals is nothing there of a connector
  pub elsewhere : (es : List SealEntry) → AllByRecursion (IsAllowed us J n) es → contents_by key is_connectors es ≡ []
  elsewhere [] h = refl
  elsewhere (entry.Sealed other ∷ es) h =
      ap (λ (o : Option (List ℕ)). cons_option o (contents_by key is_connectors es)) (none-of other h.0 (bytes_eq other.key key) refl) ∙ elsewhere es h.1
  elsewhere (entry.Signed other ∷ es) h = elsewhere es h.1
  elsewhere (entry.Opened other ∷ es) h = elsewhere es h.1
  elsewhere (entry.Checked other ∷ es) h = elsewhere es h.1
  elsewhere (entry.Drawn other ∷ es) h = elsewhere es h.1

-- what holds of each entry of a log holds of those of the step at its end
pub all-behind : (P : Logged → Type 0) (n : NodeName) (line : ℕ) (es : List SealEntry) (log : List Logged) → AllByRecursion P (behind n line es log)
    → AllByRecursion (λ (e : SealEntry). P (logged n line e)) es × AllByRecursion P log
all-behind P n line [] log h = (tt, h)
all-behind P n line (e ∷ es) log h = let rest = all-behind P n line es (logged n line e ∷ log) h in ((rest.1.0, rest.0), rest.1.1)

-- ---- keys that are new
