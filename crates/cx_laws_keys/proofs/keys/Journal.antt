-- What a step enters in the journal, and the law of each entry behind those before it.
use Rattle.std.proofs.Common.{◌≡◌, ◌⊎◌, ℕ, false, true, List, [], ◌∷◌, ◌++◌, inl, inr, sym, ap, ◌∙◌, subst}
use Rattle.std.specs.Prelude.{Contains}
use Rattle.std.proofs.lemmas.List.Elements.{Contains-push_cases}
use Rattle.cx_base.specs.Names.{Name}
use Rattle.cx_steps.specs.cx_journal.specs.Behind.{EachBehind}
use Rattle.cx_steps.specs.cx_journal.specs.GidOnce.{GivesGidOnceBy}
use Rattle.cx_steps.specs.cx_journal.specs.declared.entries.Entry.{Entry}
use Rattle.cx_steps.specs.cx_journal.specs.declared.entries.Entry.TheVariants as journal
use Rattle.cx_steps.specs.cx_journal.specs.declared.entries.Issued.{Issued}
use Rattle.cx_base.specs.declared.nodes.NodeName.{NodeName}
use Rattle.cx_base.specs.declared.nodes.NodeName.TheVariants as node
use Rattle.cx_steps.specs.cx_journal.specs.declared.outcomes.Reason.{Reason}
use Rattle.cx_steps.specs.cx_journal.specs.declared.outcomes.Reason.TheVariants as reason
use Rattle.cx_steps.specs.declared.seals.Logged.{Logged}
use Rattle.cx_steps.specs.declared.seals.SealEntry.{SealEntry}
use Rattle.cx_laws_keys.proofs.keys.Known.{AreOwn, Inv}
use Rattle.cx_laws_keys.proofs.keys.Premises.{behind, behind-append}
use Rattle.cx_laws_keys.proofs.keys.Uses.{Grows, Uses, grows-then, WholeRun}
use Rattle.cx_steps.specs.cx_journal.specs.Backed.{IsBackedBy}
use Rattle.cx_steps.specs.cx_journal.specs.KeepsKeys.{KeepsKeysBy, NeedsFor}
use Rattle.cx_laws_keys.specs.keys.KeepsExpiry.{KeepsExpiryBy, ExpiredFor}

-- ---- which entries a login makes

abbrev pub IsOfLogin : Reason → Type 0
IsOfLogin (reason.Ticket why blob) = ⊥
IsOfLogin _ = Unit {0}

-- no session, operation or answer is entered, and no look and no refusal of a ticket by a daemon
abbrev pub IsLoginEntry : Entry → Type 0
IsLoginEntry (journal.Saved gid) = Unit {0}
IsLoginEntry (journal.Issued ticket) = Unit {0}
IsLoginEntry (journal.Refused r) = IsOfLogin r.reason
IsLoginEntry (journal.Restarted at) = Unit {0}
IsLoginEntry (journal.Leaked name) = Unit {0}
IsLoginEntry (journal.Fetched f) = Unit {0}
IsLoginEntry _ = ⊥

-- what is said of a session that is entered, and of a refusal of a ticket
pub record ToldLaw (earlier : List Entry) (e : Entry) : Type 0 where
  pub backed : IsBackedBy earlier e
  pub keeps_keys : KeepsKeysBy earlier e
  pub keeps_expiry : KeepsExpiryBy earlier e

-- the law of an entry of a run, behind the earlier ones: where no clients come to daemons, it is one of a login
pub record EntryLaw (run : WholeRun) (earlier : List Entry) (e : Entry) : Type 0 where
  pub login : run.incoming_links ≡ false → IsLoginEntry e
  pub told : run.good ≡ true → ToldLaw earlier e
  pub gid_once : GivesGidOnceBy earlier e

-- the journal behind these entries
abbrev pub entered : List Entry → List Entry → List Entry
entered J [] = J
entered J (e ∷ es) = entered (J ++ e ∷ []) es

pub needs-none : (earlier : List Entry) (at : NodeName) (link : ℕ) (why : Reason) → IsOfLogin why → NeedsFor earlier at link why
needs-none earlier node.Monitor link why h = tt
needs-none earlier (node.Entity daemon) link (reason.Ticket fault blob) h = absurd h
needs-none earlier (node.Entity daemon) link _ h = tt

pub expired-none : (earlier : List Entry) (at : NodeName) (why : Reason) → IsOfLogin why → ExpiredFor earlier at why
expired-none earlier node.Monitor why h = tt
expired-none earlier (node.Entity daemon) (reason.Ticket fault blob) h = absurd h
expired-none earlier (node.Entity daemon) _ h = tt

pub login-told : (earlier : List Entry) (e : Entry) → IsLoginEntry e → ToldLaw earlier e
login-told earlier (journal.Saved x) h = record { backed = tt; keeps_keys = tt; keeps_expiry = tt }
login-told earlier (journal.Issued x) h = record { backed = tt; keeps_keys = tt; keeps_expiry = tt }
login-told earlier (journal.Refused r) h = record { backed = tt; keeps_keys = needs-none earlier r.node r.link r.reason h; keeps_expiry = expired-none earlier r.node r.reason h }
login-told earlier (journal.Restarted x) h = record { backed = tt; keeps_keys = tt; keeps_expiry = tt }
login-told earlier (journal.Leaked x) h = record { backed = tt; keeps_keys = tt; keeps_expiry = tt }
login-told earlier (journal.Fetched x) h = record { backed = tt; keeps_keys = tt; keeps_expiry = tt }
login-told earlier (journal.Looked x) h = absurd h
login-told earlier (journal.Admitted x) h = absurd h
login-told earlier (journal.Resumed x) h = absurd h
login-told earlier (journal.Sent x) h = absurd h
login-told earlier (journal.Handled x) h = absurd h
login-told earlier (journal.Answered x) h = absurd h
login-told earlier (journal.Ended x) h = absurd h
login-told earlier (journal.Broken x) h = absurd h

-- the law of an entry of a login
pub login-law : (run : WholeRun) (earlier : List Entry) (e : Entry) → IsLoginEntry e → GivesGidOnceBy earlier e → EntryLaw run earlier e
login-law run earlier e h gid = record { login = λ none. h; told = λ known. login-told earlier e h; gid_once = gid }

-- ---- global ids

-- no ticket is issued
abbrev pub IsNotIssued : Entry → Type 0
IsNotIssued (journal.Issued ticket) = ⊥
IsNotIssued _ = Unit {0}

pub issued_is : (s t : Issued) → journal.Issued s ≡ journal.Issued t → s ≡ t
issued_is s t e = cc

pub has-before : (J : List Entry) (e : Entry) → IsNotIssued e → (s : Issued) → Contains (J ++ e ∷ []) (journal.Issued s) → Contains J (journal.Issued s)
has-before J e other s h = by_place (Contains-push_cases J e (journal.Issued s) h)
  where
    by_place : Contains J (journal.Issued s) ⊎ (e ≡ journal.Issued s) → Contains J (journal.Issued s)
    by_place (inl before) = before
    by_place (inr same) = absurd (subst IsNotIssued same other)

pub has-issued : (J : List Entry) (t s : Issued) → Contains (J ++ journal.Issued t ∷ []) (journal.Issued s) → Contains J (journal.Issued s) ⊎ (t ≡ s)
has-issued J t s h = by_place (Contains-push_cases J (journal.Issued t) (journal.Issued s) h)
  where
    by_place : Contains J (journal.Issued s) ⊎ (journal.Issued t ≡ journal.Issued s) → Contains J (journal.Issued s) ⊎ (t ≡ s)
    by_place (inl before) = inl before
    by_place (inr same) = inr (issued_is t s same)

pub own-other : (J : List Entry) (e : Entry) → IsNotIssued e → AreOwn J → AreOwn (J ++ e ∷ [])
own-other J e other own s t hs ht gid = own s t (has-before J e other s hs) (has-before J e other t ht) gid

-- who has this global id is this entity
abbrev pub IsOf : List Entry → Name → ℕ → Type 0
IsOf J name gid = (s : Issued) → Contains J (journal.Issued s) → s.gid ≡ gid → s.entity ≡ name

pub own-issued : (J : List Entry) (t : Issued) → IsOf J t.entity t.gid → AreOwn J → AreOwn (J ++ journal.Issued t ∷ [])
own-issued J t of own a b ha hb gid = by_places (has-issued J t a ha) (has-issued J t b hb)
  where
    by_places : Contains J (journal.Issued a) ⊎ (t ≡ a) → Contains J (journal.Issued b) ⊎ (t ≡ b) → a.entity ≡ b.entity
    by_places (inl before) (inl other) = own a b before other gid
    by_places (inl before) (inr same) = of a before (gid ∙ sym (ap (λ (i : Issued). i.gid) same)) ∙ ap (λ (i : Issued). i.entity) same
    by_places (inr same) (inl other) = sym (ap (λ (i : Issued). i.entity) same) ∙ sym (of b other (sym gid ∙ sym (ap (λ (i : Issued). i.gid) same)))
    by_places (inr same) (inr also) = sym (ap (λ (i : Issued). i.entity) same) ∙ ap (λ (i : Issued). i.entity) also

-- ---- what comes of a step

module _ (run : WholeRun) (whole : List Logged) (n : NodeName) (line : ℕ) where
  -- what is known behind some entries of the log, and more that is said of the uses then
  pub record Reached (us : Uses) (log : List Logged) (J : List Entry) (es : List SealEntry) (Facts : Uses → Type 0) : Type 0 where
    pub uses : Uses
    pub grows : Grows us uses
    pub inv : Inv run whole uses (behind n line es log) J
    pub facts : Facts uses

  -- what is known behind a step's entries of the log and of the journal, the law of the latter, and what is said of the node then
  pub record After (us : Uses) (log : List Logged) (J : List Entry) (es : List SealEntry) (js : List Entry) (Good : Uses → List Entry → Type 0) : Type 0 where
    pub uses : Uses
    pub grows : Grows us uses
    pub inv : Inv run whole uses (behind n line es log) (entered J js)
    pub laws : EachBehind (EntryLaw run) J js
    pub good : Good uses (entered J js)

  pub reached-then : (us : Uses) (log : List Logged) (J : List Entry) (xs ys : List SealEntry) (F G : Uses → Type 0) → (r : Reached us log J xs F)
      → Reached r.uses (behind n line xs log) J ys G → Reached us log J (xs ++ ys) G
  reached-then us log J xs ys F G r next = record {
    uses = next.uses;
    grows = grows-then us r.uses next.uses r.grows next.grows;
    inv = subst (λ (l : List Logged). Inv run whole next.uses l J) (sym (behind-append n line xs ys log)) next.inv;
    facts = next.facts;
  }

  pub after-then : (us : Uses) (log : List Logged) (J : List Entry) (xs ys : List SealEntry) (js : List Entry) (F : Uses → Type 0) (Good : Uses → List Entry → Type 0)
      → (r : Reached us log J xs F) → After r.uses (behind n line xs log) J ys js Good → After us log J (xs ++ ys) js Good
  after-then us log J xs ys js F Good r next = record {
    uses = next.uses;
    grows = grows-then us r.uses next.uses r.grows next.grows;
    inv = subst (λ (l : List Logged). Inv run whole next.uses l (entered J js)) (sym (behind-append n line xs ys log)) next.inv;
    laws = next.laws;
    good = next.good;
  }
