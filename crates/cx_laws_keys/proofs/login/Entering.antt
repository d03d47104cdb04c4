-- The tickets of a login in the journal: each has its entity's global id, and the one for AUTH renews an earlier one where that id was issued.
use Rattle.std.proofs.Common.{◌≡◌, ◌⊎◌, ℕ, ◌<◌, List, [], ◌∷◌, ◌++◌, map, Option, Some, None, inl, inr, sym, ap, ◌∙◌, arith, subst}
use Rattle.std.specs.Prelude.{Contains}
use Rattle.std.specs.List.{AllByRecursion}
use Rattle.std.proofs.lemmas.List.Elements.{Contains-append_left, Contains-push}
use Rattle.cx_base.specs.Names.{Name}
use Rattle.cx_base.specs.declared.kinds.EntityType.TheVariants.{Auth}
use Rattle.cx_laws_keys.specs.cx_journal.specs.Behind.{EachBehind}
use Rattle.cx_laws_keys.specs.cx_journal.specs.GidOnce.{Renews, SharesGid}
use Rattle.cx_laws_keys.specs.cx_journal.specs.declared.entries.Entry.{Entry}
use Rattle.cx_laws_keys.specs.cx_journal.specs.declared.entries.Entry.TheVariants as journal
use Rattle.cx_laws_keys.specs.cx_journal.specs.declared.entries.Issued.{Issued}
use Rattle.cx_rules.specs.cx_keyserver.specs.declared.tickets.Ticket.{Ticket}
use Rattle.cx_rules.specs.cx_rotate.specs.declared.states.KeptState.{KeptState}
use Rattle.cx_rules.specs.Verdicts.{login_entries}
use Rattle.cx_rules.specs.Tickets.{issued_entry}
use Rattle.cx_rules.specs.cx_steps.specs.declared.seals.Logged.{Logged}
use Rattle.cx_laws_keys.proofs.keys.Journal.{EntryLaw, login-law, IsOf, entered, has-before, has-issued, own-issued, own-other}
use Rattle.cx_laws_keys.proofs.keys.Known.{Inv, Within}
use Rattle.cx_laws_keys.proofs.keys.Steps.{inv-entered}
use Rattle.cx_laws_keys.proofs.keys.Uses.{Uses, WholeRun}
use Rattle.cx_laws_keys.proofs.login.Facts.{AreBelow, Owner}
use Rattle.cx_laws_keys.proofs.login.Issuing.{FirstOk, IsOther, TicketOk}
use Rattle.cx_laws_keys.proofs.login.Keeping.{IsGiven, IsLive}

-- the ticket as it is entered
abbrev pub issued_of : Ticket → Issued
issued_of t = record {
  entity = t.entity;
  service = t.service;
  gid = t.gid;
  generation = t.generation;
  created = t.created;
  expires = t.expires;
  caps = t.caps;
  blob = t.blob;
}

pub within-all : (K : List Entry) (js : List Entry) → Within K (entered K js)
within-all K [] = record { has = λ e h. h }
within-all K (j ∷ js) = record { has = λ e h. (within-all (K ++ j ∷ []) js).has e (Contains-append_left K (j ∷ []) e h) }

module _ (run : WholeRun) (whole : List Logged) (us : Uses) (log : List Logged) (name : Name) (gid reading : ℕ) (block : List ℕ) (mark : ℕ) (owner : Owner) (owns : owner gid ≡ Some name) where
  abbrev Others : List Ticket → Type 0
  Others ts = AllByRecursion (IsOther name gid reading block) ts

  -- what is known of a journal while the tickets are entered
  pub record IsNumbered (K : List Entry) : Type 0 where
    pub inv : Inv run whole us log K
    pub of : IsOf K name gid
    pub below : AreBelow K mark
    pub owned : (s : Issued) → Contains K (journal.Issued s) → owner s.gid ≡ Some s.entity

  -- an entry that issues nothing
  saved-numbered : (K : List Entry) (next : ℕ) → IsNumbered K → IsNumbered (K ++ journal.Saved next ∷ [])
  saved-numbered K next h = record {
    inv = inv-entered run whole us log K (journal.Saved next) h.inv (own-other K (journal.Saved next) tt h.inv.own);
    of = λ s has same. h.of s (has-before K (journal.Saved next) tt s has) same;
    below = λ s has. h.below s (has-before K (journal.Saved next) tt s has);
    owned = λ s has. h.owned s (has-before K (journal.Saved next) tt s has);
  }

  -- a ticket of this entity under this global id
  issued-numbered : (K : List Entry) (t : Ticket) → TicketOk name gid reading block t → gid < mark → IsNumbered K → IsNumbered (K ++ issued_entry t ∷ [])
  issued-numbered K t ok low h = record {
    inv = inv-entered run whole us log K (issued_entry t) h.inv
        (own-issued K (issued_of t) (λ s has same. h.of s has (same ∙ ok.gid_is) ∙ sym ok.entity) h.inv.own);
    of = λ s has same. of_place s same (has-issued K (issued_of t) s has);
    below = λ s has. below_place s (has-issued K (issued_of t) s has);
    owned = λ s has. owned_place s (has-issued K (issued_of t) s has);
  }
    where
      owned_place : (s : Issued) → Contains K (journal.Issued s) ⊎ (issued_of t ≡ s) → owner s.gid ≡ Some s.entity
      owned_place s (inl before) = h.owned s before
      owned_place s (inr is) =
          subst (λ (i : Issued). owner i.gid ≡ Some i.entity) is (ap owner ok.gid_is ∙ owns ∙ ap (λ (m : Name). Some m) (sym ok.entity))

      of_place : (s : Issued) → s.gid ≡ gid → Contains K (journal.Issued s) ⊎ (issued_of t ≡ s) → s.entity ≡ name
      of_place s same (inl before) = h.of s before same
      of_place s same (inr is) = sym (ap (λ (i : Issued). i.entity) is) ∙ ok.entity

      below_place : (s : Issued) → Contains K (journal.Issued s) ⊎ (issued_of t ≡ s) → s.gid < mark
      below_place s (inl before) = h.below s before
      below_place s (inr is) = let same : s.gid ≡ gid = sym (ap (λ (i : Issued). i.gid) is) ∙ ok.gid_is in omega arith

  -- its law
  issued-law : (K : List Entry) (t : Ticket) → TicketOk name gid reading block t → IsOf K name gid
      → (t.service ≡ Auth → (s : Issued) → Contains K (journal.Issued s) → s.gid ≡ gid → IsLive K name gid reading) → EntryLaw run K (issued_entry t)
  issued-law K t ok of live = login-law run K (issued_entry t) tt shares
    where
      renews : IsLive K name gid reading → Renews K (issued_of t)
      renews l =
          let live : reading < l.ticket.expires = l.live in
          let made : t.created ≡ reading = ok.created in
          record {
            old = l.ticket;
            issued = l.issued;
            service = l.service;
            entity = l.entity ∙ sym ok.entity;
            gid = l.gid_is ∙ sym ok.gid_is;
            live = omega arith;
          }

      shares : SharesGid K (issued_of t)
      shares other has same = (of other has (same ∙ ok.gid_is) ∙ sym ok.entity, λ auth. renews (live auth other has (same ∙ ok.gid_is)))

  -- behind some tickets
  pub record AreEntered (K : List Entry) (js : List Entry) (ts : List Ticket) : Type 0 where
    pub numbered : IsNumbered (entered K js)
    pub laws : EachBehind (EntryLaw run) K js
    pub has : AllByRecursion (λ (t : Ticket). Contains (entered K js) (issued_entry t)) ts

  others-entered : (K : List Entry) (ts : List Ticket) → Others ts → gid < mark → IsNumbered K → AreEntered K (map issued_entry ts) ts
  others-entered K [] others low h = record { numbered = h; laws = tt; has = tt }
  others-entered K (t ∷ ts) others low h =
      let more = others-entered (K ++ issued_entry t ∷ []) ts others.1 low (issued-numbered K t others.0.0 low h) in
      record {
        numbered = more.numbered;
        laws = (issued-law K t others.0.0 h.of (λ auth. absurd (others.0.1 auth)), more.laws);
        has = ((within-all (K ++ issued_entry t ∷ []) (map issued_entry ts)).has (issued_entry t) (Contains-push K (issued_entry t)), more.has);
      }

  tickets-entered : (K : List Entry) (t : Ticket) (ts : List Ticket) → FirstOk name gid reading block t ts → gid < mark
      → ((s : Issued) → Contains K (journal.Issued s) → s.gid ≡ gid → IsLive K name gid reading) → IsNumbered K → AreEntered K (map issued_entry (t ∷ ts)) (t ∷ ts)
  tickets-entered K t ts ok low live h =
      let more = others-entered (K ++ issued_entry t ∷ []) ts ok.others low (issued-numbered K t ok.first low h) in
      record {
        numbered = more.numbered;
        laws = (issued-law K t ok.first h.of (λ auth. live), more.laws);
        has = ((within-all (K ++ issued_entry t ∷ []) (map issued_entry ts)).has (issued_entry t) (Contains-push K (issued_entry t)), more.has);
      }

  -- a live ticket stays one
  live-saved : (K : List Entry) (next : ℕ) → IsLive K name gid reading → IsLive (K ++ journal.Saved next ∷ []) name gid reading
  live-saved K next l = record {
    ticket = l.ticket;
    issued = Contains-append_left K (journal.Saved next ∷ []) (journal.Issued l.ticket) l.issued;
    service = l.service;
    entity = l.entity;
    gid_is = l.gid_is;
    live = l.live;
  }

  -- each issued global id is its entity's
  abbrev pub AreOwned : List Entry → Type 0
  AreOwned K = (s : Issued) → Contains K (journal.Issued s) → owner s.gid ≡ Some s.entity

  -- all that a renewal enters
  pub renewal-entered : (J : List Entry) (save : Option KeptState) (ts : List Ticket) → Others ts → gid < mark → IsOf J name gid → Inv run whole us log J → AreBelow J mark
      → AreOwned J → AreEntered J (login_entries save ts) ts
  renewal-entered J None ts others low of i below owned = others-entered J ts others low (record { inv = i; of = of; below = below; owned = owned })
  renewal-entered J (Some state) ts others low of i below owned =
      let K : List Entry = J ++ journal.Saved state.next_gid ∷ [] in
      let first : IsNumbered K = saved-numbered J state.next_gid (record { inv = i; of = of; below = below; owned = owned }) in
      let more = others-entered K ts others low first in
      record { numbered = more.numbered; laws = (login-law run J (journal.Saved state.next_gid) tt tt, more.laws); has = more.has }

  -- all that a login enters
  pub login-entered : (J : List Entry) (save : Option KeptState) (t : Ticket) (ts : List Ticket) → FirstOk name gid reading block t ts → gid < mark
      → IsGiven J name gid reading → Inv run whole us log J → AreBelow J mark → AreOwned J → AreEntered J (login_entries save (t ∷ ts)) (t ∷ ts)
  login-entered J None t ts ok low given i below owned = tickets-entered J t ts ok low given.renews (record { inv = i; of = given.of; below = below; owned = owned })
  login-entered J (Some state) t ts ok low given i below owned =
      let K : List Entry = J ++ journal.Saved state.next_gid ∷ [] in
      let first : IsNumbered K = saved-numbered J state.next_gid (record { inv = i; of = given.of; below = below; owned = owned }) in
      let more = tickets-entered K t ts ok low
      (λ s has same. live-saved J state.next_gid (given.renews s (has-before J (journal.Saved state.next_gid) tt s has) same)) first in
      record { numbered = more.numbered; laws = (login-law run J (journal.Saved state.next_gid) tt tt, more.laws); has = more.has }
