-- Tickets that are told by their numbers: which ticket each stands for. The laws of tickets stay.
use Rattle.std.proofs.Common.{◌≡◌, ◌==◌, ◌<◌, ◌≤◌, ◌+◌, ◌^◌, ◌||◌, ℕ, zero, suc, Bool, true, false, cond, List, [], ◌∷◌, ◌++◌, length, get_or, position, Some, None, Contains, decimal, refl, sym, ap, ◌∙◌, ltb, ltb-true, arith, append-nil, append_assoc, length-append}
use Rattle.std.specs.List.{position_or_len}
use Rattle.std.specs.Option.{option_map_or}
use Rattle.std.specs.Str.{bytes_eq}
use Rattle.std.proofs.lemmas.Fmt.{decimal_injective}
use Rattle.std.proofs.lemmas.List.Elements.{Contains-append_right, filter_map-append}
use Rattle.std.proofs.lemmas.List.Sums.{passes_at_first}
use Rattle.std.proofs.lemmas.Slice.Eq.{bytes_eq-Decides}
use Rattle.cx_base.specs.Names.{Name}
use Rattle.cx_base.specs.declared.nodes.NodeName.{NodeName}
use Rattle.cx_base.specs.declared.nodes.NodeName.TheVariants as node
use Rattle.cx_journal.proofs.CountsLemmas.{no_more}
use Rattle.cx_journal.specs.Backed.{HasTicket, IsBackedBy}
use Rattle.cx_journal.specs.GidOnce.{GivesGidOnceBy, Renews, SharesGid}
use Rattle.cx_journal.specs.KeepsKeys.{KeepsKeysBy, LacksKey, NeedsFor, NeedsLook, WasIssued, has_generation, is_look}
use Rattle.cx_journal.specs.Places.{blob_of, blobs_of, next_number, ticket_number}
use Rattle.cx_journal.specs.declared.entries.Admitted.{Admitted}
use Rattle.cx_journal.specs.declared.entries.Entry.{Entry}
use Rattle.cx_journal.specs.declared.entries.Entry.TheVariants as entry
use Rattle.cx_journal.specs.declared.entries.Issued.{Issued}
use Rattle.cx_journal.specs.declared.outcomes.Reason.{Reason}
use Rattle.cx_journal.specs.declared.outcomes.Reason.TheVariants as reason
use Rattle.cx_journal.specs.declared.outcomes.TicketFault.{TicketFault}
use Rattle.cx_journal.specs.declared.outcomes.TicketFault.TheVariants as fault
use Rattle.cx_laws_text.proofs.told.Renaming.{entry_by, session_by, some-told, told-append, told_by}
use Rattle.cx_laws_text.specs.told.Told.{ids_told, reason_told}
use Rattle.cx_rotate.specs.declared.generations.Generation.{Generation}

-- a ticket that is told by this number
abbrev numbered : Issued → ℕ → Issued
numbered t number = record t { blob = decimal number }

-- ---- numbers

at-middle : (xs : List (List ℕ)) (y : List ℕ) (ys : List (List ℕ)) (d : List ℕ) → get_or (xs ++ y ∷ ys) (length xs) d ≡ y
at-middle [] y ys d = refl
at-middle (x ∷ xs) y ys d = at-middle xs y ys d

module _ (p : List ℕ → Bool) where
  -- the first that passes, from 1; 0 where none does
  abbrev first_from_one : List (List ℕ) → ℕ
  first_from_one xs = option_map_or (λ place. place + 1) (position p xs) 0

  first-low : (xs : List (List ℕ)) → first_from_one xs ≤ length xs
  first-low xs = by_test (ltb (position_or_len p xs) (length xs)) refl
    where
      by_test : (t : Bool) → ltb (position_or_len p xs) (length xs) ≡ t → option_map_or (λ place. place + 1) (cond t (Some (position_or_len p xs)) None) 0 ≤ length xs
      by_test true low = let less : position_or_len p xs < length xs = ltb-true (position_or_len p xs) (length xs) low in omega (arith, less)
      by_test false off = omega arith

  first-passes : (xs : List (List ℕ)) (y : List ℕ) (ys : List (List ℕ)) → first_from_one (xs ++ y ∷ ys) ≡ length xs + 1 → p y ≡ true
  first-passes xs y ys e = by_test (ltb (position_or_len p all) (length all)) refl e
    where
      all : List (List ℕ)
      all = xs ++ y ∷ ys

      by_test : (t : Bool) → ltb (position_or_len p (xs ++ y ∷ ys)) (length (xs ++ y ∷ ys)) ≡ t
          → option_map_or (λ place. place + 1) (cond t (Some (position_or_len p (xs ++ y ∷ ys))) None) 0 ≡ length xs + 1 → p y ≡ true
      by_test true low is =
          let less : position_or_len p (xs ++ y ∷ ys) < length (xs ++ y ∷ ys) = ltb-true (position_or_len p (xs ++ y ∷ ys)) (length (xs ++ y ∷ ys)) low in
          let at : position_or_len p (xs ++ y ∷ ys) ≡ length xs = omega (arith, is) in
          let there = ap (λ (k : ℕ). get_or (xs ++ y ∷ ys) k y) at ∙ at-middle xs y ys y in
          ap p (sym there) ∙ passes_at_first p (xs ++ y ∷ ys) y less
      by_test false off is = absurd (omega (arith, is))

-- the ticket behind these entries has the blob, where it has the number of that blob
number-blob : (es before : List Entry) (ticket : Issued) (after : List Entry) (blob : List ℕ) → es ≡ before ++ entry.Issued ticket ∷ after → length es < 2 ^ 64
    → decimal (next_number before) ≡ decimal (ticket_number es blob) → ticket.blob ≡ blob
number-blob es before ticket after blob place few e =
    let blobs : blobs_of es ≡ blobs_of before ++ ticket.blob ∷ blobs_of after = ap blobs_of place ∙ filter_map-append blob_of before (entry.Issued ticket ∷ after) in
    let long : length es ≡ length before + length (entry.Issued ticket ∷ after) = ap (λ (l : List Entry). length l) place ∙ length-append before (entry.Issued ticket ∷ after) in
    let next : next_number before < 2 ^ 64 = omega (arith, no_more blob_of before, few, long) in
    let low : ticket_number es blob < 2 ^ 64 = omega (arith, first-low (bytes_eq blob) (blobs_of es), no_more blob_of es, few) in
    let same : next_number before ≡ ticket_number es blob = decimal_injective (next_number before) (ticket_number es blob) next low e in
    let passes = first-passes (bytes_eq blob) (blobs_of before) ticket.blob (blobs_of after) (ap (first_from_one (bytes_eq blob)) (sym blobs) ∙ sym same) in
    sym ((bytes_eq-Decides blob ticket.blob).0 passes)

-- ---- which ticket stands behind one that is told

-- one of the entries issued it, and it is told by its number
record IsTicketOf (es : List Entry) (t : Issued) : Type 0 where
  before : List Entry
  ticket : Issued
  after : List Entry
  place : es ≡ before ++ entry.Issued ticket ∷ after
  is : t ≡ numbered ticket (next_number before)

there-of : (es : List Entry) (t : Issued) (w : IsTicketOf es t) → Contains es (entry.Issued w.ticket)
there-of es t w = rw w.place (Contains-append_right w.before (entry.Issued w.ticket ∷ w.after) (entry.Issued w.ticket) (0, omega arith, refl))

module _ (f : ℕ → ℕ) where
  told-place : (earlier es : List Entry) (y : Entry) (k : ℕ) → k < length (told_by f earlier es) → get_or (told_by f earlier es) k y ≡ y
      → (before : List Entry) × (e : Entry) × (after : List Entry) × (es ≡ before ++ e ∷ after) × (entry_by f (earlier ++ before) e ≡ y)
  told-place earlier [] y k low is = absurd (omega (arith, low))
  told-place earlier (e ∷ es) y zero low is = ([], e, es, refl, rw append-nil is)
  told-place earlier (e ∷ es) y (suc k) low is =
      let more = told-place (earlier ++ e ∷ []) es y k (omega (arith, low)) is in
      (e ∷ more.0, more.1, more.2, ap (λ (l : List Entry). e ∷ l) more.3, rw (append_assoc earlier (e ∷ []) more.0) at more.4)

  ticket-of : (es : List Entry) (t : Issued) → Contains (told_by f [] es) (entry.Issued t) → IsTicketOf es t
  ticket-of es t has = let w = told-place [] es (entry.Issued t) has.0 has.1 has.2 in by_kind w.0 w.1 w.2 w.3 w.4
    where
      by_kind : (before : List Entry) (e : Entry) (after : List Entry) → es ≡ before ++ e ∷ after → entry_by f before e ≡ entry.Issued t → IsTicketOf es t
      by_kind before (entry.Issued ticket) after place is =
          let same : numbered ticket (next_number before) ≡ t = cc in
          record { before = before; ticket = ticket; after = after; place = place; is = sym same }
      by_kind before _ after place is = absurd cc

  -- a ticket that was issued is told by some number
  told-has : (earlier es : List Entry) (t : Issued) (k : ℕ) → k < length es → get_or es k (entry.Issued t) ≡ entry.Issued t
      → (n : ℕ) × Contains (told_by f earlier es) (entry.Issued (numbered t n))
  told-has earlier [] t k low is = absurd (omega (arith, low))
  told-has earlier (e ∷ es) t zero low is = (next_number earlier, (0, omega arith, ap (entry_by f earlier) is))
  told-has earlier (e ∷ es) t (suc k) low is =
      let more = told-has (earlier ++ e ∷ []) es t k (omega (arith, low)) is in
      (more.0, (suc more.1.0, omega (arith, more.1.1), more.1.2))

  -- ---- the law of admission

  ticket-told : (before : List Entry) (a : Admitted) → HasTicket before a → HasTicket (told_by f [] before) (session_by f a)
  ticket-told before a h =
      let there = told-has [] before h.0 h.1.0 h.1.1 h.1.2 in
      (numbered h.0 there.0, there.1, record { entity = h.2.entity; gid = h.2.gid; caps = h.2.caps; service = h.2.service; live = h.2.live })

  pub backed-told : (before : List Entry) (e : Entry) → IsBackedBy before e → IsBackedBy (told_by f [] before) (entry_by f before e)
  backed-told before (entry.Admitted a) h = ticket-told before a h
  backed-told before (entry.Resumed a) h = ticket-told before a h
  backed-told before _ h = tt

  -- ---- the law of global ids

  renews-told : (before : List Entry) (t : Issued) (n : ℕ) → Renews before t → Renews (told_by f [] before) (numbered t n)
  renews-told before t n r =
      let there = told-has [] before r.old r.issued.0 r.issued.1 r.issued.2 in
      record { old = numbered r.old there.0; issued = there.1; service = r.service; entity = r.entity; gid = r.gid; live = r.live }

  shares-told : (before : List Entry) (t : Issued) (n : ℕ) → SharesGid before t → SharesGid (told_by f [] before) (numbered t n)
  shares-told before t n h other has same =
      let w = ticket-of before other has in
      let both = h w.ticket (there-of before other w) (ap (λ (x : Issued). x.gid) (sym w.is) ∙ same) in
      (ap (λ (x : Issued). x.entity) w.is ∙ both.0, λ auth. renews-told before t n (both.1 auth))

  pub gid-told : (before : List Entry) (e : Entry) → GivesGidOnceBy before e → GivesGidOnceBy (told_by f [] before) (entry_by f before e)
  gid-told before (entry.Issued t) h = shares-told before t (next_number before) h
  gid-told before _ h = tt

  -- ---- the law of kept keys

  had-blob : (es : List Entry) (daemon : Name) (id : ℕ) (blob : List ℕ) → length es < 2 ^ 64
      → WasIssued (told_by f [] es) daemon id (decimal (ticket_number es blob)) → WasIssued es daemon id blob
  had-blob es daemon id blob few h =
      let w = ticket-of es h.ticket h.issued in
      let number : decimal (next_number w.before) ≡ decimal (ticket_number es blob) = ap (λ (x : Issued). x.blob) (sym w.is) ∙ h.has_blob in
      record {
        ticket = w.ticket;
        issued = there-of es h.ticket w;
        has_blob = number-blob es w.before w.ticket w.after blob w.place few number;
        service = ap (λ (x : Issued). x.service) (sym w.is) ∙ h.service;
        under = ap (λ (x : Issued). x.generation) (sym w.is) ∙ h.under;
      }

  ids-same : (generations : List Generation) (id : ℕ) → has_generation (ids_told generations) id ≡ has_generation generations id
  ids-same [] id = refl
  ids-same (g ∷ generations) id = ap (λ (b : Bool). (g.id == id) || b) (ids-same generations id)

  look-told : (daemon : Name) (link : ℕ) (earlier : List Entry) (e : Entry) → is_look daemon link (entry_by f earlier e) ≡ is_look daemon link e
  look-told daemon link earlier (entry.Looked l) = refl
  look-told daemon link earlier _ = refl

  lacks-told : (es : List Entry) (daemon : Name) (link id : ℕ) → LacksKey es daemon link id → LacksKey (told_by f [] es) daemon link id
  lacks-told es daemon link id l = record {
    before = told_by f [] l.before;
    look = record l.look { view = record { generations = ids_told l.look.view.generations; asked = l.look.view.asked } };
    after = told_by f (l.before ++ entry.Looked l.look ∷ []) l.after;
    place = ap (told_by f []) l.place ∙ told-append f [] l.before (entry.Looked l.look ∷ l.after);
    looked = l.looked;
    latest = some-told f (is_look daemon link) (is_look daemon link) (look-told daemon link) (l.before ++ entry.Looked l.look ∷ []) l.after ∙ l.latest;
    lacks = ids-same l.look.view.generations id ∙ l.lacks;
  }

  module _ (before : List Entry) (few : length before < 2 ^ 64) where
    fault-told : (daemon : Name) (link : ℕ) (why : TicketFault) (blob : List ℕ) → NeedsLook before daemon link why blob
        → NeedsLook (told_by f [] before) daemon link why (decimal (ticket_number before blob))
    fault-told daemon link (fault.UnknownGeneration id) blob needs = λ was. lacks-told before daemon link id (needs (had-blob before daemon id blob few was))
    fault-told daemon link (fault.TicketUnopened id) blob needs = λ was. lacks-told before daemon link id (needs (had-blob before daemon id blob few was))
    fault-told daemon link _ blob needs = tt

    refusal-told : (at : NodeName) (link : ℕ) (why : Reason) → NeedsFor before at link why → NeedsFor (told_by f [] before) at link (reason_told before why)
    refusal-told (node.Entity daemon) link (reason.Ticket why blob) needs = fault-told daemon link why blob needs
    refusal-told _ link _ needs = tt

    pub keeps-told : (e : Entry) → KeepsKeysBy before e → KeepsKeysBy (told_by f [] before) (entry_by f before e)
    keeps-told (entry.Refused r) h = refusal-told r.node r.link r.reason h
    keeps-told _ h = tt
