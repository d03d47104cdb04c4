-- Which global id an entity gets: the one of its own live ticket, or one that nobody had.
use Rattle.std.proofs.Common.{◌≡◌, ℕ, ◌+◌, ◌-◌, ◌^◌, ◌<◌, ◌≤◌, ◌==◌, Bool, true, false, List, Option, Some, None, Result, Ok, Err, refl, sym, ◌∙◌, arith, ap}
use Rattle.std.specs.Prelude.{Contains, nat_lt, not, ◌&&◌, if◌then◌else◌}
use Rattle.std.proofs.lemmas.Bool.{and_parts, eqb-false, ltb-true}
use Rattle.cx_base.proofs.Names.{same_name_is}
use Rattle.cx_base.specs.Names.{Name, same_name}
use Rattle.cx_base.specs.declared.kinds.EntityType.TheVariants.{Auth}
use Rattle.cx_laws_keys.specs.cx_journal.specs.declared.entries.Entry.{Entry}
use Rattle.cx_laws_keys.specs.cx_journal.specs.declared.entries.Entry.TheVariants as journal
use Rattle.cx_laws_keys.specs.cx_journal.specs.declared.entries.Issued.{Issued}
use Rattle.cx_laws_keys.specs.cx_journal.specs.declared.faults.LoginFault.{LoginFault}
use Rattle.cx_laws_keys.specs.cx_journal.specs.declared.faults.LoginFault.TheVariants as login
use Rattle.cx_rules.specs.cx_keyserver.specs.Servers.{Server}
use Rattle.cx_rules.specs.cx_login.specs.Monitor.{kept_gid, reclaimed}
use Rattle.cx_rules.specs.cx_login.specs.declared.monitor.Reclaim.TheVariants.{Fresh, Denied}
use Rattle.cx_rules.specs.cx_rotate.specs.declared.states.KeptState.{KeptState}
use Rattle.cx_rules.specs.Monitor.{Monitor}
use Rattle.cx_rules.specs.Verdicts.{Numbered, next_number, numbered}
use Rattle.cx_laws_keys.specs.cx_sealed.specs.declared.service_ticket.ServiceTicket.{ServiceTicket}
use Rattle.cx_laws_keys.proofs.keys.Journal.{IsOf}
use Rattle.cx_laws_keys.proofs.keys.Known.{AreOwn, HasTicket}
use Rattle.cx_laws_keys.proofs.keys.Uses.{Uses}
use Rattle.cx_laws_keys.proofs.login.Facts.{OwnOk, Owner, IsFree, own-with, owner_with}

-- an earlier ticket for AUTH of this entity under this global id, which is live at this reading
pub record IsLive (J : List Entry) (name : Name) (gid reading : ℕ) : Type 0 where
  pub ticket : Issued
  pub issued : Contains J (journal.Issued ticket)
  pub service : ticket.service ≡ Auth
  pub entity : ticket.entity ≡ name
  pub gid_is : ticket.gid ≡ gid
  pub live : reading < ticket.expires

-- a global id that an entity may get: nobody else has it, and if it was issued at all, a live ticket of the entity has it
pub record IsGiven (J : List Entry) (name : Name) (gid reading : ℕ) : Type 0 where
  pub of : IsOf J name gid
  pub renews : (s : Issued) → Contains J (journal.Issued s) → s.gid ≡ gid → IsLive J name gid reading

-- a ticket for AUTH was issued that this one says, whatever its generation
abbrev pub HadTicket : List Entry → ServiceTicket → Type 0
HadTicket J x = (id : ℕ) × (key : List ℕ) × (content : List ℕ) × HasTicket J Auth id key content x

-- the monitor's own with another key server
abbrev pub serving : Monitor → Server → Monitor
serving own server = record own { server = server }

-- the monitor with the key server behind a global id, which lies below its next one
pub record NumberOk (before : KeptState) (owner : Owner) (us : Uses) (J : List Entry) (own : Monitor) (name : Name) (reading : ℕ) (n : Numbered) : Type 0 where
  pub owns : OwnOk before (owner_with owner n.gid name) us J (serving own n.server)
  pub below : n.gid < n.server.state.next_gid
  pub given : IsGiven J name n.gid reading
  pub free : IsFree owner n.gid name

abbrev pub NumbersOk : KeptState → Owner → Uses → List Entry → Monitor → Name → ℕ → Result Numbered LoginFault → Type 0
NumbersOk before owner us J own name reading (Ok n) = NumberOk before owner us J own name reading n
NumbersOk before owner us J own name reading (Err why) = Unit {0}

module _ (before : KeptState) (owner : Owner) (us : Uses) (J : List Entry) (own : Monitor) (name : Name) (reading : ℕ) where
  -- the next global id is one that nobody had
  next-ok : OwnOk before owner us J own → NumbersOk before owner us J own name reading (next_number own.server)
  next-ok ok = by_test (own.server.state.next_gid == 2 ^ 64 - 1) refl
    where
      by_test : (t : Bool) → (own.server.state.next_gid == 2 ^ 64 - 1) ≡ t → NumbersOk before owner us J own name reading (if t then Err login.GidsSpent else Ok (record {
        server = record own.server { state = record own.server.state { next_gid = own.server.state.next_gid + 1 } };
        gid = own.server.state.next_gid;
      }))
      by_test true is = tt
      by_test false is =
          let numbered : own.server.state.next_gid < 2 ^ 64 = ok.present.numbered in
          let rises : own.saved.next_gid ≤ own.server.state.next_gid = ok.rises in
          let short : own.server.state.next_gid + 1 < 2 ^ 64 = omega (arith, eqb-false own.server.state.next_gid (2 ^ 64 - 1) is) in
          let gid : ℕ = own.server.state.next_gid in
          let free : IsFree owner gid name = λ m is. absurd (nobody m (owner gid) (ok.unowned gid (omega arith)) is) in
          let next : Server = record own.server { state = record own.server.state { next_gid = gid + 1 } } in
          let raised : OwnOk before owner us J (serving own next) = record {
            ring = ok.ring;
            present = record { generated = ok.present.generated; writable = ok.present.writable; numbered = short };
            saved = ok.saved;
            before_is = ok.before_is;
            grown = ok.grown;
            below = ok.below;
            rises = omega arith;
            owned = ok.owned;
            unowned = λ x le. ok.unowned x (omega arith);
          } in
          record {
            owns = own-with before owner us J (serving own next) gid name free (omega arith) raised;
            free = free;
            below = omega arith;
            given = record {
              of = λ s has same. absurd (unused s has same rises);
              renews = λ s has same. absurd (unused s has same rises);
            };
          }
        where
          nobody : (m : Name) (x : Option Name) → x ≡ None → x ≡ Some m → ⊥
          nobody m x none some = absurd cc

          unused : (s : Issued) → Contains J (journal.Issued s) → s.gid ≡ own.server.state.next_gid → own.saved.next_gid ≤ own.server.state.next_gid → ⊥
          unused s has same rises = let low : s.gid < own.saved.next_gid = ok.below s has in omega arith

  -- a global id that is kept is the entity's own
  kept-ok : (gid : ℕ) → OwnOk before owner us J own → AreOwn J → IsLive J name gid reading → NumberOk before owner us J own name reading (record { server = own.server; gid = gid })
  kept-ok gid ok own_gids live =
      let low : live.ticket.gid < own.saved.next_gid = ok.below live.ticket live.issued in
      let rises : own.saved.next_gid ≤ own.server.state.next_gid = ok.rises in
      let same : live.ticket.gid ≡ gid = live.gid_is in
      let free : IsFree owner gid name = λ m is. theirs m (sym is ∙ ap owner (sym same) ∙ ok.owned live.ticket live.issued ∙ ap (λ (n : Name). Some n) live.entity) in
      let low_gid : gid < own.server.state.next_gid = omega arith in
      record {
        owns = own-with before owner us J own gid name free low_gid ok;
        free = free;
        below = low_gid;
        given = record {
          of = λ s has is. own_gids s live.ticket has live.issued (is ∙ sym live.gid_is) ∙ live.entity;
          renews = λ s has is. live;
        };
      }
    where
      theirs : (m : Name) → Some m ≡ Some name → m ≡ name
      theirs m is = cc

  -- an old ticket that opened is one that was issued for AUTH
  abbrev pub IsOld : Option ServiceTicket → Type 0
  IsOld old = (x : ServiceTicket) → old ≡ Some x → HadTicket J x

  abbrev IsKept : Option ℕ → Type 0
  IsKept kept = (gid : ℕ) → kept ≡ Some gid → IsLive J name gid reading

  kept-live : (old : Option ServiceTicket) → IsOld old → IsKept (kept_gid name reading old)
  kept-live None h = λ gid e. absurd cc
  kept-live (Some x) h = by_test (same_name x.name name && nat_lt reading x.expires) refl
    where
      by_test : (t : Bool) → (same_name x.name name && nat_lt reading x.expires) ≡ t → IsKept (if t then Some x.gid else None)
      by_test false is = λ gid e. absurd cc
      by_test true is = λ gid e.
          let parts = and_parts (same_name x.name name) (nat_lt reading x.expires) is in
          let same : x.gid ≡ gid = cc in
          let old : HadTicket J x = h x refl in
          let told : HasTicket J Auth old.0 old.1 old.2 x = old.3 in
          let early : reading < x.expires = ltb-true reading x.expires parts.1 in
          let later : x.expires ≤ told.ticket.expires = told.expires in
          record {
            ticket = told.ticket;
            issued = told.issued;
            service = told.service_is;
            entity = told.entity ∙ same_name_is x.name name parts.0;
            gid_is = told.gid ∙ same;
            live = omega arith;
          }

  pub numbered-ok : (hello version : ℕ) (old : Option ServiceTicket) → OwnOk before owner us J own → AreOwn J → IsOld old
      → NumbersOk before owner us J own name reading (numbered own.server (reclaimed hello version (kept_gid name reading old)))
  numbered-ok hello version old ok own_gids h = by_kept (kept_gid name reading old) (kept-live old h)
    where
      by_denied : (t : Bool) → NumbersOk before owner us J own name reading (numbered own.server (if t then Denied hello else Fresh))
      by_denied true = tt
      by_denied false = next-ok ok

      by_kept : (kept : Option ℕ) → IsKept kept → NumbersOk before owner us J own name reading (numbered own.server (reclaimed hello version kept))
      by_kept (Some gid) k = kept-ok gid ok own_gids (k gid refl)
      by_kept None k = by_denied ((version == 3) && not (hello == 0))
