-- The tests of tickets say what the laws of admission and of global ids do.
use Rattle.std.proofs.Common.{◌≡◌, ℕ, ◌<◌, Bool, true, false, List, ◌⊎◌, inl, inr, refl, sym, ◌∙◌, arith, nat_lt, eq-eqb, ◌==◌}
use Rattle.std.specs.Prelude.{◌&&◌, ◌||◌, not}
use Rattle.std.specs.List.{list_any}
use Rattle.std.specs.Str.{bytes_eq}
use Rattle.std.proofs.lemmas.Bool.{eqb-true}
use Rattle.std.proofs.lemmas.Bool.Decides.{nat_tests}
use Rattle.std.proofs.lemmas.Slice.Eq.{bytes_eq-Decides}
use Rattle.cx_base.specs.Names.{Name, same_kind, same_name}
use Rattle.cx_base.specs.declared.kinds.EntityType.{EntityType}
use Rattle.cx_base.specs.declared.kinds.EntityType.TheVariants.{Auth}
use Rattle.cx_base.proofs.Names.{same_kind_is, same_kind_self, same_name_is, same_name_self}
use Rattle.cx_journal.specs.Backed.{Backs, HasTicket}
use Rattle.cx_journal.specs.GidOnce.{Renews, SharesGid}
use Rattle.cx_journal.specs.declared.entries.Admitted.{Admitted}
use Rattle.cx_journal.specs.declared.entries.Entry.{Entry}
use Rattle.cx_journal.specs.declared.entries.Entry.TheVariants as entry
use Rattle.cx_journal.specs.declared.entries.Issued.{Issued}
use Rattle.cx_audit.specs.ruled.Tests.{backs, differs, has_gid, renews, shares_gid}
use Rattle.cx_audit.proofs.ruled.Tests.{any_found, any_holds, any_missing, both, unequal}

pub same_bytes_are : (xs ys : List ℕ) → bytes_eq xs ys ≡ true → xs ≡ ys
same_bytes_are xs ys e = (bytes_eq-Decides xs ys).0 e

pub same_bytes_self : (xs ys : List ℕ) → xs ≡ ys → bytes_eq xs ys ≡ true
same_bytes_self xs ys e = (bytes_eq-Decides xs ys).1 e

pub same_of : (a b : Name) → a ≡ b → same_name a b ≡ true
same_of a b e = rw e (same_name_self b)

pub kind_of : (a b : EntityType) → a ≡ b → same_kind a b ≡ true
kind_of a b e = rw e (same_kind_self b)

-- ---- admission

backs_is : (s : Admitted) (e : Entry) → backs s e ≡ true → (t : Issued) × (e ≡ entry.Issued t) × Backs t s
backs_is s (entry.Issued t) e =
    let four = both (same_name t.entity s.entity && (t.gid == s.gid) && bytes_eq t.caps s.caps && same_kind t.service s.daemon.kind) (nat_lt s.at t.expires) e in
    let three = both (same_name t.entity s.entity && (t.gid == s.gid) && bytes_eq t.caps s.caps) (same_kind t.service s.daemon.kind) four.0 in
    let two = both (same_name t.entity s.entity && (t.gid == s.gid)) (bytes_eq t.caps s.caps) three.0 in
    let one = both (same_name t.entity s.entity) (t.gid == s.gid) two.0 in (
      t,
      refl,
      record {
        entity = same_name_is t.entity s.entity one.0;
        gid = eqb-true t.gid s.gid one.1;
        caps = same_bytes_are t.caps s.caps two.1;
        service = same_kind_is t.service s.daemon.kind three.1;
        live = grind (arith, nat_tests, four.1);
      },
    )
backs_is s _ e = cc

is_backs : (t : Issued) (s : Admitted) → Backs t s → backs s (entry.Issued t) ≡ true
is_backs t s b =
    let low : nat_lt s.at t.expires ≡ true = grind (arith, nat_tests, b.live) in
    rw (same_of t.entity s.entity b.entity, eq-eqb t.gid s.gid b.gid, same_bytes_self t.caps s.caps b.caps, kind_of t.service s.daemon.kind b.service, low) refl

pub backed : (earlier : List Entry) (s : Admitted) → list_any (backs s) earlier ≡ true → HasTicket earlier s
backed earlier s e =
    let found = any_found (backs s) earlier e in
    let ticket = backs_is s found.0 found.2 in
    (ticket.0, rw (← ticket.1) found.1, ticket.2)

pub unbacked : (earlier : List Entry) (s : Admitted) → list_any (backs s) earlier ≡ false → HasTicket earlier s → ⊥
unbacked earlier s e ticket =
    unequal (sym (any_holds (backs s) earlier (entry.Issued ticket.0) ticket.1 (is_backs ticket.0 s ticket.2)) ∙ e)

-- ---- global ids

pub unnot : (b : Bool) → not b ≡ true → b ≡ false
unnot false e = refl
unnot true e = cc

has_gid_is : (t : Issued) (e : Entry) → has_gid t e ≡ true → (other : Issued) × (e ≡ entry.Issued other) × (other.gid ≡ t.gid)
has_gid_is t (entry.Issued other) e = (other, refl, eqb-true other.gid t.gid e)
has_gid_is t _ e = cc

differs_is : (t : Issued) (e : Entry) → differs t e ≡ true → (other : Issued) × (e ≡ entry.Issued other) × (other.gid ≡ t.gid) × (same_name other.entity t.entity ≡ false)
differs_is t (entry.Issued other) e =
    let parts = both (other.gid == t.gid) (not (same_name other.entity t.entity)) e in
    (other, refl, eqb-true other.gid t.gid parts.0, unnot (same_name other.entity t.entity) parts.1)
differs_is t _ e = cc

renews_is : (t : Issued) (e : Entry) → renews t e ≡ true → (old : Issued) × (e ≡ entry.Issued old) × (old.service ≡ Auth) × (old.entity ≡ t.entity) × (old.gid ≡ t.gid) × (t.created < old.expires)
renews_is t (entry.Issued old) e =
    let three = both (same_kind old.service Auth && same_name old.entity t.entity && (old.gid == t.gid)) (nat_lt t.created old.expires) e in
    let two = both (same_kind old.service Auth && same_name old.entity t.entity) (old.gid == t.gid) three.0 in
    let one = both (same_kind old.service Auth) (same_name old.entity t.entity) two.0 in
    (old, refl, same_kind_is old.service Auth one.0, same_name_is old.entity t.entity one.1, eqb-true old.gid t.gid two.1, (let low : t.created < old.expires = grind (arith, nat_tests, three.1) in low))
renews_is t _ e = cc

is_renews : (earlier : List Entry) (t : Issued) (r : Renews earlier t) → renews t (entry.Issued r.old) ≡ true
is_renews earlier t r =
    let low : nat_lt t.created r.old.expires ≡ true = grind (arith, nat_tests, r.live) in
    rw (kind_of r.old.service Auth r.service, same_of r.old.entity t.entity r.entity, eq-eqb r.old.gid t.gid r.gid, low) refl

renewed : (earlier : List Entry) (t : Issued) → list_any (renews t) earlier ≡ true → Renews earlier t
renewed earlier t e =
    let found = any_found (renews t) earlier e in
    let old = renews_is t found.0 found.2 in
    record {
      old = old.0;
      issued = rw (← old.1) found.1;
      service = old.2;
      entity = old.3;
      gid = old.4;
      live = old.5;
    }

same_entity : (t other : Issued) (b : Bool) → same_name other.entity t.entity ≡ b → other.gid ≡ t.gid → differs t (entry.Issued other) ≡ false → other.entity ≡ t.entity
same_entity t other true is gid none = same_name_is other.entity t.entity is
same_entity t other false is gid none =
    let hit : differs t (entry.Issued other) ≡ true = rw (eq-eqb other.gid t.gid gid, is) refl in
    unequal (sym hit ∙ none)

then_renewed : (a b c : Bool) → a ≡ true → b ≡ true → (not a || (not b || c)) ≡ true → c ≡ true
then_renewed a b true is given e = refl
then_renewed true true false is given e = cc
then_renewed false b false is given e = cc
then_renewed true false false is given e = cc

pub shares : (earlier : List Entry) (t : Issued) → shares_gid earlier earlier t ≡ true → SharesGid earlier t
shares earlier t e other c gid =
    let parts = both (not (list_any (differs t) earlier)) (not (same_kind t.service Auth) || (not (list_any (has_gid t) earlier) || list_any (renews t) earlier)) e in
    let none = unnot (list_any (differs t) earlier) parts.0 in
    let one = any_missing (differs t) earlier none (entry.Issued other) c in
    let hit : has_gid t (entry.Issued other) ≡ true = eq-eqb other.gid t.gid gid in
    let given = any_holds (has_gid t) earlier (entry.Issued other) c hit in (
      same_entity t other (same_name other.entity t.entity) refl gid one,
      λ is. renewed earlier t (then_renewed (same_kind t.service Auth) (list_any (has_gid t) earlier) (list_any (renews t) earlier) (kind_of t.service Auth is) given parts.1),
    )

-- what is wrong where the test fails: another entity, or a login that renews nothing
fails_how : (a b c d : Bool) → (not a && (not b || (not c || d))) ≡ false → (a ≡ true) ⊎ ((b ≡ true) × (c ≡ true) × (d ≡ false))
fails_how true b c d e = inl refl
fails_how false true true false e = inr (refl, refl, refl)
fails_how false false c d e = cc
fails_how false true false d e = cc
fails_how false true true true e = cc

unshared_by : (earlier : List Entry) (t : Issued) → SharesGid earlier t
    → (list_any (differs t) earlier ≡ true) ⊎ ((same_kind t.service Auth ≡ true) × (list_any (has_gid t) earlier ≡ true) × (list_any (renews t) earlier ≡ false)) → ⊥
unshared_by earlier t law (inl other) =
    let found = any_found (differs t) earlier other in
    let one = differs_is t found.0 found.2 in
    let same = (law one.0 (rw (← one.1) found.1) one.2).0 in
    unequal (sym (same_of one.0.entity t.entity same) ∙ one.3)
unshared_by earlier t law (inr fresh) =
    let found = any_found (has_gid t) earlier fresh.1 in
    let one = has_gid_is t found.0 found.2 in
    let old = (law one.0 (rw (← one.1) found.1) one.2).1 (same_kind_is t.service Auth fresh.0) in
    unequal (sym (any_holds (renews t) earlier (entry.Issued old.old) old.issued (is_renews earlier t old)) ∙ fresh.2)

pub unshared : (earlier : List Entry) (t : Issued) → shares_gid earlier earlier t ≡ false → SharesGid earlier t → ⊥
unshared earlier t e law =
    unshared_by earlier t law (fails_how (list_any (differs t) earlier) (same_kind t.service Auth) (list_any (has_gid t) earlier) (list_any (renews t) earlier) e)
