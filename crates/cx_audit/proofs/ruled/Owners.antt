-- Whose global ids are, behind one entry more: a further ticket for the same entity tells nothing more.
use Rattle.std.proofs.Common.{◌≡◌, ℕ, Bool, true, false, cond, List, [], ◌∷◌, ◌++◌, Option, Some, None, refl, sym, ap, ◌∙◌, ◌==◌}
use Rattle.std.specs.Prelude.{◌&&◌, ◌||◌, not}
use Rattle.std.specs.List.{list_any}
use Rattle.std.proofs.lemmas.Bool.{eqb-true}
use Rattle.std.proofs.lemmas.List.Folds.{list_any-append}
use Rattle.cx_base.specs.Names.{same_name}
use Rattle.cx_base.proofs.Names.{same_name_is}
use Rattle.cx_journal.specs.declared.entries.Entry.{Entry}
use Rattle.cx_journal.specs.declared.entries.Entry.TheVariants as entry
use Rattle.cx_journal.specs.declared.entries.Issued.{Issued}
use Rattle.cx_audit.specs.indexed.Keyed.{Puts, number_key, put_of, same_key, under}
use Rattle.cx_audit.specs.declared.key.Key.{Key}
use Rattle.cx_audit.proofs.indexed.Keys.{key_self}
use Rattle.cx_audit.specs.ruled.Tests.{differs, has_gid, owner_key, owns}
use Rattle.cx_audit.specs.declared.known.Known.{Known}
use Rattle.cx_audit.proofs.ruled.Tests.{any_found, any_holds, both}

or_true : (b : Bool) → (b || true) ≡ true
or_true true = refl
or_true false = refl

or_false : (b : Bool) → (b || false) ≡ b
or_false true = refl
or_false false = refl

any_last : (p : Entry → Bool) (es : List Entry) (e : Entry) (b : Bool) → p e ≡ b → list_any p (es ++ e ∷ []) ≡ (list_any p es || b)
any_last p es e b is = list_any-append p es (e ∷ []) ∙ ap (λ k. list_any p es || k) (or_false (p e) ∙ is)

-- where the entry passes, some entry under the key does once it is put; then both lists tell the same
any_put : (p : Entry → Bool) (lists : Key → List Entry) (key : Key) (own : Option Key) (e : Entry) (es : List Entry) (b : Bool) → p e ≡ b
    → (b ≡ true → list_any p (put_of own e lists key) ≡ true) → list_any p (lists key) ≡ list_any p es → list_any p (put_of own e lists key) ≡ list_any p (es ++ e ∷ [])
any_put p lists key own e es true is hit same = hit refl ∙ sym (any_last p es e true is ∙ or_true (list_any p es))
any_put p lists key None e es false is hit same = same ∙ sym (any_last p es e false is ∙ or_false (list_any p es))
any_put p lists key (Some k) e es false is hit same = by_case (same_key k key) ∙ same ∙ sym (any_last p es e false is ∙ or_false (list_any p es))
  where
    by_case : (put : Bool) → list_any p (cond put (lists key ++ e ∷ []) (lists key)) ≡ list_any p (lists key)
    by_case true = any_last p (lists key) e false is ∙ or_false (list_any p (lists key))
    by_case false = refl

-- a test that tells of a ticket by its global id and entity alone
record ByOwner (p : Entry → Bool) (gid : ℕ) : Type 0 where
  gives : (t : Issued) → p (entry.Issued t) ≡ true → t.gid ≡ gid
  alike : (t other : Issued) → p (entry.Issued t) ≡ true → other.gid ≡ t.gid → other.entity ≡ t.entity → p (entry.Issued other) ≡ true
  alone : (e : Entry) → p e ≡ true → (t : Issued) × (e ≡ entry.Issued t)

owns_is : (t : Issued) (e : Entry) → owns t e ≡ true → (other : Issued) × (e ≡ entry.Issued other) × (other.gid ≡ t.gid) × (other.entity ≡ t.entity)
owns_is t (entry.Issued other) e =
    let parts = both (other.gid == t.gid) (same_name other.entity t.entity) e in
    (other, refl, eqb-true other.gid t.gid parts.0, same_name_is other.entity t.entity parts.1)
owns_is t _ e = cc

module _ (p : Entry → Bool) (gid : ℕ) (by : ByOwner p gid) (lists : Key → List Entry) where
  owned_hit : (t : Issued) (owned : Bool) → list_any (owns t) (lists (number_key t.gid)) ≡ owned → p (entry.Issued t) ≡ true
      → list_any p (put_of (cond owned None (Some (number_key t.gid))) (entry.Issued t) lists (number_key gid)) ≡ true
  owned_hit t true is hit =
      let found = any_found (owns t) (lists (number_key t.gid)) is in
      let one = owns_is t found.0 found.2 in
      let passes : p found.0 ≡ true = ap p one.1 ∙ by.alike t one.0 hit one.2 one.3 in
      ap (λ g. list_any p (lists (number_key g))) (sym (by.gives t hit)) ∙ any_holds p (lists (number_key t.gid)) found.0 found.1 passes
  owned_hit t false is hit =
      let same : same_key (number_key t.gid) (number_key gid) ≡ true = ap (λ g. same_key (number_key t.gid) (number_key g)) (sym (by.gives t hit)) ∙ key_self (number_key t.gid) in
      ap (λ b. list_any p (cond b (lists (number_key gid) ++ entry.Issued t ∷ []) (lists (number_key gid)))) same
      ∙ any_last p (lists (number_key gid)) (entry.Issued t) true hit
      ∙ or_true (list_any p (lists (number_key gid)))

owner_hit : (p : Entry → Bool) (gid : ℕ) → ByOwner p gid → (known : Known) (e : Entry) → p e ≡ true → list_any p (put_of (owner_key known e) e (under known.owners) (number_key gid)) ≡ true
owner_hit p gid by known e hit =
    let one = by.alone e hit in
    ap (λ x. list_any p (put_of (owner_key known x) x (under known.owners) (number_key gid))) one.1
    ∙ owned_hit p gid by (under known.owners) one.0 (list_any (owns one.0) (under known.owners (number_key one.0.gid))) refl (sym (ap p one.1) ∙ hit)

owner_put : (p : Entry → Bool) (gid : ℕ) → ByOwner p gid → (earlier : List Entry) (old new : Known) (e : Entry) → list_any p (under old.owners (number_key gid)) ≡ list_any p earlier
    → Puts (owner_key old e) e old.owners new.owners → list_any p (under new.owners (number_key gid)) ≡ list_any p (earlier ++ e ∷ [])
owner_put p gid by earlier old new e same puts =
    ap (list_any p) (puts (number_key gid))
    ∙ any_put p (under old.owners) (number_key gid) (owner_key old e) e earlier (p e) refl (λ hit. owner_hit p gid by old e hit) same

-- ---- both tests of global ids

differs_alone : (t : Issued) (e : Entry) → differs t e ≡ true → (other : Issued) × (e ≡ entry.Issued other)
differs_alone t (entry.Issued other) e = (other, refl)
differs_alone t _ e = cc

given_alone : (t : Issued) (e : Entry) → has_gid t e ≡ true → (other : Issued) × (e ≡ entry.Issued other)
given_alone t (entry.Issued other) e = (other, refl)
given_alone t _ e = cc

taken_by : (t : Issued) → ByOwner (differs t) t.gid
taken_by t = record {
  gives = λ u hit. eqb-true u.gid t.gid (both (u.gid == t.gid) (not (same_name u.entity t.entity)) hit).0;
  alike = λ u other hit gids names.
      ap (λ g. (g == t.gid) && not (same_name other.entity t.entity)) gids ∙ ap (λ n. (u.gid == t.gid) && not (same_name n t.entity)) names ∙ hit;
  alone = differs_alone t;
}

given_by : (t : Issued) → ByOwner (has_gid t) t.gid
given_by t = record {
  gives = λ u hit. eqb-true u.gid t.gid hit;
  alike = λ u other hit gids names. ap (λ g. g == t.gid) gids ∙ hit;
  alone = given_alone t;
}

pub taken_more : (earlier : List Entry) (old new : Known) (e : Entry) → ((t : Issued) → list_any (differs t) (under old.owners (number_key t.gid)) ≡ list_any (differs t) earlier)
    → Puts (owner_key old e) e old.owners new.owners → (t : Issued) → list_any (differs t) (under new.owners (number_key t.gid)) ≡ list_any (differs t) (earlier ++ e ∷ [])
taken_more earlier old new e same puts t = owner_put (differs t) t.gid (taken_by t) earlier old new e (same t) puts

pub given_more : (earlier : List Entry) (old new : Known) (e : Entry) → ((t : Issued) → list_any (has_gid t) (under old.owners (number_key t.gid)) ≡ list_any (has_gid t) earlier)
    → Puts (owner_key old e) e old.owners new.owners → (t : Issued) → list_any (has_gid t) (under new.owners (number_key t.gid)) ≡ list_any (has_gid t) (earlier ++ e ∷ [])
given_more earlier old new e same puts t = owner_put (has_gid t) t.gid (given_by t) earlier old new e (same t) puts
