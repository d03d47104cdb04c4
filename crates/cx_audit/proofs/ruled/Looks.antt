-- The test of a refusal for a generation says what the law of kept keys does.
use Rattle.std.proofs.Common.{◌≡◌, ℕ, Bool, true, false, List, ◌∷◌, ◌++◌, Option, Some, None, refl, sym, ap, ◌∙◌, eq-eqb, ◌==◌}
use Rattle.std.specs.Prelude.{◌&&◌, ◌||◌, not}
use Rattle.std.specs.List.{list_any}
use Rattle.std.specs.Str.{bytes_eq}
use Rattle.std.proofs.lemmas.Bool.{eqb-true}
use Rattle.cx_base.specs.Names.{Name, same_kind}
use Rattle.cx_base.proofs.Names.{same_kind_is}
use Rattle.cx_journal.proofs.LastSuch.{last_at, last_is}
use Rattle.cx_journal.specs.KeepsKeys.{LacksIssued, LacksKey, WasIssued, has_generation, is_look}
use Rattle.cx_journal.specs.Sessions.{last_such}
use Rattle.cx_journal.specs.declared.entries.Entry.{Entry}
use Rattle.cx_journal.specs.declared.entries.Entry.TheVariants as entry
use Rattle.cx_journal.specs.declared.entries.Issued.{Issued}
use Rattle.cx_journal.specs.declared.entries.Looked.{Looked}
use Rattle.cx_audit.specs.ruled.Tests.{is_issued_as, keeps_key, lacks}
use Rattle.cx_audit.proofs.ruled.Tests.{any_found, any_holds, both, unequal}
use Rattle.cx_audit.proofs.ruled.TicketLaws.{kind_of, same_bytes_are, same_bytes_self, unnot}

-- ---- tickets

issued_is : (d : Name) (g : ℕ) (blob : List ℕ) (e : Entry) → is_issued_as d g blob e ≡ true → (t : Issued) × (e ≡ entry.Issued t) × (t.blob ≡ blob) × (t.service ≡ d.kind) × (t.generation ≡ g)
issued_is d g blob (entry.Issued t) e =
    let two = both (bytes_eq t.blob blob && same_kind t.service d.kind) (t.generation == g) e in
    let one = both (bytes_eq t.blob blob) (same_kind t.service d.kind) two.0 in
    (t, refl, same_bytes_are t.blob blob one.0, same_kind_is t.service d.kind one.1, eqb-true t.generation g two.1)
issued_is d g blob _ e = cc

was_issued : (earlier : List Entry) (d : Name) (g : ℕ) (blob : List ℕ) → list_any (is_issued_as d g blob) earlier ≡ true → WasIssued earlier d g blob
was_issued earlier d g blob e =
    let found = any_found (is_issued_as d g blob) earlier e in
    let one = issued_is d g blob found.0 found.2 in
    record { ticket = one.0; issued = rw (← one.1) found.1; has_blob = one.2; service = one.3; under = one.4 }

is_issued : (earlier : List Entry) (d : Name) (g : ℕ) (blob : List ℕ) → WasIssued earlier d g blob → list_any (is_issued_as d g blob) earlier ≡ true
is_issued earlier d g blob w =
    let hit : is_issued_as d g blob (entry.Issued w.ticket) ≡ true =
    rw (same_bytes_self w.ticket.blob blob w.has_blob, kind_of w.ticket.service d.kind w.service, eq-eqb w.ticket.generation g w.under) refl in
    any_holds (is_issued_as d g blob) earlier (entry.Issued w.ticket) w.issued hit

-- ---- looks

looked_is : (d : Name) (link : ℕ) (e : Entry) → is_look d link e ≡ true → (look : Looked) × (e ≡ entry.Looked look)
looked_is d link (entry.Looked look) e = (look, refl)
looked_is d link _ e = cc

lacks_key : (earlier : List Entry) (d : Name) (link g : ℕ) (o : Option Entry) → last_such (is_look d link) earlier ≡ o → lacks g o ≡ true → LacksKey earlier d link g
lacks_key earlier d link g None is e = unequal (sym e)
lacks_key earlier d link g (Some x) is e =
    let last = last_at (is_look d link) earlier x is in
    let one = looked_is d link x last.passes in
    record {
      before = last.before;
      look = one.0;
      after = last.between;
      place = last.place ∙ ap (λ k. last.before ++ k ∷ last.between) one.1;
      looked = sym (ap (is_look d link) one.1) ∙ last.passes;
      latest = last.none;
      lacks = unnot (has_generation one.0.view.generations g) (sym (ap (λ k. lacks g (Some k)) one.1) ∙ e);
    }

is_lacking : (earlier : List Entry) (d : Name) (link g : ℕ) → LacksKey earlier d link g → lacks g (last_such (is_look d link) earlier) ≡ true
is_lacking earlier d link g l =
    let found = last_is (is_look d link) l.before (entry.Looked l.look) l.after l.looked l.latest in
    ap (λ es. lacks g (last_such (is_look d link) es)) l.place ∙ ap (lacks g) found ∙ ap not l.lacks

-- ---- both ways

kept_by : (earlier : List Entry) (d : Name) (link g : ℕ) (blob : List ℕ) (a l : Bool) → list_any (is_issued_as d g blob) earlier ≡ a → lacks g (last_such (is_look d link) earlier) ≡ l
    → (not a || l) ≡ true → LacksIssued earlier d link g blob
kept_by earlier d link g blob a true ia il e w = lacks_key earlier d link g (last_such (is_look d link) earlier) refl il
kept_by earlier d link g blob true false ia il e w = unequal (sym e)
kept_by earlier d link g blob false false ia il e w = unequal (sym (is_issued earlier d g blob w) ∙ ia)

pub kept_key : (earlier : List Entry) (d : Name) (link g : ℕ) (blob : List ℕ) → keeps_key earlier earlier d link g blob ≡ true → LacksIssued earlier d link g blob
kept_key earlier d link g blob e = kept_by earlier d link g blob (list_any (is_issued_as d g blob) earlier) (lacks g (last_such (is_look d link) earlier)) refl refl e

broken_parts : (a l : Bool) → (not a || l) ≡ false → (a ≡ true) × (l ≡ false)
broken_parts true false e = (refl, refl)
broken_parts true true e = cc
broken_parts false l e = cc

pub broken_key : (earlier : List Entry) (d : Name) (link g : ℕ) (blob : List ℕ) → keeps_key earlier earlier d link g blob ≡ false → LacksIssued earlier d link g blob → ⊥
broken_key earlier d link g blob e law =
    let parts = broken_parts (list_any (is_issued_as d g blob) earlier) (lacks g (last_such (is_look d link) earlier)) e in
    unequal (sym (is_lacking earlier d link g (law (was_issued earlier d g blob parts.0))) ∙ parts.1)
