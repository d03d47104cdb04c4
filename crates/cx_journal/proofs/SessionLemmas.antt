-- The session that is computed is the one in which an operation was handled.
use Rattle.std.proofs.Common.{◌≡◌, List, [], ◌∷◌, Bool, true, false, cond, Option, Some, None, refl, sym, ◌∙◌, ap, eq-eqb, ◌==◌}
use Rattle.std.specs.Prelude.{◌&&◌, option_and_then}
use Rattle.std.specs.List.{list_any}
use Rattle.std.specs.Option.{option_map_or}
use Rattle.std.proofs.lemmas.Bool.{eqb-true}
use Rattle.cx_base.specs.Names.{Name, same_name}
use Rattle.cx_base.proofs.Names.{same_name_is, same_name_self}
use Rattle.cx_journal.proofs.LastSuch.{last_at, last_is, neither}
use Rattle.cx_journal.specs.Sessions.{session_of, ends_session, Admits, is_session_of, is_opening, IsHandledIn, last_such, opened_for, is_turn_of, session_at}
use Rattle.cx_journal.specs.declared.entries.Entry.{Entry}
use Rattle.cx_journal.specs.declared.entries.Entry.TheVariants as entry
use Rattle.cx_journal.specs.declared.entries.Admitted.{Admitted}
use Rattle.cx_journal.specs.declared.entries.Handled.{Handled}

both : (a b : Bool) → (a && b) ≡ true → (a ≡ true) × (b ≡ true)
both true true e = (refl, refl)
both true false e = cc
both false b e = cc

-- ---- the four by tests

same_of : (a b : Name) → a ≡ b → same_name a b ≡ true
same_of a b e = rw e (same_name_self b)

admitted_is : (h : Handled) (a : Admitted) → is_session_of h a ≡ true → Admits a h
admitted_is h a e =
    let three = both ((a.cookie == h.cookie) && same_name a.daemon h.daemon && (a.session == h.session)) (a.epoch == h.epoch) e in
    let two = both ((a.cookie == h.cookie) && same_name a.daemon h.daemon) (a.session == h.session) three.0 in
    let one = both (a.cookie == h.cookie) (same_name a.daemon h.daemon) two.0 in
    record {
      daemon = same_name_is a.daemon h.daemon one.1;
      session = eqb-true a.session h.session two.1;
      epoch = eqb-true a.epoch h.epoch three.1;
      cookie = eqb-true a.cookie h.cookie one.0;
    }

is_admitted : (h : Handled) (a : Admitted) → Admits a h → is_session_of h a ≡ true
is_admitted h a same =
    rw (eq-eqb a.cookie h.cookie same.cookie, same_of a.daemon h.daemon same.daemon, eq-eqb a.session h.session same.session, eq-eqb a.epoch h.epoch same.epoch) refl

opening_is : (h : Handled) (e : Entry) (s : Admitted) → session_of e ≡ Some s → is_opening h e ≡ is_session_of h s
opening_is h (entry.Admitted a) s is = ap (λ o. option_map_or (is_session_of h) o false) is
opening_is h (entry.Resumed a) s is = ap (λ o. option_map_or (is_session_of h) o false) is
opening_is h _ s is = cc

-- ---- what opens and what ends

apart : (h : Handled) (es : List Entry) → list_any (is_turn_of h) es ≡ false → (list_any (is_opening h) es ≡ false) × (list_any (ends_session h.daemon h.session) es ≡ false)
apart h [] none = (refl, refl)
apart h (x ∷ es) none =
    let parts = neither (is_turn_of h x) (list_any (is_turn_of h) es) none in
    let one = neither (is_opening h x) (ends_session h.daemon h.session x) parts.0 in
    let rest = apart h es parts.1 in
    (rw (one.0, rest.0) refl, rw (one.1, rest.1) refl)

together : (h : Handled) (es : List Entry) → list_any (is_opening h) es ≡ false → list_any (ends_session h.daemon h.session) es ≡ false → list_any (is_turn_of h) es ≡ false
together h [] opens ends = refl
together h (x ∷ es) opens ends =
    let opening = neither (is_opening h x) (list_any (is_opening h) es) opens in
    let ending = neither (ends_session h.daemon h.session x) (list_any (ends_session h.daemon h.session) es) ends in
    rw (opening.0, ending.0, together h es opening.1 ending.1) refl

-- ---- both ways

pub session_is : (earlier : List Entry) (h : Handled) (s : Admitted) → IsHandledIn earlier h s → session_at earlier h ≡ Some s
session_is earlier h s is =
    let opens : is_opening h is.opening ≡ true = opening_is h is.opening s is.opens ∙ is_admitted h s is.admits in
    let turns : is_turn_of h is.opening ≡ true = rw opens refl in
    let found = last_is (is_turn_of h) is.before is.opening is.between turns (together h is.between is.latest is.stands) in
    rw is.place (rw found (rw opens is.opens))

turn_at : (h : Handled) (s : Admitted) (o : Option Entry) → option_and_then (opened_for h) o ≡ Some s → (e : Entry) × (o ≡ Some e) × (opened_for h e ≡ Some s)
turn_at h s None is = cc
turn_at h s (Some e) is = (e, refl, is)

opened : (b : Bool) (o : Option Admitted) (s : Admitted) → cond b o None ≡ Some s → (b ≡ true) × (o ≡ Some s)
opened true o s is = (refl, is)
opened false o s is = cc

pub session_from : (earlier : List Entry) (h : Handled) (s : Admitted) → session_at earlier h ≡ Some s → IsHandledIn earlier h s
session_from earlier h s is =
    let turn = turn_at h s (last_such (is_turn_of h) earlier) is in
    let parts = opened (is_opening h turn.0) (session_of turn.0) s turn.2 in
    let last = last_at (is_turn_of h) earlier turn.0 turn.1 in
    let rest = apart h last.between last.none in
    record {
      before = last.before;
      opening = turn.0;
      between = last.between;
      place = last.place;
      opens = parts.1;
      admits = admitted_is h s (sym (opening_is h turn.0 s parts.1) ∙ parts.0);
      stands = rest.1;
      latest = rest.0;
    }
