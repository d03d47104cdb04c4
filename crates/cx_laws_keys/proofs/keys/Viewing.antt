-- What a node enters tells its view: each look shows it, and behind what it fetches, or a restart, it is another one.
use Rattle.std.proofs.Common.{◌≡◌, Bool, true, false, List, [], ◌∷◌, ◌++◌, refl, sym, ap, ◌∙◌, subst}
use Rattle.std.specs.Prelude.{if◌then◌else◌}
use Rattle.std.specs.List.{AllByRecursion}
use Rattle.cx_base.specs.Names.{Name, same_name}
use Rattle.cx_base.proofs.Names.{same_name_is, same_name_self}
use Rattle.cx_base.specs.declared.nodes.NodeName.{NodeName}
use Rattle.cx_base.specs.declared.nodes.NodeName.TheVariants as node
use Rattle.cx_steps.specs.cx_journal.specs.Behind.{EachBehind}
use Rattle.cx_steps.specs.cx_journal.specs.declared.entries.Entry.{Entry}
use Rattle.cx_steps.specs.cx_journal.specs.declared.entries.Entry.TheVariants as entry
use Rattle.cx_sealed.specs.cx_rotate.specs.declared.views.View.{View}
use Rattle.cx_laws_keys.specs.keys.LooksLast.{LooksLastBy, nothing_viewed, view_behind, viewed, viewed_all}

-- an entry of the entity of this name, which has this view: it is its own look, fetch or restart, or none of these
abbrev pub EntryShows : Name → View → Entry → Type 0
EntryShows name view (entry.Looked look) = (look.daemon ≡ name) × (look.view ≡ view)
EntryShows name view (entry.Fetched f) = f.daemon ≡ name
EntryShows name view (entry.Restarted at) = at ≡ node.Entity name
EntryShows name view _ = Unit {0}

-- so are all of them, from this view to that one
abbrev pub ShowsAlong : Name → View → List Entry → View → Type 0
ShowsAlong name view [] last = view ≡ last
ShowsAlong name view (e ∷ es) last = EntryShows name view e × ShowsAlong name (viewed name view e) es last

-- what is fetched is the view, and behind a restart it is empty
pub viewed-own : (name : Name) (view new : View) → (if same_name name name then new else view) ≡ new
viewed-own name view new = rw (same_name_self name) refl

pub viewed-append : (name : Name) (view : View) (xs ys : List Entry) → viewed_all name view (xs ++ ys) ≡ viewed_all name (viewed_all name view xs) ys
viewed-append name view [] ys = refl
viewed-append name view (x ∷ xs) ys = viewed-append name (viewed name view x) xs ys

-- ---- of the entity itself

-- the view behind them is the last
pub shows-last : (name : Name) (view : View) (es : List Entry) (last : View) → ShowsAlong name view es last → viewed_all name view es ≡ last
shows-last name view [] last h = h
shows-last name view (e ∷ es) last h = shows-last name (viewed name view e) es last h.1

-- and each of its looks keeps the law
pub shows-looks : (name : Name) (view : View) (J es : List Entry) (last : View) → view ≡ view_behind name J → ShowsAlong name view es last → EachBehind LooksLastBy J es
shows-looks name view J [] last is h = tt
shows-looks name view J (e ∷ es) last is h =
    (one e h.0, shows-looks name (viewed name view e) (J ++ e ∷ []) es last (ap (λ (v : View). viewed name v e) is ∙ sym (viewed-append name nothing_viewed J (e ∷ []))) h.1)
  where
    one : (e : Entry) → EntryShows name view e → LooksLastBy J e
    one (entry.Looked look) s = s.1 ∙ is ∙ ap (λ (n : Name). view_behind n J) (sym s.0)
    one (entry.Saved x) s = tt
    one (entry.Issued x) s = tt
    one (entry.Fetched x) s = tt
    one (entry.Admitted x) s = tt
    one (entry.Resumed x) s = tt
    one (entry.Sent x) s = tt
    one (entry.Handled x) s = tt
    one (entry.Answered x) s = tt
    one (entry.Refused x) s = tt
    one (entry.Ended x) s = tt
    one (entry.Restarted x) s = tt
    one (entry.Broken x) s = tt
    one (entry.Leaked x) s = tt

-- ---- of another entity

-- it leaves the view of each other name
pub IsElsewhere : Name → Entry → Type 0
IsElsewhere name e = (view : View) → viewed name view e ≡ view

pub other-way : (a b : Name) → same_name b a ≡ false → same_name a b ≡ false
other-way a b differ = by_test (same_name a b) refl
  where
    by_test : (t : Bool) → same_name a b ≡ t → t ≡ false
    by_test true is =
        let same : a ≡ b = same_name_is a b is in
        let itself : same_name b a ≡ true = ap (λ (n : Name). same_name b n) same ∙ same_name_self b in
        absurd (let e : true ≡ false = sym itself ∙ differ in cc)
    by_test false is = refl

one-elsewhere : (name other : Name) (view : View) (e : Entry) → same_name other name ≡ false → EntryShows name view e → IsElsewhere other e
unfolding IsElsewhere
one-elsewhere name other view (entry.Fetched f) differ s = λ v.
    let no : same_name f.daemon other ≡ false = ap (λ (n : Name). same_name n other) s ∙ other-way name other differ in rw no refl
one-elsewhere name other view (entry.Restarted at) differ s =
    subst (λ (n : NodeName). (v : View) → viewed other v (entry.Restarted n) ≡ v) (sym s) (λ v. rw (other-way name other differ) refl)
one-elsewhere name other view (entry.Looked x) differ s = λ v. refl
one-elsewhere name other view (entry.Saved x) differ s = λ v. refl
one-elsewhere name other view (entry.Issued x) differ s = λ v. refl
one-elsewhere name other view (entry.Admitted x) differ s = λ v. refl
one-elsewhere name other view (entry.Resumed x) differ s = λ v. refl
one-elsewhere name other view (entry.Sent x) differ s = λ v. refl
one-elsewhere name other view (entry.Handled x) differ s = λ v. refl
one-elsewhere name other view (entry.Answered x) differ s = λ v. refl
one-elsewhere name other view (entry.Refused x) differ s = λ v. refl
one-elsewhere name other view (entry.Ended x) differ s = λ v. refl
one-elsewhere name other view (entry.Broken x) differ s = λ v. refl
one-elsewhere name other view (entry.Leaked x) differ s = λ v. refl

pub shows-elsewhere : (name other : Name) (view v : View) (es : List Entry) (last : View) → same_name other name ≡ false → ShowsAlong name view es last → viewed_all other v es ≡ v
unfolding IsElsewhere
shows-elsewhere name other view v [] last differ h = refl
shows-elsewhere name other view v (e ∷ es) last differ h =
    shows-elsewhere name other (viewed name view e) (viewed other v e) es last differ h.1 ∙ one-elsewhere name other view e differ h.0 v

-- ---- of a node that has none

-- the entry is no look, and tells no view: it is the monitor's own
abbrev pub ShowsNone : Entry → Type 0
ShowsNone (entry.Looked look) = ⊥
ShowsNone (entry.Fetched f) = ⊥
ShowsNone (entry.Restarted at) = at ≡ node.Monitor
ShowsNone _ = Unit {0}

none-elsewhere : (other : Name) (e : Entry) → ShowsNone e → IsElsewhere other e
unfolding IsElsewhere
none-elsewhere other (entry.Looked x) s = absurd s
none-elsewhere other (entry.Fetched f) s = absurd s
none-elsewhere other (entry.Restarted at) s = subst (λ (n : NodeName). (v : View) → viewed other v (entry.Restarted n) ≡ v) (sym s) (λ v. refl)
none-elsewhere other (entry.Saved x) s = λ v. refl
none-elsewhere other (entry.Issued x) s = λ v. refl
none-elsewhere other (entry.Admitted x) s = λ v. refl
none-elsewhere other (entry.Resumed x) s = λ v. refl
none-elsewhere other (entry.Sent x) s = λ v. refl
none-elsewhere other (entry.Handled x) s = λ v. refl
none-elsewhere other (entry.Answered x) s = λ v. refl
none-elsewhere other (entry.Refused x) s = λ v. refl
none-elsewhere other (entry.Ended x) s = λ v. refl
none-elsewhere other (entry.Broken x) s = λ v. refl
none-elsewhere other (entry.Leaked x) s = λ v. refl

none-looks : (J : List Entry) (e : Entry) → ShowsNone e → LooksLastBy J e
none-looks J (entry.Looked x) s = absurd s
none-looks J _ s = tt

pub none-shown : (other : Name) (v : View) (es : List Entry) → AllByRecursion ShowsNone es → viewed_all other v es ≡ v
unfolding IsElsewhere
none-shown other v [] h = refl
none-shown other v (e ∷ es) h = none-shown other (viewed other v e) es h.1 ∙ none-elsewhere other e h.0 v

pub all-none-look : (J es : List Entry) → AllByRecursion ShowsNone es → EachBehind LooksLastBy J es
all-none-look J [] h = tt
all-none-look J (e ∷ es) h = (none-looks J e h.0, all-none-look (J ++ e ∷ []) es h.1)

-- ---- of entries that leave the view

-- it is a look at it, or tells none
abbrev pub ShowsStill : Name → View → Entry → Type 0
ShowsStill name view (entry.Looked look) = (look.daemon ≡ name) × (look.view ≡ view)
ShowsStill name view (entry.Fetched f) = ⊥
ShowsStill name view (entry.Restarted at) = ⊥
ShowsStill name view _ = Unit {0}

pub still-along : (name : Name) (view : View) (es : List Entry) → AllByRecursion (ShowsStill name view) es → ShowsAlong name view es view
still-along name view [] h = refl
still-along name view (e ∷ es) h = one e h.0 (still-along name view es h.1)
  where
    one : (e : Entry) → ShowsStill name view e → ShowsAlong name view es view → ShowsAlong name view (e ∷ es) view
    one (entry.Looked x) s rest = (s, rest)
    one (entry.Fetched x) s rest = absurd s
    one (entry.Restarted x) s rest = absurd s
    one (entry.Saved x) s rest = (tt, rest)
    one (entry.Issued x) s rest = (tt, rest)
    one (entry.Admitted x) s rest = (tt, rest)
    one (entry.Resumed x) s rest = (tt, rest)
    one (entry.Sent x) s rest = (tt, rest)
    one (entry.Handled x) s rest = (tt, rest)
    one (entry.Answered x) s rest = (tt, rest)
    one (entry.Refused x) s rest = (tt, rest)
    one (entry.Ended x) s rest = (tt, rest)
    one (entry.Broken x) s rest = (tt, rest)
    one (entry.Leaked x) s rest = (tt, rest)
