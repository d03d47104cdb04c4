-- What points tell.
use Rattle.std.proofs.Common.{◌≡◌, ◌⊎◌, ℕ, List, [], ◌∷◌, ◌++◌, map, inl, inr, refl, sym, ap, ◌∙◌, subst, append-nil, append_assoc, arith}
use Rattle.std.specs.Prelude.{Contains}
use Rattle.std.proofs.lemmas.List.Elements.{Contains-append_cases, Contains-push_cases}
use Rattle.cx_rules_session.specs.cx_journal.specs.declared.entries.Entry.{Entry}
use Rattle.cx_rules_session.specs.cx_journal.specs.declared.entries.Entry.TheVariants as entry
use Rattle.cx_run.specs.Happenings.{Entered, Happening, Nodes, Stepped, entered_by, journal_from, logged_by, seals_from, steps}
use Rattle.cx_run.specs.Opening.{Leak, Setup, leaks_entered, nodes_of, secrets_drawn}
use Rattle.cx_run.specs.Points.{Before, EachPoint, IsOfEvent, Point, WasEntered, entered_until, entries_at, journal_since, log_since, logged_until, onto, points, points_onto, stepped_at}
use Rattle.cx_rules_session.specs.cx_steps.specs.Onto.{SomeOf}
use Rattle.cx_rules_session.specs.cx_steps.specs.declared.seals.Logged.{Logged}

-- ---- the journal

entries_map : (xs ys : List Entered) → map (λ (x : Entered). x.entry) (xs ++ ys) ≡ map (λ (x : Entered). x.entry) xs ++ map (λ (x : Entered). x.entry) ys
entries_map [] ys = refl
entries_map (x ∷ xs) ys = ap (λ (l : List Entry). x.entry ∷ l) (entries_map xs ys)

-- the entries of an event are those of its effects
entries_by : (line reading : ℕ) (es : List Entry) → map (λ (x : Entered). x.entry) (map (λ (e : Entry). record { line = line; reading = reading; entry = e }) es) ≡ es
entries_by line reading [] = refl
entries_by line reading (e ∷ es) = ap (λ (l : List Entry). e ∷ l) (entries_by line reading es)

pub journal-onto : (setup : Setup) (past : List Point) (nodes : Nodes) (hs : List Happening)
    → entered_until setup (points_onto past nodes hs) ≡ entered_until setup past ++ map (λ (x : Entered). x.entry) (journal_from nodes hs)
journal-onto setup past nodes [] = sym (append-nil (entered_until setup past))
journal-onto setup past nodes (h ∷ hs) =
    let s : Stepped = steps nodes h in
    let p : Point = record { nodes = nodes; happening = h } in
    let later : List Entry = map (λ (x : Entered). x.entry) (journal_from s.nodes hs) in
    let same : map (λ (x : Entered). x.entry) (entered_by h s.out ++ journal_from s.nodes hs) ≡ s.out.entries ++ later =
    entries_map (entered_by h s.out) (journal_from s.nodes hs) ∙ ap (λ (l : List Entry). l ++ later) (entries_by h.line h.reading s.out.entries) in
    journal-onto setup (p ∷ past) s.nodes hs
    ∙ append_assoc (entered_until setup past) s.out.entries later
    ∙ ap (λ (l : List Entry). entered_until setup past ++ l) (sym same)

pub journal-told : (setup : Setup) (hs : List Happening) → journal_since setup hs ≡ entered_until setup (points setup hs)
journal-told setup hs = entries_map (leaks_entered setup) (journal_from (nodes_of setup) hs) ∙ sym (journal-onto setup [] (nodes_of setup) hs)

-- ---- the log

pub onto-append : (xs ys earlier : List Logged) → onto (xs ++ ys) earlier ≡ onto ys (onto xs earlier)
onto-append [] ys earlier = refl
onto-append (x ∷ xs) ys earlier = onto-append xs ys (x ∷ earlier)

pub log-onto : (setup : Setup) (past : List Point) (nodes : Nodes) (hs : List Happening)
    → logged_until setup (points_onto past nodes hs) ≡ onto (seals_from nodes hs) (logged_until setup past)
log-onto setup past nodes [] = refl
log-onto setup past nodes (h ∷ hs) =
    let s : Stepped = steps nodes h in
    let p : Point = record { nodes = nodes; happening = h } in
    log-onto setup (p ∷ past) s.nodes hs ∙ sym (onto-append (logged_by h s.out) (seals_from s.nodes hs) (logged_until setup past))

pub log-told : (setup : Setup) (hs : List Happening) → onto (log_since setup hs) [] ≡ logged_until setup (points setup hs)
log-told setup hs = onto-append (secrets_drawn setup) (seals_from (nodes_of setup) hs) [] ∙ sym (log-onto setup [] (nodes_of setup) hs)

-- what stands in a log stands in it behind more entries, and behind more points
pub some-onto : (P : Logged → Type 0) (xs earlier : List Logged) → SomeOf P earlier → SomeOf P (onto xs earlier)
some-onto P [] earlier h = h
some-onto P (x ∷ xs) earlier h = some-onto P xs (x ∷ earlier) (inr h)

pub some-until : (setup : Setup) (P : Logged → Type 0) (past : List Point) → SomeOf P (onto (secrets_drawn setup) []) → SomeOf P (logged_until setup past)
some-until setup P [] h = h
some-until setup P (p ∷ older) h = some-onto P (logged_by p.happening (stepped_at p).out) (logged_until setup older) (some-until setup P older h)

-- ---- entries and their points

-- the first of some entries, or one of the others
pub contains-first : (e x : Entry) (js : List Entry) → Contains (e ∷ js) x → (e ≡ x) ⊎ Contains js x
contains-first e x js h = by_place (Contains-append_cases (e ∷ []) js x h)
  where
    by_one : Contains {X = Entry} [] x ⊎ (e ≡ x) → (e ≡ x) ⊎ Contains js x
    by_one (inl (k, below, is)) = absurd (omega arith)
    by_one (inr same) = inl same

    by_place : Contains (e ∷ []) x ⊎ Contains js x → (e ≡ x) ⊎ Contains js x
    by_place (inl here) = by_one (Contains-push_cases [] e x here)
    by_place (inr later) = inr later

module _ (e : Entry) (made : IsOfEvent e) where
  no-leak : (leaks : List Leak) → Contains (map (λ (x : Entered). x.entry) (map (λ (l : Leak). record { line = l.line; reading = 0; entry = entry.Leaked l.client }) leaks)) e → ⊥
  no-leak [] (k, below, is) = omega arith
  no-leak (l ∷ leaks) h = by_place (contains-first (entry.Leaked l.client) e _ h) (no-leak leaks)
    where
      by_place : (entry.Leaked l.client ≡ e) ⊎ Contains (map (λ (x : Entered). x.entry) (map (λ (l : Leak). record { line = l.line; reading = 0; entry = entry.Leaked l.client }) leaks)) e
          → (Contains (map (λ (x : Entered). x.entry) (map (λ (l : Leak). record { line = l.line; reading = 0; entry = entry.Leaked l.client }) leaks)) e → ⊥) → ⊥
      by_place (inl same) rest = subst IsOfEvent (sym same) made
      by_place (inr later) rest = rest later

  -- an entry that an event makes was made at one of the points
  pub entered-at : (setup : Setup) (past : List Point) → Contains (entered_until setup past) e → WasEntered past e
  entered-at setup [] h = absurd (no-leak setup.leaks h)
  entered-at setup (p ∷ older) h = by_part (Contains-append_cases (entered_until setup older) (entries_at p) e h) (entered-at setup older)
    where
      by_part : Contains (entered_until setup older) e ⊎ Contains (entries_at p) e → (Contains (entered_until setup older) e → WasEntered older e) → WasEntered (p ∷ older) e
      by_part (inl before) rest = inr (rest before)
      by_part (inr now) rest = inl now

-- where something was so at one point, and something is at each, both are
pub at-one : (P Q : List Point → Point → Type 0) (past : List Point) → EachPoint P past → Before Q past → Before (λ older p. Q older p × P older p) past
at-one P Q [] each q = q
at-one P Q (p ∷ older) each (inl now) = inl (now, each.0)
at-one P Q (p ∷ older) each (inr q) = inr (at-one P Q older each.1 q)

-- of what is so at each point something follows at each
pub each-map : (P Q : List Point → Point → Type 0) → ((older : List Point) (p : Point) → P older p → Q older p) → (past : List Point) → EachPoint P past → EachPoint Q past
each-map P Q f [] h = tt
each-map P Q f (p ∷ older) h = (f older p h.0, each-map P Q f older h.1)
