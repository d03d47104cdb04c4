-- What a daemon looks at is what it fetched, at some earlier entry of its.
use Rattle.std.proofs.Common.{◌≡◌, ◌⊎◌, ℕ, Bool, true, false, List, [], ◌∷◌, ◌++◌, Some, None, inl, inr, refl, sym, ap, ◌∙◌, subst, append-nil, append_assoc, arith}
use Rattle.std.specs.Prelude.{Contains, if◌then◌else◌}
use Rattle.std.proofs.lemmas.List.Elements.{Contains-append_cases, Contains-append_right}
use Rattle.cx_base.proofs.Names.{same_name_is}
use Rattle.cx_base.specs.Names.{Name, same_name}
use Rattle.cx_base.specs.declared.nodes.NodeName.TheVariants as node
use Rattle.cx_journal.specs.Behind.{EachBehind}
use Rattle.cx_journal.specs.declared.entries.Entry.{Entry}
use Rattle.cx_journal.specs.declared.entries.Entry.TheVariants as journal
use Rattle.cx_journal.specs.declared.entries.Fetched.{Fetched}
use Rattle.cx_journal.specs.declared.entries.Looked.{Looked}
use Rattle.cx_rotate.specs.declared.generations.Generation.{Generation}
use Rattle.cx_rotate.specs.declared.views.View.{View}
use Rattle.cx_laws_tickets.specs.cx_run.proofs.PointsTell.{contains-first, entered-at}
use Rattle.cx_laws_tickets.specs.cx_run.specs.Opening.{Setup}
use Rattle.cx_laws_tickets.specs.cx_run.specs.Points.{Before, EachPoint, Point, entered_until, entries_at}
use Rattle.cx_laws_tickets.specs.cx_laws_keys.specs.keys.LooksLast.{LooksLastBy, nothing_viewed, view_behind, viewed, viewed_all}
use Rattle.cx_laws_tickets.specs.fetch.Fetches.{AreOfMoments, IsOfMoment}

-- ---- one look

-- one of these entries is the daemon's, that it fetched these generations, for which it had asked at this reading
pub record WasFetched (daemon : Name) (asked : ℕ) (generations : List Generation) (es : List Entry) : Type 0 where
  pub of : Fetched
  pub has : Contains es (journal.Fetched of)
  pub daemon_is : of.daemon ≡ daemon
  pub asked_is : of.asked ≡ asked
  pub generations_are : of.generations ≡ generations

module _ (daemon : Name) (asked : ℕ) (v : View) (told : v.asked ≡ Some asked) where
  abbrev FetchedIn : List Entry → Type 0
  FetchedIn es = WasFetched daemon asked v.generations es

  fetched-later : (e : Entry) (es : List Entry) → FetchedIn es → FetchedIn (e ∷ es)
  fetched-later e es w = record {
    of = w.of;
    has = Contains-append_right (e ∷ []) es (journal.Fetched w.of) w.has;
    daemon_is = w.daemon_is;
    asked_is = w.asked_is;
    generations_are = w.generations_are;
  }

  fetched-here : (view : View) (f : Fetched) (es : List Entry) (t : Bool) → same_name f.daemon daemon ≡ t
      → (if t then record { generations = f.generations; asked = Some f.asked } else view) ≡ v → (view ≡ v) ⊎ FetchedIn (journal.Fetched f ∷ es)
  fetched-here view f es true is same =
      let some : Some f.asked ≡ Some asked = ap (λ (w : View). w.asked) same ∙ told in
      inr (record {
        of = f;
        has = (0, omega arith, refl);
        daemon_is = same_name_is f.daemon daemon is;
        asked_is = cc;
        generations_are = ap (λ (w : View). w.generations) same;
      })
  fetched-here view f es false is same = inl same

  begun-here : (view : View) (name : Name) (es : List Entry) (t : Bool) → (if t then nothing_viewed else view) ≡ v → (view ≡ v) ⊎ FetchedIn es
  begun-here view name es true same = let none : None ≡ Some asked = ap (λ (w : View). w.asked) same ∙ told in absurd cc
  begun-here view name es false same = inl same

  -- behind one entry
  one-fetched : (view : View) (e : Entry) (es : List Entry) → viewed daemon view e ≡ v → (view ≡ v) ⊎ FetchedIn (e ∷ es)
  one-fetched view (journal.Fetched f) es same = fetched-here view f es (same_name f.daemon daemon) refl same
  one-fetched view (journal.Restarted node.Monitor) es same = inl same
  one-fetched view (journal.Restarted (node.Entity name)) es same = begun-here view name (journal.Restarted (node.Entity name) ∷ es) (same_name name daemon) same
  one-fetched view (journal.Saved x) es same = inl same
  one-fetched view (journal.Issued x) es same = inl same
  one-fetched view (journal.Looked x) es same = inl same
  one-fetched view (journal.Admitted x) es same = inl same
  one-fetched view (journal.Resumed x) es same = inl same
  one-fetched view (journal.Sent x) es same = inl same
  one-fetched view (journal.Handled x) es same = inl same
  one-fetched view (journal.Answered x) es same = inl same
  one-fetched view (journal.Refused x) es same = inl same
  one-fetched view (journal.Ended x) es same = inl same
  one-fetched view (journal.Broken x) es same = inl same
  one-fetched view (journal.Leaked x) es same = inl same

  -- behind all of them
  all-fetched : (es : List Entry) (view : View) → viewed_all daemon view es ≡ v → (view ≡ v) ⊎ FetchedIn es
  all-fetched [] view same = inl same
  all-fetched (e ∷ es) view same = by_rest (all-fetched es (viewed daemon view e) same)
    where
      by_rest : (viewed daemon view e ≡ v) ⊎ FetchedIn es → (view ≡ v) ⊎ FetchedIn (e ∷ es)
      by_rest (inl here) = one-fetched view e es here
      by_rest (inr w) = inr (fetched-later e es w)

  -- a view that was asked for was fetched
  pub view-fetched : (es : List Entry) → v ≡ view_behind daemon es → FetchedIn es
  view-fetched es is = by_way (all-fetched es nothing_viewed (sym is))
    where
      by_way : (nothing_viewed ≡ v) ⊎ FetchedIn es → FetchedIn es
      by_way (inl none) = let no : None ≡ Some asked = ap (λ (w : View). w.asked) none ∙ told in absurd cc
      by_way (inr w) = w

-- ---- looks at points

none-in : (x : Entry) → Contains {X = Entry} [] x → ⊥
none-in x (k, below, is) = omega arith

-- what is said of an entry is so behind those before it, and behind earlier ones
pub record SaidBehind (P : List Entry → Entry → Type 0) (J es : List Entry) (e : Entry) : Type 0 where
  pub front : List Entry
  pub within : (x : Entry) → Contains front x → Contains es x
  pub said : P (J ++ front) e

module _ (P : List Entry → Entry → Type 0) where
  said-here : (J es : List Entry) (x e : Entry) → P J x → x ≡ e → SaidBehind P J (x ∷ es) e
  said-here J es x e said same = record {
    front = [];
    within = λ y none. absurd (none-in y none);
    said = subst (λ (l : List Entry). P l e) (sym (append-nil J)) (subst (λ (y : Entry). P J y) same said);
  }

  within-both : (x y : Entry) (front es : List Entry) → ((z : Entry) → Contains front z → Contains es z) → (x ≡ y) ⊎ Contains front y → Contains (x ∷ es) y
  within-both x y front es within (inl same) = subst (λ (z : Entry). Contains (x ∷ es) z) same (0, omega arith, refl)
  within-both x y front es within (inr there) = Contains-append_right (x ∷ []) es y (within y there)

  said-later : (J es : List Entry) (x e : Entry) → SaidBehind P (J ++ x ∷ []) es e → SaidBehind P J (x ∷ es) e
  said-later J es x e s = record {
    front = x ∷ s.front;
    within = λ y has. within-both x y s.front es s.within (contains-first x y s.front has);
    said = subst (λ (l : List Entry). P l e) (append_assoc J (x ∷ []) s.front) s.said;
  }

  pub said-of : (J es : List Entry) (e : Entry) → EachBehind P J es → Contains es e → SaidBehind P J es e
  said-of J [] e each has = absurd (none-in e has)
  said-of J (x ∷ es) e each has = by_place (contains-first x e es has) (said-of (J ++ x ∷ []) es e each.1)
    where
      by_place : (x ≡ e) ⊎ Contains es e → (Contains es e → SaidBehind P (J ++ x ∷ []) es e) → SaidBehind P J (x ∷ es) e
      by_place (inl same) rest = said-here J es x e each.0 same
      by_place (inr later) rest = said-later J es x e (rest later)

  pub behind-front : (J xs ys : List Entry) → EachBehind P J (xs ++ ys) → EachBehind P J xs
  behind-front J [] ys each = tt
  behind-front J (x ∷ xs) ys each = (each.0, behind-front (J ++ x ∷ []) xs ys each.1)

  pub behind-rest : (J xs ys : List Entry) → EachBehind P J (xs ++ ys) → EachBehind P (J ++ xs) ys
  behind-rest J [] ys each = subst (λ (l : List Entry). EachBehind P l ys) (sym (append-nil J)) each
  behind-rest J (x ∷ xs) ys each = subst (λ (l : List Entry). EachBehind P l ys) (append_assoc J (x ∷ []) xs) (behind-rest (J ++ x ∷ []) xs ys each.1)

-- each look at a point is at what was fetched last, until that point and at it
abbrev pub LooksAt : Setup → List Point → Point → Type 0
LooksAt setup older p = (look : Looked) → Contains (entries_at p) (journal.Looked look) → SaidBehind LooksLastBy (entered_until setup older) (entries_at p) (journal.Looked look)

pub looks-points : (setup : Setup) (past : List Point) → EachBehind LooksLastBy [] (entered_until setup past) → EachPoint (LooksAt setup) past
looks-points setup [] each = tt
looks-points setup (p ∷ past) each = (
  λ look has. said-of LooksLastBy (entered_until setup past) (entries_at p) (journal.Looked look) (behind-rest LooksLastBy [] (entered_until setup past) (entries_at p) each) has,
  looks-points setup past (behind-front LooksLastBy [] (entered_until setup past) (entries_at p) each),
)

-- ---- the moment of a look

before-older : (R : List Point → Type 0) (Q : List Point → Point → Type 0) → ((older : List Point) (p : Point) → R older → R (p ∷ older))
    → (past : List Point) → Before (λ (older : List Point) (p : Point). Q older p × R older) past → R past
before-older R Q grows [] h = absurd h
before-older R Q grows (p ∷ past) (inl h) = grows past p h.1
before-older R Q grows (p ∷ past) (inr h) = grows past p (before-older R Q grows past h)

moment-later : (f : Fetched) (older : List Point) (p : Point) → IsOfMoment f older → IsOfMoment f (p ∷ older)
moment-later f older p m = record { kind = m.kind; moment = inr m.moment }

fetched-then : (f : Fetched) (past : List Point) → AreOfMoments past → Before (λ (_ : List Point) (q : Point). Contains (entries_at q) (journal.Fetched f)) past
    → Before (λ (older : List Point) (q : Point). Contains (entries_at q) (journal.Fetched f) × IsOfMoment f older) past
fetched-then f [] each h = absurd h
fetched-then f (p ∷ past) each (inl has) = inl (has, each.0 f has)
fetched-then f (p ∷ past) each (inr h) = inr (fetched-then f past each.1 h)

of-fields : (f : Fetched) (past : List Point) (daemon : Name) (asked : ℕ) (generations : List Generation) → f.daemon ≡ daemon → f.asked ≡ asked → f.generations ≡ generations
    → IsOfMoment f past → IsOfMoment (record { daemon = daemon; asked = asked; generations = generations }) past
of-fields f past daemon asked generations d a g m =
    subst (λ (n : Name). IsOfMoment (record { daemon = n; asked = asked; generations = generations }) past) d
    (subst (λ (x : ℕ). IsOfMoment (record { daemon = f.daemon; asked = x; generations = generations }) past) a
    (subst (λ (gs : List Generation). IsOfMoment (record { daemon = f.daemon; asked = f.asked; generations = gs }) past) g m))

-- what is looked at is of a moment behind its asking
pub look-moment : (setup : Setup) (older : List Point) (p : Point) → AreOfMoments (p ∷ older) → LooksAt setup older p → (look : Looked) → Contains (entries_at p) (journal.Looked look)
    → (asked : ℕ) → look.view.asked ≡ Some asked → IsOfMoment (record { daemon = look.daemon; asked = asked; generations = look.view.generations }) older
look-moment setup older p fetched looks look has asked told =
    let s : SaidBehind LooksLastBy (entered_until setup older) (entries_at p) (journal.Looked look) = looks look has in
    let w : WasFetched look.daemon asked look.view.generations (entered_until setup older ++ s.front) =
    view-fetched look.daemon asked look.view told (entered_until setup older ++ s.front) s.said in
    of-fields w.of older look.daemon asked look.view.generations w.daemon_is w.asked_is w.generations_are
    (by_place w.of s.front s.within (Contains-append_cases (entered_until setup older) s.front (journal.Fetched w.of) w.has))
  where
    by_place : (f : Fetched) (front : List Entry) → ((x : Entry) → Contains front x → Contains (entries_at p) x)
        → Contains (entered_until setup older) (journal.Fetched f) ⊎ Contains front (journal.Fetched f) → IsOfMoment f older
    by_place f front within (inl before) =
        before-older (λ (past : List Point). IsOfMoment f past) (λ (_ : List Point) (q : Point). Contains (entries_at q) (journal.Fetched f)) (moment-later f) older
        (fetched-then f older fetched.1 (entered-at (journal.Fetched f) tt setup older before))
    by_place f front within (inr here) = fetched.0 f (within (journal.Fetched f) here)
