-- What a journal says of a daemon since it restarted last: the sessions that were opened there since then.
use Rattle.std.proofs.Common.{◌≡◌, Bool, true, false, List, [], ◌∷◌, ◌++◌, ◌⊎◌, Some, inl, inr, arith, refl, subst}
use Rattle.std.proofs.lemmas.List.Elements.{Contains-append_cases}
use Rattle.std.specs.Prelude.{Contains}
use Rattle.std.specs.List.{AllByRecursion}
use Rattle.cx_base.specs.Names.{Name}
use Rattle.cx_journal.specs.declared.entries.Admitted.{Admitted}
use Rattle.cx_journal.specs.declared.entries.Entry.{Entry}
use Rattle.cx_journal.specs.declared.entries.Entry.TheVariants as journal
use Rattle.cx_laws_links.proofs.links.Since.{Goes, since}
use Rattle.cx_laws_run.proofs.sent.Fronts.{cons-cases}
use Rattle.cx_laws_sessions.proofs.session.Standing.{LeavesOf, own-turn, standing, turns_session}

-- ---- since the last restart

-- what opens and ends no session of the daemon doesn't say so
pub leaves-goes : (daemon : Name) (e : Entry) → LeavesOf daemon e → Goes daemon e
leaves-goes daemon (journal.Restarted x) h = h 0
leaves-goes daemon (journal.Admitted x) h = refl
leaves-goes daemon (journal.Resumed x) h = refl
leaves-goes daemon (journal.Ended x) h = refl
leaves-goes daemon (journal.Saved x) h = refl
leaves-goes daemon (journal.Issued x) h = refl
leaves-goes daemon (journal.Fetched x) h = refl
leaves-goes daemon (journal.Looked x) h = refl
leaves-goes daemon (journal.Sent x) h = refl
leaves-goes daemon (journal.Handled x) h = refl
leaves-goes daemon (journal.Answered x) h = refl
leaves-goes daemon (journal.Refused x) h = refl
leaves-goes daemon (journal.Broken x) h = refl
leaves-goes daemon (journal.Leaked x) h = refl

-- ---- sessions that were opened

-- an entry of these opened the session
abbrev pub OpenedIn : List Entry → Admitted → Type 0
OpenedIn entries s = Contains entries (journal.Admitted s) ⊎ Contains entries (journal.Resumed s)

pub opened-cases : (xs ys : List Entry) (s : Admitted) → OpenedIn (xs ++ ys) s → OpenedIn xs s ⊎ OpenedIn ys s
opened-cases xs ys s (inl has) = by_place (Contains-append_cases xs ys (journal.Admitted s) has)
  where
    by_place : Contains xs (journal.Admitted s) ⊎ Contains ys (journal.Admitted s) → OpenedIn xs s ⊎ OpenedIn ys s
    by_place (inl first) = inl (inl first)
    by_place (inr later) = inr (inl later)
opened-cases xs ys s (inr has) = by_place (Contains-append_cases xs ys (journal.Resumed s) has)
  where
    by_place : Contains xs (journal.Resumed s) ⊎ Contains ys (journal.Resumed s) → OpenedIn xs s ⊎ OpenedIn ys s
    by_place (inl first) = inl (inr first)
    by_place (inr later) = inr (inr later)

-- what is so of all is so of one of them
all-one : {X : Type 0} (P : X → Type 0) (xs : List X) (x : X) → AllByRecursion P xs → Contains xs x → P x
all-one P [] x h has = absurd (omega (arith, has.1))
all-one P (y ∷ ys) x h has = by_place (cons-cases y ys x has) (λ later. all-one P ys x h.1 later)
  where
    by_place : (y ≡ x) ⊎ Contains ys x → (Contains ys x → P x) → P x
    by_place (inl same) rest = subst P same h.0
    by_place (inr later) rest = rest later

turning : (t : Bool) → t ≡ true → t ≡ false → ⊥
turning t is off = cc

-- what opens no session of the daemon opened none of its
pub none-opened : (daemon : Name) (es : List Entry) (s : Admitted) → AllByRecursion (LeavesOf daemon) es → s.daemon ≡ daemon → OpenedIn es s → ⊥
none-opened daemon es s leaves its (inl has) =
    turning (turns_session daemon s.session (journal.Admitted s)) (own-turn s.daemon daemon s.session s.session its refl) (all-one (LeavesOf daemon) es (journal.Admitted s) leaves has s.session)
none-opened daemon es s leaves its (inr has) =
    turning (turns_session daemon s.session (journal.Resumed s)) (own-turn s.daemon daemon s.session s.session its refl) (all-one (LeavesOf daemon) es (journal.Resumed s) leaves has s.session)

-- ---- what is so of them

-- where an operation is handled, each session with its number and epoch that was opened since the daemon's last restart is the one that stands
abbrev pub OnceBy : List Entry → Entry → Type 0
OnceBy J (journal.Handled h) =
    (s : Admitted) → OpenedIn (since h.daemon J) s → s.daemon ≡ h.daemon → s.session ≡ h.session → s.epoch ≡ h.epoch → (a : Admitted) → standing h.daemon h.session J ≡ Some a → a.epoch ≡ h.epoch → s ≡ a
OnceBy J _ = Unit {0}
