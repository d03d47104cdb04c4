-- What each step of a daemon keeps, whatever comes to it: a session that is resumed stood, with the same entity and cookie; an operation is handled in the session
-- that stands; and of the sessions that were opened since the daemon's last restart none other has its number and epoch.
use Rattle.std.proofs.Common.{◌≡◌, ◌⊎◌, ◌+◌, ◌<◌, ◌≤◌, ℕ, Bool, List, [], ◌∷◌, ◌++◌, Option, Some, None, inl, inr, arith, refl, sym, ap, ◌∙◌, subst}
use Rattle.std.proofs.lemmas.Bool.{cases_eq}
use Rattle.std.specs.Prelude.{◌==◌, ◌&&◌, Contains, if◌then◌else◌}
use Rattle.std.specs.List.{AllByRecursion}
use Rattle.cx_laws_sessions.specs.cx_authorize.specs.Daemon.{Authority}
use Rattle.cx_base.proofs.Names.{same_name_self}
use Rattle.cx_base.specs.Names.{Name, same_name}
use Rattle.cx_base.specs.declared.nodes.NodeName.{NodeName}
use Rattle.cx_base.specs.declared.nodes.NodeName.TheVariants as node
use Rattle.cx_desk.specs.Handlers.{Handlers}
use Rattle.cx_journal.specs.Behind.{EachBehind}
use Rattle.cx_journal.specs.Sessions.{session_of}
use Rattle.cx_journal.specs.declared.entries.Admitted.{Admitted}
use Rattle.cx_journal.specs.declared.entries.Entry.{Entry}
use Rattle.cx_journal.specs.declared.entries.Entry.TheVariants as journal
use Rattle.cx_journal.specs.declared.entries.Handled.{Handled}
use Rattle.cx_laws_links.proofs.links.Since.{Goes, since, since-append, since-on}
use Rattle.cx_laws_run.proofs.sent.Fronted.{StandsBy}
use Rattle.cx_laws_run.proofs.sent.Fronts.{cons-cases}
use Rattle.cx_laws_run.proofs.sent.Lives.{OnceBy, OpenedIn, leaves-goes, none-opened, opened-cases}
use Rattle.cx_laws_sessions.proofs.session.Clients.{IsMute}
use Rattle.cx_laws_sessions.proofs.session.Keeping.{SessionStands, Stands, same-book, stands-still}
use Rattle.cx_laws_sessions.proofs.session.Lists.{all-map, some-of}
use Rattle.cx_laws_sessions.proofs.session.Moves.{AdmitsOne, Admitting, Comes, EndsOne, Ending, IsHandledRight, IsLive, IsQuiet, IsRight, Rested, Rests, ResumesOne, Resuming, StepComes, quiet-leaves, right-leaves}
use Rattle.cx_laws_sessions.proofs.session.Standing.{LeavesOf, other-turn, own-turn, standing, standing-first, standing-still, turns_session}
use Rattle.cx_laws_sessions.specs.cx_rules_session.specs.IncomingLinks.{Served}
use Rattle.cx_session.specs.Book.{Book}
use Rattle.cx_session.specs.declared.session.Session.{Session}

-- ---- an entry

pub record LivesBy (J : List Entry) (e : Entry) : Type 0 where
  pub stands : StandsBy J e
  pub once : OnceBy J e

pub quiet-lives : (es J : List Entry) → AllByRecursion IsQuiet es → EachBehind LivesBy J es
quiet-lives [] J h = tt
quiet-lives (e ∷ es) J h = (one e h.0, quiet-lives es (J ++ e ∷ []) h.1)
  where
    one : (e : Entry) → IsQuiet e → LivesBy J e
    one (journal.Handled x) q = absurd q
    one (journal.Resumed x) q = absurd q
    one (journal.Admitted x) q = absurd q
    one (journal.Saved x) q = record { stands = tt; once = tt }
    one (journal.Issued x) q = record { stands = tt; once = tt }
    one (journal.Fetched x) q = record { stands = tt; once = tt }
    one (journal.Looked x) q = record { stands = tt; once = tt }
    one (journal.Sent x) q = record { stands = tt; once = tt }
    one (journal.Answered x) q = record { stands = tt; once = tt }
    one (journal.Refused x) q = record { stands = tt; once = tt }
    one (journal.Ended x) q = record { stands = tt; once = tt }
    one (journal.Restarted x) q = record { stands = tt; once = tt }
    one (journal.Broken x) q = record { stands = tt; once = tt }
    one (journal.Leaked x) q = record { stands = tt; once = tt }

pub mute-lives : (who : NodeName) (es J : List Entry) → AllByRecursion (IsMute who) es → EachBehind LivesBy J es
mute-lives who [] J h = tt
mute-lives who (e ∷ es) J h = (one e h.0, mute-lives who es (J ++ e ∷ []) h.1)
  where
    one : (e : Entry) → IsMute who e → LivesBy J e
    one (journal.Handled x) q = absurd q
    one (journal.Resumed x) q = absurd q
    one (journal.Admitted x) q = absurd q
    one (journal.Saved x) q = record { stands = tt; once = tt }
    one (journal.Issued x) q = record { stands = tt; once = tt }
    one (journal.Fetched x) q = record { stands = tt; once = tt }
    one (journal.Looked x) q = record { stands = tt; once = tt }
    one (journal.Sent x) q = record { stands = tt; once = tt }
    one (journal.Answered x) q = record { stands = tt; once = tt }
    one (journal.Refused x) q = record { stands = tt; once = tt }
    one (journal.Ended x) q = record { stands = tt; once = tt }
    one (journal.Restarted x) q = record { stands = tt; once = tt }
    one (journal.Broken x) q = record { stands = tt; once = tt }
    one (journal.Leaked x) q = record { stands = tt; once = tt }

-- ---- the sessions that were opened since the last restart

-- its number is below the next one; and where one stands under its number, it is that one, or has an older epoch
pub record IsFormer (J : List Entry) (name : Name) (next : ℕ) (s : Admitted) : Type 0 where
  pub below : s.session < next
  pub older : (a : Admitted) → standing name s.session J ≡ Some a → s.epoch ≤ a.epoch
  pub once : (a : Admitted) → standing name s.session J ≡ Some a → s.epoch ≡ a.epoch → s ≡ a

abbrev pub AreFormer : List Entry → Name → ℕ → Type 0
AreFormer J name next = (s : Admitted) → OpenedIn (since name J) s → s.daemon ≡ name → IsFormer J name next s

former-still : (J K : List Entry) (name : Name) (next later : ℕ) (s : Admitted) → next ≤ later → standing name s.session K ≡ standing name s.session J → IsFormer J name next s → IsFormer K name later s
former-still J K name next later s le still f =
    let under : s.session < next = f.below in
    record {
      below = omega (arith, under, le);
      older = λ a is. f.older a (sym still ∙ is);
      once = λ a is same. f.once a (sym still ∙ is) same;
    }

-- entries that leave the daemon's sessions
pub formers-still : (J es : List Entry) (name : Name) (next later : ℕ) → next ≤ later → AllByRecursion (LeavesOf name) es → AreFormer J name next → AreFormer (J ++ es) name later
formers-still J es name next later le leaves h s opened its =
    by_place (opened-cases (since name J) es s (subst (λ (l : List Entry). OpenedIn l s) (since-on name J es (all-map (LeavesOf name) (Goes name) (λ e left. leaves-goes name e left) es leaves)) opened))
  where
    by_place : OpenedIn (since name J) s ⊎ OpenedIn es s → IsFormer (J ++ es) name later s
    by_place (inl was) = former-still J (J ++ es) name next later s le (standing-still name s.session J es leaves) (h s was its)
    by_place (inr now) = absurd (none-opened name es s leaves its now)

-- ---- an entry that opens a session

-- it opens this one, of this daemon, and the others behind it are quiet
module _ (J rest : List Entry) (name : Name) (e : Entry) (a : Admitted) (turns : (number : ℕ) → turns_session name number e ≡ (same_name a.daemon name && (a.session == number)))
    (opens : session_of e ≡ Some a) (goes : Goes name e) (only : (s : Admitted) → (e ≡ journal.Admitted s) ⊎ (e ≡ journal.Resumed s) → a ≡ s)
    (daemon : a.daemon ≡ name) (quiet : AllByRecursion IsQuiet rest) where
  rest-leaves : AllByRecursion (LeavesOf name) rest
  rest-leaves = all-map IsQuiet (LeavesOf name) (λ x h. quiet-leaves x h name) rest quiet

  opened-now : standing name a.session (J ++ e ∷ rest) ≡ Some a
  opened-now = standing-first name a.session J e rest rest-leaves ∙ rw (turns a.session ∙ own-turn a.daemon name a.session a.session daemon refl) opens

  opened-else : (number : ℕ) → (a.session ≡ number → ⊥) → standing name number (J ++ e ∷ rest) ≡ standing name number J
  opened-else number other = standing-first name number J e rest rest-leaves ∙ rw (turns number ∙ other-turn a.daemon name a.session number other) refl

  since-opens : since name (J ++ e ∷ rest) ≡ since name J ++ e ∷ rest
  since-opens = since-on name J (e ∷ rest) (goes, all-map (LeavesOf name) (Goes name) (λ x left. leaves-goes name x left) rest rest-leaves)

  first-of : (s : Admitted) → s.daemon ≡ name → OpenedIn (e ∷ rest) s → a ≡ s
  first-of s its (inl has) = by_place (cons-cases e rest (journal.Admitted s) has)
    where
      by_place : (e ≡ journal.Admitted s) ⊎ Contains rest (journal.Admitted s) → a ≡ s
      by_place (inl here) = only s (inl here)
      by_place (inr later) = absurd (none-opened name rest s rest-leaves its (inl later))
  first-of s its (inr has) = by_place (cons-cases e rest (journal.Resumed s) has)
    where
      by_place : (e ≡ journal.Resumed s) ⊎ Contains rest (journal.Resumed s) → a ≡ s
      by_place (inl here) = only s (inr here)
      by_place (inr later) = absurd (none-opened name rest s rest-leaves its (inr later))

  some-one : (x y : Admitted) → (let o : Option Admitted = Some x in let p : Option Admitted = Some y in o ≡ p) → x ≡ y
  some-one x y is = cc

  pub formers-opens : (next later : ℕ) → next ≤ later → a.session < later → ((s : Admitted) → IsFormer J name next s → s.session ≡ a.session → s.epoch < a.epoch)
      → AreFormer J name next → AreFormer (J ++ e ∷ rest) name later
  formers-opens next later le below lower h s opened its =
      by_place (opened-cases (since name J) (e ∷ rest) s (subst (λ (l : List Entry). OpenedIn l s) since-opens opened))
    where
      K : List Entry
      K = J ++ e ∷ rest

      stands-as : (b : Admitted) → s.session ≡ a.session → standing name s.session K ≡ Some b → a ≡ b
      stands-as b same is = some-one a b (sym (ap (λ (k : ℕ). standing name k K) same ∙ opened-now) ∙ is)

      earlier : (f : IsFormer J name next s) → (a.session ≡ s.session) ⊎ (a.session ≡ s.session → ⊥) → IsFormer K name later s
      earlier f (inr other) = former-still J K name next later s le (opened-else s.session other) f
      earlier f (inl same) =
          let less : s.epoch < a.epoch = lower s f (sym same) in
          let under : s.session < next = f.below in
          record {
            below = omega (arith, under, le);
            older = λ b is. let epoch : a.epoch ≡ b.epoch = ap (λ (x : Admitted). x.epoch) (stands-as b (sym same) is) in omega (arith, less, epoch);
            once = λ b is equal. let epoch : a.epoch ≡ b.epoch = ap (λ (x : Admitted). x.epoch) (stands-as b (sym same) is) in absurd (omega (arith, less, epoch, equal));
          }

      by_place : OpenedIn (since name J) s ⊎ OpenedIn (e ∷ rest) s → IsFormer K name later s
      by_place (inl was) = earlier (h s was its) (cases_eq a.session s.session)
      by_place (inr now) =
          let same : a ≡ s = first-of s its now in
          let number : a.session ≡ s.session = ap (λ (x : Admitted). x.session) same in
          record {
            below = omega (arith, below, number);
            older = λ b is.
                let one : a ≡ b = stands-as b (sym number) is in
                let epoch : a.epoch ≡ b.epoch = ap (λ (x : Admitted). x.epoch) one in
                let its_epoch : a.epoch ≡ s.epoch = ap (λ (x : Admitted). x.epoch) same in
                omega (arith, epoch, its_epoch);
            once = λ b is equal. sym same ∙ stands-as b (sym number) is;
          }

-- ---- a step

only-admitted : (a s : Admitted) → (journal.Admitted a ≡ journal.Admitted s) ⊎ (journal.Admitted a ≡ journal.Resumed s) → a ≡ s
only-admitted a s (inl is) = cc
only-admitted a s (inr is) = absurd cc

only-resumed : (a s : Admitted) → (journal.Resumed a ≡ journal.Admitted s) ⊎ (journal.Resumed a ≡ journal.Resumed s) → a ≡ s
only-resumed a s (inl is) = absurd cc
only-resumed a s (inr is) = cc

-- what is so of the sessions of a daemon
pub record Lives (J : List Entry) (name : Name) (book : Book Authority) (had : Served → Type 0) : Type 0 where
  pub stands : Stands J name book had
  pub former : AreFormer J name book.next

-- entries that leave them
pub lives-still : (J es : List Entry) (name : Name) (book : Book Authority) (had : Served → Type 0) → AllByRecursion (LeavesOf name) es → Lives J name book had → Lives (J ++ es) name book had
lives-still J es name book had leaves h = record {
  stands = stands-still J es name book book had had leaves (same-book book) (λ x was. was) h.stands;
  former = formers-still J es name book.next book.next (omega arith) leaves h.former;
}

module _ (handlers : Handlers) (name : Name) (book : Book Authority) (had : Served → Type 0) where
  live-stands : (J : List Entry) → Stands J name book had → (s : Session Authority) → IsLive book s → SessionStands J name book.next s
  live-stands J h s lives =
      some-of (λ (t : Session Authority). t ≡ s) (SessionStands J name book.next) (SessionStands J name book.next s)
      (λ t same st. subst (SessionStands J name book.next) same st) book.live lives h.sessions

  handled-lives : (J : List Entry) (h : Handled) → Lives J name book had → IsHandledRight handlers name book had h → LivesBy J (journal.Handled h)
  handled-lives J h l r =
      let found : SessionStands J name book.next r.live = live-stands J l.stands r.live r.lives in
      let a : Admitted = found.session in
      let at : standing name r.served.number J ≡ Some a = ap (λ (k : ℕ). standing name k J) (sym r.number) ∙ found.stands in
      let epoch : a.epoch ≡ r.served.epoch = found.tells.epoch ∙ r.epoch in
      let both : (a.cookie ≡ r.served.cookie) × (a.caps ≡ r.served.caps) = ((l.stands.served r.served r.had_it).agrees a at).same (sym epoch) in
      let here : standing h.daemon h.session J ≡ Some a = ap (λ (n : Name). standing n h.session J) r.daemon ∙ ap (λ (k : ℕ). standing name k J) r.session ∙ at in
      record {
        stands = (a, here, epoch ∙ sym r.epoch_is, both.0 ∙ sym r.cookie);
        once = λ s opened of number under b is equal.
            let f : IsFormer J name book.next s = l.former s (subst (λ (n : Name). OpenedIn (since n J) s) r.daemon opened) (of ∙ r.daemon) in
            f.once b (ap (λ (n : Name). standing n s.session J) (sym r.daemon) ∙ ap (λ (k : ℕ). standing h.daemon k J) number ∙ is) (under ∙ sym equal);
      }

  right-lives : (es J : List Entry) → Lives J name book had → AllByRecursion (IsRight handlers name book had) es → EachBehind LivesBy J es
  right-lives [] J l right = tt
  right-lives (e ∷ es) J l right = (
    one e right.0,
    right-lives es (J ++ e ∷ []) (lives-still J (e ∷ []) name book had (right-leaves handlers name book had e right.0 name, tt) l) right.1,
  )
    where
      one : (e : Entry) → IsRight handlers name book had e → LivesBy J e
      one (journal.Handled x) r = handled-lives J x l r
      one (journal.Resumed x) r = absurd r
      one (journal.Admitted x) r = absurd r
      one (journal.Saved x) r = record { stands = tt; once = tt }
      one (journal.Issued x) r = record { stands = tt; once = tt }
      one (journal.Fetched x) r = record { stands = tt; once = tt }
      one (journal.Looked x) r = record { stands = tt; once = tt }
      one (journal.Sent x) r = record { stands = tt; once = tt }
      one (journal.Answered x) r = record { stands = tt; once = tt }
      one (journal.Refused x) r = record { stands = tt; once = tt }
      one (journal.Ended x) r = record { stands = tt; once = tt }
      one (journal.Restarted x) r = record { stands = tt; once = tt }
      one (journal.Broken x) r = record { stands = tt; once = tt }
      one (journal.Leaked x) r = record { stands = tt; once = tt }

-- what a step leaves
pub record StepLives (J es : List Entry) (name : Name) (next : ℕ) : Type 0 where
  pub each : EachBehind LivesBy J es
  pub former : AreFormer (J ++ es) name next

module _ (handlers : Handlers) (name : Name) (J : List Entry) (book new : Book Authority) (had has : Served → Type 0) (es : List Entry) (l : Lives J name book had) where
  rests-lives : Rests handlers name book had has es new → StepLives J es name new.next
  rests-lives r =
      let next : new.next ≡ book.next = r.book_is.next in
      record {
        each = right-lives handlers name book had es J l r.right;
        former = formers-still J es name book.next new.next (omega (arith, next))
            (all-map (IsRight handlers name book had) (LeavesOf name) (λ e right. right-leaves handlers name book had e right name) es r.right) l.former;
      }

  admits-lives : (r : AdmitsOne name book had has es new) → StepLives J (journal.Admitted r.admitted ∷ r.rest) name new.next
  admits-lives r =
      let next : new.next ≡ book.next + 1 = r.next in
      let session : r.admitted.session ≡ book.next = r.session in
      record {
        each = (record { stands = tt; once = tt }, quiet-lives r.rest (J ++ journal.Admitted r.admitted ∷ []) r.quiet);
        former = formers-opens J r.rest name (journal.Admitted r.admitted) r.admitted (λ n. refl) refl refl (only-admitted r.admitted) r.daemon r.quiet book.next new.next
            (omega (arith, next)) (omega (arith, next, session))
            (λ s f same. let under : s.session < book.next = f.below in absurd (omega (arith, under, same, session))) l.former;
      }

  resumes-lives : (r : ResumesOne name book had has es new) → StepLives J (journal.Resumed r.resumed ∷ r.rest) name new.next
  resumes-lives r =
      let next : new.next ≡ book.next = r.next in
      let old : SessionStands J name book.next r.old = live-stands handlers name book had J l.stands r.old r.lived in
      let was : standing name r.resumed.session J ≡ Some old.session = ap (λ (k : ℕ). standing name k J) (sym r.number) ∙ old.stands in
      let under : r.old.number < book.next = old.below in
      let number : r.old.number ≡ r.resumed.session = r.number in
      let told : old.session.epoch ≡ r.old.epoch = old.tells.epoch in
      let raised : r.resumed.epoch ≡ r.old.epoch + 1 = r.epoch in
      record {
        each = (
          record {
            stands = (
              old.session,
              ap (λ (n : Name). standing n r.resumed.session J) r.daemon ∙ was,
              old.tells.entity ∙ sym r.entity,
              old.tells.cookie ∙ sym r.cookie,
            );
            once = tt;
          },
          quiet-lives r.rest (J ++ journal.Resumed r.resumed ∷ []) r.quiet,
        );
        former = formers-opens J r.rest name (journal.Resumed r.resumed) r.resumed (λ n. refl) refl refl (only-resumed r.resumed) r.daemon r.quiet book.next new.next
            (omega (arith, next)) (omega (arith, next, under, number))
            (λ s f same.
            let most : s.epoch ≤ old.session.epoch = f.older old.session (ap (λ (k : ℕ). standing name k J) same ∙ was) in
            omega (arith, most, told, raised)) l.former;
      }

  module _ (r : EndsOne name book had has es new) where
    gone : (number : ℕ) → r.number ≡ number → standing name number (J ++ journal.Ended (record { daemon = name; session = r.number }) ∷ []) ≡ None
    gone number this = standing-first name number J (journal.Ended (record { daemon = name; session = r.number })) [] tt ∙ rw (own-turn name name r.number number refl this) refl

    others : (number : ℕ) → (r.number ≡ number → ⊥) → standing name number (J ++ journal.Ended (record { daemon = name; session = r.number }) ∷ []) ≡ standing name number J
    others number other = standing-first name number J (journal.Ended (record { daemon = name; session = r.number })) [] tt ∙ rw (other-turn name name r.number number other) refl

    formers-ends : AreFormer (J ++ journal.Ended (record { daemon = name; session = r.number }) ∷ []) name new.next
    formers-ends s opened its = by_place (opened-cases (since name J) (e ∷ []) s (subst (λ (x : List Entry). OpenedIn x s) (since-on name J (e ∷ []) (refl, tt)) opened))
      where
        e : Entry
        e = journal.Ended (record { daemon = name; session = r.number })

        by_number : IsFormer J name book.next s → (r.number ≡ s.session) ⊎ (r.number ≡ s.session → ⊥) → IsFormer (J ++ e ∷ []) name new.next s
        by_number f (inr other) = let next : new.next ≡ book.next = r.next in former-still J (J ++ e ∷ []) name book.next new.next s (omega (arith, next)) (others s.session other) f
        by_number f (inl this) =
            let next : new.next ≡ book.next = r.next in
            let under : s.session < book.next = f.below in
            record {
              below = omega (arith, next, under);
              older = λ a is. let none : None ≡ Some a = sym (gone s.session this) ∙ is in absurd cc;
              once = λ a is same. let none : None ≡ Some a = sym (gone s.session this) ∙ is in absurd cc;
            }

        not-ended : (x : Entry) → e ≡ x → OpenedIn (x ∷ []) s → ⊥
        not-ended x same (inl has) = by_kind (cons-cases x [] (journal.Admitted s) has)
          where
            by_kind : (x ≡ journal.Admitted s) ⊎ Contains [] (journal.Admitted s) → ⊥
            by_kind (inl here) = let is : e ≡ journal.Admitted s = same ∙ here in cc
            by_kind (inr none) = omega (arith, none.1)
        not-ended x same (inr has) = by_kind (cons-cases x [] (journal.Resumed s) has)
          where
            by_kind : (x ≡ journal.Resumed s) ⊎ Contains [] (journal.Resumed s) → ⊥
            by_kind (inl here) = let is : e ≡ journal.Resumed s = same ∙ here in cc
            by_kind (inr none) = omega (arith, none.1)

        by_place : OpenedIn (since name J) s ⊎ OpenedIn (e ∷ []) s → IsFormer (J ++ e ∷ []) name new.next s
        by_place (inl was) = by_number (l.former s was its) (cases_eq r.number s.session)
        by_place (inr now) = absurd (not-ended e refl now)

  comes-lives : Comes handlers name book had has es new → StepLives J es name new.next
  comes-lives (Rested r) = rests-lives r
  comes-lives (Admitting r) = subst (λ (x : List Entry). StepLives J x name new.next) (sym r.entries_are) (admits-lives r)
  comes-lives (Resuming r) = subst (λ (x : List Entry). StepLives J x name new.next) (sym r.entries_are) (resumes-lives r)
  comes-lives (Ending r) =
      subst (λ (x : List Entry). StepLives J x name new.next) (sym r.entries_are) (record { each = (record { stands = tt; once = tt }, tt); former = formers-ends r })

  none-since : since name (J ++ journal.Restarted (node.Entity name) ∷ []) ≡ []
  none-since = since-append name [] J (journal.Restarted (node.Entity name) ∷ []) ∙ ap (λ (t : Bool). if t then [] else since name J ++ journal.Restarted (node.Entity name) ∷ []) (same_name_self name)

  no-former : AreFormer (J ++ journal.Restarted (node.Entity name) ∷ []) name new.next
  no-former s opened its = absurd (none-there (subst (λ (x : List Entry). OpenedIn x s) none-since opened))
    where
      none-there : OpenedIn [] s → ⊥
      none-there (inl has) = omega (arith, has.1)
      none-there (inr has) = omega (arith, has.1)

  pub step-lives : StepComes handlers name book had has es new → StepLives J es name new.next
  step-lives (inl comes) = comes-lives comes
  step-lives (inr r) = subst (λ (x : List Entry). StepLives J x name new.next) (sym r.entries_are) (record { each = (record { stands = tt; once = tt }, tt); former = no-former })
