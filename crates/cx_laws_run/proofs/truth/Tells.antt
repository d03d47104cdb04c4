-- Of a journal in which each answer to a client that didn't leak tells so (`ToldLaw`): the law of answers.
use Rattle.std.proofs.Common.{◌≡◌, List, [], ◌∷◌, ◌++◌, inl, inr, refl, sym, ap, ◌∙◌, subst, append_assoc}
use Rattle.std.proofs.lemmas.List.Elements.{Contains-append_left}
use Rattle.std.specs.Prelude.{Contains, IsTrue}
use Rattle.cx_base.specs.Names.{Name, is_daemon_type}
use Rattle.cx_journal.specs.Behind.{EachBehind}
use Rattle.cx_journal.specs.Leaks.{IsUnleaked}
use Rattle.cx_journal.specs.Sessions.{IsHandledIn}
use Rattle.cx_journal.specs.Truthful.{IsTold, IsTruthful, IsTruthfulBy, Tells, WasHandled}
use Rattle.cx_journal.specs.declared.entries.Admitted.{Admitted}
use Rattle.cx_journal.specs.declared.entries.Answered.{Answered}
use Rattle.cx_journal.specs.declared.entries.Entry.{Entry}
use Rattle.cx_journal.specs.declared.entries.Entry.TheVariants as journal
use Rattle.cx_journal.specs.declared.entries.Handled.{Handled}
use Rattle.cx_laws_run.specs.cx_laws_keys.proofs.keys.Uses.{WholeRun}
use Rattle.cx_laws_run.specs.cx_laws_sessions.proofs.session.Standing.{standing-handles}
use Rattle.cx_laws_run.specs.cx_laws_links.proofs.links.IncomingTakes.{IsServedIn}
use Rattle.cx_laws_run.specs.cx_laws_links.proofs.answers.CallAny.{IsToldSo}
use Rattle.cx_laws_run.proofs.sent.Fronted.{StandsBy}
use Rattle.cx_laws_run.proofs.sent.Lives.{OnceBy, OpenedIn}
use Rattle.cx_laws_run.proofs.sent.State.{HeardLaw}
use Rattle.cx_laws_run.proofs.truth.Cookies.{HasAdmitted, are-apart, behind-at, opened-at, placed, were-admitted}
use Rattle.cx_laws_run.proofs.truth.State.{IsFirstOf}

-- an answer from a daemon to a client that didn't leak tells how an operation ended that was handled at a daemon of the type that was asked; and no earlier one to this
-- client has its cookie and its tid
abbrev pub ToldLaw : WholeRun → List Entry → Entry → Type 0
ToldLaw run earlier (journal.Answered x) = (Contains run.leaked x.client → ⊥) → IsTrue (is_daemon_type x.daemon.kind) → IsToldSo earlier x × IsFirstOf earlier x
ToldLaw run earlier _ = Unit {0}

module _ (run : WholeRun) (entries : List Entry) (stands : EachBehind StandsBy [] entries) (once : EachBehind OnceBy [] entries) (heard : EachBehind (HeardLaw run) [] entries)
    (told : EachBehind (ToldLaw run) [] entries) (free : (name : Name) → IsUnleaked entries name → Contains run.leaked name → ⊥) where
  -- ---- the session in which an operation was handled

  record SessionOf (before : List Entry) (h : Handled) (name : Name) : Type 0 where
    session : Admitted
    handled_in : IsHandledIn before h session
    entity : session.entity ≡ name

  session-of : (before after : List Entry) (h : Handled) (name : Name) → entries ≡ before ++ journal.Handled h ∷ after → IsServedIn before name h → SessionOf before h name
  session-of before after h name place s =
      let stood : StandsBy before (journal.Handled h) = behind-at StandsBy [] before after (journal.Handled h) (subst (λ (l : List Entry). EachBehind StandsBy [] l) place stands) in
      let one : OnceBy before (journal.Handled h) = behind-at OnceBy [] before after (journal.Handled h) (subst (λ (l : List Entry). EachBehind OnceBy [] l) place once) in
      let same : s.session ≡ stood.0 = one s.session s.opens s.daemon_is s.number s.epoch stood.0 stood.1 stood.2 in
      record {
        session = stood.0;
        handled_in = standing-handles before h stood.0 stood.1 stood.2 stood.3;
        entity = sym (ap (λ (a : Admitted). a.entity) same) ∙ s.entity;
      }

  -- ---- an answer that is told so

  module _ (earlier later : List Entry) (whole : entries ≡ earlier ++ later) (x : Answered) (t : IsToldSo earlier x) where
    place-of : entries ≡ t.served.before ++ journal.Handled t.handled ∷ (t.served.after ++ later)
    place-of = whole ∙ ap (λ (l : List Entry). l ++ later) t.served.place ∙ append_assoc t.served.before (journal.Handled t.handled ∷ t.served.after) later

    its-session : SessionOf t.served.before t.handled x.client
    its-session = session-of t.served.before (t.served.after ++ later) t.handled x.client place-of t.served.served

    was-handled : WasHandled earlier x
    was-handled = record {
      before = t.served.before;
      handled = t.handled;
      after = t.served.after;
      place = t.served.place;
      kind = t.kind;
      seq = t.seq;
      outcome = t.outcome;
      cookie = t.cookie;
      session = its-session.session;
      handled_in = its-session.handled_in;
      client = its-session.entity;
    }

    -- its session was admitted, for its client under its cookie
    was-admitted : HasAdmitted entries its-session.session
    was-admitted =
        let h = its-session.handled_in in
        were-admitted entries stands its-session.session
        (grows (opened-at t.served.before h.before h.between h.opening its-session.session h.place h.opens))
      where
        there : (e : Entry) → Contains t.served.before e → Contains entries e
        there e has =
            subst (λ (l : List Entry). Contains l e) (sym place-of) (Contains-append_left t.served.before (journal.Handled t.handled ∷ (t.served.after ++ later)) e has)

        grows : OpenedIn t.served.before its-session.session → OpenedIn entries its-session.session
        grows (inl has) = inl (there (journal.Admitted its-session.session) has)
        grows (inr has) = inr (there (journal.Resumed its-session.session) has)

    admitted-client : was-admitted.session.entity ≡ x.client
    admitted-client = was-admitted.entity ∙ its-session.entity

    admitted-cookie : was-admitted.session.cookie ≡ x.cookie
    admitted-cookie = was-admitted.cookie ∙ its-session.handled_in.admits.cookie ∙ t.cookie

  -- two of one cookie are to one client
  one-client : (earlier later : List Entry) → entries ≡ earlier ++ later → (x : Answered) → IsToldSo earlier x → (before after : List Entry) → entries ≡ before ++ after → (y : Answered)
      → IsToldSo before y → (Contains run.leaked x.client → ⊥) → (Contains run.leaked y.client → ⊥) → x.cookie ≡ y.cookie → x.client ≡ y.client
  one-client earlier later whole x t before after place y u free_x free_y cookie =
      let a = was-admitted earlier later whole x t in
      let b = was-admitted before after place y u in
      let first = admitted-client earlier later whole x t in
      let last = admitted-client before after place y u in
      sym first
      ∙ are-apart run entries heard a.session b.session a.has b.has (subst (λ (m : Name). Contains run.leaked m → ⊥) (sym first) free_x) (subst (λ (m : Name). Contains run.leaked m → ⊥) (sym last) free_y)
      (admitted-cookie earlier later whole x t ∙ cookie ∙ sym (admitted-cookie before after place y u)) ∙ last

  -- ---- each answer

  tells-so : (earlier later : List Entry) (x : Answered) → entries ≡ earlier ++ journal.Answered x ∷ later → ToldLaw run earlier (journal.Answered x) → IsTold entries x → Tells entries earlier x
  tells-so earlier later x whole law is =
      let t = law (free x.client is.client) is.daemon in
      record {
        handled = was-handled earlier (journal.Answered x ∷ later) whole x t.0;
        once = λ other has other_told cookie tid.
            let p = placed earlier (journal.Answered other) has in
            let place : entries ≡ p.before ++ journal.Answered other ∷ (p.after ++ journal.Answered x ∷ later) =
            whole ∙ ap (λ (l : List Entry). l ++ journal.Answered x ∷ later) p.place ∙ append_assoc p.before (journal.Answered other ∷ p.after) (journal.Answered x ∷ later) in
            let own : ToldLaw run p.before (journal.Answered other) =
            behind-at (ToldLaw run) [] p.before (p.after ++ journal.Answered x ∷ later) (journal.Answered other) (subst (λ (l : List Entry). EachBehind (ToldLaw run) [] l) place told) in
            let u = own (free other.client other_told.client) other_told.daemon in
            let client : x.client ≡ other.client =
            one-client earlier (journal.Answered x ∷ later) whole x t.0 p.before (journal.Answered other ∷ (p.after ++ journal.Answered x ∷ later)) place other u.0
            (free x.client is.client) (free other.client other_told.client) (sym cookie) in
            t.1 other has client (sym cookie) (sym tid);
      }

  entry-tells : (earlier later : List Entry) (e : Entry) → entries ≡ earlier ++ e ∷ later → ToldLaw run earlier e → IsTruthfulBy entries earlier e
  entry-tells earlier later (journal.Answered x) whole law = tells-so earlier later x whole law
  entry-tells earlier later _ whole law = tt

  each-tells : (earlier es : List Entry) → entries ≡ earlier ++ es → EachBehind (ToldLaw run) earlier es → EachBehind (IsTruthfulBy entries) earlier es
  each-tells earlier [] whole law = tt
  each-tells earlier (e ∷ es) whole law = (entry-tells earlier es e whole law.0, each-tells (earlier ++ e ∷ []) es (whole ∙ sym (append_assoc earlier (e ∷ []) es)) law.1)

  pub truthful-of : IsTruthful entries
  truthful-of = each-tells [] entries refl told
