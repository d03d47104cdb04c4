-- Of every list of events: what is handled in the sessions of an entity that didn't leak is a front of what the entity sent, where what is handled in a session was
-- sent by its entity.
use Rattle.std.proofs.Common.{◌≡◌, Bool, true, false, List, [], ◌∷◌, ◌++◌, map, Option, Some, ◌⊎◌, inl, inr, arith, sym, ap, ◌∙◌, subst}
use Rattle.std.specs.Prelude.{◌||◌, Contains}
use Rattle.std.specs.List.{list_any}
use Rattle.cx_base.proofs.Names.{same_name_self}
use Rattle.cx_base.specs.Names.{Name, same_name}
use Rattle.cx_journal.proofs.SessionLemmas.{session_is}
use Rattle.cx_journal.specs.Behind.{EachBehind}
use Rattle.cx_journal.specs.Leaks.{IsUnleaked, is_leak}
use Rattle.cx_journal.specs.PrefixOfSent.{IsPrefixOfSent}
use Rattle.cx_journal.specs.Sessions.{session_at}
use Rattle.cx_journal.specs.declared.entries.Admitted.{Admitted}
use Rattle.cx_journal.specs.declared.entries.Entry.{Entry}
use Rattle.cx_journal.specs.declared.entries.Entry.TheVariants as journal
use Rattle.cx_journal.specs.declared.entries.Handled.{Handled}
use Rattle.cx_laws_run.specs.cx_laws_keys.proofs.keys.Uses.{WholeRun}
use Rattle.cx_laws_links.proofs.links.IncomingTakes.{IsServedIn, WasSentAs}
use Rattle.cx_laws_sessions.proofs.queues.Cookies.{cookies-numbered}
use Rattle.cx_laws_sessions.proofs.queues.Runs.{all-handled-in-order}
use Rattle.cx_laws_run.proofs.run.Whole.{run_of}
use Rattle.cx_laws_run.proofs.sent.AllStood.{all-once, all-stand}
use Rattle.cx_laws_run.proofs.sent.Fronted.{StandsBy, all-fronts}
use Rattle.cx_laws_run.proofs.sent.Fronts.{cons-cases}
use Rattle.cx_laws_run.proofs.sent.Lives.{OnceBy}
use Rattle.cx_laws_run.proofs.sent.State.{HeardLaw}
use Rattle.cx_laws_run.proofs.sent.Said.{WasSaidBy}
use Rattle.cx_laws_sessions.proofs.session.Lists.{map-append}
use Rattle.cx_laws_sessions.proofs.session.Standing.{standing-handles}
use Rattle.cx_laws_sessions.specs.cx_run.specs.Happenings.{Entered, Happening, journal_from}
use Rattle.cx_laws_sessions.specs.cx_run.specs.Opening.{Leak, Setup, leaked_of, leaks_entered, nodes_of}
use Rattle.cx_laws_sessions.specs.cx_run.specs.Points.{journal_since, log_since}
use Rattle.cx_steps.specs.Premises.{IsFresh}

-- ---- who leaked

-- where no entry says that an entity leaked, it is none of those that did
unleaked-free : (leaks : List Leak) (later : List Entry) (entity : Name)
    → list_any (is_leak entity) (map (λ (x : Entered). x.entry) (map (λ (l : Leak). record { line = l.line; reading = 0; entry = journal.Leaked l.client }) leaks) ++ later) ≡ false
    → Contains (map (λ (l : Leak). l.client) leaks) entity → ⊥
unleaked-free [] later entity none has = omega (arith, has.1)
unleaked-free (l ∷ leaks) later entity none has =
    by_place (cons-cases l.client (map (λ (x : Leak). x.client) leaks) entity has) none (λ rest there. unleaked-free leaks later entity rest there)
  where
    others : Bool
    others = list_any (is_leak entity) (map (λ (x : Entered). x.entry) (map (λ (x : Leak). record { line = x.line; reading = 0; entry = journal.Leaked x.client }) leaks) ++ later)

    first : (t : Bool) → t ≡ true → (t || others) ≡ false → ⊥
    first true is all = absurd cc
    first false is all = absurd cc

    rest : (t : Bool) → (t || others) ≡ false → others ≡ false
    rest true all = absurd cc
    rest false all = all

    by_place : (l.client ≡ entity) ⊎ Contains (map (λ (x : Leak). x.client) leaks) entity → (same_name l.client entity || others) ≡ false
        → (others ≡ false → Contains (map (λ (x : Leak). x.client) leaks) entity → ⊥) → ⊥
    by_place (inl same) all later = first (same_name l.client entity) (ap (λ (n : Name). same_name n entity) same ∙ same_name_self entity) all
    by_place (inr there) all later = later (rest (same_name l.client entity) all) there

pub none-leaked : (setup : Setup) (hs : List Happening) (entity : Name) → IsUnleaked (journal_since setup hs) entity → Contains (leaked_of setup) entity → ⊥
none-leaked setup hs entity unleaked =
    unleaked-free setup.leaks (map (λ (x : Entered). x.entry) (journal_from (nodes_of setup) hs)) entity
    (sym (ap (λ (l : List Entry). list_any (is_leak entity) l) (map-append (λ (x : Entered). x.entry) (leaks_entered setup) (journal_from (nodes_of setup) hs))) ∙ unleaked)

-- ---- the law of order

-- it is none of these
abbrev pub DidntLeak : List Name → Name → Type 0
DidntLeak leaked name = Contains leaked name → ⊥

-- of every run in which what is handled in a session of an entity that didn't leak was sent by it
pub prefix-of-said : (setup : Setup) (hs : List Happening) → IsFresh (log_since setup hs) → EachBehind (WasSaidBy (DidntLeak (leaked_of setup))) [] (journal_since setup hs)
    → IsPrefixOfSent (journal_since setup hs)
prefix-of-said setup hs fresh said =
    all-fronts (DidntLeak (leaked_of setup)) (journal_since setup hs) (all-stand setup hs) said (all-handled-in-order setup hs) (cookies-numbered setup hs fresh) (none-leaked setup hs)

-- ---- what is heard

module _ (run : WholeRun) where
  -- the session in which it is handled is that entity's
  handled-said : (J : List Entry) (h : Handled) → StandsBy J (journal.Handled h) → OnceBy J (journal.Handled h) → HeardLaw run J (journal.Handled h) → WasSaidBy (DidntLeak run.leaked) J (journal.Handled h)
  handled-said J h stands once heard a is free =
      let found : session_at J h ≡ Some stands.0 = session_is J h stands.0 (standing-handles J h stands.0 stands.1 stands.2 stands.3) in
      let one : stands.0 ≡ a = some-one stands.0 a (sym found ∙ is) in
      let s : IsServedIn J heard.0 h = heard.1 in
      let same : s.session ≡ stands.0 = once s.session s.opens s.daemon_is s.number s.epoch stands.0 stands.1 stands.2 in
      let entity : heard.0 ≡ a.entity = sym s.entity ∙ ap (λ (x : Admitted). x.entity) (same ∙ one) in
      subst (λ (n : Name). WasSentAs J n h) entity (heard.2 (λ has. free (subst (λ (n : Name). Contains run.leaked n) entity has)))
    where
      some-one : (x y : Admitted) → (let o : Option Admitted = Some x in let p : Option Admitted = Some y in o ≡ p) → x ≡ y
      some-one x y e = cc

  one-said : (J : List Entry) (e : Entry) → StandsBy J e → OnceBy J e → HeardLaw run J e → WasSaidBy (DidntLeak run.leaked) J e
  one-said J (journal.Handled x) stands once heard = handled-said J x stands once heard
  one-said J (journal.Admitted x) stands once heard = λ free b has entity cookie. heard free b has (subst (λ (m : Name). Contains run.leaked m → ⊥) (sym entity) free) cookie
  one-said J (journal.Resumed x) stands once heard = tt
  one-said J (journal.Saved x) stands once heard = tt
  one-said J (journal.Issued x) stands once heard = tt
  one-said J (journal.Fetched x) stands once heard = tt
  one-said J (journal.Looked x) stands once heard = tt
  one-said J (journal.Sent x) stands once heard = tt
  one-said J (journal.Answered x) stands once heard = tt
  one-said J (journal.Refused x) stands once heard = tt
  one-said J (journal.Ended x) stands once heard = tt
  one-said J (journal.Restarted x) stands once heard = tt
  one-said J (journal.Broken x) stands once heard = tt
  one-said J (journal.Leaked x) stands once heard = tt

  pub each-said : (es J : List Entry) → EachBehind StandsBy J es → EachBehind OnceBy J es → EachBehind (HeardLaw run) J es → EachBehind (WasSaidBy (DidntLeak run.leaked)) J es
  each-said [] J stands once heard = tt
  each-said (e ∷ es) J stands once heard = (one-said J e stands.0 once.0 heard.0, each-said es (J ++ e ∷ []) stands.1 once.1 heard.1)

pub prefix-of-sent : (setup : Setup) (hs : List Happening) (incoming_links : Bool) → IsFresh (log_since setup hs) → EachBehind (HeardLaw (run_of setup hs incoming_links)) [] (journal_since setup hs)
    → IsPrefixOfSent (journal_since setup hs)
prefix-of-sent setup hs incoming_links fresh heard =
    prefix-of-said setup hs fresh (each-said (run_of setup hs incoming_links) (journal_since setup hs) [] (all-stand setup hs) (all-once setup hs) heard)
