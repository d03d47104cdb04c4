-- The words that a row of a client's link to a daemon says have spellings, where the operations that wait have, and the cookie of the session for which the
-- link goes on.
use Rattle.std.proofs.Common.{ℕ, ◌<◌, ◌^◌, List, [], ◌∷◌, map, Option, Some}
use Rattle.std.specs.List.{AllByRecursion}
use Rattle.cx_base.specs.Names.{Name}
use Rattle.cx_base.specs.declared.operations.Operation.{Operation}
use Rattle.cx_journal.specs.declared.entries.Entry.{Entry}
use Rattle.cx_laws_sessions.specs.cx_rules.specs.Secured.{Secured}
use Rattle.cx_laws_sessions.specs.cx_rules_session.specs.Presenter.{CallRow, CallStage}
use Rattle.cx_laws_sessions.specs.cx_rules_session.specs.Sessions.{Callee}
use Rattle.cx_steps.specs.declared.seals.SealEntry.{SealEntry}
use Rattle.cx_laws_links.proofs.links.CallSteps.{WasSent}
use Rattle.cx_laws_links.proofs.links.CallWords.{AreWords, Identified, IsDrawnIn, KeyedStage, NoWord, OneWord, Opened, Reconnecting, Says, SomeOrders}
use Rattle.cx_laws_links.proofs.links.Hearing.{IsSpelled}
use Rattle.cx_laws_links.proofs.links.Spoken.{Idents, KeepsUp, Orders, Reconnects, Signs, Spoken, cookie_behind}
use Rattle.cx_laws_run.proofs.sent.Shown.{SentFits}
use Rattle.cx_laws_run.proofs.sent.State.{CallFits}

module _ (J : List Entry) (name : Name) where
  orders-sent : (cookie : ℕ) (orders : List (ℕ × Operation)) → AllByRecursion (SentFits J name cookie) orders → AllByRecursion (WasSent J name cookie) orders
  orders-sent cookie [] h = tt
  orders-sent cookie (order ∷ orders) h = (h.0.0, orders-sent cookie orders h.1)

  pub words-sent : (before : Option ℕ) (quiet : List SealEntry) (words : List Spoken) → AreWords (SentFits J name) before quiet words → AreWords (WasSent J name) before quiet words
  words-sent before quiet _ NoWord = NoWord
  words-sent before quiet _ (OneWord x drawn) = OneWord x drawn
  words-sent before quiet _ (SomeOrders cookie orders here were) = SomeOrders cookie orders here (orders-sent cookie orders were)

  -- the same words, of operations that were sent
  abbrev pub says-sent : (number : ℕ) (callee : Callee) (s : Secured) (before : Option ℕ) (row : CallRow) → Says (SentFits J name) number callee s before row
      → Says (WasSent J name) number callee s before row
  says-sent number callee s before row h = record {
    words = h.words;
    quiet = h.quiet;
    silent = h.silent;
    sealed = h.sealed;
    made = h.made;
    seals = h.seals;
    link = h.link;
    calls = h.calls;
    held = h.held;
    waits = h.waits;
    said = words-sent before h.quiet h.words h.said;
  }

  -- ---- spellings

  -- the cookie of the session for which a link goes on
  cookie-fits : (stage : CallStage) (s : Secured) (cookie : ℕ) → KeyedStage stage s (Some cookie) → CallFits stage → cookie < 2 ^ 64
  cookie-fits _ _ _ (Identified s callee cookie) h = h
  cookie-fits _ _ _ (Reconnecting s callee cookie) h = h
  cookie-fits _ _ _ (Opened s callee cookie) h = h

  orders-spelled : (cookie : ℕ) (orders : List (ℕ × Operation)) → AllByRecursion (SentFits J name cookie) orders → AllByRecursion IsSpelled (map Orders orders)
  orders-spelled cookie [] h = tt
  orders-spelled cookie (order ∷ orders) h = (h.0.1, orders-spelled cookie orders h.1)

  pub words-spelled : (before : Option ℕ) (quiet : List SealEntry) (words : List Spoken) (stage : CallStage) (s : Secured) → AreWords (SentFits J name) before quiet words
      → KeyedStage stage s (cookie_behind before words) → CallFits stage → AllByRecursion IsSpelled words
  words-spelled before quiet _ stage s NoWord keyed fits = tt
  words-spelled before quiet _ stage s (OneWord x drawn) keyed fits = (by_word x drawn keyed, tt)
    where
      by_word : (y : Spoken) → IsDrawnIn quiet y → KeyedStage stage s (cookie_behind before (y ∷ [])) → IsSpelled y
      by_word (Signs code) d k = tt
      by_word (Idents mon_client gid flags cookie) d k = cookie-fits stage s cookie k fits
      by_word (Reconnects mon_client session) d k = cookie-fits stage s session.client_cookie k fits
      by_word (Orders order) d k = absurd d
      by_word (KeepsUp ack) d k = tt
  words-spelled before quiet _ stage s (SomeOrders cookie orders here were) keyed fits = orders-spelled cookie orders were
