-- Of every list of events that may happen, with operations that have a spelling: each answer to a client that didn't leak tells how an operation of its own ended, and of
-- each operation there is one. So the law of answers is so.
use Rattle.std.proofs.Common.{true, List, [], ◌∷◌, ◌++◌, refl}
use Rattle.cx_journal.specs.Behind.{EachBehind}
use Rattle.cx_journal.specs.Truthful.{IsTruthful}
use Rattle.cx_journal.specs.declared.entries.Entry.{Entry}
use Rattle.cx_journal.specs.declared.entries.Entry.TheVariants as journal
use Rattle.cx_laws_run.specs.cx_laws_keys.proofs.keys.Uses.{WholeRun}
use Rattle.cx_laws_run.specs.cx_laws_sessions.proofs.queues.Cookies.{cookies-numbered}
use Rattle.cx_laws_run.specs.cx_laws_sessions.proofs.queues.Runs.{all-handled-in-order}
use Rattle.cx_laws_run.proofs.run.Happening.{visited}
use Rattle.cx_laws_run.proofs.run.Whole.{run_of}
use Rattle.cx_laws_run.specs.run.Laws.{MayHappen}
use Rattle.cx_laws_run.specs.cx_run.specs.Happenings.{Happening}
use Rattle.cx_laws_run.specs.cx_run.specs.Opening.{Setup, leaked_of}
use Rattle.cx_laws_run.specs.cx_run.specs.Points.{journal_since, log_since}
use Rattle.cx_steps.specs.Premises.{IsFresh, IsSound}
use Rattle.cx_laws_run.specs.cx_laws_links.proofs.answers.CallAny.{told-so}
use Rattle.cx_laws_run.proofs.sent.AllStood.{all-once, all-stand}
use Rattle.cx_laws_run.proofs.sent.Beginning.{run-heard}
use Rattle.cx_laws_run.proofs.sent.ClientSteps.{client-step}
use Rattle.cx_laws_run.proofs.sent.DaemonReadies.{daemon-step}
use Rattle.cx_laws_run.proofs.sent.Prefix.{each-said, none-leaked}
use Rattle.cx_laws_run.proofs.sent.State.{HeardLaw}
use Rattle.cx_laws_run.specs.sent.Fitting.{AreFit}
use Rattle.cx_laws_run.proofs.truth.AllOnce.{all-handled-once}
use Rattle.cx_laws_run.proofs.truth.OnceHandled.{HandledOnce}
use Rattle.cx_laws_run.proofs.truth.State.{TruthLaw}
use Rattle.cx_laws_run.proofs.truth.Tells.{ToldLaw, truthful-of}
use Rattle.cx_laws_run.proofs.truth.TruthBeginning.{run-true}

one-told : (run : WholeRun) (J : List Entry) (e : Entry) → TruthLaw run J e → ToldLaw run J e
one-told run J (journal.Answered x) law = λ free daemon.
    let t = law free in (told-so J t.0.service x.client x.client x.daemon x t.0.kind refl t.0.ended, t.1)
one-told run J (journal.Admitted x) law = tt
one-told run J (journal.Resumed x) law = tt
one-told run J (journal.Handled x) law = tt
one-told run J (journal.Saved x) law = tt
one-told run J (journal.Issued x) law = tt
one-told run J (journal.Fetched x) law = tt
one-told run J (journal.Looked x) law = tt
one-told run J (journal.Sent x) law = tt
one-told run J (journal.Refused x) law = tt
one-told run J (journal.Ended x) law = tt
one-told run J (journal.Restarted x) law = tt
one-told run J (journal.Broken x) law = tt
one-told run J (journal.Leaked x) law = tt

each-told : (run : WholeRun) (J es : List Entry) → EachBehind (TruthLaw run) J es → EachBehind (ToldLaw run) J es
each-told run J [] law = tt
each-told run J (e ∷ es) law = (one-told run J e law.0, each-told run (J ++ e ∷ []) es law.1)

-- ---- every list of events

module _ (setup : Setup) (hs : List Happening) (m : MayHappen setup hs) (fits : AreFit hs) (sound : IsSound (leaked_of setup) (log_since setup hs)) (fresh : IsFresh (log_since setup hs)) where
  -- what was handled was heard so
  heard : EachBehind (HeardLaw (run_of setup hs true)) [] (journal_since setup hs)
  heard =
      run-heard (run_of setup hs true) setup hs refl m.begins.clients (client-step (run_of setup hs true) (log_since setup hs)) (daemon-step (run_of setup hs true) (log_since setup hs)) (visited setup hs m)
      m.bytes fits sound fresh

  -- and once
  handled-once : EachBehind (HandledOnce (run_of setup hs true)) [] (journal_since setup hs)
  handled-once =
      all-handled-once (run_of setup hs true) (journal_since setup hs) (all-stand setup hs) (all-once setup hs)
      (each-said (run_of setup hs true) (journal_since setup hs) [] (all-stand setup hs) (all-once setup hs) heard) (all-handled-in-order setup hs) (cookies-numbered setup hs fresh)

  -- so each answer is true
  pub any-true : EachBehind (TruthLaw (run_of setup hs true)) [] (journal_since setup hs)
  any-true =
      run-true (run_of setup hs true) setup hs refl m.begins.clients (client-step (run_of setup hs true) (log_since setup hs)) (daemon-step (run_of setup hs true) (log_since setup hs)) (visited setup hs m)
      m.bytes fits sound fresh handled-once

  -- and the law of answers is so
  pub any-truthful : IsTruthful (journal_since setup hs)
  any-truthful =
      truthful-of (run_of setup hs true) (journal_since setup hs) (all-stand setup hs) (all-once setup hs) heard
      (each-told (run_of setup hs true) [] (journal_since setup hs) any-true) (none-leaked setup hs)
