-- What becomes of a session that is taken up again, is as before, or of which some was acknowledged; and of a row that leaves it.
use Rattle.std.proofs.Common.{◌≡◌, ℕ, [], Option, Some, None, append-nil, arith, refl, sym, ap, subst}
use Rattle.cx_laws_sessions.specs.cx_rules_session.specs.Presenter.{CallArrival, CallRow, Caller}
use Rattle.cx_laws_sessions.specs.cx_rules_session.specs.Sessions.{Callee, HeldSession, acknowledged_up_to}
use Rattle.cx_laws_sessions.proofs.waiting.Quiet.{GoesFor, LeavesAll}
use Rattle.cx_laws_sessions.proofs.waiting.Trimming.{run-left}
use Rattle.cx_laws_sessions.specs.waiting.Heard.{Word, Silent, Took}
use Rattle.cx_laws_sessions.specs.waiting.Keeping.{Becomes, GoesOn}
use Rattle.cx_session.specs.Queue.{IsRun}

-- ---- sessions

-- the numbers of what waits in a session rise by one up to the last one that was given
abbrev pub IsInOrder : HeldSession → Type 0
IsInOrder s = IsRun s.queue.last s.queue.waiting

-- one that was taken up again, or wasn't: all that waited waits
pub again-goes : (s : HeldSession) (count : ℕ) → GoesOn Silent [] s (record s { connect_seq = count })
again-goes s count = record {
  daemon = refl;
  client_cookie = refl;
  server_cookie = refl;
  lossy = refl;
  left = s.queue.waiting;
  stays = refl;
  now = [];
  told = refl;
  waits = sym (append-nil s.queue.waiting);
  last = omega arith;
  numbered = tt;
}

pub same-becomes : (session : Option HeldSession) → Becomes Silent [] session session
same-becomes None = refl
same-becomes (Some s) = again-goes s s.connect_seq

-- one of which some was acknowledged
pub acknowledged-becomes : (seq : ℕ) (s : HeldSession) → IsInOrder s → Becomes (Took seq) [] (Some s) (Some (acknowledged_up_to seq s))
acknowledged-becomes seq s run = record {
  daemon = refl;
  client_cookie = refl;
  server_cookie = refl;
  lossy = refl;
  left = (acknowledged_up_to seq s).queue.waiting;
  stays = run-left seq s.queue.last s.queue.waiting run;
  now = [];
  told = refl;
  waits = sym (append-nil (acknowledged_up_to seq s).queue.waiting);
  last = omega arith;
  numbered = tt;
}

-- what is so behind a row: by what its frame says of the session
pub record IsBehind (callee : Callee) (word : Word) (was : Option HeldSession) (row : CallRow) : Type 0 where
  pub becomes : Becomes word [] was row.own.session
  pub for : GoesFor callee row.own.session row.link

module _ (a : CallArrival) (callee : Callee) where
  abbrev pub RowIs : Word → CallRow → Type 0
  RowIs word row = IsBehind callee word a.own.session row

  pub leaves-is : (row : CallRow) → LeavesAll a callee row → RowIs Silent row
  leaves-is row h =
      let session : row.own.session ≡ a.own.session = ap (λ (own : Caller). own.session) h.0 in
      record { becomes = subst (Becomes Silent [] a.own.session) (sym session) (same-becomes a.own.session); for = subst (λ (o : Option HeldSession). GoesFor callee o row.link) (sym session) h.1 }

  -- where the link is refused
  pub refused-is : (row : CallRow) → row.own ≡ a.own → row.link ≡ None → RowIs Silent row
  refused-is row own shut = leaves-is row (own, subst (GoesFor callee a.own.session) (sym shut) tt)
