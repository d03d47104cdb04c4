-- All that a node does on its links and all that comes of them, act by act.
use Rattle.std.specs.Prelude.{ℕ, Bool, List, Option}
use Rattle.cx_base.specs.declared.addresses.Addr.{Addr}
use Rattle.cx_outside.specs.declared.events.LinkEvent.{LinkEvent}
use Rattle.cx_outside.specs.declared.regard.Regard.{Regard}

pub data LinkAct : Type 0 where
  -- it listened at an address, or failed to
  Listened : Addr → Bool → LinkAct
  -- it opened a link to an address, which got this number; none where that failed
  Opened : Addr → Option ℕ → LinkAct
  -- an event came, with these bytes
  Gave : LinkEvent → List ℕ → LinkAct
  -- a wait failed
  Broke : LinkAct
  -- it sent bytes on a link, or failed to
  Sent : ℕ → List ℕ → Bool → LinkAct
  -- it shut a link
  Shut : ℕ → LinkAct
  -- it told how it regards a link
  Regarded : ℕ → Regard → LinkAct
