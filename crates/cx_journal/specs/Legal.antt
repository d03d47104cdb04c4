-- The five laws that a journal shows by itself, with no word of how it was made.
use Rattle.std.specs.Prelude.{List}
use Rattle.cx_journal.specs.Backed.{IsBacked}
use Rattle.cx_journal.specs.GidOnce.{GivesGidOnce}
use Rattle.cx_journal.specs.InSession.{IsInSession}
use Rattle.cx_journal.specs.KeepsKeys.{KeepsKeys}
use Rattle.cx_journal.specs.PrefixOfSent.{IsPrefixOfSent}
use Rattle.cx_journal.specs.declared.entries.Entry.{Entry}

pub record IsLegal (entries : List Entry) : Type 0 where
  pub backed : IsBacked entries
  pub in_session : IsInSession entries
  pub keeps_keys : KeepsKeys entries
  pub prefix_of_sent : IsPrefixOfSent entries
  pub gid_once : GivesGidOnce entries
