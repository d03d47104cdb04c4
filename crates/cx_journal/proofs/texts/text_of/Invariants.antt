use Rattle.std.proofs.Common.{◌≡◌, ◌++◌, take, drop}
use Rattle.cx_journal.specs.Counted.{IsCountOf}
use Rattle.cx_journal.specs.JournalText.{text_behind, journal_text}
use Rattle.cx_journal.proofs.texts.text_of.Given as goal

abbrev pub invariant-loop-entry : goal.invariant-loop-entry
invariant-loop-entry l = record {
  counts : IsCountOf l.counts (take l.entry-index l.entries);
  whole : l.text ++ text_behind (take l.entry-index l.entries) (drop l.entry-index l.entries) ≡ journal_text l.entries;
}
