-- What the loop that prints keeps of the entries so far, for the lines of later ones. No public clause speaks of it.
use Rattle.std.specs.Prelude.{List}
use Rattle.std.specs.List.{filter_map}
use Rattle.cx_journal.specs.Places.{blobs_of, cookie_of}
use Rattle.cx_journal.specs.Ranked.{IsRanksOf, IsNumbersOf}
use Rattle.cx_journal.specs.declared.counts.Counts.{Counts}
use Rattle.cx_journal.specs.declared.entries.Entry.{Entry}

-- the numbers and the ranks are those of the tickets and the cookies of these entries
pub record IsCountOf (counts : Counts) (entries : List Entry) : Type 0 where
  pub tickets : IsNumbersOf counts.numbers.numbers counts.numbers.issued (blobs_of entries)
  pub cookies : IsRanksOf counts.ranks.ranks (filter_map cookie_of entries)
