-- The summary of a journal: how many entries of five kinds it has, a line each.
use Rattle.std.specs.Prelude.{ℕ, Bool, true, false, List, codes, count_by}
use Rattle.std.specs.Fmt.{decimal}
use Rattle.cx_base.specs.Joined.{◌<>◌}
use Rattle.cx_journal.specs.declared.entries.Entry.{Entry}
use Rattle.cx_journal.specs.declared.entries.Entry.TheVariants as entry
use Rattle.cx_top.specs.declared.summaries.Kind.{Kind}
use Rattle.cx_top.specs.declared.summaries.Kind.TheVariants.{Issued, Fetched, Admitted, Handled, Refused}
use Rattle.cx_top.specs.declared.summaries.Summary.{Summary}

-- whether an entry is of this kind; a session that is resumed counts as none that is admitted
abbrev pub is_of : Kind → Entry → Bool
is_of Issued (entry.Issued ticket) = true
is_of Fetched (entry.Fetched fetched) = true
is_of Admitted (entry.Admitted admitted) = true
is_of Handled (entry.Handled handled) = true
is_of Refused (entry.Refused refused) = true
is_of _ _ = false

abbrev pub count_of : Kind → List Entry → ℕ
count_of kind entries = count_by (is_of kind) entries

abbrev pub summary_of : List Entry → Summary
summary_of entries = record {
  issued = count_of Issued entries;
  fetched = count_of Fetched entries;
  admitted = count_of Admitted entries;
  handled = count_of Handled entries;
  refused = count_of Refused entries;
}

-- its text; 10 is LF
abbrev pub summary_text : Summary → List ℕ
summary_text s =
    codes "issued " <> decimal s.issued <> codes "\nfetched " <> decimal s.fetched <> codes "\nadmitted " <> decimal s.admitted
    <> codes "\nhandled " <> decimal s.handled <> codes "\nrefused " <> decimal s.refused <> codes "\n"
