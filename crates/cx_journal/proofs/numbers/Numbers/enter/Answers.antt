-- The blobs of the entries grow by that of the entry.
use Rattle.std.proofs.Common.{sym}
use Rattle.cx_journal.specs.Places.{blob_of, blobs_of}
use Rattle.cx_journal.proofs.CountsLemmas.{filter_map_push, filter_map_same}
use Rattle.cx_journal.proofs.numbers.Numbers.enter.Goals as goal

pub returns-in-None : goal.returns-in-None
returns-in-None c = λ earlier h. rw (filter_map_same blob_of earlier c.args.entry.now (sym c.in-None.ensures)) h

pub returns-in-Some : goal.returns-in-Some
returns-in-Some c = λ earlier h. rw (filter_map_push blob_of earlier c.args.entry.now c.in-Some.blob.now (sym c.in-Some.ensures)) (c.add.ensures (blobs_of earlier) h)
