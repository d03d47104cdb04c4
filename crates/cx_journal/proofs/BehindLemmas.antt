-- What holds of each entry of a journal, where it grows.
use Rattle.std.proofs.Common.{List, [], ◌∷◌, ◌++◌, append-nil, append_assoc}
use Rattle.cx_journal.specs.Behind.{EachBehind}
use Rattle.cx_journal.specs.declared.entries.Entry.{Entry}

-- entries behind others
pub EachBehind-append : (P : List Entry → Entry → Type 0) (earlier xs ys : List Entry) → EachBehind P earlier xs → EachBehind P (earlier ++ xs) ys → EachBehind P earlier (xs ++ ys)
EachBehind-append P earlier [] ys first rest = rw append-nil at rest
EachBehind-append P earlier (x ∷ xs) ys first rest =
    (first.0, EachBehind-append P (earlier ++ x ∷ []) xs ys first.1 (rw append_assoc rest))
