use Rattle.std.proofs.Common.{◌≡◌, drop, map}
use Rattle.std.specs.List.{list_any}
use Rattle.cx_help.specs.line.Remarks.{is_comment}
use Rattle.cx_help.proofs.remarks.has_comment.Given as goal

abbrev pub invariant-loop-word : goal.invariant-loop-word
invariant-loop-word l = list_any is_comment (map (λ w. w.now) (drop l.word-index l.words)) ≡ list_any is_comment (map (λ w. w.now) l.words)
