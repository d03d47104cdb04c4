use Rattle.std.proofs.Common.{◌≡◌, ◌≤◌, ◌++◌, length}
use Rattle.std.specs.Prelude.{option_map}
use Rattle.cx_words.specs.Words.{all_services, pieces_of}
use Rattle.cx_words.proofs.lists.all_services.Given as goal

abbrev pub invariant-loop-place : goal.invariant-loop-place
invariant-loop-place l = record {
  read : all_services (pieces_of l.fn.word) ≡ option_map (λ kinds. l.kinds ++ kinds) (all_services (pieces_of l.rest));
  short : length l.rest ≤ length l.fn.word;
}

abbrev pub decreases-loop-place : goal.decreases-loop-place
decreases-loop-place l = length l.rest
