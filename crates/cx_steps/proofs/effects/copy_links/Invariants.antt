use Rattle.std.proofs.Common.{◌≡◌, take}
use Rattle.cx_steps.proofs.effects.copy_links.Given as goal

abbrev pub invariant-loop-link : goal.invariant-loop-link
invariant-loop-link l = l.copied ≡ take l.link-index l.links
