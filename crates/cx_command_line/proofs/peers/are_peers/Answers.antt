use Rattle.std.proofs.Common.{◌∙◌, sym}
use Rattle.std.proofs.lemmas.List.Folds.{list_all-map}
use Rattle.cx_command_line.specs.Words.{is_peer}
use Rattle.cx_command_line.proofs.peers.are_peers.Goals as goal

pub returns : goal.returns
returns c = c.all_spell.ensures ∙ sym (list_all-map is_peer (λ w. w.now) c.args.words.now)
