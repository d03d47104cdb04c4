use Rattle.std.proofs.Common.{subst}
use Rattle.cx_keep.specs.Formats.{SpellsState}
use Rattle.cx_keep.proofs.commits.commit.Goals as goal

pub returns-in-Ok-clause-spells : goal.returns-in-Ok-clause-spells
returns-in-Ok-clause-spells g c = λ _ lives. subst (λ bytes. SpellsState lives bytes c.args.state.now) c.in_ok-bytes.ensures.text (c.in_ok-bytes.ensures.spells lives)

pub returns-clause-spells : goal.returns-clause-spells
returns-clause-spells g c = λ _ lives. subst (λ bytes. SpellsState lives bytes c.args.state.now) c.in_ok-bytes.ensures.text (c.in_ok-bytes.ensures.spells lives)
