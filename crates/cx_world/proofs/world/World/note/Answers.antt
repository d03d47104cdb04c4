use Rattle.std.proofs.Common.{List, ◌++◌, map, refl, subst, ap, ◌∙◌}
use Rattle.cx_journal.specs.declared.entries.Entry.{Entry}
use Rattle.cx_premises.specs.Ledgers.{StandsFor}
use Rattle.cx_steps.specs.declared.seals.SealEntry.{SealEntry}
use Rattle.cx_world.specs.Logs.{logged_at}
use Rattle.cx_world.proofs.world.World.note.Goals as goal

pub returns-clause-noted : goal.returns-clause-noted
returns-clause-noted c =
    let old = c.args.self.now in
    record {
      nodes = refl;
      wires = refl;
      left = refl;
      line = refl;
      journal = c.in_ok-enter.ensures ∙ ap (λ (es : List Entry). old.told.journal ++ es) c.replace-entries.ensures.value;
      ledger = λ leaked log k.
          let P : List SealEntry → Type 0 = λ es. StandsFor c.log.new.ledger leaked (log ++ map (λ (e : SealEntry). logged_at c.args.who.now old.line e) es) in
          subst P c.replace-seals.ensures.value (c.in_ok-log.ensures leaked log k);
      stirred = c.either-self.ensures;
    }
