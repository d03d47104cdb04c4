-- What a ledger holds of a log, and what an entry changes in it.
use Rattle.std.specs.Prelude.{ℕ, ◌≡◌, List}
use Rattle.cx_base.specs.Names.{Name}
use Rattle.cx_journal.specs.declared.premises.Broken.{Broken}
use Rattle.cx_journal.specs.declared.premises.Premise.{Premise}
use Rattle.cx_journal.specs.declared.premises.Premise.TheVariants as premise
use Rattle.cx_premises.specs.Facts.{Adds, AreLeft, draw_fact, is_kept, is_repeated, sealed_fact, signed_fact}
use Rattle.cx_premises.specs.Findings.{AreFound, demanded, drawn}
use Rattle.cx_premises.specs.declared.ledger.Stand.{Stand}
use Rattle.cx_premises.specs.declared.facts.Fact.{Fact}
use Rattle.cx_premises.specs.declared.facts.Fact.TheVariants as fact
use Rattle.cx_premises.specs.declared.findings.Findings.{Findings}
use Rattle.cx_premises.specs.declared.findings.Suspect.{Suspect}
use Rattle.cx_premises.specs.declared.ledger.Ledger.{Ledger}
use Rattle.cx_steps.specs.Breach.{kind_of}
use Rattle.cx_steps.specs.Premises.{is_server}
use Rattle.cx_steps.specs.declared.seals.Logged.{Logged}
use Rattle.cx_steps.specs.declared.seals.SealEntry.{SealEntry}
use Rattle.cx_steps.specs.declared.seals.SealEntry.TheVariants as entry
use Rattle.cx_steps.specs.declared.seals.SealMark.{SealMark}

-- the ledger has taken the entries of this log, one by one, where these clients leaked: it holds what they left and what was
-- found in them
pub record StandsFor (ledger : Ledger) (leaked : List Name) (log : List Logged) : Type 0 where
  pub names : ledger.leaked ≡ leaked
  pub left : AreLeft leaked log ledger.kept
  pub found : AreFound leaked log ledger.findings

-- ---- what an entry changes

-- the breach that the entry would be
abbrev pub breach_at : Logged → Premise → Broken
breach_at at why = record { why = why; node = at.node; kind = kind_of at.entry; line = at.line }

abbrev pub suspect_at : Logged → SealMark → Suspect
suspect_at at mark = record { key = mark.key; broken = breach_at at premise.Sealing }

-- the findings behind an entry that owes this to the earlier ones
abbrev pub findings_at : Ledger → Logged → SealMark → Fact → Findings
findings_at ledger at mark due =
    demanded ledger.findings (is_kept ledger.kept due) (is_server at.node) (is_kept ledger.kept (fact.LeakedKey mark.key)) (suspect_at at mark)

-- the findings behind a draw
abbrev pub findings_drawn : Ledger → Logged → Fact → Findings
findings_drawn ledger at left = drawn ledger.findings (is_repeated ledger.kept left) (breach_at at premise.Draw)

-- the breach that an entry would be that stands there
abbrev pub breach_there : Stand → Premise → Broken
breach_there at why = record { why = why; node = at.node.now; kind = at.kind; line = at.line }

-- the findings behind an entry there that owes this under a key to the earlier ones
abbrev pub findings_owed : Ledger → Stand → List ℕ → Fact → Findings
findings_owed ledger at key due =
    demanded ledger.findings (is_kept ledger.kept due) (is_server at.node.now) (is_kept ledger.kept (fact.LeakedKey key))
    (record { key = key; broken = breach_there at premise.Sealing })

-- the findings behind a draw there
abbrev pub findings_repeated : Ledger → Stand → Fact → Findings
findings_repeated ledger at left = drawn ledger.findings (is_repeated ledger.kept left) (breach_there at premise.Draw)

-- the ledger holds one fact more, and these findings
pub record Takes (old new : Ledger) (left : Fact) (findings : Findings) : Type 0 where
  pub names : new.leaked ≡ old.leaked
  pub facts : Adds old.kept new.kept left
  pub found : new.findings ≡ findings

-- the ledger holds the same facts, and these findings
pub record Finds (old new : Ledger) (findings : Findings) : Type 0 where
  pub names : new.leaked ≡ old.leaked
  pub facts : new.kept ≡ old.kept
  pub found : new.findings ≡ findings

-- the ledger behind an entry
abbrev pub EntersAt : Ledger → Ledger → Logged → SealEntry → Type 0
EntersAt old new at (entry.Sealed mark) = Takes old new (sealed_fact mark) old.findings
EntersAt old new at (entry.Signed mark) = Takes old new (signed_fact mark) old.findings
EntersAt old new at (entry.Opened mark) = Finds old new (findings_at old at mark (sealed_fact mark))
EntersAt old new at (entry.Checked mark) = Finds old new (findings_at old at mark (signed_fact mark))
EntersAt old new at (entry.Drawn mark) = Takes old new (draw_fact old.leaked mark) (findings_drawn old at (draw_fact old.leaked mark))

abbrev pub Enters : Ledger → Ledger → Logged → Type 0
Enters old new at = EntersAt old new at at.entry
