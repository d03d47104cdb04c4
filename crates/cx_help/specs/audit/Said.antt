-- What is written of an audit, and what is said besides.
use Rattle.std.specs.Prelude.{ℕ, List, codes}
use Rattle.std.specs.Fmt.{decimal}
use Rattle.cx_base.specs.Joined.{◌<>◌}
use Rattle.cx_audit.specs.declared.verdicts.Verdict.{Verdict}
use Rattle.cx_audit.specs.declared.verdicts.Verdict.TheVariants.{Legal, Breaks}
use Rattle.cx_help.specs.audit.Rules.{rule_sentence}
use Rattle.cx_audit.specs.ruled.Rules.{rule_number}
use Rattle.cx_audit.specs.declared.rules.Rule.{Rule}

-- the line of a verdict
abbrev pub verdict_text : Verdict → List ℕ
verdict_text Legal = codes "legal\n"
verdict_text (Breaks line rule) = codes "breaks " <> decimal line <> codes " " <> decimal (rule_number rule) <> codes "\n"

-- a rule with its number
abbrev pub rule_text : Rule → List ℕ
rule_text rule = decimal (rule_number rule) <> codes ": " <> rule_sentence rule

-- the rule that a line breaks, in plain words
abbrev pub breach_text : ℕ → Rule → List ℕ
breach_text line rule = codes "line " <> decimal line <> codes " of the journal breaks rule " <> rule_text rule
