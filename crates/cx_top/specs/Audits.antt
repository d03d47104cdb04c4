-- What is said on standard error of a journal that breaks a rule.
use Rattle.std.specs.Prelude.{ℕ, List, []}
use Rattle.cx_audit.specs.declared.verdicts.Verdict.{Verdict}
use Rattle.cx_audit.specs.declared.verdicts.Verdict.TheVariants.{Legal, Breaks}
use Rattle.cx_help.specs.audit.Said.{breach_text}
use Rattle.cx_top.specs.Told.{line_told}

abbrev pub verdict_told : Verdict → List ℕ
verdict_told Legal = []
verdict_told (Breaks line rule) = line_told (breach_text line rule)
