use Rattle.cx_audit.proofs.ruled.RuleLaws.{kept_from, legal_from}
use Rattle.cx_audit.proofs.ruled_laws.rule_laws.Goals as goal

pub returns : goal.returns
returns c = λ entries. (legal_from entries, kept_from entries)
