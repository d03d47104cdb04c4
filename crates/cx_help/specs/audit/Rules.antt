-- What a user reads of a rule of a journal.
use Rattle.std.specs.Prelude.{ℕ, List, codes}
use Rattle.cx_audit.specs.declared.rules.Rule.{Rule}
use Rattle.cx_audit.specs.declared.rules.Rule.TheVariants as rule

abbrev pub rule_sentence : Rule → List ℕ
rule_sentence rule.Backed = codes "a session is admitted or resumed only on a ticket that was issued above for the same entity, global id, caps and service, and only before it expires"
rule_sentence rule.InSession = codes "an operation is handled only in a session that the daemon admitted or resumed above with this number, epoch and cookie, and that nothing ended since"
rule_sentence rule.KeepsKeys = codes "a daemon says that it lacks the generation of an issued ticket, or that the ticket does not open under it, only where its last look on that link does not list that generation"
rule_sentence rule.PrefixOfSent = codes "what is handled under a cookie for an entity is what that entity sent under it above, in order, each operation once"
rule_sentence rule.GidOnce = codes "a global id is given to one entity alone, and a login is given an older one only while an AUTH ticket with it is unexpired"
