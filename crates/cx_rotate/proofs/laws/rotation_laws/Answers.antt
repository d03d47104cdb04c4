-- The laws, each by its lemma.
use Rattle.cx_rotate.proofs.Lasting.{stays_lasting}
use Rattle.cx_rotate.proofs.Results.{one_result, has_result, stands_current, keeps_pace, never_full}
use Rattle.cx_rotate.proofs.laws.rotation_laws.Goals as goal

pub returns-clause-determined : goal.returns-clause-determined
returns-clause-determined c = one_result

pub returns-clause-computed : goal.returns-clause-computed
returns-clause-computed c = has_result

pub returns-clause-current : goal.returns-clause-current
returns-clause-current c = stands_current

pub returns-clause-paced : goal.returns-clause-paced
returns-clause-paced c = keeps_pace

pub returns-clause-never_full : goal.returns-clause-never_full
returns-clause-never_full c = never_full

pub returns-clause-lasting : goal.returns-clause-lasting
returns-clause-lasting c = stays_lasting
