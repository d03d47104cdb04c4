use Rattle.std.proofs.Common.{◌++◌}
use Rattle.std.proofs.lemmas.Bool.Decides.{Decides-eqb}
use Rattle.std.proofs.lemmas.Slice.Eq.{strip_prefix_is}
use Rattle.cx_cbc.specs.Envelope.{head, enveloped}
use Rattle.cx_cbc.proofs.Head.{content_found, content_none}
use Rattle.cx_cbc.proofs.envelope.content_of.Goals as goal

pub returns-in_err-bytes-clause-none : goal.returns-in_err-bytes-clause-none
unfolding enveloped
returns-in_err-bytes-clause-none c = rw c.from_residual.ensures (λ content e. c.in_err-bytes.ensures.none (head ++ content) e)

pub returns-clause-found : goal.returns-clause-found
returns-clause-found c =
    content_found c.args.plain.now c.in_ok-bytes.bytes.now c.strip_prefix.result c.in_ok-bytes.ensures.found
    (strip_prefix_is Decides-eqb c.in_ok-bytes.bytes.now head c.strip_prefix.result c.strip_prefix.ensures.cases)

pub returns-clause-none : goal.returns-clause-none
returns-clause-none c =
    content_none c.args.plain.now c.in_ok-bytes.bytes.now c.strip_prefix.result c.in_ok-bytes.ensures.found
    (strip_prefix_is Decides-eqb c.in_ok-bytes.bytes.now head c.strip_prefix.result c.strip_prefix.ensures.cases)
