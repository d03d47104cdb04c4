-- The places of lower numbers stand in front.
use Rattle.std.proofs.Common.{ltb, rules}
use Rattle.std.proofs.lemmas.List.Sorted.{IsPartitionPoint-from_clause}
use Rattle.cx_node.proofs.Ranks.{parts, all_below, all_from}
use Rattle.cx_node.proofs.searching.rank.Goals as goal

pub returns-clause-below : goal.returns-clause-below
returns-clause-below g c =
    let point = IsPartitionPoint-from_clause (λ s. ltb s.number c.args.number) c.args.places.now c.partition_point.result c.partition_point.ensures.partitioned (parts c.args.number 0 c.args.places.now c.requires) (λ a r f q. search rules) in
    all_below c.args.number c.args.places.now c.partition_point.result point.0 c.partition_point.ensures.bound

pub returns-clause-from : goal.returns-clause-from
returns-clause-from g c =
    let point = IsPartitionPoint-from_clause (λ s. ltb s.number c.args.number) c.args.places.now c.partition_point.result c.partition_point.ensures.partitioned (parts c.args.number 0 c.args.places.now c.requires) (λ a r f q. search rules) in
    all_from c.args.number c.args.places.now c.partition_point.result point.1
