use Rattle.std.proofs.Common.{arith, sym, ap, ◌∙◌}
use Rattle.cx_hall.proofs.Moves.{takes_over, looks, hands_back}
use Rattle.cx_hall.proofs.history.glance.Goals as goal

pub join_seat-requires : goal.join_seat-requires
join_seat-requires g c =
    let t = c.requires.table in
    let h = c.requires.keeper in (
      c.seat_of-seat.ensures.0 ∙ (c.pass.invariant.0 ∙ sym t.0),
      h.0 ∙ sym t.0,
      ap (λ m. m.1) h.1,
      omega (arith, t.1.0),
      takes_over g.O.Owner.entity_of g.O.Owner.gid_of _ _ _ _ c.args.keeper.me.0.all (ap (λ m. m.0) h.1),
    )

pub load-requires : goal.load-requires
load-requires g c =
    let t = c.requires.table in
    let j = c.join_seat.ensures in (
      j.0 ∙ (c.seat_of-seat.ensures.0 ∙ (c.pass.invariant.0 ∙ sym t.0)),
      omega (arith, t.1.0),
      looks g.O.Owner.entity_of g.O.Owner.gid_of _ _ _ _ (ap (λ m. m.0.keeps) j.2) (ap (λ m. m.0.is_pass) j.2 ∙ (ap (λ m. m.0.is_pass) c.seat_of-seat.ensures.1 ∙ c.pass.invariant.2.1)),
    )

pub split_seat-keeper-requires : goal.split_seat-keeper-requires
split_seat-keeper-requires g c =
    let t = c.requires.table in
    let j = c.join_seat.ensures in
    let l = c.load.ensures in (
      l.0 ∙ (j.0 ∙ (c.seat_of-seat.ensures.0 ∙ (c.pass.invariant.0 ∙ sym t.0))),
      omega (arith, t.1.0),
      hands_back g.O.Owner.entity_of g.O.Owner.gid_of _ _ (ap (λ v. v.keeps) l.2.1 ∙ ap (λ m. m.0.keeps) j.2),
    )
