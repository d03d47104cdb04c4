use Rattle.std.proofs.Common.{◌+◌, length, refl, arith, sym, ap, ◌∙◌}
use Rattle.cx_hall.proofs.Moves.{takes_over, adds, hands_back}
use Rattle.cx_hall.proofs.history.enter.Goals as goal

pub join_seat-requires : goal.join_seat-requires
join_seat-requires g c =
    let t = c.requires.table in
    let h = c.requires.keeper in (
      c.seat_of-seat.ensures.0 ∙ (c.pass.invariant.0 ∙ sym t.0),
      h.0 ∙ sym t.0,
      ap (λ m. m.1) h.1,
      omega (arith, t.1.0),
      takes_over g.O.Owner.entity_of g.O.Owner.gid_of _ _ _ _ c.args.keeper.me.0.all (ap (λ m. m.0) h.1),
    )

pub compare_exchange_with-requires : goal.compare_exchange_with-requires
compare_exchange_with-requires g c =
    let t = c.requires.table in
    let j = c.join_seat.ensures in
    let all = ap (λ m. m.0.all) j.2 in (
      j.0 ∙ (c.seat_of-seat.ensures.0 ∙ (c.pass.invariant.0 ∙ sym t.0)),
      omega (arith, t.1.0),
      adds g.O.Owner.entity_of g.O.Owner.gid_of _ _ _ _ c.args.call.now c.args.place (c.args.place + 1) (ap (λ m. m.0.keeps) j.2) (ap (λ m. m.0.is_pass) j.2 ∙ (ap (λ m. m.0.is_pass) c.seat_of-seat.ensures.1 ∙ c.pass.invariant.2.1)) (c.requires.place.0 ∙ ap length (sym all)) refl c.requires.entry,
    )

pub split_seat-keeper-requires : goal.split_seat-keeper-requires
split_seat-keeper-requires g c =
    let t = c.requires.table in
    let j = c.join_seat.ensures in
    let l = c.compare_exchange_with.ensures in (
      l.0 ∙ (j.0 ∙ (c.seat_of-seat.ensures.0 ∙ (c.pass.invariant.0 ∙ sym t.0))),
      omega (arith, t.1.0),
      hands_back g.O.Owner.entity_of g.O.Owner.gid_of _ _ (ap (λ v. v.keeps) l.2.2.1 ∙ ap (λ m. m.0.keeps) j.2),
    )
