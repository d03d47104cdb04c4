use Rattle.std.proofs.Common.{◌≡◌, ℕ, ◌<◌, List, length, drop, get_or, ap, arith, length-take}
use Rattle.cx_run.specs.Wires.{End}
use Rattle.cx_world_start.proofs.links.Parts.{taken_on}
use Rattle.cx_world_start.proofs.ends.End.take.Goals as goal

pub returns-in_ok-bytes-in-Some-clause-ok : goal.returns-in_ok-bytes-in-Some-clause-ok
returns-in_ok-bytes-in-Some-clause-ok c =
    let i = c.self.inside in
    let n = c.in-Some.n in
    let piece : List ℕ = c.index-ever-self.result in
    let ever : c.as_slice-ever.result.now ≡ i.ever.items = c.as_slice-ever.ensures.value in
    let within : i.came < length i.ever.items = rw (← ever) (omega arith) in
    let read : piece ≡ get_or i.ever.items i.came piece = rw (← ever) c.index-ever-self.is in
    let bytes : c.bytes-piece.result.now ≡ piece = c.bytes-piece.ensures in
    let t = rw (bytes, length-take) at c.if-n-rest.true in
    let h : n < length (drop i.taken piece) = omega arith in
    let k = taken_on i.ever.items i.came i.taken n piece within read h in
    rw (← c.self.view_is, c.in-Some.is) (ap (λ (u : List (List ℕ)). let r : End = record { lives = i.lives; under_way = u; ever = i.ever.items } in r) k)
