-- Lists of sixteen.
use Rattle.std.proofs.Common.{◌≡◌, ℕ, List, [], ◌∷◌, ◌++◌, map, length, get_or, take, refl, sym, ap, ◌∙◌}
use lib.Lanes.{pick_l}
use Rattle.cx_aes.proofs.Cells.{cells, cells-is}

pub map_itself : (v : List ℕ) → v ≡ map (λ x. x) v
map_itself [] = refl
map_itself (x ∷ v) = ap (λ l. x ∷ l) (map_itself v)

-- the last of a list, and all but the last of another
pub joined : (lower upper : List ℕ) → length lower ≡ 16 → length upper ≡ 16
    → pick_l 0 (lower ++ upper)
    (15 ∷ 16 ∷ 17 ∷ 18 ∷ 19 ∷ 20 ∷ 21 ∷ 22 ∷ 23 ∷ 24 ∷ 25 ∷ 26 ∷ 27 ∷ 28 ∷ 29 ∷ 30 ∷ [])
    ≡ get_or lower 15 0 ∷ take 15 upper
joined lower upper llen ulen =
    let cl = cells-is 16 lower llen in
    let cu = cells-is 16 upper ulen in
    let places : List ℕ = 15 ∷ 16 ∷ 17 ∷ 18 ∷ 19 ∷ 20 ∷ 21 ∷ 22 ∷ 23 ∷ 24 ∷ 25 ∷ 26 ∷ 27 ∷ 28 ∷ 29 ∷ 30 ∷ [] in
    ap (λ v. pick_l 0 (v ++ upper) places) (sym cl) ∙ ap (λ v. pick_l 0 (cells 16 lower ++ v) places) (sym cu)
    ∙ ap (λ v. get_or lower 15 0 ∷ take 15 v) cu

pub after_zero : (v : List ℕ) → length v ≡ 16
    → 0 ∷ get_or v 0 0 ∷ get_or v 1 0 ∷ get_or v 2 0 ∷ get_or v 3 0 ∷ get_or v 4 0 ∷ get_or v 5 0 ∷ get_or v 6 0 ∷ get_or v 7 0 ∷ get_or v 8 0
    ∷ get_or v 9 0 ∷ get_or v 10 0 ∷ get_or v 11 0 ∷ get_or v 12 0 ∷ get_or v 13 0 ∷ get_or v 14 0 ∷ []
    ≡ 0 ∷ take 15 v
after_zero v len = ap (λ u. 0 ∷ take 15 u) (cells-is 16 v len)
