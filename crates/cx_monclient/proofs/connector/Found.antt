-- The first open link is found by its number, where the numbers rise.
use Rattle.std.proofs.Common.{◌≡◌, ℕ, ◌==◌, ◌+◌, ◌≤◌, Bool, true, false, cond, List, [], ◌∷◌, Option, Some, None, refl, sym, ap, subst, ◌∙◌, arith}
use Rattle.std.proofs.lemmas.Bool.{eq-eqb, ne_eqb}
use Rattle.cx_node.specs.Tables.{with_number}
use Rattle.cx_node.specs.cx_rules.specs.Links.{Link}
use Rattle.cx_node.specs.cx_rules.specs.Requests.{Requests, first_open, open_or}
use Rattle.cx_node.specs.cx_rules.specs.Secured.{Secured}
use Rattle.cx_node.specs.steps.Stages.{AreRising}

module _ {Stage : Type 0} (kept_of : Stage → Option (Secured × Requests)) where
  abbrev IsThere : ℕ → List (Link Stage) → Link Stage → Type 0
  IsThere low links l = (low ≤ l.number) × (with_number (λ (x : Link Stage). x.number) l.number links ≡ Some l)

  pub open-found : (low : ℕ) (links : List (Link Stage)) (l : Link Stage) (k : Secured × Requests) → AreRising low links → first_open kept_of links ≡ Some (l, k) → IsThere low links l
  open-found low [] l k rising first = absurd cc
  open-found low (x ∷ links) l k rising first = by_kept (kept_of x.stage) first (open-found (x.number + 1) links l k rising.1)
    where
      of_pair : Option (Link Stage × (Secured × Requests)) → Link Stage
      of_pair (Some p) = p.0
      of_pair None = x

      here : x ≡ l → IsThere low (x ∷ links) l
      here same = subst (IsThere low (x ∷ links)) same (rising.0, by_test (x.number == x.number) (eq-eqb x.number x.number refl))
        where
          by_test : (t : Bool) → t ≡ true → cond t (Some x) (with_number (λ (y : Link Stage). y.number) x.number links) ≡ Some x
          by_test true e = refl
          by_test false e = absurd cc

      later : IsThere (x.number + 1) links l → IsThere low (x ∷ links) l
      later h =
          let low_x : low ≤ x.number = rising.0 in
          let above : x.number + 1 ≤ l.number = h.0 in
          (omega arith, by_test (x.number == l.number) (ne_eqb x.number l.number (λ e. omega arith)))
        where
          by_test : (t : Bool) → t ≡ false → cond t (Some x) (with_number (λ (y : Link Stage). y.number) l.number links) ≡ Some l
          by_test false e = h.1
          by_test true e = absurd cc

      by_kept : (o : Option (Secured × Requests)) → open_or x o (first_open kept_of links) ≡ Some (l, k) → (first_open kept_of links ≡ Some (l, k) → IsThere (x.number + 1) links l)
          → IsThere low (x ∷ links) l
      by_kept (Some kept) is more = here (ap of_pair is)
      by_kept None is more = later (more is)
