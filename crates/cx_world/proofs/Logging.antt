-- One entry more is logged.
use Rattle.std.proofs.Common.{◌≡◌, ℕ, ◌+◌, ◌<◌, List, [], ◌∷◌, ◌++◌, length, get_or, map, take, subst, sym, ap, ◌∙◌, append_assoc}
use Rattle.std.proofs.lemmas.List.{map-append, take_more}
use Rattle.cx_base.specs.Names.{Name}
use Rattle.cx_premises.specs.Ledgers.{StandsFor}
use Rattle.cx_premises.specs.declared.ledger.Ledger.{Ledger}
use Rattle.cx_steps.specs.declared.seals.Logged.{Logged}

pub logs_next : {X : Type 0} (f : X → Logged) (ledger : Ledger) (leaked : List Name) (log : List Logged) (xs : List X) (x : X)
    → StandsFor ledger leaked ((log ++ map f xs) ++ f x ∷ []) → StandsFor ledger leaked (log ++ map f (xs ++ x ∷ []))
logs_next f ledger leaked log xs x k =
    let P : List Logged → Type 0 = StandsFor ledger leaked in
    subst P (append_assoc log (map f xs) (f x ∷ []) ∙ ap (λ (ys : List Logged). log ++ ys) (sym (map-append f xs (x ∷ [])))) k

pub logs_one_more : (ledger : Ledger) (leaked : List Name) (log entries : List Logged) (i : ℕ) (x : Logged)
    → i < length entries → x ≡ get_or entries i x → StandsFor ledger leaked ((log ++ take i entries) ++ x ∷ [])
    → StandsFor ledger leaked (log ++ take (i + 1) entries)
logs_one_more ledger leaked log entries i x h e k =
    let more : take (i + 1) entries ≡ take i entries ++ x ∷ [] = take_more entries i x h ∙ ap (λ (y : Logged). take i entries ++ y ∷ []) (sym e) in
    let P : List Logged → Type 0 = StandsFor ledger leaked in
    subst P (append_assoc log (take i entries) (x ∷ []) ∙ ap (λ (ys : List Logged). log ++ ys) (sym more)) k
