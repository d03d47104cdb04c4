-- What is so of a result that went well, or of one that didn't, is so of what it is one with.
use Rattle.std.proofs.Common.{◌≡◌, ◌∙◌, Result, Ok, Err, sym, subst}
use Rattle.std.specs.Prelude.{OnErr, OnOk}
use Rattle.cx_client.specs.cx_rules_session.specs.ClientRule.{WholeClientNode}
use Rattle.cx_client.specs.cx_rules_session.specs.Forgets.{WholeClientStandsFor}

pub same_on_ok : {X E A : Type 0} (r : Result X E) (a b d : A) → OnOk r (a ≡ b) → b ≡ d → OnOk r (a ≡ d)
same_on_ok (Ok x) a b d is same = is ∙ same
same_on_ok (Err e) a b d is same = tt

pub stands_on_ok : {X E : Type 0} (r : Result X E) (new a due : WholeClientNode) → OnOk r (new ≡ a) → WholeClientStandsFor a due → OnOk r (WholeClientStandsFor new due)
stands_on_ok (Ok x) new a due is stands = subst (λ (c : WholeClientNode). WholeClientStandsFor c due) (sym is) stands
stands_on_ok (Err e) new a due is stands = tt

pub stands_on_err : {X E : Type 0} (r : Result X E) (new a due : WholeClientNode) → OnErr r (new ≡ a) → WholeClientStandsFor a due → OnErr r (WholeClientStandsFor new due)
stands_on_err (Err e) new a due is stands = subst (λ (c : WholeClientNode). WholeClientStandsFor c due) (sym is) stands
stands_on_err (Ok x) new a due is stands = tt
