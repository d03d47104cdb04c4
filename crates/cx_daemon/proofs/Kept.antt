-- What is so of a result that went well, or of one that didn't, is so of what it is one with.
use Rattle.std.proofs.Common.{◌≡◌, ◌∙◌, ℕ, List, Result, Ok, Err, sym, ap, subst}
use Rattle.std.specs.Prelude.{OnErr, OnOk}
use Rattle.cx_node.specs.Tables.{Table}
use Rattle.cx_node.specs.cx_rules.specs.Links.{without_link}
use Rattle.cx_daemon_events.specs.cx_rules_session.specs.DaemonRule.{DaemonState}
use Rattle.cx_daemon_events.specs.cx_rules_session.specs.Forgets.{DaemonStandsFor}
use Rattle.cx_daemon_events.specs.Kinds.{DaemonLink}
use Rattle.cx_daemon.proofs.Behind.{left_twice}

pub same_on_ok : {X E A : Type 0} (r : Result X E) (a b d : A) → OnOk r (a ≡ b) → b ≡ d → OnOk r (a ≡ d)
same_on_ok (Ok x) a b d is same = is ∙ same
same_on_ok (Err e) a b d is same = tt

pub stands_on_ok : {X E : Type 0} (r : Result X E) (new a due : DaemonState) → OnOk r (new ≡ a) → DaemonStandsFor a due → OnOk r (DaemonStandsFor new due)
stands_on_ok (Ok x) new a due is stands = subst (λ (d : DaemonState). DaemonStandsFor d due) (sym is) stands
stands_on_ok (Err e) new a due is stands = tt

pub on_err : {X E A : Type 0} (r : Result X E) → A → OnErr r A
on_err (Ok x) a = tt
on_err (Err e) a = a

-- links that are as they were without one are so without it
pub left_same : (n : ℕ) (old new : Table DaemonLink) (all : List DaemonLink) → new ≡ old → old.links ≡ without_link n all → without_link n new.links ≡ without_link n all
left_same n old new all same l =
    let links_of : Table DaemonLink → List DaemonLink = λ t. without_link n t.links in
    let left : List DaemonLink → List DaemonLink = λ ls. without_link n ls in
    ap links_of same ∙ ap left l ∙ left_twice n all

pub left_on_err : {X E : Type 0} (r : Result X E) (n : ℕ) (old new : Table DaemonLink) (all : List DaemonLink) → OnErr r (new ≡ old) → old.links ≡ without_link n all
    → OnErr r (without_link n new.links ≡ without_link n all)
left_on_err (Ok x) n old new all same l = tt
left_on_err (Err e) n old new all same l = left_same n old new all same l
