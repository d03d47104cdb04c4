-- The messages of the operations above a number, one by one.
use Rattle.std.proofs.Common.{◌≡◌, ◌∙◌, ℕ, ◌+◌, ◌<◌, Bool, true, false, cond, List, [], ◌∷◌, ◌++◌, length, get_or, map, take, refl, ap, sym}
use Rattle.std.specs.Prelude.{filter, nat_lt}
use Rattle.std.proofs.lemmas.List.{map-append}
use Rattle.std.proofs.lemmas.List.Elements.{filter_more}
use Rattle.cx_base.specs.declared.operations.Operation.{Operation}
use Rattle.cx_frame.specs.declared.frame.Frame.{Frame}
use Rattle.cx_rules_session.specs.Sessions.{operation_message}
use Rattle.cx_client_connect.specs.session.Waiting.{above}

-- those of a front
abbrev pub messages_above : ℕ → List (ℕ × Operation) → List Frame
messages_above last asks = map operation_message (filter (λ ask. nat_lt last ask.0) asks)

one_above : (last : ℕ) (ask : ℕ × Operation) (t : Bool) → map operation_message (cond t (ask ∷ []) []) ≡ cond t (operation_message ask ∷ []) []
one_above last ask true = refl
one_above last ask false = refl

pub more_above : (last : ℕ) (waiting : List (ℕ × Operation)) (i : ℕ) (ask : ℕ × Operation) (before after : List Frame) → i < length waiting
    → get_or waiting i ask ≡ ask → before ≡ messages_above last (take i waiting) → after ≡ before ++ above last ask → after ≡ messages_above last (take (i + 1) waiting)
more_above last waiting i ask before after lt at is grown =
    let passes : ℕ × Operation → Bool = λ a. nat_lt last a.0 in
    let front : List (ℕ × Operation) = filter passes (take i waiting) in
    let one : ℕ × Operation → List (ℕ × Operation) = λ a. cond (passes a) (a ∷ []) [] in
    let behind : List Frame → List Frame = λ fs. fs ++ above last ask in
    let joined : List Frame → List Frame = λ fs. map operation_message front ++ fs in
    grown ∙ ap behind is ∙ sym (ap joined (one_above last ask (passes ask))) ∙ sym (map-append operation_message front (one ask))
    ∙ ap (λ a. map operation_message (front ++ one a)) (sym at) ∙ ap (map operation_message) (sym (filter_more passes waiting i ask lt))
