-- Taking the head of an envelope off.
use Rattle.std.proofs.Common.{◌≡◌, ◌≢◌, ℕ, List, ◌++◌, Bor, ap, ◌∙◌, sym, Some, None}
use Rattle.std.specs.Prelude.{Option, MatchOption, IfSome, IfNone}
use Rattle.cx_cbc.specs.Envelope.{head, padded, enveloped}
use Rattle.cx_cbc.proofs.Padding.{padded-one}

pub content_found : (plain bytes : List ℕ) (r : Option (Bor (List ℕ))) → plain ≡ padded bytes →
    MatchOption r ((rest : List ℕ) → bytes ≢ head ++ rest) (λ x. bytes ≡ head ++ x.now) → IfSome r (λ content. plain ≡ enveloped content.now)
unfolding enveloped
content_found plain bytes None e m = tt
content_found plain bytes (Some x) e m = e ∙ ap padded m

pub content_none : (plain bytes : List ℕ) (r : Option (Bor (List ℕ))) → plain ≡ padded bytes →
    MatchOption r ((rest : List ℕ) → bytes ≢ head ++ rest) (λ x. bytes ≡ head ++ x.now) → IfNone r ((content : List ℕ) → plain ≡ enveloped content → ⊥)
unfolding enveloped
content_none plain bytes None e m = λ content is. m content (padded-one bytes (head ++ content) (sym e ∙ is))
content_none plain bytes (Some x) e m = tt
