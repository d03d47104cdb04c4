use Rattle.std.proofs.Common.{◌-◌, ap, sym, ◌∙◌, refl, map, List, ℕ, Bor, arith, get_or, take, drop}
use Rattle.std.proofs.lemmas.List.{map-append}
use Rattle.cx_words.proofs.FirstPlace.{take_rest}
use Rattle.cx_words.proofs.Pieces.{after_blank, after_other, at_end}
use Rattle.cx_words.proofs.cut.words.Goals as goal
use Rattle.cx_words.proofs.cut.words.Goals.{then-parts+in_ok-push, else-parts}

abbrev contents : List (Bor (List ℕ)) → List (List ℕ)
contents words = map (λ word. word.now) words

pub loop-i-preserved : goal.loop-i-preserved
loop-i-preserved c =
    elim c.if-parts.branch [
      | then-parts+in_ok-push w ↦ record {
        start = omega arith;
        cut = after_blank c.args.groups c.loop-i.quoted c.if-parts.quoted c.args.line.now
            (take (c.loop-i.i - c.loop-i.start) (drop c.loop-i.start c.args.line.now))
            (contents c.loop-i.found.items) (contents c.if-parts.found.items) _ c.loop-i.i (get_or c.args.line.now c.loop-i.i 0) c.if-parts.start
            (omega arith) refl (sym c.parts.ensures ∙ w.if-parts.true) c.loop-i.invariant.cut
            (ap (λ f. contents f.items) w.found-is ∙ ap contents w.in_ok-push.ensures.items ∙ map-append _ _ _)
            w.start-is w.quoted-is;
      }
      | else-parts w ↦ record {
        start = omega arith;
        cut = after_other c.args.groups c.loop-i.quoted c.if-parts.quoted c.args.line.now
            (contents c.loop-i.found.items) (contents c.if-parts.found.items) _ c.loop-i.start c.if-parts.start c.loop-i.i (get_or c.args.line.now c.loop-i.i 0)
            c.loop-i.invariant.start (omega arith) refl (sym c.parts.ensures ∙ w.if-parts.false) c.loop-i.invariant.cut
            (ap (λ f. contents f.items) w.found-is)
            w.start-is (w.quoted-is ∙ rw (take_rest _ _) at w.quoted_after-quoted.ensures);
      }
    ]

pub returns : goal.returns
returns c =
    at_end c.args.groups c.loop-i.quoted c.args.line.now (contents c.loop-i.found.items) (contents c.push-2.new.self.items) _ c.loop-i.start c.loop-i.i
    (omega arith) c.loop-i.invariant.cut
    (ap contents c.in_ok-push-2.ensures.items ∙ map-append _ _ _)
