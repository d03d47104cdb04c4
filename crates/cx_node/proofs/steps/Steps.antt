-- What happens at an event, over plain values: each step is that of the rules, abridged, and the links are held behind it as before.
use Rattle.std.proofs.Common.{◌≡◌, ◌∙◌, ℕ, Bool, false, List, ◌++◌, map, Option, Some, None, Result, Ok, Err, IfOk, OnErr, sym, ap, subst}
use Rattle.std.specs.Prelude.{IfSome, IsOkAnd}
use Rattle.std.specs.Option.{option_map}
use Rattle.cx_node.specs.Made.{as_row}
use Rattle.cx_node.specs.Tables.{behind}
use Rattle.cx_node.specs.declared.rows.Row.{Row as Made}
use Rattle.cx_node.specs.cx_rules.specs.Links.{Link, link_of, put_link, without_link}
use Rattle.cx_node.specs.cx_rules.specs.Rows.{Node, Row, carried_out, fed, idles}
use Rattle.cx_steps.specs.Nothing.{nothing}
use Rattle.cx_steps.specs.declared.effects.Effects.{Effects}
use Rattle.cx_node.specs.steps.Making.{row_due}
use Rattle.cx_node.specs.steps.Steps.{AreHeld, IsFed, IsStep, node_of}
use Rattle.cx_node.specs.steps.Turns.{IsCarried, IsFedInto}
use Rattle.cx_node.proofs.steps.Carrying.{row_out, row_state}
use Rattle.cx_node.proofs.steps.Rising.{put_rising, without_rising}
use Rattle.cx_node.specs.cx_rules.proofs.Abridging.{Forgets, put_link_map, without_link_map}

module _ {Stage : Type 0} (abridged : Link Stage → Link Stage) (forgets : Forgets abridged) where
  -- ---- the links are held

  pub without_held : (number : ℕ) (all links : List (Link Stage)) → AreHeld abridged all → links ≡ without_link number all → AreHeld abridged links
  without_held number all links h l = rw l (record {
    whole = sym (without_link_map abridged forgets.number number all) ∙ ap (without_link number) h.whole;
    rising = without_rising 0 number all h.rising;
  })

  pub put_held : (link : Link Stage) (all links : List (Link Stage)) → abridged link ≡ link → AreHeld abridged all → links ≡ put_link link all → AreHeld abridged links
  put_held link all links same h l =
      let first : Link Stage → List (Link Stage) = λ k. put_link k (map abridged all) in
      rw l (record {
        whole = sym (put_link_map abridged forgets.number link all) ∙ ap first same ∙ ap (put_link link) h.whole;
        rising = put_rising link all h.rising;
      })

  -- a link that is as a row of the rules has it is one of which no more can be forgotten
  due_whole : (f : Link Stage → Link Stage) (made due : Option (Link Stage)) → made ≡ option_map (λ l. abridged (f l)) due → IfSome made (λ l. abridged l ≡ l)
  due_whole f None due e = tt
  due_whole f (Some l) None e = absurd (cc)
  due_whole f (Some l) (Some k) e =
      let is : l ≡ abridged (f k) = cc in
      let P : Link Stage → Type 0 = λ x. abridged x ≡ x in subst P (sym is) (forgets.twice (f k))

  behind_held : (number : ℕ) (all links : List (Link Stage)) (o : Option (Link Stage)) → IfSome o (λ l. abridged l ≡ l) → AreHeld abridged all
      → links ≡ behind (λ (l : Link Stage). l.number) number o all → AreHeld abridged links
  behind_held number all links None w h l = without_held number all links h l
  behind_held number all links (Some link) w h l = put_held link all links w h l

  -- ---- nothing happens

  pub idles_step : {Own : Type 0} (own : Own) (all links : List (Link Stage)) (given : Effects) → AreHeld abridged all → links ≡ all → given ≡ nothing
      → IsStep abridged (node_of own links) (idles (node_of own all)) given
  idles_step {Own} own all links given h l g =
      let state : List (Link Stage) → Node Own Stage = λ ls. node_of own ls in record { out = g; state = ap state (l ∙ sym h.whole) }

  -- ---- bytes come

  put_step : {Own : Type 0} (own : Own) (bytes : List ℕ) (all links : List (Link Stage)) (old new : Link Stage) (given : Effects) → AreHeld abridged all
      → IsFed abridged old bytes new → links ≡ put_link new all → given ≡ nothing
      → IsStep abridged (node_of own links) (fed (node_of own all) bytes (Some old)) given
  put_step {Own} own bytes all links old new given h is l g =
      let state : List (Link Stage) → Node Own Stage = λ ls. node_of own ls in
      let put : Link Stage → List (Link Stage) = λ k. map abridged (put_link k all) in
      let held : AreHeld abridged links = put_held new all links is.1 h l in
      let due : links ≡ map abridged (put_link new all) = sym held.whole ∙ ap (map abridged) l in
      record { out = g; state = ap state (due ∙ ap put is.0) }

  fed_step : {Own : Type 0} (own : Own) (bytes : List ℕ) (all links : List (Link Stage)) (o : Option (Link Stage)) (given : Effects) → AreHeld abridged all
      → IsFedInto (λ (l : Link Stage). l.number) (IsFed abridged) bytes all links given o
      → IsStep abridged (node_of own links) (fed (node_of own all) bytes o) given
  fed_step own bytes all links None given h f = idles_step own all links given h f.0 f.1
  fed_step own bytes all links (Some old) given h f = put_step own bytes all links old f.0.one given h f.0.is f.0.links_behind f.1

  fed_held : (bytes : List ℕ) (all links : List (Link Stage)) (o : Option (Link Stage)) (given : Effects) → AreHeld abridged all
      → IsFedInto (λ (l : Link Stage). l.number) (IsFed abridged) bytes all links given o → AreHeld abridged links
  fed_held bytes all links None given h f = rw f.0 h
  fed_held bytes all links (Some old) given h f = put_held f.0.one all links f.0.is.1 h f.0.links_behind

  -- the step of bytes that came on the link of a number
  pub comes_step : {Own E : Type 0} (own : Own) (number : ℕ) (bytes : List ℕ) (all links : List (Link Stage)) (r : Result Effects E) → AreHeld abridged all
      → IfOk r (λ out. IsFedInto (λ (l : Link Stage). l.number) (IsFed abridged) bytes all links out (link_of number all))
      → IfOk r (IsStep abridged (node_of own links) (fed (node_of own all) bytes (link_of number all)))
  comes_step own number bytes all links (Ok given) h f = fed_step own bytes all links (link_of number all) given h f
  comes_step own number bytes all links (Err e) h f = tt

  pub comes_held : {E : Type 0} (number : ℕ) (bytes : List ℕ) (all links : List (Link Stage)) (r : Result Effects E) → AreHeld abridged all
      → IfOk r (λ out. IsFedInto (λ (l : Link Stage). l.number) (IsFed abridged) bytes all links out (link_of number all))
      → OnErr r (links ≡ without_link number all) → AreHeld abridged links
  comes_held number bytes all links (Ok given) h f l = fed_held bytes all links (link_of number all) given h f
  comes_held number bytes all links (Err e) h f l = without_held number all links h l

  -- ---- a row

  pub row_step : {Own : Type 0} (old new : Own) (number : ℕ) (turned : Bool) (all links : List (Link Stage)) (row : Made (Link Stage)) (R : Row Own Stage) (out : Effects)
      → as_row new row ≡ row_due abridged R → AreHeld abridged all → IsCarried (λ (l : Link Stage). l.number) number turned row all links out
      → IsStep abridged (node_of new links) (carried_out (node_of old all) number turned R) out
  row_step old new number turned all links row R out e h c = record {
    out = c.effects ∙ row_out abridged new number turned (node_of old all) row R e;
    state = row_state abridged forgets old new number turned all links row R e h.whole c.links_behind;
  }

  pub row_held : {Own : Type 0} (new : Own) (number : ℕ) (turned : Bool) (all links : List (Link Stage)) (row : Made (Link Stage)) (R : Row Own Stage) (out : Effects)
      → as_row new row ≡ row_due abridged R → AreHeld abridged all → IsCarried (λ (l : Link Stage). l.number) number turned row all links out
      → AreHeld abridged links
  row_held {Own} new number turned all links row R out e h c =
      let link : Row Own Stage → Option (Link Stage) = λ r. r.link in
      behind_held number all links row.link (due_whole (λ l. record l { sent = l.sent ++ R.sends }) row.link R.link (ap link e)) h c.links_behind

  -- ---- a link opens

  pub opens_step : {Own E F : Type 0} (own : Own) (number : ℕ) (all links : List (Link Stage)) (R : Row Own Stage) (greeted : Result (Made (Link Stage)) E)
      (r : Result Effects F) → AreHeld abridged all → IfOk greeted (λ row. as_row own row ≡ row_due abridged R)
      → IfOk r (λ out. IsOkAnd greeted (λ row. IsCarried (λ (l : Link Stage). l.number) number false row all links out))
      → IfOk r (IsStep abridged (node_of own links) (carried_out (node_of own all) number false R))
  opens_step own number all links R greeted (Err e) h m c = tt
  opens_step own number all links R (Err e) (Ok out) h m c = absurd c
  opens_step own number all links R (Ok row) (Ok out) h m c = row_step own own number false all links row R out m h c

  pub opens_held : {Own E F : Type 0} (own : Own) (number : ℕ) (all links : List (Link Stage)) (R : Row Own Stage) (greeted : Result (Made (Link Stage)) E)
      (r : Result Effects F) → AreHeld abridged all → IfOk greeted (λ row. as_row own row ≡ row_due abridged R)
      → IfOk r (λ out. IsOkAnd greeted (λ row. IsCarried (λ (l : Link Stage). l.number) number false row all links out))
      → OnErr r (links ≡ without_link number all) → AreHeld abridged links
  opens_held own number all links R greeted (Err e) h m c l = without_held number all links h l
  opens_held own number all links R (Err e) (Ok out) h m c l = absurd c
  opens_held own number all links R (Ok row) (Ok out) h m c l = row_held own number false all links row R out m h c
