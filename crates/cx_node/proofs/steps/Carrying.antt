-- A row that was made as it is due is carried out as the rules have it, on links of which no more can be forgotten.
use Rattle.std.proofs.Common.{◌≡◌, ◌∙◌, ℕ, Bool, List, [], ◌++◌, map, Option, Some, None, refl, sym, ap}
use Rattle.std.specs.Option.{option_map}
use Rattle.cx_node.specs.Made.{as_row, out_of}
use Rattle.cx_node.specs.Tables.{behind}
use Rattle.cx_node.specs.declared.rows.Row.{Row as Made}
use Rattle.cx_node.specs.cx_rules.specs.Abridged.{abridged_node}
use Rattle.cx_node.specs.cx_rules.specs.Links.{Link, put_link, without_link}
use Rattle.cx_node.specs.cx_rules.specs.Rows.{Node, Row, carried_out, links_behind, piece, shuts}
use Rattle.cx_steps.specs.declared.effects.Effects.{Effects}
use Rattle.cx_node.specs.steps.Making.{row_due}
use Rattle.cx_node.specs.cx_rules.proofs.Abridging.{Forgets, put_link_map, without_link_map}

shuts_mapped : {X Y : Type 0} (number : ℕ) (f : X → Y) (x : Option X) → shuts number (option_map f x) ≡ shuts number x
shuts_mapped number f None = refl
shuts_mapped number f (Some x) = refl

-- a link with what is sent on it, abridged
abbrev sent_behind : {Stage : Type 0} → (Link Stage → Link Stage) → List ℕ → Link Stage → Link Stage
sent_behind abridged bytes link = abridged (record link { sent = link.sent ++ bytes })

-- ---- a table behind a row

behind_due : {Stage : Type 0} (abridged : Link Stage → Link Stage) → Forgets abridged → (all : List (Link Stage)) (number : ℕ) (bytes : List ℕ) (x : Option (Link Stage))
    → map abridged all ≡ all → behind (λ (l : Link Stage). l.number) number (option_map (sent_behind abridged bytes) x) all ≡ map abridged (links_behind all number bytes x)
behind_due abridged forgets all number bytes None same = sym (sym (without_link_map abridged forgets.number number all) ∙ ap (without_link number) same)
behind_due abridged forgets all number bytes (Some l) same =
    sym (sym (put_link_map abridged forgets.number (record l { sent = l.sent ++ bytes }) all) ∙ ap (put_link (sent_behind abridged bytes l)) same)

-- ---- a row

module _ {Own Stage : Type 0} (abridged : Link Stage → Link Stage) where
  -- the effects of a row
  abbrev effects : ℕ → Bool → List ℕ → Row Own Stage → Effects
  effects number turned shut row = record {
    opens = [];
    save = row.save;
    sends = piece number row.sends;
    shuts = shut;
    entries = row.entries;
    seals = row.seals;
    turned = turned;
    lost = None;
  }

  pub row_out : (new : Own) (number : ℕ) (turned : Bool) (node : Node Own Stage) (row : Made (Link Stage)) (R : Row Own Stage) → as_row new row ≡ row_due abridged R
      → out_of number turned row ≡ (carried_out node number turned R).out
  row_out new number turned node row R e =
      let whole : Row Own Stage → Effects = λ r. effects number turned (shuts number r.link) r in
      let shut : List ℕ → Effects = λ s. effects number turned s R in
      ap whole e ∙ ap shut (shuts_mapped number (sent_behind abridged R.sends) R.link)

  pub row_state : Forgets abridged → (old new : Own) (number : ℕ) (turned : Bool) (all links : List (Link Stage)) (row : Made (Link Stage)) (R : Row Own Stage)
      → as_row new row ≡ row_due abridged R → map abridged all ≡ all → links ≡ behind (λ (l : Link Stage). l.number) number row.link all
      → (let node : Node Own Stage = record { own = new; links = links } in node)
      ≡ abridged_node abridged (carried_out (record { own = old; links = all }) number turned R).state
  row_state forgets old new number turned all links row R e same l =
      let state : Row Own Stage → Node Own Stage = λ r. record { own = r.own; links = behind (λ (k : Link Stage). k.number) number r.link all } in
      let first : List (Link Stage) → Node Own Stage = λ ls. record { own = new; links = ls } in
      let tables : List (Link Stage) → Node Own Stage = λ ls. record { own = R.own; links = ls } in
      ap first l ∙ ap state e ∙ ap tables (behind_due abridged forgets all number R.sends R.link same)
