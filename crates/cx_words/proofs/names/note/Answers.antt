use Rattle.std.proofs.Common.{◌≡◌, Bool, true, false, cond, ◌||◌, refl, ◌∙◌}
use Rattle.std.specs.Prelude.{string_bytes}
use Rattle.std.specs.BTreeSet.{contains_text}
use Rattle.std.specs.Str.{bytes_eq}
use Rattle.std.proofs.lemmas.Map.Text.{btree_set_updates_text}
use Rattle.cx_words.proofs.names.note.Goals as goal

cond_is_or : (x y : Bool) → cond x true y ≡ (x || y)
cond_is_or true y = refl
cond_is_or false y = refl

pub returns-clause-ok : goal.returns-clause-ok
returns-clause-ok c = λ bytes.
    let text = string_bytes c.args.text in
    btree_set_updates_text text _ _ true c.in_ok-insert.ensures.updates bytes ∙ cond_is_or (bytes_eq text bytes) (contains_text c.args.texts.now bytes)
