-- The lines of a section.
use Rattle.std.proofs.Common.{◌≡◌, ℕ, ◌+◌, true, false, List, [], ◌∷◌, ◌++◌, take, drop, Some, None, refl, sym, ap, ◌∙◌}
use Rattle.std.specs.List.{list_any, position_from}
use Rattle.std.proofs.lemmas.Bool.{or_parts}
use Rattle.cx_words.proofs.FirstPlace.{cut, none_passes}
use Rattle.cx_keyring.specs.declared.lines.Line.{Line}
use Rattle.cx_keyring.specs.Faults.{is_section, section_lines}

front_alone : (front : List Line) (line : Line) (rest : List Line) → list_any is_section front ≡ false → is_section line ≡ true → section_lines (front ++ line ∷ rest) ≡ front
front_alone [] line rest none begins = rw begins refl
front_alone (x ∷ front) line rest none begins =
    let parts = or_parts (is_section x) (list_any is_section front) none in
    rw (parts.0, front_alone front line rest parts.1 begins) refl

all_alone : (all : List Line) → list_any is_section all ≡ false → section_lines all ≡ all
all_alone [] none = refl
all_alone (x ∷ all) none =
    let parts = or_parts (is_section x) (list_any is_section all) none in
    rw (parts.0, all_alone all parts.1) refl

-- up to the first section
pub section_cut : (all : List Line) (place : ℕ) → position_from is_section 0 all ≡ Some place → take place all ≡ section_lines all
section_cut all place found =
    let c = cut is_section all place found in
    sym (ap section_lines c.whole ∙ front_alone (take place all) c.item (drop (place + 1) all) c.none c.passes)

-- no section follows
pub section_whole : (all : List Line) → position_from is_section 0 all ≡ None → all ≡ section_lines all
section_whole all found = sym (all_alone all (none_passes is_section all 0 found))
