-- The caps that a line gives are for a service, and a capability text.
use Rattle.std.proofs.Common.{◌≡◌, ℕ, Bool, true, false, cond, List, [], ◌∷◌, Option, Some, None, map, drop, refl, sym, ap, ◌∙◌}
use Rattle.std.specs.Prelude.{◌&&◌}
use Rattle.std.specs.List.{list_all, position_from}
use Rattle.std.specs.Str.{bytes_eq}
use Rattle.std.specs.Prelude.{codes}
use Rattle.cx_base.specs.declared.kinds.EntityType.{EntityType}
use Rattle.cx_base.specs.Texts.{is_caps}
use Rattle.cx_words.specs.Words.{caps_of, is_service, name_of, inside, service_of}
use Rattle.cx_words.proofs.NameWords.{service_of-is}
use Rattle.cx_words.proofs.TextWords.{caps_of-is}
use Rattle.cx_keyring.specs.declared.lines.Line.{Line}
use Rattle.cx_keyring.specs.declared.lines.Line.TheVariants as lines
use Rattle.cx_keyring.specs.Keys.{key_of}
use Rattle.cx_keyring.specs.Lines.{begins_caps, caps_text_of, first_of, is_bracketed, is_equals, is_skipped, line_of, plain_caps, said_by, setting, setting_at, trimmed, without_cr}

-- caps that are read are such as an entry may have
abbrev pub is_line : Line → Bool
is_line (lines.Caps (Some service) (Some text)) = is_service service && is_caps text
is_line _ = true

either : (b : Bool) (x y : Line) → is_line x ≡ true → is_line y ≡ true → is_line (cond b x y) ≡ true
either true x y p q = p
either false x y p q = q

caps_good : (service : Option EntityType) (text : Option (List ℕ)) → ((kind : EntityType) → service ≡ Some kind → is_service kind ≡ true) → ((caps : List ℕ) → text ≡ Some caps → is_caps caps ≡ true)
    → is_line (lines.Caps service text) ≡ true
caps_good (Some kind) (Some caps) p q = rw (p kind refl, q caps refl) refl
caps_good (Some kind) None p q = refl
caps_good None text p q = refl

first_good : (first second : Option (List ℕ)) (caps : List ℕ) → ((text : List ℕ) → first ≡ Some text → is_caps text ≡ true) → ((text : List ℕ) → second ≡ Some text → is_caps text ≡ true)
    → first_of first second ≡ Some caps → is_caps caps ≡ true
first_good (Some text) second caps p q e = p caps e
first_good None second caps p q e = q caps e

plain_good : (text caps : List ℕ) (b : Bool) → is_caps text ≡ b → cond b (Some text) None ≡ Some caps → is_caps caps ≡ true
plain_good text caps true is e = let same : text ≡ caps = cc in ap is_caps (sym same) ∙ is
plain_good text caps false is e = absurd (let p : None ≡ Some caps = e in cc)

text_good : (text caps : List ℕ) → caps_text_of text ≡ Some caps → is_caps caps ≡ true
unfolding caps_text_of
text_good text caps e =
    first_good (caps_of text) (plain_caps text) caps (λ t p. (caps_of-is text t p).0) (λ t p. plain_good text t (is_caps text) refl p) e

setting_good : (left right : List ℕ) → is_line (setting left right) ≡ true
unfolding setting
setting_good left right =
    either (bytes_eq left (codes "key")) (lines.Key (key_of right)) (cond (begins_caps left) (lines.Caps (service_of (trimmed (drop 4 left))) (caps_text_of right)) lines.Other) refl
    (either (begins_caps left) (lines.Caps (service_of (trimmed (drop 4 left))) (caps_text_of right)) lines.Other
    (caps_good (service_of (trimmed (drop 4 left))) (caps_text_of right) (λ kind e. (service_of-is (trimmed (drop 4 left)) kind e).0) (text_good right)) refl)

setting_at_good : (line : List ℕ) (place : Option ℕ) → is_line (setting_at line place) ≡ true
setting_at_good line None = refl
setting_at_good line (Some place) = setting_good _ _

line_good : (line : List ℕ) → is_line (line_of line) ≡ true
unfolding line_of said_by
line_good line =
    let text = trimmed (without_cr line) in
    either (is_skipped text) lines.Skipped (cond (is_bracketed text) (lines.Section (name_of (inside text))) (setting_at text (position_from is_equals 0 text))) refl
    (either (is_bracketed text) (lines.Section (name_of (inside text))) (setting_at text (position_from is_equals 0 text)) refl (setting_at_good text (position_from is_equals 0 text)))

pub all_lines_good : (texts : List (List ℕ)) → list_all is_line (map line_of texts) ≡ true
all_lines_good [] = refl
all_lines_good (text ∷ texts) = rw (line_good text, all_lines_good texts) refl
