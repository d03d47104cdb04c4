-- What the premises ask of the earlier entries, by what these left.
use Rattle.std.proofs.Common.{◌≡◌, ℕ, Bool, true, false, List, Option, Some, None, refl, sym, ap, ◌∙◌, take}
use Rattle.std.specs.Prelude.{Contains}
use Rattle.std.specs.Cmp.{IsEquivalence}
use Rattle.std.proofs.lemmas.Bool.Decides.{same_from_decides}
use Rattle.std.proofs.lemmas.Map.Views.{Contains-from_any, list_any-from_Contains}
use Rattle.cx_base.specs.Names.{Name, same_name}
use Rattle.cx_base.proofs.Names.{same_name_is, same_name_self}
use Rattle.cx_words.specs.lines.Named.{is_among}
use Rattle.cx_premises.specs.Facts.{draw_fact, fact_of, key_fact, sealed_fact, signed_fact}
use Rattle.cx_premises.specs.declared.facts.Fact.{Fact}
use Rattle.cx_premises.specs.declared.facts.Fact.TheVariants as fact
use Rattle.cx_steps.specs.Draws.{for_whom, key_of}
use Rattle.cx_steps.specs.Premises.{DrawsLeaked, Seals, Signs}
use Rattle.cx_steps.specs.declared.seals.DrawMark.{DrawMark}
use Rattle.cx_steps.specs.declared.seals.DrawMark.TheVariants as draw
use Rattle.cx_steps.specs.declared.seals.SealEntry.{SealEntry}
use Rattle.cx_steps.specs.declared.seals.SealEntry.TheVariants as entry
use Rattle.cx_steps.specs.declared.seals.SealMark.{SealMark}

-- ---- names

abbrev is_of : Name → Name → Bool
is_of name other = same_name other name

same_of : (a b : Name) → is_of a b ≡ true → a ≡ b
same_of a b e = sym (same_name_is b a e)

of_itself : (a b : Name) → a ≡ b → is_of a b ≡ true
of_itself a b e = ap (λ c. is_of a c) (sym e) ∙ same_name_self a

names_equiv : IsEquivalence is_of
names_equiv = record {
  refl = λ a. of_itself a a refl;
  symm = λ a b. same_from_decides {P = a ≡ b} (is_of a b) (is_of b a) (same_of a b, of_itself a b) ((λ e. sym (same_of b a e)), (λ e. of_itself b a (sym e)));
  congr = λ a b c e. ap (λ n. is_of n c) (same_of a b e);
}

among_is : (names : List Name) (name : Name) → is_among names name ≡ true → Contains names name
among_is names name e = Contains-from_any {eq = is_of} same_of name names e

is_then_among : (names : List Name) (name : Name) → Contains names name → is_among names name ≡ true
is_then_among names name there = list_any-from_Contains {eq = is_of} names_equiv name names there

-- ---- draws

-- the key of a fact that a draw left
abbrev pub key_in : Fact → Option (List ℕ)
key_in (fact.Key key) = Some key
key_in (fact.LeakedKey key) = Some key
key_in _ = None

-- whether a draw leaves such a fact
abbrev pub is_drawn : Fact → Bool
is_drawn (fact.Sealed content key) = false
is_drawn (fact.Signed content key) = false
is_drawn _ = true

key_is_drawn : (leaks : Bool) (key : List ℕ) → is_drawn (key_fact leaks key) ≡ true
key_is_drawn true key = refl
key_is_drawn false key = refl

pub draw_is_drawn : (leaked : List Name) (mark : DrawMark) → is_drawn (draw_fact leaked mark) ≡ true
draw_is_drawn leaked (draw.Principal secret whose) = key_is_drawn (is_among leaked whose) secret
draw_is_drawn leaked (draw.Connection secret whose) = key_is_drawn (is_among leaked whose) (take 16 secret)
draw_is_drawn leaked (draw.Session key whose) = key_is_drawn (is_among leaked whose) key
draw_is_drawn leaked (draw.Rotation key) = refl
draw_is_drawn leaked (draw.Challenge value) = refl
draw_is_drawn leaked (draw.Nonce value) = refl
draw_is_drawn leaked (draw.Cookie value) = refl

key_in_key : (leaks : Bool) (key : List ℕ) → key_in (key_fact leaks key) ≡ Some key
key_in_key true key = refl
key_in_key false key = refl

pub key_in_draw : (leaked : List Name) (mark : DrawMark) → key_in (draw_fact leaked mark) ≡ key_of mark
key_in_draw leaked (draw.Principal secret whose) = key_in_key (is_among leaked whose) secret
key_in_draw leaked (draw.Connection secret whose) = key_in_key (is_among leaked whose) (take 16 secret)
key_in_draw leaked (draw.Session key whose) = key_in_key (is_among leaked whose) key
key_in_draw leaked (draw.Rotation key) = refl
key_in_draw leaked (draw.Challenge value) = refl
key_in_draw leaked (draw.Nonce value) = refl
key_in_draw leaked (draw.Cookie value) = refl

-- ---- what was sealed or signed

pub undrawn : (leaked : List Name) (mark : DrawMark) (left : Fact) → is_drawn left ≡ false → draw_fact leaked mark ≡ left → ⊥
undrawn leaked mark left not e =
    let yes : is_drawn left ≡ true = ap is_drawn (sym e) ∙ draw_is_drawn leaked mark in
    let both : true ≡ false = sym yes ∙ not in
    cc

pub left_seals : (leaked : List Name) (mark : SealMark) (e : SealEntry) → fact_of leaked e ≡ Some (sealed_fact mark) → Seals mark e
left_seals leaked mark (entry.Sealed sealed) e = record { key = cc; content = cc }
left_seals leaked mark (entry.Drawn other) e = undrawn leaked other (sealed_fact mark) refl cc
left_seals leaked mark _ e = cc

pub seals_left : (leaked : List Name) (mark : SealMark) (e : SealEntry) → Seals mark e → fact_of leaked e ≡ Some (sealed_fact mark)
seals_left leaked mark (entry.Sealed sealed) same = ap (λ key. Some (fact.Sealed sealed.content key)) same.key ∙ ap (λ content. Some (fact.Sealed content mark.key)) same.content
seals_left leaked mark _ none = absurd none

pub left_signs : (leaked : List Name) (mark : SealMark) (e : SealEntry) → fact_of leaked e ≡ Some (signed_fact mark) → Signs mark e
left_signs leaked mark (entry.Signed signed) e = record { key = cc; content = cc }
left_signs leaked mark (entry.Drawn other) e = undrawn leaked other (signed_fact mark) refl cc
left_signs leaked mark _ e = cc

pub signs_left : (leaked : List Name) (mark : SealMark) (e : SealEntry) → Signs mark e → fact_of leaked e ≡ Some (signed_fact mark)
signs_left leaked mark (entry.Signed signed) same = ap (λ key. Some (fact.Signed signed.content key)) same.key ∙ ap (λ content. Some (fact.Signed content mark.key)) same.content
signs_left leaked mark _ none = absurd none

-- ---- leaked keys

leaked_key : (leaks : Bool) (key other : List ℕ) → key_fact leaks key ≡ fact.LeakedKey other → (leaks ≡ true) × (key ≡ other)
leaked_key true key other e = (refl, cc)
leaked_key false key other e = cc

key_leaked : (leaks : Bool) (key other : List ℕ) → leaks ≡ true → key ≡ other → key_fact leaks key ≡ fact.LeakedKey other
key_leaked true key other e same = ap fact.LeakedKey same
key_leaked false key other e same = cc

-- a draw for an entity that left a leaked key drew it for a leaked one
drawn_for : (leaked : List Name) (key other : List ℕ) (whose : Name) → key_fact (is_among leaked whose) other ≡ fact.LeakedKey key → (other ≡ key) × Contains leaked whose
drawn_for leaked key other whose e =
    let parts = leaked_key (is_among leaked whose) other key e in
    (parts.1, among_is leaked whose parts.0)

left_leaks_draw : (leaked : List Name) (key : List ℕ) (mark : DrawMark) → draw_fact leaked mark ≡ fact.LeakedKey key → (key_of mark ≡ Some key) × (whose : Name) × (for_whom mark ≡ Some whose) × Contains leaked whose
left_leaks_draw leaked key (draw.Principal secret whose) e = let parts = drawn_for leaked key secret whose e in (ap Some parts.0, whose, refl, parts.1)
left_leaks_draw leaked key (draw.Connection secret whose) e = let parts = drawn_for leaked key (take 16 secret) whose e in (ap Some parts.0, whose, refl, parts.1)
left_leaks_draw leaked key (draw.Session other whose) e = let parts = drawn_for leaked key other whose e in (ap Some parts.0, whose, refl, parts.1)
left_leaks_draw leaked key _ e = cc

pub left_leaks : (leaked : List Name) (key : List ℕ) (e : SealEntry) → fact_of leaked e ≡ Some (fact.LeakedKey key) → DrawsLeaked leaked key e
left_leaks leaked key (entry.Drawn mark) e = left_leaks_draw leaked key mark cc
left_leaks leaked key _ e = cc

for_leaked : (leaked : List Name) (key other : List ℕ) (whose : Name) → Some other ≡ Some key → (n : Name) → Some whose ≡ Some n → Contains leaked n → key_fact (is_among leaked whose) other ≡ fact.LeakedKey key
for_leaked leaked key other whose same n is there =
    let named : whose ≡ n = cc in
    let one : other ≡ key = cc in
    key_leaked (is_among leaked whose) other key (ap (is_among leaked) named ∙ is_then_among leaked n there) one

leaks_left_draw : (leaked : List Name) (key : List ℕ) (mark : DrawMark) → key_of mark ≡ Some key → (n : Name) → for_whom mark ≡ Some n → Contains leaked n → draw_fact leaked mark ≡ fact.LeakedKey key
leaks_left_draw leaked key (draw.Principal secret whose) same n is there = for_leaked leaked key secret whose same n is there
leaks_left_draw leaked key (draw.Connection secret whose) same n is there = for_leaked leaked key (take 16 secret) whose same n is there
leaks_left_draw leaked key (draw.Session other whose) same n is there = for_leaked leaked key other whose same n is there
leaks_left_draw leaked key _ same n is there = cc

pub leaks_left : (leaked : List Name) (key : List ℕ) (e : SealEntry) → DrawsLeaked leaked key e → fact_of leaked e ≡ Some (fact.LeakedKey key)
leaks_left leaked key (entry.Drawn mark) draws = ap Some (leaks_left_draw leaked key mark draws.0 draws.1 draws.2 draws.3)
leaks_left leaked key _ none = absurd none
