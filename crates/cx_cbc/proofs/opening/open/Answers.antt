use Rattle.std.proofs.Common.{◌≡◌, ◌%◌, ◌≤◌, length, take, sym, ap, ◌∙◌, arith}
use Rattle.std.proofs.lemmas.List.Elements.{All-from_get_or}
use Rattle.cx_aes.specs.KeyOf.{key_of}
use Rattle.cx_cbc.proofs.Contents.{whole-opens, length-opens, whole-decrypted, decrypted-opens, opens_found, enveloped-one, head-enveloped, behind_head, IsByte}
use Rattle.cx_cbc.proofs.OpeningLaws.{Opens-opened, opened-none}
use Rattle.cx_cbc.proofs.opening.open.Goals as goal

pub returns-then-sealed-gt-LONGEST_ENVELOPE-clause-unopened : goal.returns-then-sealed-gt-LONGEST_ENVELOPE-clause-unopened
returns-then-sealed-gt-LONGEST_ENVELOPE-clause-unopened c = λ _ content opens.
    let most = length-opens (key_of c.args.key.now) c.args.sealed.now content c.args.key.now.expanded.block opens in
    let long = c.if-sealed-gt-LONGEST_ENVELOPE.true in
    omega arith

pub returns-then-sealed-ne0-clause-unopened : goal.returns-then-sealed-ne0-clause-unopened
returns-then-sealed-ne0-clause-unopened c = λ _ content opens.
    let whole = whole-opens (key_of c.args.key.now) c.args.sealed.now content c.args.key.now.expanded.block opens in
    let not = c.if-sealed-ne0.true in
    omega arith

pub content_of-requires : goal.content_of-requires
content_of-requires c =
    ap (λ xs. length xs % 16) (c.as_slice.ensures.value ∙ c.in_ok-plain.ensures)
    ∙ whole-decrypted (key_of c.args.key.now) c.args.sealed.now c.args.key.now.expanded.block
    (All-from_get_or IsByte c.args.sealed.now 0 (λ i lt. omega (arith, c.type_inv.sealed i)))

pub copy_within-requires-clause-in_bounds : goal.copy_within-requires-clause-in_bounds
copy_within-requires-clause-in_bounds c =
    omega (arith, c.as_slice.ensures.len, head-enveloped c.as_slice.result.now c.in-Some.content.now c.in-Some.ensures.found)

pub copy_within-requires-clause-dest_in_bounds : goal.copy_within-requires-clause-dest_in_bounds
copy_within-requires-clause-dest_in_bounds c =
    omega (arith, c.as_slice.ensures.len, head-enveloped c.as_slice.result.now c.in-Some.content.now c.in-Some.ensures.found)

pub returns-in_default-clause-unopened : goal.returns-in_default-clause-unopened
returns-in_default-clause-unopened c = λ _ content opens.
    let none = c.in_default.ensures.none in
    none content (c.as_slice.ensures.value ∙ c.in_ok-plain.ensures ∙ decrypted-opens (key_of c.args.key.now) c.args.sealed.now content c.args.key.now.expanded.block opens)

pub returns-then-length-gt-LONGEST-clause-unopened : goal.returns-then-length-gt-LONGEST-clause-unopened
returns-then-length-gt-LONGEST-clause-unopened c = λ _ content opens.
    let same : c.in-Some.content.now ≡ content = enveloped-one c.in-Some.content.now content
    (sym c.in-Some.ensures.found ∙ c.as_slice.ensures.value ∙ c.in_ok-plain.ensures
    ∙ decrypted-opens (key_of c.args.key.now) c.args.sealed.now content c.args.key.now.expanded.block opens) in
    let len : length c.in-Some.content.now ≡ length content = ap length same in
    let size = opens.size in
    let long = c.if-length-gt-LONGEST.true in
    omega arith

pub returns-clause-opened : goal.returns-clause-opened
returns-clause-opened c =
    let short : length c.in-Some.content.now ≤ 1048576 = c.if-length-gt-LONGEST.false in
    let whole : length c.args.sealed.now % 16 ≡ 0 = omega arith in
    let opens = opens_found (key_of c.args.key.now) c.args.sealed.now c.in-Some.content.now c.args.key.now.expanded.block
    (All-from_get_or IsByte c.args.sealed.now 0 (λ i lt. omega (arith, c.type_inv.sealed i))) whole short
    (sym (c.as_slice.ensures.value ∙ c.in_ok-plain.ensures) ∙ c.in-Some.ensures.found) in
    let given : c.from.result ≡ c.in-Some.content.now =
    c.from.ensures ∙ c.truncate.ensures.items ∙ ap (take (length c.in-Some.content.now)) c.copy_within.ensures.items
    ∙ behind_head c.in_ok-plain.plain.items c.in-Some.content.now (sym c.as_slice.ensures.value ∙ c.in-Some.ensures.found) in
    rw given opens

pub returns-then-sealed-gt-LONGEST_ENVELOPE-clause-none : goal.returns-then-sealed-gt-LONGEST_ENVELOPE-clause-none
returns-then-sealed-gt-LONGEST_ENVELOPE-clause-none c = λ is. opened-none (key_of c.args.key.now) c.args.sealed.now (returns-then-sealed-gt-LONGEST_ENVELOPE-clause-unopened c is)

pub returns-then-sealed-ne0-clause-none : goal.returns-then-sealed-ne0-clause-none
returns-then-sealed-ne0-clause-none c = λ is. opened-none (key_of c.args.key.now) c.args.sealed.now (returns-then-sealed-ne0-clause-unopened c is)

pub returns-in_default-clause-none : goal.returns-in_default-clause-none
returns-in_default-clause-none c = λ is. opened-none (key_of c.args.key.now) c.args.sealed.now (returns-in_default-clause-unopened c is)

pub returns-then-length-gt-LONGEST-clause-none : goal.returns-then-length-gt-LONGEST-clause-none
returns-then-length-gt-LONGEST-clause-none c = λ is. opened-none (key_of c.args.key.now) c.args.sealed.now (returns-then-length-gt-LONGEST-clause-unopened c is)

pub returns-clause-exact : goal.returns-clause-exact
returns-clause-exact c = Opens-opened (key_of c.args.key.now) c.args.sealed.now c.from.result c.args.key.now.expanded.block (returns-clause-opened c)
