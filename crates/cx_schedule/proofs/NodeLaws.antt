-- The lines of the script of a node: what is spelled has no fault, words without a fault spell a line, and words spell one line.
use Rattle.std.proofs.Common.{◌≡◌, ℕ, ◌≤◌, ◌⊎◌, Bool, true, false, cond, List, [], ◌∷◌, map, length, Option, Some, None, refl, sym, subst, ap, ◌∙◌}
use Rattle.std.specs.Prelude.{codes}
use Rattle.std.specs.Option.{option_map}
use Rattle.std.specs.Str.{bytes_eq}
use Rattle.std.proofs.lemmas.Slice.Eq.{bytes_eq-Decides}
use Rattle.cx_words.specs.Cutting.{lines_of, IsShort}
use Rattle.cx_words.specs.declared.choices.CommandForm.{CommandForm}
use Rattle.cx_words.specs.declared.choices.CommandForm.TheVariants as command
use Rattle.cx_words.specs.declared.faults.FaultAt.{FaultAt}
use Rattle.cx_words.specs.declared.known.Known.{Known}
use Rattle.cx_words.specs.declared.places.WordPlace.{WordPlace}
use Rattle.cx_words.specs.lines.Choices.{command_form_of, command_word}
use Rattle.cx_words.specs.lines.Faults.{fault_among}
use Rattle.cx_words.specs.lines.Known.{nothing}
use Rattle.cx_words.specs.lines.Places.{are_good}
use Rattle.cx_words.specs.lines.Values.{Item, NumberOf, SpellsItems}
use Rattle.cx_words.proofs.lines.ChoiceLemmas.{chosen-is, command_form_of-is}
use Rattle.cx_words.proofs.lines.Faultless.{faultless, none_among}
use Rattle.cx_words.proofs.lines.ValueLemmas.{Values, all_good, as_many, items_back, place_of, values_in}
use Rattle.cx_lines.specs.declared.lines.Head.{Head}
use Rattle.cx_lines.specs.declared.lines.Head.TheVariants as head
use Rattle.cx_lines.specs.declared.lines.Line.{Line}
use Rattle.cx_lines.specs.declared.lines.Line.TheVariants as line
use Rattle.cx_lines.specs.declared.node_steps.NodeForm.TheVariants as node
use Rattle.cx_lines.specs.declared.node_steps.NodeStep.TheVariants as step
use Rattle.cx_lines.specs.declared.refusals.LineRefusal.TheVariants.{OutOfMemory}
use Rattle.cx_lines.specs.Commands.{command_form}
use Rattle.cx_lines.specs.Lines.{form_of, head_of, head_word, or_head, Spells}
use Rattle.cx_lines.proofs.Laws.{head_back, seen_clean, seen_spelled, unique}
use Rattle.cx_schedule.specs.declared.node_lines.NodeLine.{NodeLine}
use Rattle.cx_schedule.specs.declared.node_lines.NodeLine.TheVariants.{Submit, DropSession, Gone, Stop}
use Rattle.cx_schedule.specs.declared.node_lines.ScriptForm.{ScriptForm}
use Rattle.cx_schedule.specs.declared.node_lines.ScriptForm.TheVariants as own
use Rattle.cx_schedule.specs.declared.node_names.NodeNames.{NodeNames}
use Rattle.cx_schedule.specs.declared.refusals.ScheduleRefusal.{ScheduleRefusal}
use Rattle.cx_schedule.specs.declared.refusals.ScheduleRefusal.TheVariants as refusal
use Rattle.cx_schedule.specs.Files.{IsRefusalAt}
use Rattle.cx_schedule.specs.NodeFiles.{bad_anywhere, itself, IsFirstOutsideScript, IsScriptCause, IsScriptReason, NodeLines, SpellsAnywhere}
use Rattle.cx_schedule.specs.NodeLines.{bad_in, bad_in_script, bad_own, bad_shared, described_at, is_shared, known_at, script_form_of, script_places, script_word, shared_form_of, shared_line, unknown_first, BeginsShared, SpellsNodeLine, SpellsOwn, SpellsShared, SpellsSharedAs}
use Rattle.cx_schedule.proofs.Grammars.{IsGrammar}
use Rattle.cx_schedule.proofs.Grammars as grammars

-- ---- the first word

script_form_of-word : (f : ScriptForm) → script_form_of (script_word f) ≡ Some f
unfolding script_form_of
script_form_of-word own.Gone = refl
script_form_of-word own.Stop = refl

script_form_of-is : (word : List ℕ) (f : ScriptForm) → script_form_of word ≡ Some f → word ≡ script_word f
unfolding script_form_of
script_form_of-is word f some = chosen-is script_word (own.Gone ∷ own.Stop ∷ []) word f some

-- a word that schedules have begins no line that scripts alone have
command_alone : (f : CommandForm) → script_form_of (command_word f) ≡ None
unfolding script_form_of
command_alone command.Fetch = refl
command_alone command.Login = refl
command_alone command.Renew = refl
command_alone command.Connect = refl
command_alone command.Send = refl

drop_alone : script_form_of (codes "drop") ≡ None
unfolding script_form_of
drop_alone = refl

drop_shared : shared_form_of (codes "drop") ≡ Some (head.Node node.DropSession)
unfolding command_form_of
drop_shared = refl

command_shared : (f : CommandForm) → shared_form_of (command_word f) ≡ Some (head.Submit f)
unfolding command_form_of
command_shared command.Fetch = refl
command_shared command.Login = refl
command_shared command.Renew = refl
command_shared command.Connect = refl
command_shared command.Send = refl

-- whether a form of a schedule's lines is one that scripts have too
abbrev is_shared_form : Head → Bool
is_shared_form (head.Submit form) = true
is_shared_form (head.Node node.DropSession) = true
is_shared_form _ = false

by_drop : (word : List ℕ) (b : Bool) (form : Head) → bytes_eq word (codes "drop") ≡ b → cond b (Some (head.Node node.DropSession)) None ≡ Some form → (word ≡ head_word form) × (is_shared_form form ≡ true)
by_drop word true form is some =
    let e : head.Node node.DropSession ≡ form = cc in
    ((bytes_eq-Decides word (codes "drop")).0 is ∙ ap head_word e, sym (ap is_shared_form e))
by_drop word false form is some = absurd (let e : None ≡ Some form = some in cc)

by_command : (word : List ℕ) (found : Option CommandForm) (form : Head) → command_form_of word ≡ found → or_head (option_map head.Submit found) (cond (bytes_eq word (codes "drop")) (Some (head.Node node.DropSession)) None) ≡ Some form → (word ≡ head_word form) × (is_shared_form form ≡ true)
by_command word None form is some = by_drop word (bytes_eq word (codes "drop")) form refl some
by_command word (Some f) form is some =
    let e : head.Submit f ≡ form = cc in
    (command_form_of-is word f is ∙ ap head_word e, sym (ap is_shared_form e))

-- a word that begins such a line is that of its form
shared_form_of-is : (word : List ℕ) (form : Head) → shared_form_of word ≡ Some form → (word ≡ head_word form) × (is_shared_form form ≡ true)
shared_form_of-is word form some = by_command word (command_form_of word) form refl some

-- a line that is spelled behind a first word of this form has this form
pub same_form : (known : Known) (form : Head) (x : Line) (words : List (List ℕ)) → BeginsShared form words → Spells known x words → form_of x ≡ form
same_form known form x [] begins p = absurd begins
same_form known form x (w ∷ ws) begins p =
    let e : Some (form_of x) ≡ Some form = sym (head_back (form_of x)) ∙ ap head_of (sym p.0 ∙ begins.0) ∙ head_back form in
    cc

line_shared : (x : Line) → is_shared x ≡ is_shared_form (form_of x)
line_shared (line.Setting s) = refl
line_shared (line.Submit c) = refl
line_shared (line.Do c) = refl
line_shared (line.Link s) = refl
line_shared (line.Node (step.Clock r)) = refl
line_shared (line.Node (step.ClockOf n r)) = refl
line_shared (line.Node (step.DropSession d n)) = refl
line_shared (line.Node (step.Tick n)) = refl
line_shared (line.Node (step.Restart n)) = refl
line_shared (line.Node (step.FailSave s)) = refl
line_shared (line.Node step.Settle) = refl

-- so it is one that scripts have too
pub is_one : (known : Known) (form : Head) (x : Line) (words : List (List ℕ)) → BeginsShared form words → Spells known x words → is_shared x ≡ true
is_one known form x [] begins p = absurd begins
is_one known form x (w ∷ ws) begins p =
    line_shared x ∙ ap is_shared_form (same_form known form x (w ∷ ws) begins p) ∙ (shared_form_of-is w form begins.1).1

-- ---- a line of a script by the line of a schedule that it is

shared_back : (x : Line) → is_shared x ≡ true → (l : NodeLine) × (shared_line l ≡ Some x)
shared_back (line.Setting s) is = absurd (let e : false ≡ true = is in cc)
shared_back (line.Submit c) is = (Submit c, refl)
shared_back (line.Do c) is = absurd (let e : false ≡ true = is in cc)
shared_back (line.Link s) is = absurd (let e : false ≡ true = is in cc)
shared_back (line.Node (step.Clock r)) is = absurd (let e : false ≡ true = is in cc)
shared_back (line.Node (step.ClockOf n r)) is = absurd (let e : false ≡ true = is in cc)
shared_back (line.Node (step.DropSession d n)) is = (DropSession d n, refl)
shared_back (line.Node (step.Tick n)) is = absurd (let e : false ≡ true = is in cc)
shared_back (line.Node (step.Restart n)) is = absurd (let e : false ≡ true = is in cc)
shared_back (line.Node (step.FailSave s)) is = absurd (let e : false ≡ true = is in cc)
shared_back (line.Node step.Settle) is = absurd (let e : false ≡ true = is in cc)

pub shared_as : (known : Known) (form : Head) (l : NodeLine) (x : Line) (words : List (List ℕ)) → shared_line l ≡ Some x → form_of x ≡ form → Spells known x words → SpellsSharedAs known form l words
shared_as k form (Submit c) x words is same p =
    let e : x ≡ line.Submit c = cc in
    (ap form_of (sym e) ∙ same, rw e at p)
shared_as k form (DropSession d n) x words is same p =
    let e : x ≡ line.Node (step.DropSession d n) = cc in
    (ap form_of (sym e) ∙ same, rw e at p)
shared_as k form (Gone links) x words is same p = absurd (let e : None ≡ Some x = is in cc)
shared_as k form Stop x words is same p = absurd (let e : None ≡ Some x = is in cc)

spelled_as : (names : NodeNames) (form : Head) (l : NodeLine) (words : List (List ℕ)) → SpellsSharedAs (known_at names form) form l words → SpellsNodeLine (Some names) l words
spelled_as n form (Submit c) words p = subst (λ f. Spells (known_at n f) (line.Submit c) words) (sym p.0) p.1
spelled_as n form (DropSession d s) words p = subst (λ f. Spells (known_at n f) (line.Node (step.DropSession d s)) words) (sym p.0) p.1
spelled_as n form (Gone links) words p = absurd p
spelled_as n form Stop words p = absurd p

-- ---- what is spelled has no fault

own_clean : (form : ScriptForm) (items : List Item) (word : List ℕ) (ws : List (List ℕ)) → script_places form ≡ map place_of items → SpellsItems nothing [] items ws → bad_own form word ws ≡ None
own_clean form items word ws placed p =
    let same : length (script_places form) ≡ length ws = ap length placed ∙ as_many nothing [] items ws p in
    let good : are_good nothing [] (script_places form) ws ≡ true = ap (λ ps. are_good nothing [] ps ws) placed ∙ all_good nothing [] items ws p in
    ap (option_map (described_at (script_places form) (word ∷ ws))) (none_among nothing false false (script_places form) ws same good refl refl)

own_clean_in : (names : Option NodeNames) (form : ScriptForm) (items : List Item) (words : List (List ℕ)) → script_places form ≡ map place_of items → SpellsOwn (script_word form) items words → bad_in_script names words ≡ None
own_clean_in names form items [] placed p = absurd p
own_clean_in names form items (w ∷ ws) placed p =
    ap (bad_in names w ws) (ap script_form_of p.0 ∙ script_form_of-word form) ∙ own_clean form items w ws placed p.1

-- the first word of a line that schedules have too
shared_clean : (names : Option NodeNames) (x : Line) (words : List (List ℕ)) → script_form_of (head_word (form_of x)) ≡ None → shared_form_of (head_word (form_of x)) ≡ Some (form_of x) → SpellsShared names x words → bad_in_script names words ≡ None
shared_clean None x words alone form p = absurd p
shared_clean (Some n) x [] alone form p = absurd p
shared_clean (Some n) x (w ∷ ws) alone form p =
    ap (bad_in (Some n) w ws) (ap script_form_of p.0 ∙ alone)
    ∙ ap (bad_shared (Some n) (w ∷ ws)) (ap shared_form_of p.0 ∙ form)
    ∙ seen_clean (known_at n (form_of x)) x (w ∷ ws) p

pub clean : (names : Option NodeNames) (l : NodeLine) (words : List (List ℕ)) → SpellsNodeLine names l words → bad_in_script names words ≡ None
clean names (Submit c) words p = shared_clean names (line.Submit c) words (command_alone (command_form c)) (command_shared (command_form c)) p
clean names (DropSession d n) words p = shared_clean names (line.Node (step.DropSession d n)) words drop_alone drop_shared p
clean names (Gone links) words p = own_clean_in names own.Gone (NumberOf links ∷ []) words refl p
clean names Stop words p = own_clean_in names own.Stop [] words refl p

-- ---- words spell one line

-- the form of a line that scripts alone have
abbrev own_form : NodeLine → Option ScriptForm
own_form (Submit c) = None
own_form (DropSession d n) = None
own_form (Gone links) = Some own.Gone
own_form Stop = Some own.Stop

shared_told : (names : Option NodeNames) (x : Line) (w : List ℕ) (ws : List (List ℕ)) → script_form_of (head_word (form_of x)) ≡ None → SpellsShared names x (w ∷ ws) → script_form_of w ≡ None
shared_told None x w ws alone p = absurd p
shared_told (Some n) x w ws alone p = ap script_form_of p.0 ∙ alone

told : (names : Option NodeNames) (l : NodeLine) (w : List ℕ) (ws : List (List ℕ)) → SpellsNodeLine names l (w ∷ ws) → script_form_of w ≡ own_form l
told names (Submit c) w ws p = shared_told names (line.Submit c) w ws (command_alone (command_form c)) p
told names (DropSession d n) w ws p = shared_told names (line.Node (step.DropSession d n)) w ws drop_alone p
told names (Gone links) w ws p = ap script_form_of p.0 ∙ script_form_of-word own.Gone
told names Stop w ws p = ap script_form_of p.0 ∙ script_form_of-word own.Stop

shared_once : (names : Option NodeNames) (x y : Line) (words : List (List ℕ)) → SpellsShared names x words → SpellsShared names y words → x ≡ y
shared_once None x y words p q = absurd p
shared_once (Some n) x y words p q = unique (known_at n (form_of x)) (known_at n (form_of y)) x y words p q

same_line : (names : Option NodeNames) (l m : NodeLine) (w : List ℕ) (ws : List (List ℕ)) → own_form l ≡ own_form m → SpellsNodeLine names l (w ∷ ws) → SpellsNodeLine names m (w ∷ ws) → l ≡ m
same_line names (Submit c) (Submit d) w ws e p q = let x : line.Submit c ≡ line.Submit d = shared_once names (line.Submit c) (line.Submit d) (w ∷ ws) p q in cc
same_line names (Submit c) (DropSession d n) w ws e p q =
    absurd (let x : line.Submit c ≡ line.Node (step.DropSession d n) = shared_once names (line.Submit c) (line.Node (step.DropSession d n)) (w ∷ ws) p q in cc)
same_line names (Submit c) (Gone j) w ws e p q = absurd (let x : None ≡ Some own.Gone = e in cc)
same_line names (Submit c) Stop w ws e p q = absurd (let x : None ≡ Some own.Stop = e in cc)
same_line names (DropSession d n) (Submit c) w ws e p q =
    absurd (let x : line.Node (step.DropSession d n) ≡ line.Submit c = shared_once names (line.Node (step.DropSession d n)) (line.Submit c) (w ∷ ws) p q in cc)
same_line names (DropSession d n) (DropSession c m) w ws e p q =
    let x : line.Node (step.DropSession d n) ≡ line.Node (step.DropSession c m) = shared_once names (line.Node (step.DropSession d n)) (line.Node (step.DropSession c m)) (w ∷ ws) p q in cc
same_line names (DropSession d n) (Gone j) w ws e p q = absurd (let x : None ≡ Some own.Gone = e in cc)
same_line names (DropSession d n) Stop w ws e p q = absurd (let x : None ≡ Some own.Stop = e in cc)
same_line names (Gone k) (Submit c) w ws e p q = absurd (let x : Some own.Gone ≡ None = e in cc)
same_line names (Gone k) (DropSession d n) w ws e p q = absurd (let x : Some own.Gone ≡ None = e in cc)
same_line names (Gone k) (Gone j) w ws e p q =
    let x : Some (NumberOf k ∷ []) ≡ Some (NumberOf j ∷ []) = sym (items_back nothing [] (NumberOf k ∷ []) ws p.1) ∙ items_back nothing [] (NumberOf j ∷ []) ws q.1 in cc
same_line names (Gone k) Stop w ws e p q = absurd (let x : Some own.Gone ≡ Some own.Stop = e in cc)
same_line names Stop (Submit c) w ws e p q = absurd (let x : Some own.Stop ≡ None = e in cc)
same_line names Stop (DropSession d n) w ws e p q = absurd (let x : Some own.Stop ≡ None = e in cc)
same_line names Stop (Gone j) w ws e p q = absurd (let x : Some own.Stop ≡ Some own.Gone = e in cc)
same_line names Stop Stop w ws e p q = refl

shared_words : (names : Option NodeNames) (x : Line) → SpellsShared names x [] → ⊥
shared_words None x p = p
shared_words (Some n) x p = p

has_words : (names : Option NodeNames) (l : NodeLine) → SpellsNodeLine names l [] → ⊥
has_words names (Submit c) p = shared_words names (line.Submit c) p
has_words names (DropSession d n) p = shared_words names (line.Node (step.DropSession d n)) p
has_words names (Gone links) p = p
has_words names Stop p = p

pub one_line : (names : Option NodeNames) (l m : NodeLine) (words : List (List ℕ)) → SpellsNodeLine names l words → SpellsNodeLine names m words → l ≡ m
one_line names l m [] p q = absurd (has_words names l p)
one_line names l m (w ∷ ws) p q = same_line names l m w ws (sym (told names l w ws p) ∙ told names m w ws q) p q

-- ---- words without a fault spell a line

sees_none : (places : List WordPlace) (words ws : List (List ℕ)) (found : Option FaultAt) → fault_among nothing false false places ws ≡ found → option_map (described_at places words) found ≡ None → fault_among nothing false false places ws ≡ None
sees_none places words ws None is none = is
sees_none places words ws (Some fault) is none = absurd (let x : Some (described_at places words fault) ≡ None = none in cc)

own_seen : (names : Option NodeNames) (form : ScriptForm) (w : List ℕ) (ws : List (List ℕ)) → w ≡ script_word form → Values nothing [] (script_places form) ws → (l : NodeLine) × SpellsNodeLine names l (w ∷ ws)
own_seen names own.Gone w [] is v = absurd v
own_seen names own.Gone w (u ∷ []) is v = (Gone v.0.0, (is, (v.0.1, tt)))
own_seen names own.Gone w (u ∷ t ∷ ws) is v = absurd v.1
own_seen names own.Stop w [] is v = (Stop, (is, tt))
own_seen names own.Stop w (u ∷ ws) is v = absurd v

own_found : (names : Option NodeNames) (form : ScriptForm) (w : List ℕ) (ws : List (List ℕ)) → script_form_of w ≡ Some form → bad_own form w ws ≡ None → (l : NodeLine) × SpellsNodeLine names l (w ∷ ws)
own_found names form w ws is none =
    let places = script_places form in
    let free = faultless nothing false false places ws (sees_none places (w ∷ ws) ws (fault_among nothing false false places ws) refl none) in
    own_seen names form w ws (script_form_of-is w form is) (values_in nothing [] places ws free.good)

shared_found : (names : Option NodeNames) (w : List ℕ) (ws : List (List ℕ)) (found : Option Head) → shared_form_of w ≡ found → bad_shared names (w ∷ ws) found ≡ None → (l : NodeLine) × SpellsNodeLine names l (w ∷ ws)
shared_found None w ws found is none = absurd (let x : Some (unknown_first (w ∷ ws)) ≡ None = none in cc)
shared_found (Some n) w ws None is none = absurd (let x : Some (unknown_first (w ∷ ws)) ≡ None = none in cc)
shared_found (Some n) w ws (Some form) is none =
    let k = known_at n form in
    let x = seen_spelled k (w ∷ ws) none in
    let begins : BeginsShared form (w ∷ ws) = ((shared_form_of-is w form is).0, is) in
    let l = shared_back x.0 (is_one k form x.0 (w ∷ ws) begins x.1) in
    (l.0, spelled_as n form l.0 (w ∷ ws) (shared_as k form l.0 x.0 (w ∷ ws) l.1 (same_form k form x.0 (w ∷ ws) begins x.1) x.1))

found_in : (names : Option NodeNames) (w : List ℕ) (ws : List (List ℕ)) (form : Option ScriptForm) → script_form_of w ≡ form → bad_in names w ws form ≡ None → (l : NodeLine) × SpellsNodeLine names l (w ∷ ws)
found_in names w ws None is none = shared_found names w ws (shared_form_of w) refl none
found_in names w ws (Some form) is none = own_found names form w ws is none

pub seen : (names : Option NodeNames) (words : List (List ℕ)) → bad_in_script names words ≡ None → (l : NodeLine) × SpellsNodeLine names l words
seen names [] none = absurd (let x : Some (unknown_first []) ≡ None = none in cc)
seen names (w ∷ ws) none = found_in names w ws (script_form_of w) refl none

-- ---- the lines of a script are a grammar

pub scripts : (names : Option NodeNames) → IsGrammar (SpellsAnywhere names) (bad_anywhere names)
scripts names = record {
  clean = λ earlier x words spelled. clean names x words spelled;
  unique = λ earlier x y words spelled other. one_line names x y words spelled other;
  seen = λ earlier words none. seen names words none;
}

-- where the bytes are those of a script, only want of memory is an answer besides it
pub only_memory : (names : Option NodeNames) (bytes : List ℕ) (script : List NodeLine) (got : ScheduleRefusal) → IsShort bytes → NodeLines names bytes script → IsScriptCause names bytes got → got ≡ refusal.OutOfMemory
only_memory names bytes script got short said cause = grammars.only_memory (SpellsAnywhere names) itself (bad_anywhere names) (scripts names) bytes script got short said cause

-- ---- files, where the names are those that were made for them

pub script_once : (m n : Option NodeNames) (bytes : List ℕ) (found s : List NodeLine) → m ≡ n → NodeLines m bytes found → NodeLines n bytes s → found ≡ s
script_once m n bytes found s e p q =
    grammars.said_once (SpellsAnywhere n) itself (bad_anywhere n) (scripts n) 1 [] found s (lines_of bytes) (subst (λ k. NodeLines k bytes found) e p) q

pub script_reason : (m n : Option NodeNames) (bytes : List ℕ) (got why : ScheduleRefusal) → m ≡ n → IsScriptCause m bytes got → IsScriptReason n bytes why → (got ≡ refusal.OutOfMemory) ⊎ (got ≡ why)
script_reason m n bytes got why e p q =
    grammars.one_reason (SpellsAnywhere n) itself (bad_anywhere n) (scripts n) bytes got why (subst (λ k. IsScriptCause k bytes got) e p) q

pub script_refused_at : (m n : Option NodeNames) (bytes : List ℕ) (got : ScheduleRefusal) (number : ℕ) → m ≡ n → IsScriptCause m bytes got → IsShort bytes → IsFirstOutsideScript n (lines_of bytes) number → IsRefusalAt number got
script_refused_at m n bytes got number e p short outside =
    grammars.refused_at (SpellsAnywhere n) itself (bad_anywhere n) (scripts n) bytes got number (subst (λ k. IsScriptCause k bytes got) e p) short outside

pub script_never_both : (m n : Option NodeNames) (bytes : List ℕ) (found : List NodeLine) (why : ScheduleRefusal) → m ≡ n → IsShort bytes → NodeLines m bytes found → IsScriptReason n bytes why → ⊥
script_never_both m n bytes found why e short p reason =
    grammars.never_both (SpellsAnywhere n) itself (bad_anywhere n) (scripts n) bytes found why short (subst (λ k. NodeLines k bytes found) e p) reason

pub script_none_outside : (m n : Option NodeNames) (bytes : List ℕ) (found : List NodeLine) (number : ℕ) → m ≡ n → NodeLines m bytes found → IsFirstOutsideScript n (lines_of bytes) number → ⊥
script_none_outside m n bytes found number e p outside =
    grammars.none_outside (SpellsAnywhere n) itself (bad_anywhere n) (scripts n) 1 [] found (lines_of bytes) number (subst (λ k. NodeLines k bytes found) e p) outside

pub script_few : (n : Option NodeNames) (bytes : List ℕ) (found : List NodeLine) → IsShort bytes → NodeLines n bytes found → length found ≤ 20000
script_few n bytes found short p = grammars.few_in_all (SpellsAnywhere n) itself (bad_anywhere n) (scripts n) bytes found short p

-- ---- what the code finds
