-- What a journal has since a daemon restarted last.
use Rattle.std.proofs.Common.{◌≡◌, Bool, true, false, List, [], ◌∷◌, ◌++◌, refl, sym, ap, ◌∙◌, subst}
use Rattle.std.proofs.lemmas.List.{append-nil, append_assoc}
use Rattle.std.proofs.lemmas.List.Elements.{Contains-append_left}
use Rattle.std.specs.Prelude.{if◌then◌else◌}
use Rattle.std.specs.List.{AllByRecursion}
use Rattle.cx_base.specs.Names.{Name}
use Rattle.cx_journal.specs.Nodes.{is_node_of}
use Rattle.cx_journal.specs.declared.entries.Entry.{Entry}
use Rattle.cx_journal.specs.declared.entries.Entry.TheVariants as journal
use Rattle.cx_laws_keys.proofs.keys.Journal.{entered}
use Rattle.cx_laws_keys.proofs.keys.Known.{Within}

-- whether the entry says that the daemon began anew
abbrev pub restarts : Name → Entry → Bool
restarts daemon (journal.Restarted at) = is_node_of daemon at
restarts daemon _ = false

-- the entries behind the last one that says so, where those before were these
abbrev pub since_from : Name → List Entry → List Entry → List Entry
since_from daemon was [] = was
since_from daemon was (e ∷ es) = since_from daemon (if restarts daemon e then [] else was ++ e ∷ []) es

abbrev pub since : Name → List Entry → List Entry
since daemon entries = since_from daemon [] entries

pub since-append : (daemon : Name) (was xs ys : List Entry) → since_from daemon was (xs ++ ys) ≡ since_from daemon (since_from daemon was xs) ys
since-append daemon was [] ys = refl
since-append daemon was (x ∷ xs) ys = since-append daemon (if restarts daemon x then [] else was ++ x ∷ []) xs ys

-- none of them says so
abbrev pub Goes : Name → Entry → Type 0
Goes daemon e = restarts daemon e ≡ false

since-goes : (daemon : Name) (es was : List Entry) → AllByRecursion (Goes daemon) es → since_from daemon was es ≡ was ++ es
since-goes daemon [] was h = sym (append-nil was)
since-goes daemon (e ∷ es) was h =
    ap (λ (t : Bool). since_from daemon (if t then [] else was ++ e ∷ []) es) h.0 ∙ since-goes daemon es (was ++ e ∷ []) h.1 ∙ append_assoc was (e ∷ []) es

pub since-on : (daemon : Name) (J es : List Entry) → AllByRecursion (Goes daemon) es → since daemon (J ++ es) ≡ since daemon J ++ es
since-on daemon J es h = since-append daemon [] J es ∙ since-goes daemon es (since daemon J) h

pub since-entered : (daemon : Name) (es J : List Entry) → AllByRecursion (Goes daemon) es → since daemon (entered J es) ≡ entered (since daemon J) es
since-entered daemon [] J h = refl
since-entered daemon (e ∷ es) J h =
    since-entered daemon es (J ++ e ∷ []) h.1 ∙ ap (λ (l : List Entry). entered l es) (since-on daemon J (e ∷ []) (h.0, tt))

entered-within : (es J : List Entry) → Within J (entered J es)
entered-within [] J = record { has = λ e has. has }
entered-within (x ∷ es) J = record { has = λ e has. (entered-within es (J ++ x ∷ [])).has e (Contains-append_left J (x ∷ []) e has) }

-- what is entered then stays so
pub since-within : (daemon : Name) (es J : List Entry) → AllByRecursion (Goes daemon) es → Within (since daemon J) (since daemon (entered J es))
since-within daemon es J h =
    subst (λ (l : List Entry). Within (since daemon J) l) (sym (since-entered daemon es J h)) (entered-within es (since daemon J))
