-- Commands: their places, and that their values and their words determine them.
use Rattle.std.proofs.Common.{◌≡◌, ℕ, false, true, List, [], ◌∷◌, map, length, Option, Some, None, refl, arith}
use Rattle.std.specs.Prelude.{nat_le}
use Rattle.std.proofs.lemmas.Bool.Decides.{nat_tests}
use Rattle.cx_base.specs.Names.{Name}
use Rattle.cx_base.specs.declared.kinds.EntityType.{EntityType}
use Rattle.cx_base.specs.declared.operations.Operation.{Operation}
use Rattle.cx_words.specs.declared.choices.CommandForm.{CommandForm}
use Rattle.cx_words.specs.declared.choices.CommandForm.TheVariants as form
use Rattle.cx_words.specs.declared.known.Known.{Known}
use Rattle.cx_words.specs.lines.Values.{Item, ClientOf, DaemonOf, ServicesOf, AccessOf, PartOf, DataOf, LossyWord, SpellsItems}
use Rattle.cx_words.proofs.lines.ValueLemmas.{Values, place_of}
use Rattle.cx_lines.specs.declared.commands.LineCommand.{LineCommand}
use Rattle.cx_lines.specs.declared.commands.LineCommand.TheVariants.{Fetch, Login, Renew, Connect, Send}
use Rattle.cx_lines.specs.Found.{SpellsIn}
use Rattle.cx_lines.specs.Commands.{command_form, command_items, command_places, commands}

pub command_placed : (known : Known) (before : List (List ℕ)) (line : LineCommand) (ws : List (List ℕ)) → SpellsItems known before (command_items line) ws → command_places (command_form line) ws ≡ map place_of (command_items line)
command_placed k b (Fetch d) ws p = refl
command_placed k b (Login c []) [] p = absurd p
command_placed k b (Login c []) (w ∷ []) p = refl
command_placed k b (Login c []) (w ∷ v ∷ ws) p = absurd p.1
command_placed k b (Login c (s ∷ ss)) [] p = absurd p
command_placed k b (Login c (s ∷ ss)) (w ∷ []) p = absurd p.1
command_placed k b (Login c (s ∷ ss)) (w ∷ v ∷ []) p = refl
command_placed k b (Login c (s ∷ ss)) (w ∷ v ∷ u ∷ ws) p = absurd p.1.1
command_placed k b (Renew c ss) ws p = refl
command_placed k b (Connect c d false) [] p = absurd p
command_placed k b (Connect c d false) (w ∷ []) p = absurd p.1
command_placed k b (Connect c d false) (w ∷ v ∷ []) p = refl
command_placed k b (Connect c d false) (w ∷ v ∷ u ∷ ws) p = absurd p.1.1
command_placed k b (Connect c d true) [] p = absurd p
command_placed k b (Connect c d true) (w ∷ []) p = absurd p.1
command_placed k b (Connect c d true) (w ∷ v ∷ []) p = absurd p.1.1
command_placed k b (Connect c d true) (w ∷ v ∷ u ∷ []) p = refl
command_placed k b (Connect c d true) (w ∷ v ∷ u ∷ t ∷ ws) p = absurd p.1.1.1
command_placed k b (Send c d o) ws p = refl

-- ---- a command is told by its values

abbrev pub command_from : CommandForm → List Item → Option LineCommand
command_from form.Fetch (DaemonOf d ∷ []) = Some (Fetch d)
command_from form.Login (ClientOf c ∷ []) = Some (Login c [])
command_from form.Login (ClientOf c ∷ ServicesOf ss ∷ []) = Some (Login c ss)
command_from form.Renew (ClientOf c ∷ ServicesOf ss ∷ []) = Some (Renew c ss)
command_from form.Connect (ClientOf c ∷ DaemonOf d ∷ []) = Some (Connect c d false)
command_from form.Connect (ClientOf c ∷ DaemonOf d ∷ LossyWord ∷ []) = Some (Connect c d true)
command_from form.Send (ClientOf c ∷ DaemonOf d ∷ AccessOf a ∷ PartOf p ∷ PartOf n ∷ PartOf o ∷ DataOf bs ∷ []) =
    Some (Send c d (record { access = a; pool = p; namespace = n; object = o; bytes = bs }))
command_from _ _ = None

pub command_back : (line : LineCommand) → command_from (command_form line) (command_items line) ≡ Some line
command_back (Fetch d) = refl
command_back (Login c []) = refl
command_back (Login c (s ∷ ss)) = refl
command_back (Renew c ss) = refl
command_back (Connect c d false) = refl
command_back (Connect c d true) = refl
command_back (Send c d o) = refl

-- ---- values at the places of a form are those of a command

login_for : (known : Known) (before : List (List ℕ)) (c : Name) (ss : List EntityType) (w v : List ℕ) → SpellsItems known before (ClientOf c ∷ ServicesOf ss ∷ []) (w ∷ v ∷ []) → (line : LineCommand) × SpellsIn commands known before form.Login (w ∷ v ∷ []) line
login_for k b c [] w v p = absurd (let x : false ≡ true = p.1.0.0 in cc)
login_for k b c (s ∷ ss) w v p = (Login c (s ∷ ss), (refl, p))

pub command_found : (known : Known) (before : List (List ℕ)) (f : CommandForm) (ws : List (List ℕ)) → Values known before (command_places f ws) ws → (line : LineCommand) × SpellsIn commands known before f ws line
command_found k b form.Fetch [] v = absurd v
command_found k b form.Fetch (w ∷ []) v = (Fetch v.0.0, (refl, (v.0.1, tt)))
command_found k b form.Fetch (w ∷ u ∷ ws) v = absurd v.1
command_found k b form.Login [] v = absurd v
command_found k b form.Login (w ∷ []) v = (Login v.0.0 [], (refl, (v.0.1, tt)))
command_found k b form.Login (w ∷ u ∷ []) v = login_for k b v.0.0 v.1.0.0 w u (v.0.1, (v.1.0.1, tt))
command_found k b form.Login (w ∷ u ∷ t ∷ ws) v =
    let many : nat_le (length (w ∷ u ∷ t ∷ ws)) 1 ≡ false = grind (arith, nat_tests) in
    absurd ((rw many at v).1.1)
command_found k b form.Renew [] v = absurd v
command_found k b form.Renew (w ∷ []) v = absurd v.1
command_found k b form.Renew (w ∷ u ∷ []) v = (Renew v.0.0 v.1.0.0, (refl, (v.0.1, (v.1.0.1, tt))))
command_found k b form.Renew (w ∷ u ∷ t ∷ ws) v = absurd v.1.1
command_found k b form.Connect [] v = absurd v
command_found k b form.Connect (w ∷ []) v = absurd v.1
command_found k b form.Connect (w ∷ u ∷ []) v = (Connect v.0.0 v.1.0.0 false, (refl, (v.0.1, (v.1.0.1, tt))))
command_found k b form.Connect (w ∷ u ∷ t ∷ []) v =
    (Connect v.0.0 v.1.0.0 true, (refl, (v.0.1, (v.1.0.1, (v.1.1.0, tt)))))
command_found k b form.Connect (w ∷ u ∷ t ∷ s ∷ ws) v =
    let many : nat_le (length (w ∷ u ∷ t ∷ s ∷ ws)) 2 ≡ false = grind (arith, nat_tests) in
    absurd ((rw many at v).1.1.1)
command_found k b form.Send ws v = send_in k b ws v
  where
    send_in : (known : Known) (before ws : List (List ℕ)) → Values known before (command_places form.Send ws) ws → (line : LineCommand) × SpellsIn commands known before form.Send ws line
    send_in k b [] v = absurd v
    send_in k b (w ∷ []) v = absurd v.1
    send_in k b (w ∷ u ∷ []) v = absurd v.1.1
    send_in k b (w ∷ u ∷ a ∷ []) v = absurd v.1.1.1
    send_in k b (w ∷ u ∷ a ∷ p ∷ []) v = absurd v.1.1.1.1
    send_in k b (w ∷ u ∷ a ∷ p ∷ n ∷ []) v = absurd v.1.1.1.1.1
    send_in k b (w ∷ u ∷ a ∷ p ∷ n ∷ o ∷ []) v = absurd v.1.1.1.1.1.1
    send_in k b (w ∷ u ∷ a ∷ p ∷ n ∷ o ∷ d ∷ []) v =
        let x = v.1.1 in
        let operation : Operation = record { access = x.0.0; pool = x.1.0.0; namespace = x.1.1.0.0; object = x.1.1.1.0.0; bytes = x.1.1.1.1.0.0 } in
        (Send v.0.0 v.1.0.0 operation, (refl, (v.0.1, (v.1.0.1, (x.0.1, (x.1.0.1, (x.1.1.0.1, (x.1.1.1.0.1, (x.1.1.1.1.0.1, tt)))))))))
    send_in k b (w ∷ u ∷ a ∷ p ∷ n ∷ o ∷ d ∷ c ∷ ws) v = absurd v.1.1.1.1.1.1.1
