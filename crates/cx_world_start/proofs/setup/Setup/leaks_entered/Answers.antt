use Rattle.std.proofs.Common.{◌≡◌, List, [], ◌∷◌, refl, sym, ap, ◌∙◌}
use Rattle.std.specs.Prelude.{map}
use Rattle.cx_journal.specs.declared.entries.Entry.{Entry}
use Rattle.cx_journal.specs.declared.entries.Entry.TheVariants as entry
use Rattle.cx_run.specs.Happenings.{Entered}
use Rattle.cx_run.specs.Opening.{Leak, Setup}
use Rattle.cx_world_start.proofs.setup.Setup.leaks_entered.Goals as goal

-- what is entered of the leaks
entries : (leaks : List Leak) → map (λ (e : Entered). e.entry) (map (λ (leak : Leak). record { line = leak.line; reading = 0; entry = entry.Leaked leak.client }) leaks) ≡ map (λ (leak : Leak). entry.Leaked leak.client) leaks
entries [] = refl
entries (leak ∷ leaks) = ap (λ (es : List Entry). entry.Leaked leak.client ∷ es) (entries leaks)

pub loop-leak-init : goal.loop-leak-init
loop-leak-init c =
    let same : c.all-leak-items.result.now ≡ c.args.self.now.leaks = c.all-leak-items.ensures ∙ ap (λ (s : Setup). s.leaks) c.self.view_is in
    rw (c.new-journal.ensures, same) (sym (entries c.args.self.now.leaks))
