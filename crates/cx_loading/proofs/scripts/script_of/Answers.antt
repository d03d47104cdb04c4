use Rattle.std.proofs.Common.{rules, ◌≡◌, Err}
use Rattle.std.specs.Option.{option_map}
use Rattle.cx_loading.proofs.Refusing.{read_exact, unread_exact, unread_only}
use Rattle.cx_loading.specs.Loading.{script_refusal}
use Rattle.cx_schedule.specs.NodeLines.{node_names}
use Rattle.cx_loading.proofs.scripts.script_of.Goals as goal

pub returns-in_err-script-clause-only : goal.returns-in_err-script-clause-only
returns-in_err-script-clause-only c = λ served.
    let names = node_names (option_map (λ n. n.now) c.args.name) c.args.peers.now in
    let is : c.from_residual.result ≡ Err (script_refusal c.in_err-script.field-0.0) = search rules in
    rw is (unread_only names c.args.bytes.now c.in_err-script.field-0.0 c.in_err-script.ensures.only served)

pub returns-in_err-script-clause-exact : goal.returns-in_err-script-clause-exact
returns-in_err-script-clause-exact c = λ why reason.
    let names = node_names (option_map (λ n. n.now) c.args.name) c.args.peers.now in
    let is : c.from_residual.result ≡ Err (script_refusal c.in_err-script.field-0.0) = search rules in
    rw is (unread_exact names c.args.bytes.now c.in_err-script.field-0.0 c.in_err-script.ensures.only c.in_err-script.ensures.exact why reason)

pub returns-clause-ok : goal.returns-clause-ok
returns-clause-ok c =
    record {
      lines = c.in_ok-script.ensures.found;
      short = c.in_ok-script.ensures.short;
      one = c.in_ok-script.ensures.one;
      unrefused = c.in_ok-script.ensures.exact;
    }

pub returns-clause-exact : goal.returns-clause-exact
returns-clause-exact c = λ why reason.
    let names = node_names (option_map (λ n. n.now) c.args.name) c.args.peers.now in
    read_exact names c.args.bytes.now c.in_ok-script.ensures.exact why reason
