-- What a user reads of the form of a line: the form, and an example.
use Rattle.std.specs.Prelude.{ℕ, List, [], codes, Option, Some, None}
use Rattle.cx_lines.specs.declared.lines.Head.{Head}
use Rattle.cx_lines.specs.declared.lines.Head.TheVariants as head
use Rattle.cx_lines.specs.declared.link_steps.LinkForm.{LinkForm}
use Rattle.cx_lines.specs.declared.link_steps.LinkForm.TheVariants as link
use Rattle.cx_lines.specs.declared.node_steps.NodeForm.{NodeForm}
use Rattle.cx_lines.specs.declared.node_steps.NodeForm.TheVariants as node
use Rattle.cx_lines.specs.declared.settings.SettingForm.{SettingForm}
use Rattle.cx_lines.specs.declared.settings.SettingForm.TheVariants as setting
use Rattle.cx_words.specs.declared.choices.CommandForm.{CommandForm}
use Rattle.cx_words.specs.declared.choices.CommandForm.TheVariants as command

abbrev pub setting_form_text : SettingForm → List ℕ
setting_form_text setting.Lifetime =
    codes "; its form is: lifetime SECONDS, as in: lifetime 3600"
setting_form_text setting.AuthLifetime =
    codes "; its form is: auth-lifetime SECONDS, as in: auth-lifetime 43200"
setting_form_text setting.Entity =
    codes "; its form is: entity NAME, and then any number of SERVICE \"CAPS\", as in: entity client.a mon \"allow r\" osd \"allow *\""
setting_form_text setting.Seed =
    codes "; its form is: seed NODE NUMBER, as in: seed client.a 5"
setting_form_text setting.Modes =
    codes "; its form is: modes CLIENT MODES, as in: modes client.a crc,secure"
setting_form_text setting.Leak =
    codes "; its form is: leak CLIENT, as in: leak client.a"

abbrev pub command_form_text : CommandForm → List ℕ
command_form_text command.Fetch =
    codes "; its form is: fetch DAEMON, as in: fetch osd.0"
command_form_text command.Login =
    codes "; its form is: login CLIENT or login CLIENT SERVICES, as in: login client.a osd,mgr"
command_form_text command.Renew =
    codes "; its form is: renew CLIENT SERVICES, as in: renew client.a osd,mgr"
command_form_text command.Connect =
    codes "; its form is: connect CLIENT DAEMON, or that with lossy behind it, as in: connect client.a osd.0"
command_form_text command.Send =
    codes "; its form is: send CLIENT DAEMON ACCESS POOL NAMESPACE OBJECT DATA, as in: send client.a osd.0 write rbd - obj1 6869"

abbrev pub link_form_text : LinkForm → List ℕ
link_form_text link.Carry =
    codes "; its form is: carry LINK SIDE or carry LINK SIDE BYTES, as in: carry 1 c"
link_form_text link.Lose =
    codes "; its form is: lose LINK SIDE, as in: lose 1 c"
link_form_text link.Inject =
    codes "; its form is: inject LINK SIDE DATA, as in: inject 1 c 00ff"
link_form_text link.Again =
    codes "; its form is: again LINK SIDE PIECE LINK, as in: again 1 c 2 3"
link_form_text link.Cut =
    codes "; its form is: cut LINK, as in: cut 1"

abbrev pub node_form_text : NodeForm → List ℕ
node_form_text node.Clock =
    codes "; its form is: clock SECONDS or clock NODE SECONDS, as in: clock 4599.999999999"
node_form_text node.DropSession =
    codes "; its form is: drop DAEMON SESSION, as in: drop osd.0 1"
node_form_text node.Tick =
    codes "; its form is: tick NODE, as in: tick osd.0"
node_form_text node.Restart =
    codes "; its form is: restart NODE, as in: restart mon"
node_form_text node.FailSave =
    codes "; its form is: failsave old or failsave new, as in: failsave old"
node_form_text node.Settle =
    codes "; its form is: settle, alone"

abbrev pub form_text : Option Head → List ℕ
form_text None = []
form_text (Some (head.Setting form)) = setting_form_text form
form_text (Some (head.Submit form)) = command_form_text form
form_text (Some head.Do) =
    codes "; its form is: do, and a fetch, login, renew, connect or send line behind it, as in: do login client.a"
form_text (Some (head.Link form)) = link_form_text form
form_text (Some (head.Node form)) = node_form_text form
