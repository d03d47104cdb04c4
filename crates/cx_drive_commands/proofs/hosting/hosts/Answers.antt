use Rattle.std.proofs.Common.{rules}
use Rattle.cx_drive_commands.proofs.hosting.hosts.Goals as goal

pub returns : goal.returns
returns g c =
    let ran = c.drive.ensures in
    let keeper = ran.acts.0 in
    let links = ran.acts.1 in
    let clock = ran.acts.2 in
    let dice = ran.acts.3 in
    record {
      trace = ran.trace;
      course = ran.course;
      ending = ran.ending;
      ends = ran.ends;
      acts = (
        let told = ran.acts.4 in search rules,
        let told = ran.acts.5 in search rules,
        let told = ran.acts.6 in search rules,
        let told = ran.acts.7 in search rules,
        let told = ran.acts.8 in search rules,
      );
      node = ran.node;
      more = ran.more;
      short = ran.short;
    }
