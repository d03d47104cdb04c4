use Rattle.std.proofs.Common.{rules, string_bytes}
use Rattle.cx_top.proofs.top.run.Goals as goal

pub returns-then-is_err-clause-front : goal.returns-then-is_err-clause-front
returns-then-is_err-clause-front g c = λ is command words. record {
  text = c.in-Ok.made.text;
  is_broken = c.in-Ok.made.is_broken;
  told = string_bytes c.in-Ok.made.told;
  made = search rules;
  wrote = search rules;
}
