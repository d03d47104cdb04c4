-- The effects of a step that does nothing.
use Rattle.std.specs.Prelude.{[], None, false}
use Rattle.cx_steps.specs.declared.effects.Effects.{Effects}

abbrev pub nothing : Effects
nothing = record {
  opens = [];
  save = None;
  sends = [];
  shuts = [];
  entries = [];
  seals = [];
  turned = false;
  lost = None;
}
