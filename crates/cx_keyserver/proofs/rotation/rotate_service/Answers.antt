-- Generations that can be kept are rotated to such ones.
use Rattle.std.proofs.Common.{◌≡◌, length, rules}
use Rattle.cx_rotate.proofs.Lasting.{stays_lasting}
use Rattle.cx_keyserver.proofs.rotation.rotate_service.Goals as goal

pub returns-clause-kept : goal.returns-clause-kept
returns-clause-kept c =
    let three : length c.rotation_keys-keys.result ≡ 3 = search rules in
    rw c.rotate.ensures.new (stays_lasting c.args.generations.now c.args.now c.args.life c.rotation_keys-keys.result c.requires.kept c.requires.now c.requires.life three)
