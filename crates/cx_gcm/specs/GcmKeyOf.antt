-- The key that a GCM key was made from.
use Rattle.std.specs.Prelude.{ℕ, List}
use Rattle.cx_aes.specs.KeyOf.{key_of}
use Rattle.cx_gcm.specs.declared.gcm_key.GcmKey.{GcmKey}

abbrev pub gcm_key_of : GcmKey → List ℕ
gcm_key_of k = key_of k.schedule
