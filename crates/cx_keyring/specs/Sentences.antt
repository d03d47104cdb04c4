-- What a sentence says of each fault of a keyring's line: what is wrong, and what to write instead.
use Rattle.std.specs.Prelude.{ℕ, List, codes}
use Rattle.cx_keyring.specs.declared.faults.KeyringFault.{KeyringFault}
use Rattle.cx_keyring.specs.declared.faults.KeyringFault.TheVariants.{NoSection, BadName, BadKey, BadService, BadCaps, Repeated, NoKey, Unreadable}

abbrev pub fault_text : KeyringFault → List ℕ
fault_text NoSection =
    codes "it stands before the first section; begin with a line such as [client.admin]"
fault_text BadName =
    codes "what stands in the brackets is no entity's name; write one such as client.admin or osd.0"
fault_text BadKey =
    codes "behind key = stands no key; write the 40 characters that ceph-authtool --gen-print-key prints"
fault_text BadService =
    codes "behind caps stands no service; write mon, mds, osd or mgr"
fault_text BadCaps =
    codes "behind caps SERVICE = stands no capability text; write at most 4096 bytes from 0x20 to 0x7e, in quotation marks or plain, with no quotation mark or backslash among them"
fault_text Repeated =
    codes "it stands already; write a section once for each name, and in it one key and one line of caps for each service"
fault_text NoKey =
    codes "the section has no key; write a line key = TEXT below it"
fault_text Unreadable =
    codes "it is no line of a keyring; write [NAME], key = TEXT or caps SERVICE = \"TEXT\", or # before a comment"
