-- What a client answers and agrees on is what sealed parts open to.
use Rattle.std.proofs.Common.{ℕ, List, Option, Some, None, Ok, Err, sym, subst}
use Rattle.cx_sealed.specs.cx_aes.specs.Cipher.{IsBlock}
use Rattle.cx_enc.specs.Forms.{Form, IsLawful}
use Rattle.cx_journal.specs.declared.premises.KeyKind.TheVariants.{Session}
use Rattle.cx_sealed.specs.Records.{authorize_challenge_layout, authorize_reply_layout}
use Rattle.cx_steps.specs.declared.seals.SealEntry.{SealEntry}
use Rattle.cx_login.specs.Opening.{IsTried}
use Rattle.cx_login.specs.Unlocking.{unlocked, Made}
use Rattle.cx_login.proofs.Tried.{shut_of}
use Rattle.cx_authorize.specs.Agreement.{AnswersWhatOpens, AgreesOnWhatOpens}
use Rattle.cx_authorize.specs.declared.refusals.PresentRefusal.TheVariants.{Malformed, Unopened, NonceWrong, OutOfMemory}
use Rattle.cx_authorize.proofs.Opened.{tried_of}

-- the value that is made is what the bytes are tried to open to
tried_by : {X : Type 0} (form : Form X) → IsLawful form → (key bytes : List ℕ) (old new : List SealEntry) (value : Option X)
    → IsBlock key → Made (unlocked form Session key bytes) old new value → IsTried form key bytes value
tried_by {X} form lawful key bytes old new value block is =
    subst (λ (v : Option X). IsTried form key bytes v) (sym is.0) (tried_of form lawful Session key bytes block)

pub answers : AnswersWhatOpens
answers presented bytes old new (Ok made) block (sent, spells, asked, opens, is, shown) = record {
  found = (sent, spells, asked, tried_by authorize_challenge_layout.form authorize_challenge_layout.lawful presented.held.session sent.sealed old new (Some asked) block opens, is, shown);
  refused = tt;
}
answers presented bytes old new (Err (Malformed place)) block is = record { found = tt; refused = is.0 }
answers presented bytes old new (Err Unopened) block (sent, spells, opens) = record {
  found = tt;
  refused = (
    sent,
    spells,
    shut_of authorize_challenge_layout.form presented.held.session sent.sealed
        (tried_by authorize_challenge_layout.form authorize_challenge_layout.lawful presented.held.session sent.sealed old new None block opens),
  );
}
answers presented bytes old new (Err (NonceWrong expected got)) block is = absurd is
answers presented bytes old new (Err OutOfMemory) block is = record { found = tt; refused = tt }

pub agrees : AgreesOnWhatOpens
agrees answered bytes old new (Ok agreed) block (reply, (sent, spells, opens), nonce, is) = record {
  found = (
    reply,
    (sent, spells, tried_by authorize_reply_layout.form authorize_reply_layout.lawful answered.session sent.sealed old new (Some reply) block opens),
    nonce,
    is,
  );
  refused = tt;
}
agrees answered bytes old new (Err (Malformed place)) block is = record { found = tt; refused = is.0 }
agrees answered bytes old new (Err Unopened) block (sent, spells, opens) = record {
  found = tt;
  refused = (
    sent,
    spells,
    shut_of authorize_reply_layout.form answered.session sent.sealed
        (tried_by authorize_reply_layout.form authorize_reply_layout.lawful answered.session sent.sealed old new None block opens),
  );
}
agrees answered bytes old new (Err (NonceWrong expected got)) block (reply, (sent, spells, opens), is, same, differs) = record {
  found = tt;
  refused = (
    reply,
    (sent, spells, tried_by authorize_reply_layout.form authorize_reply_layout.lawful answered.session sent.sealed old new (Some reply) block opens),
    is,
    same,
    differs,
  );
}
agrees answered bytes old new (Err OutOfMemory) block is = record { found = tt; refused = tt }
