use Rattle.cx_aes.specs.Cipher.{word}
use Rattle.cx_aes.proofs.Keys.{next_key-words}
use Rattle.cx_aes.proofs.expansion.next_key.Goals as goal

pub returns : goal.returns
unfolding word
returns c = λ n e.
    next_key-words c.args.k.now c.turned_word-turned.result c.add_word-a.result c.add_word-b.result c.add_word-c.result c.add_word-d.result n
    (c.turned_word-turned.ensures n e) c.add_word-a.ensures c.add_word-b.ensures c.add_word-c.ensures c.add_word-d.ensures
