-- Each law by the two lemmas of its kind.
use Rattle.std.proofs.Common.{◌≡◌, ℕ, List, Option, Some, ◌∙◌, ap}
use Rattle.cx_words.proofs.HexWords.{hex_of-is, hex_of-word}
use Rattle.cx_words.proofs.ListWords.{services_of-is, services_of-word}
use Rattle.cx_words.proofs.NameWords.{access_of-is, access_of-word, name_of-is, name_of-text, service_of-is, service_of-word, ticket_service_of-is, ticket_service_of-word}
use Rattle.cx_words.proofs.NumberWords.{number_of-is, number_of-decimal, reading_of-is, reading_of-word}
use Rattle.cx_words.proofs.TextWords.{caps_of-is, caps_of-quoted, part_of-is, part_of-word}
use Rattle.cx_words.specs.Words.{access_of, caps_of, name_of, number_of, part_of, service_of, services_of, ticket_service_of}
use Rattle.cx_words.proofs.laws.word_laws.Goals as goal

-- what is read of the word of a value is read of a word that is that word
of_word : {X : Type 0} (read : List ℕ → Option X) (word spelled : List ℕ) (x : X) → word ≡ spelled → read spelled ≡ Some x → read word ≡ Some x
of_word read word spelled x e r = ap read e ∙ r

pub returns-clause-number : goal.returns-clause-number
returns-clause-number c = λ word n. (λ e. number_of-is word n e, λ p. of_word number_of word _ n p.1 (number_of-decimal n p.0))

pub returns-clause-reading : goal.returns-clause-reading
returns-clause-reading c = λ word n. (λ e. reading_of-is word n e, λ p. reading_of-word word n p)

pub returns-clause-service : goal.returns-clause-service
returns-clause-service c = λ word kind. (λ e. service_of-is word kind e, λ p. of_word service_of word _ kind p.1 (service_of-word kind p.0))

pub returns-clause-ticket_service : goal.returns-clause-ticket_service
returns-clause-ticket_service c = λ word kind. (λ e. ticket_service_of-is word kind e, λ p. of_word ticket_service_of word _ kind p.1 (ticket_service_of-word kind p.0))

pub returns-clause-services : goal.returns-clause-services
returns-clause-services c = λ word kinds. (λ e. services_of-is word kinds e, λ p. of_word services_of word _ kinds p.1 (services_of-word kinds p.0))

pub returns-clause-access : goal.returns-clause-access
returns-clause-access c = λ word access. (λ e. access_of-is word access e, λ p. of_word access_of word _ access p (access_of-word access))

pub returns-clause-name : goal.returns-clause-name
returns-clause-name c = λ word name. (λ e. name_of-is word name e, λ p. of_word name_of word _ name p.1 (name_of-text name p.0))

pub returns-clause-caps : goal.returns-clause-caps
returns-clause-caps c = λ word text. (λ e. caps_of-is word text e, λ p. of_word caps_of word _ text p.1 (caps_of-quoted text p.0))

pub returns-clause-part : goal.returns-clause-part
returns-clause-part c = λ word text. (λ e. part_of-is word text e, λ p. of_word part_of word _ text p.1 (part_of-word text p.0))

pub returns-clause-hex : goal.returns-clause-hex
returns-clause-hex c = λ word bytes. (λ e. hex_of-is word bytes e, λ p. hex_of-word word bytes p)
