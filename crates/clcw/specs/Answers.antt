-- Document 01's number and values for each case of the answers.
use Rattle.std.specs.Prelude.{ℕ, List, Option, Some, None, Result, Ok, Err, eqb, length}
use Rattle.base.specs.Choice.{must}
use Rattle.base.specs.Fields.{field_at}
use Rattle.base.specs.declared.Refusal.{Refusal}
use Rattle.base.specs.declared.Refusal.TheVariants.{Address, Length}
use Rattle.clcw.specs.Clcw.{status_field, no_rf_available, no_bit_lock, virtual_channel, is_valid, word_of}
use Rattle.clcw.specs.declared.ReceivedWord.{ReceivedWord}

-- what reading answers in code: a word; none where it is invalid; or a refusal
abbrev pub WordReading : Type 0
WordReading = Result (Option ReceivedWord) Refusal

-- all fields, status and the two RF flags too, read and not judged
unfoldable pub received_of : List ℕ → ReceivedWord
received_of octets = record {
  word = word_of octets;
  status = field_at status_field octets;
  no_rf = eqb (field_at no_rf_available octets) 1;
  no_bit_lock = eqb (field_at no_bit_lock octets) 1;
}

-- what reading answers to a channel: 10 where not four octets; an invalid CLCW, which is no refusal; 7; the word
unfoldable pub reading_of : List ℕ → ℕ → WordReading
reading_of octets channel =
    must (eqb (length octets) 4) (Err Length)
    (must (is_valid octets) (Ok None)
    (must (eqb (field_at virtual_channel octets) channel) (Err Address)
    (Ok (Some (received_of octets)))))

-- document 01's refusal of octets as a word of a channel: "a CLCW not of four octets" is 10; an invalid CLCW "is no refusal"; "otherwise
-- another channel's word is refusal 7"
unfoldable pub refusal_of : List ℕ → ℕ → ℕ
refusal_of octets channel =
    must (eqb (length octets) 4) 10
    (must (is_valid octets) 0
    (must (eqb (field_at virtual_channel octets) channel) 7 0))
