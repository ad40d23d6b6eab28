-- Every worked example of document 01 holds of the definitions: one statement over the table, by computing.
use mathlib.Core.Path.{◌≡◌, refl}
use mathlib.Core.List.{map}
use Rattle.base.specs.Fields.{digits_of, value_of, packed, octets_of}
use Rattle.base.specs.Register.{shift_bit, shift_bits, register}
use Rattle.clcw.specs.Clcw.{word_fields, clcw_of}
use Rattle.codeblock.specs.Codeblock.{parity, error_control}
use Rattle.frame.specs.Frame.{body_of}
use Rattle.frame_header.specs.Header.{header_fields, header_of}
use Rattle.randomizer.specs.Randomizer.{next_bit, later, octet}
use Rattle.examples.specs.Worked.{Example, worked}

pub worked_examples : map (λ (e : Example). e.given) worked ≡ map (λ (e : Example). e.said) worked
unfolding error_control parity register shift_bits shift_bit octet later next_bit body_of header_of header_fields clcw_of word_fields packed octets_of digits_of value_of
worked_examples = refl
