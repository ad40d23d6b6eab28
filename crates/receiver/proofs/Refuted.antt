-- Refuted by name: wrong receivers, each with a witness on which it differs from the definitions.
use mathlib.Core.Path.{◌≡◌, refl, sym, ap, ◌∙◌}
use mathlib.Core.List.{List, [], ◌∷◌}
use Prim.Native.Nat.{ℕ}
use Rattle.base.specs.Fields.{value_of, field_at}
use Rattle.base.specs.Octets.{bits_of, octet_bits}
use Rattle.base.specs.Register.{shift_bit, shift_bits, register}
use Rattle.clcw.specs.declared.Clcw.{Clcw}
use Rattle.fecf.specs.Fecf.{syndrome_of}
use Rattle.frame_header.specs.Header.{valid_header}
use Rattle.frame.specs.Frame.{total_of, data_field, command_held, header_refusal, content_refusal, refusal_of, kind_of}
use Rattle.frame.specs.Answers.{fields_of, reading_of}
use Rattle.frame.specs.declared.Kind.TheVariants.{Ad}
use Rattle.frame.specs.declared.Fields.{Fields}
use Rattle.std.specs.Prelude.{Ok}
use Rattle.farm.specs.declared.Event.TheVariants.{E1, E4}
use Rattle.farm.specs.Window.{ad_event}
use Rattle.farm.proofs.Cells.{differ}
use Rattle.receiver.specs.declared.Receiver.{Receiver}
use Rattle.receiver.specs.declared.Received.{Received}
use Rattle.receiver.specs.Channel as channel
use Rattle.receiver.specs.Receiver.{at_start, arrived, by_reading, receive_of, word_of}

-- an AD frame with N(S) = 0 to spacecraft 0, channel 0
abbrev frame : List ℕ
frame = 0x00 ∷ 0x00 ∷ 0x00 ∷ 0x07 ∷ 0x00 ∷ 0x00 ∷ 0x8B ∷ 0x80 ∷ []

-- a receiver that answers E4 to every AD frame
pub always_e4 : (receiver : Receiver → List ℕ → Received)
    → ((r : Receiver) (octets : List ℕ) (fields : Fields) (number : ℕ) → reading_of octets r.farm.spacecraft r.farm.channel.number ≡ Ok fields → fields.kind ≡ Ad number
    → (receiver r octets).event ≡ E4)
    → ((r : Receiver) (octets : List ℕ) → receiver r octets ≡ receive_of r octets) → ⊥
unfolding receive_of by_reading arrived channel.arrived channel.answered channel.event_of ad_event reading_of fields_of kind_of refusal_of content_refusal header_refusal valid_header command_held data_field total_of field_at value_of octet_bits bits_of syndrome_of register shift_bits shift_bit
always_e4 receiver always agrees =
    let r = at_start 0 0 20 0 1 in
    differ E1 E4 refl (sym (ap (λ (x : Received). x.event) (agrees r frame)) ∙ always r frame (fields_of frame) 0 refl refl)

-- a control word whose count is not the counter
pub made_up_word : (word : Receiver → Clcw) (r : Receiver) → ((word r).counter ≡ r.farm.channel.variables.counter → ⊥) → ((q : Receiver) → word q ≡ word_of q) → ⊥
unfolding word_of
made_up_word word r other agrees = other (ap (λ (w : Clcw). w.counter) (agrees r))
