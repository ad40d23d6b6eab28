-- Each return is one case of the definition, and its number is the refusal's.
use lib.ListN.{get_or}
use native.Mathlib.Omega.{arith}
use mathlib.Core.Path.{◌≡◌, sym, ap, ◌∙◌}
use mathlib.Core.Bool.{true, false}
use mathlib.Core.List.{List}
use Prim.Native.Nat.{ℕ}
use Rattle.base.specs.Refusals.{result_number}
use Rattle.clcw.specs.Answers.{WordReading, received_of, reading_of, refusal_of}
use Rattle.clcw.specs.Clcw.{is_valid}
use Rattle.clcw.proofs.Word.{channel_is}
use Rattle.clcw.proofs.Outcomes.{a_word, reading_length, reading_invalid, reading_address, reading_word, reading_number_lem}
use Rattle.clcw.proofs.Clcw.read.Goals as goal

-- the value and, of it, the number
both_told : (octets : List ℕ) (channel : ℕ) {reading : WordReading} → reading ≡ reading_of octets channel
    → (reading ≡ reading_of octets channel) × (result_number reading ≡ refusal_of octets channel)
both_told octets channel e = (e, reading_number_lem octets channel _ e)

pub returns-in_default : goal.returns-in_default
returns-in_default c =
    let a = c.args in
    let p = both_told a.octets.now a.channel (sym (reading_length a.octets.now a.channel c.in_default.ensures.1)) in record { value = p.0; number = p.1 }

pub returns-then-not-valid : goal.returns-then-not-valid
returns-then-not-valid c =
    let a = c.args in
    let whole = c.in-Ok.ensures.1 in
    let v : is_valid a.octets.now ≡ false = ap is_valid (sym whole.same) ∙ sym c.valid.ensures ∙ c.if-not-valid.true in
    let p = both_told a.octets.now a.channel (sym (reading_invalid a.octets.now a.channel whole.long v)) in record { value = p.0; number = p.1 }

pub returns-then-octets-channel : goal.returns-then-octets-channel
returns-then-octets-channel c =
    let a = c.args in
    let whole = c.in-Ok.ensures.1 in
    let v : is_valid a.octets.now ≡ true = ap is_valid (sym whole.same) ∙ sym c.valid.ensures ∙ c.if-not-valid.false in
    let e = channel_is a.octets.now whole.long (λ i. (c.type_inv.octets i).fits) in
    let same = ap (λ (octets : List ℕ). get_or octets 1 0) whole.same in
    let p = both_told a.octets.now a.channel (sym (reading_address a.octets.now a.channel whole.long v (λ z. c.if-octets-channel.true (omega arith)))) in record { value = p.0; number = p.1 }

pub returns : goal.returns
returns c =
    let a = c.args in
    let whole = c.in-Ok.ensures.1 in
    let v : is_valid a.octets.now ≡ true = ap is_valid (sym whole.same) ∙ sym c.valid.ensures ∙ c.if-not-valid.false in
    let e = channel_is a.octets.now whole.long (λ i. (c.type_inv.octets i).fits) in
    let same = ap (λ (octets : List ℕ). get_or octets 1 0) whole.same in
    let fields = c.all_fields.ensures ∙ ap received_of whole.same in
    let p = both_told a.octets.now a.channel (ap a_word fields ∙ sym (reading_word a.octets.now a.channel whole.long v (omega arith))) in record { value = p.0; number = p.1 }
