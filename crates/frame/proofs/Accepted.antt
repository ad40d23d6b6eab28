-- What a frame that is not refused is: its lengths within their limits, its fields, and its kind.
use mathlib.Core.Path.{◌≡◌, refl, sym, ap, ◌∙◌}
use mathlib.Core.Bool.{Bool, true, false}
use mathlib.Core.List.{List, []}
use Prim.Native.Nat.{ℕ, ◌+◌, ◌-◌, ◌/◌, ◌%◌, ◌<◌, ◌≤◌}
use native.Mathlib.Omega.{arith}
use borrow.Author.Tests.{leb-true, eqb-true, eqb-false, eq-eqb, ne_eqb}
use lib.Dec.{leb, eqb}
use lib.ListN.{length, take, drop, get_or}
use lib.Seq.{get_or-take, get_or-drop}
use Rattle.base.specs.Choice.{pick}
use Rattle.base.specs.Fields.{field_at}
use Rattle.base.specs.Octets.{same}
use Rattle.base.proofs.Lists.{same_length_not, take_next}
use Rattle.base.proofs.Tests.{apart, both_true, must_on}
use Rattle.fecf.specs.Fecf.{syndrome_of}
use Rattle.frame_header.specs.Header.{control_command_flag, spacecraft_identifier, virtual_channel_identifier, valid_header}
use Rattle.frame_header.proofs.Octets.{o, bypass_is, control_is, number_is}
use Rattle.frame_header.proofs.Laws.{Valid, valid_told}
use Rattle.frame.specs.Frame.{unlock_command, total_of, data_field, is_command, command_held, header_refusal, content_refusal, refusal_of, kind_of}
use Rattle.frame.specs.declared.Kind.TheVariants.{Ad, Bd, Unlock, SetVr}
use Rattle.std.specs.Prelude.{Ok, Err}
use Rattle.base.specs.Refusals.{refusal_number, frame_refusal}
use Rattle.frame.specs.Answers.{fields_of, reading_of, part_of}
use Rattle.frame.proofs.Named.{reading_told}
use Rattle.frame.proofs.Octets.{length_data, command_one, command_other}

pub record Accepted (s : List ℕ) (spacecraft channel : ℕ) : Type 0 where
  pub lent : 8 ≤ length s
  pub low : 8 ≤ total_of s
  pub whole : total_of s ≤ length s
  pub fill : length s ≤ total_of s + 6
  pub syndrome : syndrome_of (take (total_of s) s) ≡ 0
  pub header : Valid s
  pub our_spacecraft : field_at spacecraft_identifier s ≡ spacecraft
  pub our_channel : field_at virtual_channel_identifier s ≡ channel
  pub held : command_held s (total_of s) ≡ true

four : ◌≡◌ {A = ℕ} 4 0 → ⊥
four e = omega arith

pub accepted : (s : List ℕ) (spacecraft channel : ℕ) → refusal_of s spacecraft channel ≡ 0 → Accepted s spacecraft channel
unfolding refusal_of content_refusal header_refusal
accepted s spacecraft channel e =
    let a = must_on (leb 8 (length s)) 4 _ four e in
    let b = must_on (leb 8 (total_of s)) 4 _ four a.1 in
    let d = must_on (leb (total_of s) (length s)) 4 _ four b.1 in
    let f = must_on (leb (length s) (total_of s + 6)) 5 _ (λ z. omega arith) d.1 in
    let g = must_on (eqb (syndrome_of (take (total_of s) s)) 0) 8 _ (λ z. omega arith) f.1 in
    let h = must_on (valid_header s) 6 _ (λ z. omega arith) g.1 in
    let i = must_on (eqb (field_at spacecraft_identifier s) spacecraft) 7 _ (λ z. omega arith) h.1 in
    let j = must_on (eqb (field_at virtual_channel_identifier s) channel) 7 _ (λ z. omega arith) i.1 in
    let k = must_on (command_held s (total_of s)) 9 0 (λ z. omega arith) j.1 in record {
      lent = leb-true 8 (length s) a.0;
      low = leb-true 8 (total_of s) b.0;
      whole = leb-true (total_of s) (length s) d.0;
      fill = leb-true (length s) (total_of s + 6) f.0;
      syndrome = eqb-true (syndrome_of (take (total_of s) s)) 0 g.0;
      header = valid_told s h.0;
      our_spacecraft = eqb-true (field_at spacecraft_identifier s) spacecraft i.0;
      our_channel = eqb-true (field_at virtual_channel_identifier s) channel j.0;
      held = k.0;
    }

-- an octet of the data field
pub data_at : (s : List ℕ) (n i : ℕ) → i < n - 7 → get_or (data_field s n) i 0 ≡ o s (5 + i)
unfolding data_field
data_at s n i h = get_or-take (n - 7) (drop 5 s) i 0 h ∙ get_or-drop 5 s i 0

-- the kind, by the octets
module _ (s : List ℕ) (n : ℕ) (octets : (i : ℕ) → get_or s i 0 < 256) (low : 8 ≤ n) (whole : n ≤ length s) (total : n ≡ total_of s) (held : command_held s n ≡ true) where
  control_one : o s 0 / 16 % 2 ≡ 1 → eqb (field_at control_command_flag s) 1 ≡ true
  control_one e = ap (λ (x : ℕ). eqb x 1) (control_is s octets (omega arith) ∙ e)

  control_zero : (o s 0 / 16 % 2 ≡ 1 → ⊥) → eqb (field_at control_command_flag s) 1 ≡ false
  control_zero d = ap (λ (x : ℕ). eqb x 1) (control_is s octets (omega arith)) ∙ ne_eqb (o s 0 / 16 % 2) 1 d

  command : o s 0 / 16 % 2 ≡ 1 → is_command (data_field s n) ≡ true
  unfolding command_held
  command e = sym (ap (λ (b : Bool). pick b (is_command (data_field s n)) true) (control_one e)) ∙ held

  pub kind_unlock : o s 0 / 16 % 2 ≡ 1 → n ≡ 8 → kind_of s ≡ Unlock
  unfolding kind_of data_field
  kind_unlock e z =
      let t : total_of s ≡ 8 = sym total ∙ z in
      let c : eqb (o s 5) 0 ≡ true = sym (command_one s (omega arith)) ∙ ap (λ (j : ℕ). is_command (data_field s j)) (sym z) ∙ command e in
      let d : same (data_field s (total_of s)) unlock_command ≡ true =
      ap (λ (j : ℕ). same (data_field s j) unlock_command) t ∙ ap (λ (l : List ℕ). same l unlock_command) (take_next s 0 5 (omega arith)) ∙ both_true (eqb (o s 5) 0) ∙ c in
      rw (control_one e, d)

  pub kind_set : o s 0 / 16 % 2 ≡ 1 → (n ≡ 8 → ⊥) → (n ≡ 10) × (kind_of s ≡ SetVr (o s 7))
  unfolding kind_of
  kind_set e z = go (eqb n 10) refl
    where
      go : (b : Bool) → eqb n 10 ≡ b → (n ≡ 10) × (kind_of s ≡ SetVr (o s 7))
      go false x = absurd (apart (sym (command_other s n low whole z (eqb-false n 10 x)) ∙ command e))
      go true x =
          let w : n ≡ 10 = eqb-true n 10 x in
          let d : same (data_field s (total_of s)) unlock_command ≡ false =
          same_length_not (data_field s (total_of s)) unlock_command (λ l. omega (arith, length_data s (total_of s) (omega arith) (omega arith))) in
          let v : get_or (data_field s (total_of s)) 2 0 ≡ o s 7 = data_at s (total_of s) 2 (omega arith) in
          (w, rw (control_one e, d, v))

  pub kind_bd : (o s 0 / 16 % 2 ≡ 1 → ⊥) → o s 0 / 32 % 2 ≡ 1 → kind_of s ≡ Bd
  unfolding kind_of
  kind_bd d e = rw (control_zero d, ap (λ (x : ℕ). eqb x 1) (bypass_is s octets (omega arith) ∙ e))

  pub kind_ad : (o s 0 / 16 % 2 ≡ 1 → ⊥) → (o s 0 / 32 % 2 ≡ 1 → ⊥) → kind_of s ≡ Ad (o s 4)
  unfolding kind_of
  kind_ad d e =
      rw (control_zero d, ap (λ (x : ℕ). eqb x 1) (bypass_is s octets (omega arith)) ∙ ne_eqb (o s 0 / 32 % 2) 1 e, number_is s octets (omega arith))

-- what reading answers: a refusal has its number
pub reading_refused : (s : List ℕ) (spacecraft channel : ℕ) → (refusal_of s spacecraft channel ≡ 0 → ⊥)
    → (reading_of s spacecraft channel ≡ Err (frame_refusal (refusal_of s spacecraft channel)))
    × (refusal_number (frame_refusal (refusal_of s spacecraft channel)) ≡ refusal_of s spacecraft channel)
unfolding reading_of
reading_refused s spacecraft channel d = (
  rw (ne_eqb (refusal_of s spacecraft channel) 0 d),
  rw (ne_eqb (refusal_of s spacecraft channel) 0 d) at (reading_told s spacecraft channel),
)

pub reading_frame : (s : List ℕ) (spacecraft channel : ℕ) → refusal_of s spacecraft channel ≡ 0
    → reading_of s spacecraft channel
    ≡ Ok (record { kind = kind_of s; spacecraft = spacecraft; channel = channel; total = total_of s; field = total_of s - 7 })
unfolding reading_of fields_of
reading_frame s spacecraft channel e =
    let y = accepted s spacecraft channel e in
    rw (eq-eqb (refusal_of s spacecraft channel) 0 e, y.our_spacecraft, y.our_channel)

-- and its data field
pub part_refused : (s : List ℕ) (spacecraft channel : ℕ) → (refusal_of s spacecraft channel ≡ 0 → ⊥) → part_of s spacecraft channel ≡ []
unfolding part_of
part_refused s spacecraft channel d = rw (ne_eqb (refusal_of s spacecraft channel) 0 d)

pub part_frame : (s : List ℕ) (spacecraft channel : ℕ) → refusal_of s spacecraft channel ≡ 0 → part_of s spacecraft channel ≡ data_field s (total_of s)
unfolding part_of
part_frame s spacecraft channel e = rw (eq-eqb (refusal_of s spacecraft channel) 0 e)
